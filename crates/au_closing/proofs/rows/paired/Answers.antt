use Rattle.std.proofs.Common.{map}
use Rattle.au_types.specs.Views.{argument_all}
use Rattle.au_type_texts.specs.Views.{closed_meaning}
use Rattle.au_instances.specs.ClosedInstances.{types_in}
use Rattle.au_type_texts.specs.GivenViews.{given_said}
use Rattle.au_closing.specs.Instances as spec
use Rattle.au_closing.proofs.GivenLemmas.{pairs_full, pairs_next, pairs_pass}
use Rattle.au_closing.proofs.rows.paired.Goals as goal

pub loop-one-preserved-in_default : goal.loop-one-preserved-in_default
loop-one-preserved-in_default c =
    pairs_pass c.args.args.now c.loop-one.one-index c.one-item.result c.loop-one-test.true c.one-item.is
    (given_said c.loop-one.made.items)
    (spec.paired (types_in (argument_all c.args.args.now)) (map closed_meaning c.args.list.now))
    c.args.list.now c.loop-one.at c.loop-one.invariant c.in_default.field-0 c.in_default.is

pub returns-then-at-list : goal.returns-then-at-list
returns-then-at-list c =
    pairs_full c.args.args.now c.loop-one.one-index (given_said c.loop-one.made.items)
    (spec.paired (types_in (argument_all c.args.args.now)) (map closed_meaning c.args.list.now))
    c.args.list.now c.loop-one.at c.loop-one.invariant c.if-at-list.true

pub loop-one-preserved : goal.loop-one-preserved
loop-one-preserved c =
    pairs_next c.args.args.now c.loop-one.one-index c.one-item.result c.loop-one-test.true c.one-item.is
    (given_said c.loop-one.made.items)
    (spec.paired (types_in (argument_all c.args.args.now)) (map closed_meaning c.args.list.now))
    c.args.list.now c.loop-one.at c.loop-one.invariant c.in-Of.of c.index-list-at.result
    (given_said c.push_pair.new.list.items) c.in-Of.is c.if-at-list.false c.index-list-at.is
    c.in_ok-push_pair.ensures
