use Rattle.std.proofs.Common.{◌∷◌, ◌+◌, drop, ap, sym, ◌∙◌}
use Rattle.std.specs.Prelude.{slice_get}
use Rattle.au_types.specs.Views.{argument, argument_all, meaning}
use Rattle.au_types.proofs.TypeLemmas.{region_argument_means, type_argument_means}
use Rattle.au_instances.specs.ClosedInstances.{types_in}
use Rattle.au_instances.proofs.WalkLemmas.{later_nth, region_left, type_left}
use Rattle.au_instances.proofs.closed.nth_type.Goals as goal

pub loop-one-preserved-in_default : goal.loop-one-preserved-in_default
loop-one-preserved-in_default c =
    c.loop-one.invariant
    ∙ ap (λ ts. slice_get ts c.loop-one.left)
    (region_left c.args.args.now c.loop-one.one-index c.one-item.result c.in_default.field-0
    c.loop-one-test.true c.one-item.is
    (ap argument c.in_default.is ∙ region_argument_means c.in_default.field-0))

pub returns-then-left-eq0 : goal.returns-then-left-eq0
returns-then-left-eq0 c =
    let all = c.args.args.now in
    let i = c.loop-one.one-index in
    sym (c.loop-one.invariant
    ∙ ap (λ ts. slice_get ts c.loop-one.left)
    (type_left all i c.one-item.result (meaning c.in-Of.of) c.loop-one-test.true c.one-item.is
    (ap argument c.in-Of.is ∙ type_argument_means c.in-Of.of))
    ∙ ap (slice_get (meaning c.in-Of.of ∷ types_in (argument_all (drop (i + 1) all)))) c.if-left-eq0.true)

pub loop-one-preserved : goal.loop-one-preserved
loop-one-preserved c =
    let all = c.args.args.now in
    let i = c.loop-one.one-index in
    c.loop-one.invariant
    ∙ ap (λ ts. slice_get ts c.loop-one.left)
    (type_left all i c.one-item.result (meaning c.in-Of.of) c.loop-one-test.true c.one-item.is
    (ap argument c.in-Of.is ∙ type_argument_means c.in-Of.of))
    ∙ later_nth (meaning c.in-Of.of) (types_in (argument_all (drop (i + 1) all))) c.loop-one.left c.if-left-eq0.false
