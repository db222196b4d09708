use Rattle.std.proofs.Common.{ap, ◌∙◌, arith}
use Rattle.au_types.specs.Views.{argument, meaning}
use Rattle.au_types.proofs.TypeLemmas as whole
use Rattle.au_type_texts.proofs.ClosedLemmas as says
use Rattle.au_type_texts.specs.GivenViews.{given_said}
use Rattle.au_type_texts.proofs.GivenLemmas.{region_more, type_more}
use Rattle.au_type_texts.proofs.under.+closed_under.Goals as goal

pub closed_under-returns-in-Unit : goal.closed_under-returns-in-Unit
closed_under-returns-in-Unit t c = grind (arith, whole.unit_means, says.unit_means)

pub closed_under-returns-in-Bool : goal.closed_under-returns-in-Bool
closed_under-returns-in-Bool t c = grind (arith, whole.truth_means, says.truth_means)

pub closed_under-returns-in-Int : goal.closed_under-returns-in-Int
closed_under-returns-in-Int t c = grind (arith, whole.integer_means, says.integer_means)

pub closed_under-returns-in-Text : goal.closed_under-returns-in-Text
closed_under-returns-in-Text t c = grind (arith, whole.text_means, says.text_means)

pub closed_under-returns-in-Param : goal.closed_under-returns-in-Param
closed_under-returns-in-Param t c = grind (arith, whole.parameter_means)

pub closed_under-returns-in_ok-args-in-Named : goal.closed_under-returns-in_ok-args-in-Named
closed_under-returns-in_ok-args-in-Named t c = grind (arith, whole.named_means, says.named_means)

pub closed_under-returns-in_ok-to-in-Read : goal.closed_under-returns-in_ok-to-in-Read
closed_under-returns-in_ok-to-in-Read t c = grind (arith, whole.reads_means, says.reads_means)

pub closed_under-returns-in_ok-to-in-Write : goal.closed_under-returns-in_ok-to-in-Write
closed_under-returns-in_ok-to-in-Write t c = grind (arith, whole.writes_means, says.writes_means)

pub all_under-loop-one-preserved-in_default : goal.all_under-loop-one-preserved-in_default
all_under-loop-one-preserved-in_default t c =
    let what = ap argument c.in_default.is ∙ whole.region_argument_means c.in_default.field-0 in
    region_more (given_said c.args.given.now) c.loop-one.made.items c.deref-one-items.result.now
    c.loop-one.one-index c.one-item.result c.in_default.field-0 c.loop-one.invariant c.loop-one-test.true
    c.one-item.is what

pub all_under-loop-one-preserved : goal.all_under-loop-one-preserved
all_under-loop-one-preserved t c =
    let what = ap argument c.in-Of.is ∙ whole.type_argument_means c.in-Of.of in
    type_more (given_said c.args.given.now) c.loop-one.made.items c.push.new.self.items c.in_ok-closed.closed
    c.deref-one-items.result.now c.loop-one.one-index c.one-item.result (meaning c.in-Of.of)
    c.loop-one.invariant c.loop-one-test.true c.one-item.is what c.in_ok-closed.ensures
    c.in_ok-push.ensures.items
