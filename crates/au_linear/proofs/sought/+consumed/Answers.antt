use Rattle.std.proofs.Common.{ap, sym, ◌∙◌, refl}
use Rattle.au_lives.specs.Places.{consumed_at_all, consumed_at_arguments}
use Rattle.au_paths.specs.Seen.{seen_expressions, seen_arguments}
use Rattle.au_linear.specs.Firsts.{first_of}
use Rattle.au_linear.proofs.FirstLemmas as firsts
use Rattle.au_linear.proofs.PlaceLemmas.{consumed_list, consumed_arguments}
use Rattle.au_linear.proofs.sought.+consumed.Goals as goal

pub first_consumed_of_all-returns-in-Some : goal.first_consumed_of_all-returns-in-Some
first_consumed_of_all-returns-in-Some g t c =
    firsts.item_found (consumed_list g.P.Phase c.args.x.now c.args.free) c.deref-one-items.result.now
    c.loop-one.one-index c.one-item.result
    c.one-item.is c.loop-one-test.true tt _ c.in-Some.at
    (c.loop-one.invariant ∙ ap (λ l. first_of
    (consumed_at_all c.args.x.now c.args.free (seen_expressions g.P.Phase l)))
    c.deref-one-items.ensures.value)
    (sym c.in-Some.is ∙ c.first_consumed.ensures)

pub first_consumed_of_all-loop-one-preserved : goal.first_consumed_of_all-loop-one-preserved
first_consumed_of_all-loop-one-preserved g t c =
    firsts.item_passed (consumed_list g.P.Phase c.args.x.now c.args.free) c.deref-one-items.result.now
    c.loop-one.one-index c.one-item.result
    c.one-item.is c.loop-one-test.true tt tt _ c.loop-one.invariant
    (sym c.in_default.is ∙ c.first_consumed.ensures) refl

pub first_consumed_of_all-returns : goal.first_consumed_of_all-returns
first_consumed_of_all-returns g t c =
    firsts.items_end (consumed_list g.P.Phase c.args.x.now c.args.free) c.deref-one-items.result.now
    c.loop-one.one-index c.loop-one-test.false tt _
    (c.loop-one.invariant ∙ ap (λ l. first_of
    (consumed_at_all c.args.x.now c.args.free (seen_expressions g.P.Phase l)))
    c.deref-one-items.ensures.value)

pub first_consumed_of_arguments-returns-in-Some : goal.first_consumed_of_arguments-returns-in-Some
first_consumed_of_arguments-returns-in-Some g t c =
    firsts.item_found (consumed_arguments g.P.Phase c.args.x.now c.args.free) c.deref-one-items.result.now
    c.loop-one.one-index c.one-item.result
    c.one-item.is c.loop-one-test.true tt _ c.in-Some.at
    (c.loop-one.invariant ∙ ap (λ l. first_of
    (consumed_at_arguments c.args.x.now c.args.free (seen_arguments g.P.Phase l)))
    c.deref-one-items.ensures.value)
    (sym c.in-Some.is ∙ c.first_consumed_of_argument.ensures)

pub first_consumed_of_arguments-loop-one-preserved : goal.first_consumed_of_arguments-loop-one-preserved
first_consumed_of_arguments-loop-one-preserved g t c =
    firsts.item_passed (consumed_arguments g.P.Phase c.args.x.now c.args.free) c.deref-one-items.result.now
    c.loop-one.one-index c.one-item.result
    c.one-item.is c.loop-one-test.true tt tt _ c.loop-one.invariant
    (sym c.in_default.is ∙ c.first_consumed_of_argument.ensures) refl

pub first_consumed_of_arguments-returns : goal.first_consumed_of_arguments-returns
first_consumed_of_arguments-returns g t c =
    firsts.items_end (consumed_arguments g.P.Phase c.args.x.now c.args.free) c.deref-one-items.result.now
    c.loop-one.one-index c.loop-one-test.false tt _
    (c.loop-one.invariant ∙ ap (λ l. first_of
    (consumed_at_arguments c.args.x.now c.args.free (seen_arguments g.P.Phase l)))
    c.deref-one-items.ensures.value)
