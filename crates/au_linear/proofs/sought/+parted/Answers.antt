use Rattle.std.proofs.Common.{ap, sym, ◌∙◌, refl}
use Rattle.au_lives.specs.Places.{parted_at_all, parted_at_arguments}
use Rattle.au_paths.specs.Seen.{seen_expressions, seen_arguments}
use Rattle.au_linear.specs.Firsts.{first_of}
use Rattle.au_linear.proofs.FirstLemmas as firsts
use Rattle.au_linear.proofs.PlaceLemmas.{parted_list, parted_arguments}
use Rattle.au_linear.proofs.sought.+parted.Goals as goal

pub first_parted_of_all-returns-in-Some : goal.first_parted_of_all-returns-in-Some
first_parted_of_all-returns-in-Some g t c =
    firsts.item_found (parted_list g.P.Phase c.args.x.now c.args.free) c.deref-one-items.result.now
    c.loop-one.one-index c.one-item.result
    c.one-item.is c.loop-one-test.true tt _ c.in-Some.at
    (c.loop-one.invariant ∙ ap (λ l. first_of
    (parted_at_all c.args.x.now c.args.free (seen_expressions g.P.Phase l)))
    c.deref-one-items.ensures.value)
    (sym c.in-Some.is ∙ c.first_parted.ensures)

pub first_parted_of_all-loop-one-preserved : goal.first_parted_of_all-loop-one-preserved
first_parted_of_all-loop-one-preserved g t c =
    firsts.item_passed (parted_list g.P.Phase c.args.x.now c.args.free) c.deref-one-items.result.now
    c.loop-one.one-index c.one-item.result
    c.one-item.is c.loop-one-test.true tt tt _ c.loop-one.invariant
    (sym c.in_default.is ∙ c.first_parted.ensures) refl

pub first_parted_of_all-returns : goal.first_parted_of_all-returns
first_parted_of_all-returns g t c =
    firsts.items_end (parted_list g.P.Phase c.args.x.now c.args.free) c.deref-one-items.result.now
    c.loop-one.one-index c.loop-one-test.false tt _
    (c.loop-one.invariant ∙ ap (λ l. first_of
    (parted_at_all c.args.x.now c.args.free (seen_expressions g.P.Phase l)))
    c.deref-one-items.ensures.value)

pub first_parted_of_arguments-returns-in-Some : goal.first_parted_of_arguments-returns-in-Some
first_parted_of_arguments-returns-in-Some g t c =
    firsts.item_found (parted_arguments g.P.Phase c.args.x.now c.args.free) c.deref-one-items.result.now
    c.loop-one.one-index c.one-item.result
    c.one-item.is c.loop-one-test.true tt _ c.in-Some.at
    (c.loop-one.invariant ∙ ap (λ l. first_of
    (parted_at_arguments c.args.x.now c.args.free (seen_arguments g.P.Phase l)))
    c.deref-one-items.ensures.value)
    (sym c.in-Some.is ∙ c.first_parted_of_argument.ensures)

pub first_parted_of_arguments-loop-one-preserved : goal.first_parted_of_arguments-loop-one-preserved
first_parted_of_arguments-loop-one-preserved g t c =
    firsts.item_passed (parted_arguments g.P.Phase c.args.x.now c.args.free) c.deref-one-items.result.now
    c.loop-one.one-index c.one-item.result
    c.one-item.is c.loop-one-test.true tt tt _ c.loop-one.invariant
    (sym c.in_default.is ∙ c.first_parted_of_argument.ensures) refl

pub first_parted_of_arguments-returns : goal.first_parted_of_arguments-returns
first_parted_of_arguments-returns g t c =
    firsts.items_end (parted_arguments g.P.Phase c.args.x.now c.args.free) c.deref-one-items.result.now
    c.loop-one.one-index c.loop-one-test.false tt _
    (c.loop-one.invariant ∙ ap (λ l. first_of
    (parted_at_arguments c.args.x.now c.args.free (seen_arguments g.P.Phase l)))
    c.deref-one-items.ensures.value)
