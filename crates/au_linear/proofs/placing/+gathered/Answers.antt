use Rattle.std.proofs.Common.{ap, sym, ◌∙◌, refl}
use Rattle.au_lives.specs.Places.{gathered_in_block, gathered_in_branches, gathered_in_arms}
use Rattle.au_paths.specs.Seen.{seen_statements, seen_branches, seen_arms}
use Rattle.au_paths.specs.Standing.{hold_of}
use Rattle.au_linear.specs.declared.sought.Sought.TheVariants as soughts
use Rattle.au_linear.specs.Firsts.{first_of, sought_at}
use Rattle.au_linear.proofs.FirstLemmas as firsts
use Rattle.au_linear.proofs.PlaceLemmas.{gathered_list, gathered_branches, gathered_arms}
use Rattle.au_linear.proofs.placing.+gathered.Goals as goal

pub gathered_in_block-returns-in-Some : goal.gathered_in_block-returns-in-Some
gathered_in_block-returns-in-Some g t c =
    firsts.item_found (gathered_list g.P.Phase c.args.x.now
    (sought_at c.args.sought c.args.x.now c.args.sort)) c.deref-one-items.result.now c.loop-one.one-index
    c.one-item.result
    c.one-item.is c.loop-one-test.true (hold_of c.loop-one.held) _ c.in-Some.at
    (c.loop-one.invariant ∙ ap (λ l. first_of
    (gathered_in_block c.args.x.now (sought_at c.args.sought c.args.x.now c.args.sort)
    (seen_statements g.P.Phase l) (hold_of c.args.hold))) c.deref-one-items.ensures.value)
    (sym c.in-Some.is ∙ c.gathered.ensures)

pub gathered_in_block-loop-one-preserved : goal.gathered_in_block-loop-one-preserved
gathered_in_block-loop-one-preserved g t c =
    firsts.item_passed (gathered_list g.P.Phase c.args.x.now
    (sought_at c.args.sought c.args.x.now c.args.sort)) c.deref-one-items.result.now c.loop-one.one-index
    c.one-item.result
    c.one-item.is c.loop-one-test.true (hold_of c.loop-one.held) (hold_of c.held_after-held.result) _
    c.loop-one.invariant
    (sym c.in_default.is ∙ c.gathered.ensures) c.held_after-held.ensures

pub gathered_in_block-returns : goal.gathered_in_block-returns
gathered_in_block-returns g t c =
    firsts.items_end (gathered_list g.P.Phase c.args.x.now (sought_at c.args.sought c.args.x.now c.args.sort))
    c.deref-one-items.result.now c.loop-one.one-index c.loop-one-test.false (hold_of c.loop-one.held) _
    (c.loop-one.invariant ∙ ap (λ l. first_of
    (gathered_in_block c.args.x.now (sought_at c.args.sought c.args.x.now c.args.sort)
    (seen_statements g.P.Phase l) (hold_of c.args.hold))) c.deref-one-items.ensures.value)

pub gathered_in_branches-returns-in-Some : goal.gathered_in_branches-returns-in-Some
gathered_in_branches-returns-in-Some g t c =
    firsts.item_found (gathered_branches g.P.Phase c.args.x.now
    (sought_at c.args.sought c.args.x.now c.args.sort) (hold_of c.args.hold)) c.deref-one-items.result.now
    c.loop-one.one-index c.one-item.result
    c.one-item.is c.loop-one-test.true tt _ c.in-Some.at
    (c.loop-one.invariant ∙ ap (λ l. first_of
    (gathered_in_branches c.args.x.now (sought_at c.args.sought c.args.x.now c.args.sort)
    (seen_branches g.P.Phase l) (hold_of c.args.hold))) c.deref-one-items.ensures.value)
    (sym c.in-Some.is ∙ c.gathered_in_branch.ensures ∙ sym (firsts.first_and _ _))

pub gathered_in_branches-loop-one-preserved : goal.gathered_in_branches-loop-one-preserved
gathered_in_branches-loop-one-preserved g t c =
    firsts.item_passed (gathered_branches g.P.Phase c.args.x.now
    (sought_at c.args.sought c.args.x.now c.args.sort) (hold_of c.args.hold)) c.deref-one-items.result.now
    c.loop-one.one-index c.one-item.result
    c.one-item.is c.loop-one-test.true tt tt _ c.loop-one.invariant
    (sym c.in_default.is ∙ c.gathered_in_branch.ensures ∙ sym (firsts.first_and _ _)) refl

pub gathered_in_branches-returns : goal.gathered_in_branches-returns
gathered_in_branches-returns g t c =
    firsts.items_end (gathered_branches g.P.Phase c.args.x.now
    (sought_at c.args.sought c.args.x.now c.args.sort) (hold_of c.args.hold)) c.deref-one-items.result.now
    c.loop-one.one-index c.loop-one-test.false tt _
    (c.loop-one.invariant ∙ ap (λ l. first_of
    (gathered_in_branches c.args.x.now (sought_at c.args.sought c.args.x.now c.args.sort)
    (seen_branches g.P.Phase l) (hold_of c.args.hold))) c.deref-one-items.ensures.value)

pub gathered_in_arms-returns-in-Some : goal.gathered_in_arms-returns-in-Some
gathered_in_arms-returns-in-Some g t c =
    firsts.item_found (gathered_arms g.P.Phase c.args.x.now (sought_at c.args.sought c.args.x.now c.args.sort)
    (hold_of c.args.hold)) c.deref-one-items.result.now c.loop-one.one-index c.one-item.result
    c.one-item.is c.loop-one-test.true tt _ c.in-Some.at
    (c.loop-one.invariant ∙ ap (λ l. first_of
    (gathered_in_arms c.args.x.now (sought_at c.args.sought c.args.x.now c.args.sort)
    (seen_arms g.P.Phase l) (hold_of c.args.hold))) c.deref-one-items.ensures.value)
    (sym c.in-Some.is ∙ c.gathered_in_arm.ensures)

pub gathered_in_arms-loop-one-preserved : goal.gathered_in_arms-loop-one-preserved
gathered_in_arms-loop-one-preserved g t c =
    firsts.item_passed (gathered_arms g.P.Phase c.args.x.now
    (sought_at c.args.sought c.args.x.now c.args.sort) (hold_of c.args.hold)) c.deref-one-items.result.now
    c.loop-one.one-index c.one-item.result
    c.one-item.is c.loop-one-test.true tt tt _ c.loop-one.invariant
    (sym c.in_default.is ∙ c.gathered_in_arm.ensures) refl

pub gathered_in_arms-returns : goal.gathered_in_arms-returns
gathered_in_arms-returns g t c =
    firsts.items_end (gathered_arms g.P.Phase c.args.x.now (sought_at c.args.sought c.args.x.now c.args.sort)
    (hold_of c.args.hold)) c.deref-one-items.result.now c.loop-one.one-index c.loop-one-test.false tt _
    (c.loop-one.invariant ∙ ap (λ l. first_of
    (gathered_in_arms c.args.x.now (sought_at c.args.sought c.args.x.now c.args.sort)
    (seen_arms g.P.Phase l) (hold_of c.args.hold))) c.deref-one-items.ensures.value)
