use Rattle.std.proofs.Common.{ap, sym, ◌∙◌, refl}
use Rattle.au_lives.specs.Places.{looped_in_block, looped_in_branches, looped_in_arms}
use Rattle.au_paths.specs.Seen.{seen_statements, seen_branches, seen_arms}
use Rattle.au_paths.specs.Standing.{hold_of}
use Rattle.au_linear.specs.declared.sought.Sought.TheVariants as soughts
use Rattle.au_linear.specs.Firsts.{first_of, sought_at}
use Rattle.au_linear.proofs.FirstLemmas as firsts
use Rattle.au_linear.proofs.PlaceLemmas.{looped_list, looped_branches, looped_arms}
use Rattle.au_linear.proofs.placing.+looped.Goals as goal

pub looped_in_block-returns-in-Some : goal.looped_in_block-returns-in-Some
looped_in_block-returns-in-Some g t c =
    firsts.item_found (looped_list g.P.Phase c.args.x.now
    (sought_at soughts.Consumption c.args.x.now c.args.sort)) c.deref-one-items.result.now
    c.loop-one.one-index c.one-item.result
    c.one-item.is c.loop-one-test.true (hold_of c.loop-one.held) _ c.in-Some.at
    (c.loop-one.invariant ∙ ap (λ l. first_of
    (looped_in_block c.args.x.now (sought_at soughts.Consumption c.args.x.now c.args.sort)
    (seen_statements g.P.Phase l) (hold_of c.args.hold))) c.deref-one-items.ensures.value)
    (sym c.in-Some.is ∙ c.looped.ensures)

pub looped_in_block-loop-one-preserved : goal.looped_in_block-loop-one-preserved
looped_in_block-loop-one-preserved g t c =
    firsts.item_passed (looped_list g.P.Phase c.args.x.now
    (sought_at soughts.Consumption c.args.x.now c.args.sort)) c.deref-one-items.result.now
    c.loop-one.one-index c.one-item.result
    c.one-item.is c.loop-one-test.true (hold_of c.loop-one.held) (hold_of c.held_after-held.result) _
    c.loop-one.invariant
    (sym c.in_default.is ∙ c.looped.ensures) c.held_after-held.ensures

pub looped_in_block-returns : goal.looped_in_block-returns
looped_in_block-returns g t c =
    firsts.items_end (looped_list g.P.Phase c.args.x.now
    (sought_at soughts.Consumption c.args.x.now c.args.sort)) c.deref-one-items.result.now
    c.loop-one.one-index c.loop-one-test.false (hold_of c.loop-one.held) _
    (c.loop-one.invariant ∙ ap (λ l. first_of
    (looped_in_block c.args.x.now (sought_at soughts.Consumption c.args.x.now c.args.sort)
    (seen_statements g.P.Phase l) (hold_of c.args.hold))) c.deref-one-items.ensures.value)

pub looped_in_branches-returns-in-Some : goal.looped_in_branches-returns-in-Some
looped_in_branches-returns-in-Some g t c =
    firsts.item_found (looped_branches g.P.Phase c.args.x.now
    (sought_at soughts.Consumption c.args.x.now c.args.sort) (hold_of c.args.hold))
    c.deref-one-items.result.now c.loop-one.one-index c.one-item.result
    c.one-item.is c.loop-one-test.true tt _ c.in-Some.at
    (c.loop-one.invariant ∙ ap (λ l. first_of
    (looped_in_branches c.args.x.now (sought_at soughts.Consumption c.args.x.now c.args.sort)
    (seen_branches g.P.Phase l) (hold_of c.args.hold))) c.deref-one-items.ensures.value)
    (sym c.in-Some.is ∙ c.looped_in_branch.ensures)

pub looped_in_branches-loop-one-preserved : goal.looped_in_branches-loop-one-preserved
looped_in_branches-loop-one-preserved g t c =
    firsts.item_passed (looped_branches g.P.Phase c.args.x.now
    (sought_at soughts.Consumption c.args.x.now c.args.sort) (hold_of c.args.hold))
    c.deref-one-items.result.now c.loop-one.one-index c.one-item.result
    c.one-item.is c.loop-one-test.true tt tt _ c.loop-one.invariant
    (sym c.in_default.is ∙ c.looped_in_branch.ensures) refl

pub looped_in_branches-returns : goal.looped_in_branches-returns
looped_in_branches-returns g t c =
    firsts.items_end (looped_branches g.P.Phase c.args.x.now
    (sought_at soughts.Consumption c.args.x.now c.args.sort) (hold_of c.args.hold))
    c.deref-one-items.result.now c.loop-one.one-index c.loop-one-test.false tt _
    (c.loop-one.invariant ∙ ap (λ l. first_of
    (looped_in_branches c.args.x.now (sought_at soughts.Consumption c.args.x.now c.args.sort)
    (seen_branches g.P.Phase l) (hold_of c.args.hold))) c.deref-one-items.ensures.value)

pub looped_in_arms-returns-in-Some : goal.looped_in_arms-returns-in-Some
looped_in_arms-returns-in-Some g t c =
    firsts.item_found (looped_arms g.P.Phase c.args.x.now
    (sought_at soughts.Consumption c.args.x.now c.args.sort) (hold_of c.args.hold))
    c.deref-one-items.result.now c.loop-one.one-index c.one-item.result
    c.one-item.is c.loop-one-test.true tt _ c.in-Some.at
    (c.loop-one.invariant ∙ ap (λ l. first_of
    (looped_in_arms c.args.x.now (sought_at soughts.Consumption c.args.x.now c.args.sort)
    (seen_arms g.P.Phase l) (hold_of c.args.hold))) c.deref-one-items.ensures.value)
    (sym c.in-Some.is ∙ c.looped_in_arm.ensures)

pub looped_in_arms-loop-one-preserved : goal.looped_in_arms-loop-one-preserved
looped_in_arms-loop-one-preserved g t c =
    firsts.item_passed (looped_arms g.P.Phase c.args.x.now
    (sought_at soughts.Consumption c.args.x.now c.args.sort) (hold_of c.args.hold))
    c.deref-one-items.result.now c.loop-one.one-index c.one-item.result
    c.one-item.is c.loop-one-test.true tt tt _ c.loop-one.invariant
    (sym c.in_default.is ∙ c.looped_in_arm.ensures) refl

pub looped_in_arms-returns : goal.looped_in_arms-returns
looped_in_arms-returns g t c =
    firsts.items_end (looped_arms g.P.Phase c.args.x.now
    (sought_at soughts.Consumption c.args.x.now c.args.sort) (hold_of c.args.hold))
    c.deref-one-items.result.now c.loop-one.one-index c.loop-one-test.false tt _
    (c.loop-one.invariant ∙ ap (λ l. first_of
    (looped_in_arms c.args.x.now (sought_at soughts.Consumption c.args.x.now c.args.sort)
    (seen_arms g.P.Phase l) (hold_of c.args.hold))) c.deref-one-items.ensures.value)
