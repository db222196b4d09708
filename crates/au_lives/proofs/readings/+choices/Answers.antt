use Rattle.std.proofs.Common.{ap, ◌∙◌}
use Rattle.au_syntax.specs.Views.{statement, statement_all, block, branch_all, arm_all}
use Rattle.au_syntax.specs.Plain.{plain_statement, plain_statements, plain_branches, plain_arms}
use Rattle.au_lives.specs.Choices.{places, places_of_block, places_of_branches, places_of_arms, counted}
use Rattle.au_lives.proofs.ChoiceLemmas as lemmas
use Rattle.au_lives.proofs.readings.+choices.Goals as goal

pub choices-loop-one-preserved : goal.choices-loop-one-preserved
choices-loop-one-preserved g t c =
    let split = lemmas.left_of_block g.P.Phase c.deref-one-items.result.now c.loop-one.one-index
    c.one-item.result c.loop-one-test.true in
    let part = c.choices_of-part.ensures
    ∙ ap (λ one. counted (places (plain_statement g.P.Phase.name_bytes (statement g.P.Phase one))))
    c.one-item.is in
    lemmas.added _ _ _ _ _ _ _ c.loop-one.invariant part split c.sum_of-sum.ensures

pub choices-returns : goal.choices-returns
choices-returns g t c =
    lemmas.ended _ _ _ c.loop-one.invariant.total
    (lemmas.none_of_block g.P.Phase c.deref-one-items.result.now c.loop-one.one-index
    c.loop-one-test.false) c.loop-one.invariant.small
    ∙ ap (λ items. counted
    (places_of_block (plain_statements g.P.Phase.name_bytes (statement_all g.P.Phase items))))
    c.deref-one-items.ensures.value

pub choices_of_branches-loop-one-preserved : goal.choices_of_branches-loop-one-preserved
choices_of_branches-loop-one-preserved g t c =
    let split = lemmas.left_of_branches g.P.Phase c.deref-one-items.result.now c.loop-one.one-index
    c.one-item.result c.loop-one-test.true in
    let part = c.choices_of_branch-part.ensures
    ∙ ap (λ one. counted (places_of_block
    (plain_statements g.P.Phase.name_bytes (block g.P.Phase one.block)))) c.one-item.is in
    lemmas.added _ _ _ _ _ _ _ c.loop-one.invariant part split c.sum_of-sum.ensures

pub choices_of_branches-returns : goal.choices_of_branches-returns
choices_of_branches-returns g t c =
    lemmas.ended _ _ _ c.loop-one.invariant.total
    (lemmas.none_of_branches g.P.Phase c.deref-one-items.result.now c.loop-one.one-index
    c.loop-one-test.false) c.loop-one.invariant.small
    ∙ ap (λ items. counted
    (places_of_branches (plain_branches g.P.Phase.name_bytes (branch_all g.P.Phase items))))
    c.deref-one-items.ensures.value

pub choices_of_arms-loop-one-preserved : goal.choices_of_arms-loop-one-preserved
choices_of_arms-loop-one-preserved g t c =
    let split = lemmas.left_of_arms g.P.Phase c.deref-one-items.result.now c.loop-one.one-index
    c.one-item.result c.loop-one-test.true in
    let part = c.choices_of_arm-part.ensures
    ∙ ap (λ one. counted (places_of_block
    (plain_statements g.P.Phase.name_bytes (block g.P.Phase one.block)))) c.one-item.is in
    lemmas.added _ _ _ _ _ _ _ c.loop-one.invariant part split c.sum_of-sum.ensures

pub choices_of_arms-returns : goal.choices_of_arms-returns
choices_of_arms-returns g t c =
    lemmas.ended _ _ _ c.loop-one.invariant.total
    (lemmas.none_of_arms g.P.Phase c.deref-one-items.result.now c.loop-one.one-index
    c.loop-one-test.false) c.loop-one.invariant.small
    ∙ ap (λ items. counted (places_of_arms (plain_arms g.P.Phase.name_bytes (arm_all g.P.Phase items))))
    c.deref-one-items.ensures.value
