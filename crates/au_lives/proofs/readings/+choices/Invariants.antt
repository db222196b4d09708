use Rattle.std.proofs.Common.{drop}
use Rattle.au_syntax.specs.Views.{statement_all, branch_all, arm_all}
use Rattle.au_syntax.specs.Plain.{plain_statements, plain_branches, plain_arms}
use Rattle.au_lives.specs.Choices.{places_of_block, places_of_branches, places_of_arms}
use Rattle.au_lives.proofs.ChoiceLemmas.{Counting}
use Rattle.au_lives.proofs.readings.+choices.Given as goal

-- what is counted, with what is left, is all
abbrev pub invariant-choices-loop-one : goal.invariant-choices-loop-one
invariant-choices-loop-one g l =
    Counting l.sum (places_of_block
    (plain_statements g.P.Phase.name_bytes (statement_all g.P.Phase (drop l.one-index l.one-items))))
    (places_of_block (plain_statements g.P.Phase.name_bytes (statement_all g.P.Phase l.one-items)))

abbrev pub invariant-choices_of_branches-loop-one : goal.invariant-choices_of_branches-loop-one
invariant-choices_of_branches-loop-one g l =
    Counting l.sum (places_of_branches
    (plain_branches g.P.Phase.name_bytes (branch_all g.P.Phase (drop l.one-index l.one-items))))
    (places_of_branches (plain_branches g.P.Phase.name_bytes (branch_all g.P.Phase l.one-items)))

abbrev pub invariant-choices_of_arms-loop-one : goal.invariant-choices_of_arms-loop-one
invariant-choices_of_arms-loop-one g l =
    Counting l.sum (places_of_arms
    (plain_arms g.P.Phase.name_bytes (arm_all g.P.Phase (drop l.one-index l.one-items))))
    (places_of_arms (plain_arms g.P.Phase.name_bytes (arm_all g.P.Phase l.one-items)))
