use Rattle.std.proofs.Common.{drop}
use Rattle.au_lives.specs.Scopes.{scopes, scopes_of_branches, scopes_of_arms}
use Rattle.au_paths.specs.Seen.{seen_statements, seen_branches, seen_arms}
use Rattle.au_linear.proofs.TellingLemmas.{Settles}
use Rattle.au_linear.proofs.checking.+checking.Given as goal

-- what is left decides
abbrev pub invariant-check_block-loop-index : goal.invariant-check_block-loop-index
invariant-check_block-loop-index g l =
    Settles (scopes (seen_statements g.P.Phase (drop l.index l.block.statements.items)))
    (scopes (seen_statements g.P.Phase l.block.statements.items)) l.tasks l.at l.next

abbrev pub invariant-check_branches-loop-one : goal.invariant-check_branches-loop-one
invariant-check_branches-loop-one g l =
    Settles (scopes_of_branches (seen_branches g.P.Phase (drop l.one-index l.one-items)))
    (scopes_of_branches (seen_branches g.P.Phase l.one-items)) l.tasks l.at l.next

abbrev pub invariant-check_arms-loop-one : goal.invariant-check_arms-loop-one
invariant-check_arms-loop-one g l =
    Settles (scopes_of_arms (seen_arms g.P.Phase (drop l.one-index l.one-items)))
    (scopes_of_arms (seen_arms g.P.Phase l.one-items)) l.tasks l.at l.next
