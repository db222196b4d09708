use Rattle.std.proofs.Common.{◌≡◌, take}
use Rattle.au_syntax.specs.Views.{statement_all, branch_all, arm_all}
use Rattle.au_mapping.specs.Seen.{before, after}
use Rattle.au_mapping.proofs.statements.+walked_statement.Given as goal

-- the statements walked so far
abbrev pub invariant-walked_block-loop-one : goal.invariant-walked_block-loop-one
invariant-walked_block-loop-one g l =
    statement_all (after g.W.Walk) l.statements.items
    ≡ statement_all (before g.W.Walk) (take l.one-index l.one-items)

-- the branches walked so far
abbrev pub invariant-walked_branches-loop-one : goal.invariant-walked_branches-loop-one
invariant-walked_branches-loop-one g l =
    branch_all (after g.W.Walk) l.made.items ≡ branch_all (before g.W.Walk) (take l.one-index l.one-items)

-- the arms walked so far
abbrev pub invariant-walked_arms-loop-one : goal.invariant-walked_arms-loop-one
invariant-walked_arms-loop-one g l =
    arm_all (after g.W.Walk) l.made.items ≡ arm_all (before g.W.Walk) (take l.one-index l.one-items)
