use Rattle.std.proofs.Common.{◌≡◌, take}
use Rattle.au_sights.specs.contracts.noted.NotedPhase.TheImpl.{ghosts as noted}
use Rattle.au_syntax.specs.Views.{arm_all, branch_all, statement_all}
use Rattle.au_closed_trees.specs.contracts.phase.ClosedTreesPhase.TheImpl.{ghosts as closed}
use Rattle.au_closed_trees.specs.Renoted.{arms_renoted, block_renoted, branches_renoted}
use Rattle.au_closed_trees.proofs.statements.+close_statement.Given as goal

-- the statements made so far
abbrev pub invariant-close_block-loop-one : goal.invariant-close_block-loop-one
invariant-close_block-loop-one g l =
    statement_all closed l.statements.items
    ≡ block_renoted (g.R.Closer.change l.closer) (statement_all noted (take l.one-index l.one-items))

-- the branches made so far
abbrev pub invariant-close_branches-loop-one : goal.invariant-close_branches-loop-one
invariant-close_branches-loop-one g l =
    branch_all closed l.made.items
    ≡ branches_renoted (g.R.Closer.change l.closer) (branch_all noted (take l.one-index l.one-items))

-- the arms made so far
abbrev pub invariant-close_arms-loop-one : goal.invariant-close_arms-loop-one
invariant-close_arms-loop-one g l =
    arm_all closed l.made.items
    ≡ arms_renoted (g.R.Closer.change l.closer) (arm_all noted (take l.one-index l.one-items))
