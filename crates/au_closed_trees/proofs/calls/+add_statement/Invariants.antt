use Rattle.std.proofs.Common.{◌≡◌, ◌++◌, map, take}
use Rattle.au_sights.specs.contracts.noted.NotedPhase.TheImpl.{ghosts as noted}
use Rattle.au_syntax.specs.Views.{arm_all, branch_all, statement_all}
use Rattle.au_closed_trees.specs.Calls.{calls_in_arms, calls_in_block, calls_in_branches}
use Rattle.au_closed_trees.proofs.calls.+add_statement.Given as goal

-- what is found at the statements so far
abbrev pub invariant-add_block-loop-one : goal.invariant-add_block-loop-one
invariant-add_block-loop-one g l =
    map g.R.Finder.see l.found.items
    ≡ map g.R.Finder.see l.fn.found.items
    ++ calls_in_block (g.R.Finder.leads l.finder) (statement_all noted (take l.one-index l.one-items))

-- what is found at the branches so far
abbrev pub invariant-add_branches-loop-one : goal.invariant-add_branches-loop-one
invariant-add_branches-loop-one g l =
    map g.R.Finder.see l.found.items
    ≡ map g.R.Finder.see l.fn.found.items
    ++ calls_in_branches (g.R.Finder.leads l.finder) (branch_all noted (take l.one-index l.one-items))

-- what is found at the arms so far
abbrev pub invariant-add_arms-loop-one : goal.invariant-add_arms-loop-one
invariant-add_arms-loop-one g l =
    map g.R.Finder.see l.found.items
    ≡ map g.R.Finder.see l.fn.found.items
    ++ calls_in_arms (g.R.Finder.leads l.finder) (arm_all noted (take l.one-index l.one-items))
