use Rattle.std.proofs.Common.{◌≡◌, [], take}
use Rattle.au_closed_trees.specs.contracts.phase.ClosedTreesPhase.TheImpl.{ghosts as closed}
use Rattle.au_graphs.specs.Reached.{adds}
use Rattle.au_type_texts.specs.Same.{same}
use Rattle.au_closed_trees.specs.Types.{types_noted}
use Rattle.au_syntax.specs.Views.{arm_all, branch_all, statement_all}
use Rattle.au_closed_trees.specs.Notes.{said_in_arms, said_in_block, said_in_branches}
use Rattle.au_closed_trees.proofs.trees.+add_statement.Given as goal

-- what is found at the statements so far
abbrev pub invariant-add_block-loop-one : goal.invariant-add_block-loop-one
invariant-add_block-loop-one l =
    l.found
    ≡ adds same l.fn.found
    (said_in_block (types_noted []) (statement_all closed (take l.one-index l.one-items)))

-- what is found at the branches so far
abbrev pub invariant-add_branches-loop-one : goal.invariant-add_branches-loop-one
invariant-add_branches-loop-one l =
    l.found
    ≡ adds same l.fn.found
    (said_in_branches (types_noted []) (branch_all closed (take l.one-index l.one-items)))

-- what is found at the arms so far
abbrev pub invariant-add_arms-loop-one : goal.invariant-add_arms-loop-one
invariant-add_arms-loop-one l =
    l.found
    ≡ adds same l.fn.found
    (said_in_arms (types_noted []) (arm_all closed (take l.one-index l.one-items)))
