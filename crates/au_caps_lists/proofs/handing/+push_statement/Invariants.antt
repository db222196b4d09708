use Rattle.std.proofs.Common.{◌≡◌, ◌++◌, take}
use Rattle.au_sights.specs.contracts.noted.NotedPhase.TheImpl.{ghosts as noted}
use Rattle.au_syntax.specs.Views.{arm_all, branch_all, statement_all}
use Rattle.au_caps_lists.specs.Holding.{handed_by_arms, handed_by_block, handed_by_branches}
use Rattle.au_caps_lists.specs.Views.{mentions_said}
use Rattle.au_caps_lists.proofs.handing.+push_statement.Given as goal

-- what is handed on at the statements so far
abbrev pub invariant-push_block-loop-one : goal.invariant-push_block-loop-one
invariant-push_block-loop-one l =
    mentions_said l.made.items
    ≡ mentions_said l.fn.made.items ++ handed_by_block (statement_all noted (take l.one-index l.one-items))

-- what is handed on at the branches so far
abbrev pub invariant-push_branches-loop-one : goal.invariant-push_branches-loop-one
invariant-push_branches-loop-one l =
    mentions_said l.made.items
    ≡ mentions_said l.fn.made.items ++ handed_by_branches (branch_all noted (take l.one-index l.one-items))

-- what is handed on at the arms so far
abbrev pub invariant-push_arms-loop-one : goal.invariant-push_arms-loop-one
invariant-push_arms-loop-one l =
    mentions_said l.made.items
    ≡ mentions_said l.fn.made.items ++ handed_by_arms (arm_all noted (take l.one-index l.one-items))
