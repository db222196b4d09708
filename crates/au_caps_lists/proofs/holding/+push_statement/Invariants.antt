use Rattle.std.proofs.Common.{◌≡◌, ◌++◌, take}
use Rattle.au_sights.specs.contracts.noted.NotedPhase.TheImpl.{ghosts as noted}
use Rattle.au_syntax.specs.Views.{arm_all, branch_all, statement_all}
use Rattle.au_types.specs.WrittenViews.{sense_in}
use Rattle.au_caps_lists.specs.Holding.{held_in_arms, held_in_block, held_in_branches}
use Rattle.au_caps_lists.specs.Views.{mentions_said}
use Rattle.au_caps_lists.proofs.holding.+push_statement.Given as goal

-- what the statements so far hold
abbrev pub invariant-push_block-loop-one : goal.invariant-push_block-loop-one
invariant-push_block-loop-one l =
    mentions_said l.made.items
    ≡ mentions_said l.fn.made.items ++ held_in_block (sense_in l.scope)
    (statement_all noted (take l.one-index l.one-items))

-- what the branches so far hold
abbrev pub invariant-push_branches-loop-one : goal.invariant-push_branches-loop-one
invariant-push_branches-loop-one l =
    mentions_said l.made.items
    ≡ mentions_said l.fn.made.items ++ held_in_branches (sense_in l.scope)
    (branch_all noted (take l.one-index l.one-items))

-- what the arms so far hold
abbrev pub invariant-push_arms-loop-one : goal.invariant-push_arms-loop-one
invariant-push_arms-loop-one l =
    mentions_said l.made.items
    ≡ mentions_said l.fn.made.items ++ held_in_arms (sense_in l.scope)
    (arm_all noted (take l.one-index l.one-items))
