use Rattle.std.proofs.Common.{◌≡◌, ◌++◌, drop}
use Rattle.au_explain.specs.Mentions.{mentions_of_arms, mentions_of_block, mentions_of_branches}
use Rattle.au_explain.specs.Said.{arms_said, branches_said, statements_said}
use Rattle.au_explain.proofs.blocks.+statements.Given as goal

-- what is added and what is left are all
abbrev pub invariant-add_block-loop-one : goal.invariant-add_block-loop-one
invariant-add_block-loop-one l =
    l.made.items ++ mentions_of_block l.x (statements_said (drop l.one-index l.one-items))
    ≡ l.fn.made.items ++ mentions_of_block l.x (statements_said l.one-items)

abbrev pub invariant-add_branches-loop-one : goal.invariant-add_branches-loop-one
invariant-add_branches-loop-one l =
    l.made.items ++ mentions_of_branches l.x (branches_said (drop l.one-index l.one-items))
    ≡ l.fn.made.items ++ mentions_of_branches l.x (branches_said l.one-items)

abbrev pub invariant-add_arms-loop-one : goal.invariant-add_arms-loop-one
invariant-add_arms-loop-one l =
    l.made.items ++ mentions_of_arms l.x (arms_said (drop l.one-index l.one-items))
    ≡ l.fn.made.items ++ mentions_of_arms l.x (arms_said l.one-items)
