use Rattle.std.proofs.Common.{◌≡◌, ◌++◌, take}
use Rattle.au_rules.specs.Marks.{arm_marks, block_marks, branch_marks}
use Rattle.au_rules.specs.Said.{arms_said, branches_said, statements_said}
use Rattle.au_rules.proofs.statements.+push_statement.Given as goal

-- the marks of what is visited
abbrev pub invariant-push_closed-loop-one : goal.invariant-push_closed-loop-one
invariant-push_closed-loop-one l = l.list.items ≡ l.fn.list.items
    ++ block_marks (statements_said (take l.one-index l.one-items))

abbrev pub invariant-push_branches-loop-one : goal.invariant-push_branches-loop-one
invariant-push_branches-loop-one l = l.list.items ≡ l.fn.list.items
    ++ branch_marks (branches_said (take l.one-index l.one-items))

abbrev pub invariant-push_arms-loop-one : goal.invariant-push_arms-loop-one
invariant-push_arms-loop-one l = l.list.items ≡ l.fn.list.items
    ++ arm_marks (arms_said (take l.one-index l.one-items))
