use Rattle.std.proofs.Common.{◌++◌, take, sym, ap, ◌∙◌, append_assoc, arith}
use Rattle.std.proofs.lemmas.Grind.{common_steps}
use Rattle.std.proofs.lemmas.List.{append-nil}
use Rattle.au_syntax.specs.declared.statements.Arm.{size-Arm}
use Rattle.au_syntax.specs.declared.statements.Branch.{size-Branch}
use Rattle.au_syntax.proofs.DepthLemmas.{item_falls}
use Rattle.au_rules.specs.Marks.{arm_marks, block_marks, branch_marks, statement_marks}
use Rattle.au_rules.specs.Said.{arms_said, branches_said, statement_said, statements_said}
use Rattle.au_rules.proofs.StatementLemmas.{skip_marks, let_marks, destructure_marks, assign_marks}
use Rattle.au_rules.proofs.StatementLemmas.{assign_through_marks, if_marks, if_else_marks, case_marks}
use Rattle.au_rules.proofs.StatementLemmas.{while_marks, for_marks, borrow_marks, borrow_typed_marks}
use Rattle.au_rules.proofs.StatementLemmas.{call_marks, return_marks, no_block, no_branch, no_arm}
use Rattle.au_rules.proofs.StatementLemmas.{more_statements, more_branches, more_arms, of_arm, of_branch}
use Rattle.au_rules.proofs.statements.+push_statement.Goals as goal

pub push_statement-returns-in-Skip : goal.push_statement-returns-in-Skip
push_statement-returns-in-Skip t c = grind (arith, common_steps, skip_marks)

pub push_statement-returns-in-Let : goal.push_statement-returns-in-Let
push_statement-returns-in-Let t c = grind (arith, let_marks)

pub push_statement-returns-in-Destructure : goal.push_statement-returns-in-Destructure
push_statement-returns-in-Destructure t c = grind (arith, destructure_marks)

pub push_statement-returns-in-Assign : goal.push_statement-returns-in-Assign
push_statement-returns-in-Assign t c = grind (arith, common_steps, assign_marks)

pub push_statement-returns-in-AssignThrough : goal.push_statement-returns-in-AssignThrough
push_statement-returns-in-AssignThrough t c = grind (arith, common_steps, assign_through_marks)

pub push_statement-returns-in-If : goal.push_statement-returns-in-If
push_statement-returns-in-If t c = grind (arith, if_marks)

pub push_statement-returns-in-Case : goal.push_statement-returns-in-Case
push_statement-returns-in-Case t c = grind (arith, case_marks)

pub push_statement-returns-in-While : goal.push_statement-returns-in-While
push_statement-returns-in-While t c = grind (arith, while_marks)

pub push_statement-returns-in-Call : goal.push_statement-returns-in-Call
push_statement-returns-in-Call t c = grind (arith, common_steps, call_marks)

pub push_statement-returns-in-Return : goal.push_statement-returns-in-Return
push_statement-returns-in-Return t c = grind (arith, common_steps, return_marks)

pub push_statement-returns-in_ok-push_branches-in-IfElse :
    goal.push_statement-returns-in_ok-push_branches-in-IfElse
push_statement-returns-in_ok-push_branches-in-IfElse t c = grind (arith, common_steps, if_else_marks)

pub push_statement-returns-in_ok-push_variable-in-For : goal.push_statement-returns-in_ok-push_variable-in-For
push_statement-returns-in_ok-push_variable-in-For t c = grind (arith, common_steps, for_marks)

pub push_statement-returns-in_ok-push_reference-in-Borrow :
    goal.push_statement-returns-in_ok-push_reference-in-Borrow
push_statement-returns-in_ok-push_reference-in-Borrow t c = grind (arith, common_steps, borrow_marks)

pub push_statement-returns-in_ok-push_typed-in-BorrowTyped :
    goal.push_statement-returns-in_ok-push_typed-in-BorrowTyped
push_statement-returns-in_ok-push_typed-in-BorrowTyped t c = grind
    (arith, common_steps, borrow_typed_marks)

pub push_closed-loop-one-init : goal.push_closed-loop-one-init
push_closed-loop-one-init t c =
    let start = c.args.list.now.items in
    sym (ap (λ r. start ++ r) no_block ∙ append-nil start)

pub push_closed-loop-one-preserved : goal.push_closed-loop-one-preserved
push_closed-loop-one-preserved t c =
    let start = c.args.list.now.items in
    let items = c.deref-one-items.result.now in
    let i = c.loop-one.one-index in
    let item = c.one-item.result in
    c.in_ok-push_statement.ensures
    ∙ ap (λ r. r ++ statement_marks (statement_said item)) c.loop-one.invariant
    ∙ append_assoc start (block_marks (statements_said (take i items)))
    (statement_marks (statement_said item))
    ∙ ap (λ r. start ++ r) (sym (more_statements items i item c.loop-one-test.true c.one-item.is))

pub push_branches-loop-one-init : goal.push_branches-loop-one-init
push_branches-loop-one-init t c =
    let start = c.args.list.now.items in
    sym (ap (λ r. start ++ r) no_branch ∙ append-nil start)

pub push_branches-loop-one-preserved : goal.push_branches-loop-one-preserved
push_branches-loop-one-preserved t c =
    let start = c.args.list.now.items in
    let items = c.deref-one-items.result.now in
    let i = c.loop-one.one-index in
    let item = c.one-item.result in
    c.in_ok-push_branch.ensures
    ∙ ap (λ r. r ++ of_branch item) c.loop-one.invariant
    ∙ append_assoc start (branch_marks (branches_said (take i items))) (of_branch item)
    ∙ ap (λ r. start ++ r) (sym (more_branches items i item c.loop-one-test.true c.one-item.is))

pub push_arms-loop-one-init : goal.push_arms-loop-one-init
push_arms-loop-one-init t c =
    let start = c.args.list.now.items in
    sym (ap (λ r. start ++ r) no_arm ∙ append-nil start)

pub push_arms-loop-one-preserved : goal.push_arms-loop-one-preserved
push_arms-loop-one-preserved t c =
    let start = c.args.list.now.items in
    let items = c.deref-one-items.result.now in
    let i = c.loop-one.one-index in
    let item = c.one-item.result in
    c.in_ok-push_arm.ensures
    ∙ ap (λ r. r ++ of_arm item) c.loop-one.invariant
    ∙ append_assoc start (arm_marks (arms_said (take i items))) (of_arm item)
    ∙ ap (λ r. start ++ r) (sym (more_arms items i item c.loop-one-test.true c.one-item.is))

pub push_branches-push_branch-requires : goal.push_branches-push_branch-requires
push_branches-push_branch-requires t c = (
  item_falls (size-Branch _ _ _ _) c.deref-one-items.result.now c.args.branches.now.items c.loop-one.one-index
      c.one-item.result t
      c.decreases c.deref-one-items.ensures.value c.loop-one-test.true c.one-item.is,
  tt,
)

pub push_arms-push_arm-requires : goal.push_arms-push_arm-requires
push_arms-push_arm-requires t c = (
  item_falls (size-Arm _ _ _ _) c.deref-one-items.result.now c.args.arms.now.items c.loop-one.one-index
      c.one-item.result t
      c.decreases c.deref-one-items.ensures.value c.loop-one-test.true c.one-item.is,
  tt,
)
