use Rattle.std.proofs.Common.{◌++◌, sym, arith}
use Rattle.std.proofs.lemmas.Grind.{common_steps}
use Rattle.std.proofs.lemmas.List.{append-nil}
use Rattle.au_sights.specs.contracts.noted.NotedPhase.TheImpl.{ghosts as noted}
use Rattle.au_syntax.specs.Views.{arm_all, block, branch_all, expression, statement, statement_all}
use Rattle.au_closed_trees.proofs.LoopLemmas.{alone_behind, found_more}
use Rattle.au_closed_trees.proofs.SnocLemmas.{arms_push, branches_push, one_arm, one_branch, snoc_arms}
use Rattle.au_closed_trees.proofs.SnocLemmas.{snoc_branches, snoc_statements, statements_push}
use Rattle.au_caps_lists.specs.Holding.{handed_by, handed_by_arms, handed_by_block, handed_by_branches}
use Rattle.au_caps_lists.specs.Holding.{handed_in}
use Rattle.au_caps_lists.specs.Views.{mentions_said}
use Rattle.au_caps_lists.proofs.HandLemmas as lemmas
use Rattle.au_caps_lists.proofs.HandLemmas.{arms_hand, branches_hand, statements_hand}
use Rattle.au_caps_lists.proofs.handing.+push_statement.Goals as goal

pub push_statement-returns-in-Skip : goal.push_statement-returns-in-Skip
push_statement-returns-in-Skip t c = grind (arith, common_steps, lemmas.skip_hands_on)

pub push_statement-returns-in-Let : goal.push_statement-returns-in-Let
push_statement-returns-in-Let t c = grind (arith, lemmas.let_hands_on)

pub push_statement-returns-in-Destructure : goal.push_statement-returns-in-Destructure
push_statement-returns-in-Destructure t c = grind (arith, lemmas.destructure_hands_on)

pub push_statement-returns-in-Assign : goal.push_statement-returns-in-Assign
push_statement-returns-in-Assign t c = grind (arith, lemmas.assign_hands_on)

pub push_statement-returns-in-AssignThrough : goal.push_statement-returns-in-AssignThrough
push_statement-returns-in-AssignThrough t c = grind (arith, lemmas.assign_through_hands_on)

pub push_statement-returns-in-If : goal.push_statement-returns-in-If
push_statement-returns-in-If t c = grind (arith, lemmas.if_hands_on)

pub push_statement-returns-in-Borrow : goal.push_statement-returns-in-Borrow
push_statement-returns-in-Borrow t c = grind (arith, lemmas.borrow_hands_on)

pub push_statement-returns-in-BorrowTyped : goal.push_statement-returns-in-BorrowTyped
push_statement-returns-in-BorrowTyped t c = grind (arith, lemmas.borrow_typed_hands_on)

pub push_statement-returns-in-Call : goal.push_statement-returns-in-Call
push_statement-returns-in-Call t c = grind (arith, lemmas.call_hands_on)

pub push_statement-returns-in-Return : goal.push_statement-returns-in-Return
push_statement-returns-in-Return t c = grind (arith, lemmas.return_hands_on)

pub push_statement-returns-in_ok-push_branches-in-IfElse :
    goal.push_statement-returns-in_ok-push_branches-in-IfElse
push_statement-returns-in_ok-push_branches-in-IfElse t c =
    grind (arith, common_steps, lemmas.if_else_hands_on)

pub push_statement-returns-in_ok-push_expression-in-Case :
    goal.push_statement-returns-in_ok-push_expression-in-Case
push_statement-returns-in_ok-push_expression-in-Case t c =
    grind (arith, common_steps, lemmas.case_hands_on)

pub push_statement-returns-in_ok-push_expression-in-While :
    goal.push_statement-returns-in_ok-push_expression-in-While
push_statement-returns-in_ok-push_expression-in-While t c =
    grind (arith, common_steps, lemmas.while_hands_on)

pub push_statement-returns-in_ok-push_expression-in-For-2 : goal.push_statement-returns-in_ok-push_expression-in-For-2
push_statement-returns-in_ok-push_expression-in-For-2 t c =
    grind (arith, common_steps, lemmas.for_hands_on)

pub push_block-loop-one-init : goal.push_block-loop-one-init
push_block-loop-one-init t c = sym (append-nil (mentions_said c.args.made.now.items))

pub push_block-loop-one-preserved : goal.push_block-loop-one-preserved
push_block-loop-one-preserved t c =
    found_more (statement_all noted) snoc_statements (statement noted) handed_by_block handed_by
    (statements_push noted) statements_hand
    (mentions_said c.args.made.now.items) _ _ c.deref-one-items.result.now c.loop-one.one-index
    c.one-item.result c.loop-one.invariant c.loop-one-test.true c.one-item.is
    c.in_ok-push_statement.ensures

pub push_branches-loop-one-init : goal.push_branches-loop-one-init
push_branches-loop-one-init t c = sym (append-nil (mentions_said c.args.made.now.items))

pub push_branches-loop-one-preserved : goal.push_branches-loop-one-preserved
push_branches-loop-one-preserved t c =
    found_more (branch_all noted) snoc_branches (one_branch noted) handed_by_branches handed_by_branches
    (branches_push noted) branches_hand
    (mentions_said c.args.made.now.items) _ _ c.deref-one-items.result.now c.loop-one.one-index
    c.one-item.result c.loop-one.invariant c.loop-one-test.true c.one-item.is
    (alone_behind (mentions_said c.loop-one.made.items)
    (handed_in (expression noted c.one-item.result.test.value)
    ++ handed_by_block (block noted c.one-item.result.block)) _ c.in_ok-push_branch.ensures)

pub push_arms-loop-one-init : goal.push_arms-loop-one-init
push_arms-loop-one-init t c = sym (append-nil (mentions_said c.args.made.now.items))

pub push_arms-loop-one-preserved : goal.push_arms-loop-one-preserved
push_arms-loop-one-preserved t c =
    found_more (arm_all noted) snoc_arms (one_arm noted) handed_by_arms handed_by_arms
    (arms_push noted) arms_hand
    (mentions_said c.args.made.now.items) _ _ c.deref-one-items.result.now c.loop-one.one-index
    c.one-item.result c.loop-one.invariant c.loop-one-test.true c.one-item.is
    (alone_behind (mentions_said c.loop-one.made.items)
    (handed_by_block (block noted c.one-item.result.block)) _ c.in_ok-push_arm.ensures)
