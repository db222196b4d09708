use Rattle.std.proofs.Common.{arith}
use Rattle.au_base.proofs.MeasureLemmas.{item_falls, block_item_falls}
use Rattle.au_syntax.specs.declared.statements.Arm.{size-Arm}
use Rattle.au_syntax.specs.declared.statements.Branch.{size-Branch}
use Rattle.au_syntax.specs.declared.statements.Stmt.{size-Stmt}
use Rattle.au_syntax.specs.declared.statements.Block.{size-Block, size_is-Block}
use Rattle.au_syntax.specs.Views.{statement, statement_all, branch_all, arm_all}
use Rattle.au_syntax.proofs.StatementLemmas.{snoc_statements, snoc_branches, snoc_arms, statements_push}
use Rattle.au_syntax.proofs.StatementLemmas.{branches_push, arms_push, one_branch, one_arm, let_says}
use Rattle.au_syntax.proofs.StatementLemmas.{assign_says, assign_through_says, if_says}
use Rattle.au_syntax.proofs.StatementLemmas.{case_says, call_says, return_says}
use Rattle.au_mapping.specs.Seen.{before, after}
use Rattle.au_mapping.proofs.WalkLemmas.{all_walked, walked_more}
use Rattle.au_mapping.proofs.BlockLemmas.{skip_walked, destructure_walked}
use Rattle.au_mapping.proofs.BlockLemmas.{branch_walked, arm_walked, if_else_walked, while_walked}
use Rattle.au_mapping.proofs.BlockLemmas.{for_walked, borrow_walked, borrow_typed_walked}
use Rattle.au_mapping.proofs.statements.+walked_statement.Goals as goal

pub walked_statement-returns-in_ok-name-in-Let : goal.walked_statement-returns-in_ok-name-in-Let
walked_statement-returns-in_ok-name-in-Let g t c = grind (arith, let_says)

pub walked_statement-returns-in-Skip : goal.walked_statement-returns-in-Skip
walked_statement-returns-in-Skip g t c =
    skip_walked g.W.Walk c.args.of.now c.in-Skip.at c.in-Skip.is

pub walked_statement-returns-in_ok-binds-in-Destructure :
    goal.walked_statement-returns-in_ok-binds-in-Destructure
walked_statement-returns-in_ok-binds-in-Destructure g t c =
    destructure_walked g.W.Walk c.args.of.now c.in-Destructure.at
    c.in-Destructure.binds c.in_ok-binds-in-Destructure.binds
    c.in-Destructure.value c.in_ok-binds-in-Destructure.value
    c.in-Destructure.is c.in_ok-binds-in-Destructure.ensures.first
    c.in_ok-binds-in-Destructure.ensures.second

pub walked_statement-returns-in_ok-name-in-Assign : goal.walked_statement-returns-in_ok-name-in-Assign
walked_statement-returns-in_ok-name-in-Assign g t c = grind (arith, assign_says)

pub walked_statement-returns-in_ok-name-in-AssignThrough :
    goal.walked_statement-returns-in_ok-name-in-AssignThrough
walked_statement-returns-in_ok-name-in-AssignThrough g t c = grind (arith, assign_through_says)

pub walked_statement-returns-in_ok-walked_branches-in-If :
    goal.walked_statement-returns-in_ok-walked_branches-in-If
walked_statement-returns-in_ok-walked_branches-in-If g t c = grind (arith, if_says)

pub walked_statement-returns-in_ok-walked_block-in-IfElse :
    goal.walked_statement-returns-in_ok-walked_block-in-IfElse
walked_statement-returns-in_ok-walked_block-in-IfElse g t c =
    if_else_walked g.W.Walk c.args.of.now c.in-IfElse.at
    c.in-IfElse.branches c.in_ok-branches-in-IfElse.branches
    c.in-IfElse.last c.in_ok-walked_block-in-IfElse.field-0
    c.in-IfElse.is c.in_ok-branches-in-IfElse.ensures c.in_ok-walked_block-in-IfElse.ensures

pub walked_statement-returns-in_ok-walked_arms-in-Case :
    goal.walked_statement-returns-in_ok-walked_arms-in-Case
walked_statement-returns-in_ok-walked_arms-in-Case g t c = grind (arith, case_says)

pub walked_statement-returns-in-While : goal.walked_statement-returns-in-While
walked_statement-returns-in-While g t c = rw c.in-While.is c.walked_while.ensures

pub walked_statement-returns-in-For : goal.walked_statement-returns-in-For
walked_statement-returns-in-For g t c = rw c.in-For.is c.walked_for.ensures

pub walked_statement-returns-in-Borrow : goal.walked_statement-returns-in-Borrow
walked_statement-returns-in-Borrow g t c = rw c.in-Borrow.is c.walked_borrow.ensures

pub walked_statement-returns-in-BorrowTyped : goal.walked_statement-returns-in-BorrowTyped
walked_statement-returns-in-BorrowTyped g t c = rw c.in-BorrowTyped.is c.walked_borrow_typed.ensures

pub walked_statement-returns-in_ok-walked-in-Call : goal.walked_statement-returns-in_ok-walked-in-Call
walked_statement-returns-in_ok-walked-in-Call g t c = grind (arith, call_says)

pub walked_statement-returns-in_ok-walked-in-Return : goal.walked_statement-returns-in_ok-walked-in-Return
walked_statement-returns-in_ok-walked-in-Return g t c = grind (arith, return_says)

pub walked_while-returns : goal.walked_while-returns
walked_while-returns g t c =
    while_walked g.W.Walk c.args.at c.args.test.now c.in_ok-test.test
    c.args.body.now c.in_ok-body.body c.in_ok-test.ensures c.in_ok-body.ensures

pub walked_for-returns : goal.walked_for-returns
walked_for-returns g t c =
    for_walked g.W.Walk c.args.at c.args.name.now c.in_ok-name.name
    c.args.from.now c.in_ok-name.from c.args.to.now c.in_ok-name.to c.args.body.now c.in_ok-body.body
    c.in_ok-name.ensures.first c.in_ok-name.ensures.second c.in_ok-name.ensures.third c.in_ok-body.ensures

pub walked_borrow-returns : goal.walked_borrow-returns
walked_borrow-returns g t c =
    borrow_walked g.W.Walk c.args.at c.args.access c.args.names.now c.in_ok-names.names
    c.args.body.now c.in_ok-body.body c.args.end c.in_ok-names.ensures.variable
    c.in_ok-names.ensures.reference c.in_ok-names.ensures.region c.in_ok-body.ensures

pub walked_borrow_typed-returns : goal.walked_borrow_typed-returns
walked_borrow_typed-returns g t c =
    borrow_typed_walked g.W.Walk c.args.at c.args.borrow.now.name.now c.in_ok-name.name
    c.args.borrow.now.text.now c.in_ok-name.text c.args.borrow.now.mode c.args.borrow.now.variable.now c.in_ok-name.variable
    c.args.body.now c.in_ok-body.body c.args.end c.in_ok-name.ensures.first c.in_ok-name.ensures.second
    c.in_ok-name.ensures.third c.in_ok-body.ensures

pub walked_block-loop-one-preserved : goal.walked_block-loop-one-preserved
walked_block-loop-one-preserved g t c =
    walked_more (statement_all (after g.W.Walk)) (statement_all (before g.W.Walk)) snoc_statements
    (statement (after g.W.Walk)) (statement (before g.W.Walk))
    (statements_push (after g.W.Walk)) (statements_push (before g.W.Walk))
    c.loop-one.statements.items c.push.new.self.items c.deref-one-items.result.now c.loop-one.one-index
    c.one-item.result c.in_ok-new.new c.loop-one.invariant c.loop-one-test.true c.one-item.is
    c.in_ok-push.ensures.items
    c.in_ok-new.ensures

pub walked_block-returns : goal.walked_block-returns
walked_block-returns g t c =
    all_walked (statement_all (after g.W.Walk)) (statement_all (before g.W.Walk))
    c.loop-one.statements.items
    c.deref-one-items.result.now c.args.of.now.statements.items c.loop-one.one-index c.loop-one.invariant
    c.deref-one-items.ensures.value c.loop-one-test.false

pub walked_branches-loop-one-preserved : goal.walked_branches-loop-one-preserved
walked_branches-loop-one-preserved g t c =
    walked_more (branch_all (after g.W.Walk)) (branch_all (before g.W.Walk)) snoc_branches
    (one_branch (after g.W.Walk)) (one_branch (before g.W.Walk))
    (branches_push (after g.W.Walk)) (branches_push (before g.W.Walk))
    c.loop-one.made.items c.push.new.self.items c.deref-one-items.result.now c.loop-one.one-index
    c.one-item.result c.in_ok-new.new c.loop-one.invariant c.loop-one-test.true c.one-item.is
    c.in_ok-push.ensures.items
    (branch_walked g.W.Walk c.in_ok-new.new c.one-item.result c.in_ok-new.ensures.test
    c.in_ok-new.ensures.block)

pub walked_branches-returns : goal.walked_branches-returns
walked_branches-returns g t c =
    all_walked (branch_all (after g.W.Walk)) (branch_all (before g.W.Walk)) c.loop-one.made.items
    c.deref-one-items.result.now c.args.branches.now.items c.loop-one.one-index c.loop-one.invariant
    c.deref-one-items.ensures.value c.loop-one-test.false

pub walked_arms-loop-one-preserved : goal.walked_arms-loop-one-preserved
walked_arms-loop-one-preserved g t c =
    walked_more (arm_all (after g.W.Walk)) (arm_all (before g.W.Walk)) snoc_arms
    (one_arm (after g.W.Walk)) (one_arm (before g.W.Walk))
    (arms_push (after g.W.Walk)) (arms_push (before g.W.Walk))
    c.loop-one.made.items c.push.new.self.items c.deref-one-items.result.now c.loop-one.one-index
    c.one-item.result c.in_ok-new.new c.loop-one.invariant c.loop-one-test.true c.one-item.is
    c.in_ok-push.ensures.items
    (arm_walked g.W.Walk c.in_ok-new.new c.one-item.result c.in_ok-new.ensures.at
    c.in_ok-new.ensures.case c.in_ok-new.ensures.binds c.in_ok-new.ensures.block)

pub walked_arms-returns : goal.walked_arms-returns
walked_arms-returns g t c =
    all_walked (arm_all (after g.W.Walk)) (arm_all (before g.W.Walk)) c.loop-one.made.items
    c.deref-one-items.result.now c.args.arms.now.items c.loop-one.one-index c.loop-one.invariant
    c.deref-one-items.ensures.value c.loop-one-test.false

pub walked_arms-walked_arm-requires : goal.walked_arms-walked_arm-requires
walked_arms-walked_arm-requires g t c κs within = (
  item_falls 2 0 1 (omega arith) (size-Arm _ _ _ _) c.deref-one-items.result.now
      c.args.arms.now.items c.loop-one.one-index c.one-item.result t c.decreases
      c.deref-one-items.ensures.value c.loop-one-test.true c.one-item.is,
  within,
)

pub walked_block-walked_statement-requires : goal.walked_block-walked_statement-requires
walked_block-walked_statement-requires g t c κs within = (
  block_item_falls (size-Stmt _ _ _ _) c.deref-one-items.result.now c.args.of.now.statements.items
      c.loop-one.one-index c.one-item.result (size-Block _ _ _ _ c.args.of.now) t c.decreases
      (size_is-Block _ _ _ _ c.args.of.now)
      c.deref-one-items.ensures.value c.loop-one-test.true c.one-item.is,
  within,
)

pub walked_branches-walked_branch-requires : goal.walked_branches-walked_branch-requires
walked_branches-walked_branch-requires g t c κs within = (
  item_falls 2 0 1 (omega arith) (size-Branch _ _ _ _) c.deref-one-items.result.now
      c.args.branches.now.items c.loop-one.one-index c.one-item.result t c.decreases
      c.deref-one-items.ensures.value c.loop-one-test.true c.one-item.is,
  within,
)
