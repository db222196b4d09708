use Rattle.std.proofs.Common.{ap, ◌∙◌, arith}
use Rattle.au_base.proofs.MeasureLemmas.{item_falls, block_item_falls}
use Rattle.au_sights.specs.contracts.noted.NotedPhase.TheImpl.{ghosts as noted}
use Rattle.au_syntax.specs.declared.statements.Arm.{size-Arm}
use Rattle.au_syntax.specs.declared.statements.Block.{size-Block, size_is-Block}
use Rattle.au_syntax.specs.declared.statements.Stmt.{size-Stmt}
use Rattle.au_syntax.specs.Views.{arm_all, branch_all, expression, statement, statement_all}
use Rattle.au_syntax.proofs.StatementLemmas as says
use Rattle.au_closed_trees.specs.contracts.phase.ClosedTreesPhase.TheImpl.{ghosts as closed}
use Rattle.au_closed_trees.specs.Renoted.{arms_renoted, block_renoted, branches_renoted, expression_renoted}
use Rattle.au_closed_trees.specs.Renoted.{statement_renoted}
use Rattle.au_closed_trees.proofs.ClosingLemmas as lemmas
use Rattle.au_closed_trees.proofs.ClosingLemmas.{arm_closed, arms_turn, borrow_closed, borrow_typed_closed}
use Rattle.au_closed_trees.proofs.ClosingLemmas.{branch_closed, branches_turn, for_closed, if_else_closed}
use Rattle.au_closed_trees.proofs.ClosingLemmas.{statements_turn, while_closed}
use Rattle.au_closed_trees.proofs.SnocLemmas.{arms_push, branches_push, one_arm, one_branch, snoc_arms}
use Rattle.au_closed_trees.proofs.SnocLemmas.{snoc_branches, snoc_statements, statements_push}
use Rattle.au_closed_trees.proofs.LoopLemmas.{all_made, made_more}
use Rattle.au_closed_trees.proofs.statements.+close_statement.Goals as goal

pub close_statement-returns-in-Skip : goal.close_statement-returns-in-Skip
close_statement-returns-in-Skip g t c = grind (arith, says.skip_says, lemmas.skip_statement_becomes)

pub close_statement-returns-in_ok-name-in-Let : goal.close_statement-returns-in_ok-name-in-Let
close_statement-returns-in_ok-name-in-Let g t c = grind (arith, says.let_says, lemmas.let_statement_becomes)

pub close_statement-returns-in_ok-close_boxed-in-Destructure :
    goal.close_statement-returns-in_ok-close_boxed-in-Destructure
close_statement-returns-in_ok-close_boxed-in-Destructure g t c =
    grind (arith, says.destructure_says, lemmas.destructure_statement_becomes)

pub close_statement-returns-in_ok-name-in-Assign : goal.close_statement-returns-in_ok-name-in-Assign
close_statement-returns-in_ok-name-in-Assign g t c =
    grind (arith, says.assign_says, lemmas.assign_statement_becomes)

pub close_statement-returns-in_ok-name-in-AssignThrough :
    goal.close_statement-returns-in_ok-name-in-AssignThrough
close_statement-returns-in_ok-name-in-AssignThrough g t c =
    grind (arith, says.assign_through_says, lemmas.assign_through_statement_becomes)

pub close_statement-returns-in_ok-close_branches-in-If :
    goal.close_statement-returns-in_ok-close_branches-in-If
close_statement-returns-in_ok-close_branches-in-If g t c =
    grind (arith, says.if_says, lemmas.if_statement_becomes)

pub close_statement-returns-in_ok-close_arms-in-Case : goal.close_statement-returns-in_ok-close_arms-in-Case
close_statement-returns-in_ok-close_arms-in-Case g t c =
    grind (arith, says.case_says, lemmas.case_statement_becomes)

pub close_statement-returns-in_ok-close_boxed-in-Call : goal.close_statement-returns-in_ok-close_boxed-in-Call
close_statement-returns-in_ok-close_boxed-in-Call g t c =
    grind (arith, says.call_says, lemmas.call_statement_becomes)

pub close_statement-returns-in_ok-close_boxed-in-Return :
    goal.close_statement-returns-in_ok-close_boxed-in-Return
close_statement-returns-in_ok-close_boxed-in-Return g t c =
    grind (arith, says.return_says, lemmas.return_statement_becomes)

pub close_statement-returns-in_ok-close_block-in-IfElse :
    goal.close_statement-returns-in_ok-close_block-in-IfElse
close_statement-returns-in_ok-close_block-in-IfElse g t c =
    if_else_closed (g.R.Closer.change c.args.closer.now) c.args.of.now c.in-IfElse.at c.in-IfElse.branches
    c.in_ok-branches-in-IfElse.branches c.in-IfElse.last c.in_ok-close_block-in-IfElse.field-0 c.in-IfElse.is
    c.in_ok-branches-in-IfElse.ensures c.in_ok-close_block-in-IfElse.ensures

pub close_statement-returns-in_ok-close_block-in-While :
    goal.close_statement-returns-in_ok-close_block-in-While
close_statement-returns-in_ok-close_block-in-While g t c =
    let change = g.R.Closer.change c.args.closer.now in
    while_closed change c.args.of.now c.in-While.at c.in-While.test c.in_ok-test-in-While.test c.in-While.body
    c.in_ok-close_block-in-While.field-0 c.in-While.is
    (c.in_ok-test-in-While.ensures
    ∙ ap (λ e. expression_renoted change (expression noted e)) c.deref-in-While.ensures)
    c.in_ok-close_block-in-While.ensures

pub close_statement-returns-in_ok-close_block-in-For : goal.close_statement-returns-in_ok-close_block-in-For
close_statement-returns-in_ok-close_block-in-For g t c =
    let change = g.R.Closer.change c.args.closer.now in
    for_closed change c.args.of.now c.in-For.at c.in-For.name c.in_ok-name-in-For.name c.in-For.from
    c.in_ok-name-in-For.from c.in-For.to c.in_ok-name-in-For.to c.in-For.body
    c.in_ok-close_block-in-For.field-0 c.in-For.is c.in_ok-name-in-For.ensures.name
    (c.in_ok-name-in-For.ensures.from
    ∙ ap (λ e. expression_renoted change (expression noted e)) c.deref-in-For.ensures)
    (c.in_ok-name-in-For.ensures.to
    ∙ ap (λ e. expression_renoted change (expression noted e)) c.deref-in-For-2.ensures)
    c.in_ok-close_block-in-For.ensures

pub close_statement-returns-in_ok-body-in-Borrow : goal.close_statement-returns-in_ok-body-in-Borrow
close_statement-returns-in_ok-body-in-Borrow g t c =
    borrow_closed (g.R.Closer.change c.args.closer.now) c.args.of.now c.in-Borrow.at c.in-Borrow.access
    c.in-Borrow.names c.in_ok-names-in-Borrow.names c.in-Borrow.body c.in_ok-body-in-Borrow.body
    c.in-Borrow.end c.in-Borrow.is c.in_ok-names-in-Borrow.ensures.variable
    c.in_ok-names-in-Borrow.ensures.reference c.in_ok-names-in-Borrow.ensures.region
    c.in_ok-body-in-Borrow.ensures

pub close_statement-returns-in_ok-body-in-BorrowTyped : goal.close_statement-returns-in_ok-body-in-BorrowTyped
close_statement-returns-in_ok-body-in-BorrowTyped g t c =
    borrow_typed_closed (g.R.Closer.change c.args.closer.now) c.args.of.now c.in-BorrowTyped.at
    c.in-BorrowTyped.name c.in_ok-name-in-BorrowTyped.name c.in-BorrowTyped.text
    c.in_ok-name-in-BorrowTyped.text c.in-BorrowTyped.mode c.in-BorrowTyped.variable
    c.in_ok-name-in-BorrowTyped.variable c.in-BorrowTyped.body
    c.in_ok-body-in-BorrowTyped.body c.in-BorrowTyped.end c.in-BorrowTyped.is
    c.in_ok-name-in-BorrowTyped.ensures.name c.in_ok-name-in-BorrowTyped.ensures.text
    c.in_ok-name-in-BorrowTyped.ensures.of c.in_ok-body-in-BorrowTyped.ensures

pub close_block-loop-one-preserved : goal.close_block-loop-one-preserved
close_block-loop-one-preserved g t c =
    let change = g.R.Closer.change c.args.closer.now in
    made_more (statement_all closed) snoc_statements (statement closed) (statement_all noted) snoc_statements
    (statement noted) (block_renoted change) (statement_renoted change) (statements_push closed)
    (statements_push noted) (statements_turn change) c.loop-one.statements.items c.push.new.self.items
    c.deref-one-items.result.now c.loop-one.one-index c.one-item.result c.in_ok-made.made c.loop-one.invariant
    c.loop-one-test.true c.one-item.is c.in_ok-push.ensures.items c.in_ok-made.ensures

pub close_block-returns : goal.close_block-returns
close_block-returns g t c =
    all_made (block_renoted (g.R.Closer.change c.args.closer.now)) (statement_all noted)
    (statement_all closed c.loop-one.statements.items) c.deref-one-items.result.now
    c.args.of.now.statements.items c.loop-one.one-index c.loop-one.invariant c.deref-one-items.ensures.value
    c.loop-one-test.false

pub close_branches-loop-one-preserved : goal.close_branches-loop-one-preserved
close_branches-loop-one-preserved g t c =
    let change = g.R.Closer.change c.args.closer.now in
    made_more (branch_all closed) snoc_branches (one_branch closed) (branch_all noted) snoc_branches
    (one_branch noted) (branches_renoted change) (branches_renoted change) (branches_push closed)
    (branches_push noted) (branches_turn change) c.loop-one.made.items c.push.new.self.items
    c.deref-one-items.result.now c.loop-one.one-index c.one-item.result c.in_ok-new.new c.loop-one.invariant
    c.loop-one-test.true c.one-item.is c.in_ok-push.ensures.items
    (branch_closed change c.in_ok-new.new c.one-item.result c.in_ok-new.ensures.test
    c.in_ok-new.ensures.block)

pub close_branches-returns : goal.close_branches-returns
close_branches-returns g t c =
    all_made (branches_renoted (g.R.Closer.change c.args.closer.now)) (branch_all noted)
    (branch_all closed c.loop-one.made.items) c.deref-one-items.result.now c.args.branches.now.items
    c.loop-one.one-index c.loop-one.invariant c.deref-one-items.ensures.value c.loop-one-test.false

pub close_arms-loop-one-preserved : goal.close_arms-loop-one-preserved
close_arms-loop-one-preserved g t c =
    let change = g.R.Closer.change c.args.closer.now in
    made_more (arm_all closed) snoc_arms (one_arm closed) (arm_all noted) snoc_arms (one_arm noted)
    (arms_renoted change) (arms_renoted change) (arms_push closed) (arms_push noted) (arms_turn change)
    c.loop-one.made.items c.push.new.self.items c.deref-one-items.result.now c.loop-one.one-index
    c.one-item.result c.in_ok-new.new c.loop-one.invariant c.loop-one-test.true c.one-item.is
    c.in_ok-push.ensures.items
    (arm_closed change c.in_ok-new.new c.one-item.result c.in_ok-new.ensures.at c.in_ok-new.ensures.case
    c.in_ok-new.ensures.binds c.in_ok-new.ensures.block)

pub close_arms-returns : goal.close_arms-returns
close_arms-returns g t c =
    all_made (arms_renoted (g.R.Closer.change c.args.closer.now)) (arm_all noted)
    (arm_all closed c.loop-one.made.items) c.deref-one-items.result.now c.args.arms.now.items
    c.loop-one.one-index c.loop-one.invariant c.deref-one-items.ensures.value c.loop-one-test.false

pub close_arms-close_arm-requires : goal.close_arms-close_arm-requires
close_arms-close_arm-requires g t c κs within = (
  item_falls 2 0 1 (omega arith) (size-Arm _ _ _ _) c.deref-one-items.result.now c.args.arms.now.items
      c.loop-one.one-index c.one-item.result t c.decreases c.deref-one-items.ensures.value
      c.loop-one-test.true c.one-item.is,
  within,
)

pub close_block-close_statement-requires : goal.close_block-close_statement-requires
close_block-close_statement-requires g t c κs within = (
  block_item_falls (size-Stmt _ _ _ _) c.deref-one-items.result.now c.args.of.now.statements.items
      c.loop-one.one-index c.one-item.result (size-Block _ _ _ _ c.args.of.now) t c.decreases
      (size_is-Block _ _ _ _ c.args.of.now) c.deref-one-items.ensures.value c.loop-one-test.true
      c.one-item.is,
  within,
)
