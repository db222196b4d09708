use Rattle.std.proofs.Common.{◌++◌, [], refl, arith}
use Rattle.au_closed_trees.specs.contracts.phase.ClosedTreesPhase.TheImpl.{ghosts as closed}
use Rattle.au_type_texts.specs.Same.{same}
use Rattle.au_closed_trees.specs.Types.{types_noted}
use Rattle.au_syntax.specs.Views.{arm_all, block, branch_all, expression, statement, statement_all}
use Rattle.au_closed_trees.specs.Notes.{said_in, said_in_arms, said_in_block, said_in_branches, said_in_statement}
use Rattle.au_closed_trees.proofs.NoteLemmas as lemmas
use Rattle.au_closed_trees.proofs.NoteLemmas.{arms_told, branches_told, statements_told}
use Rattle.au_closed_trees.proofs.SnocLemmas.{arms_push, branches_push, one_arm, one_branch, snoc_arms}
use Rattle.au_closed_trees.proofs.SnocLemmas.{snoc_branches, snoc_statements, statements_push}
use Rattle.au_closed_trees.proofs.LoopLemmas.{added_alone, added_more}
use Rattle.au_graphs.proofs.HasLemmas.{adds_both}
use Rattle.au_closed_trees.proofs.trees.+add_statement.Goals as goal

pub add_statement-returns-in-Skip : goal.add_statement-returns-in-Skip
add_statement-returns-in-Skip t c = grind (arith, adds_both, lemmas.skip_statement_said)

pub add_statement-returns-in-Let : goal.add_statement-returns-in-Let
add_statement-returns-in-Let t c = grind (arith, lemmas.let_statement_said)

pub add_statement-returns-in-Destructure : goal.add_statement-returns-in-Destructure
add_statement-returns-in-Destructure t c = grind (arith, lemmas.destructure_statement_said)

pub add_statement-returns-in-Assign : goal.add_statement-returns-in-Assign
add_statement-returns-in-Assign t c = grind (arith, lemmas.assign_statement_said)

pub add_statement-returns-in-AssignThrough : goal.add_statement-returns-in-AssignThrough
add_statement-returns-in-AssignThrough t c = grind (arith, lemmas.assign_through_statement_said)

pub add_statement-returns-in-If : goal.add_statement-returns-in-If
add_statement-returns-in-If t c = grind (arith, lemmas.if_statement_said)

pub add_statement-returns-in-Borrow : goal.add_statement-returns-in-Borrow
add_statement-returns-in-Borrow t c = grind (arith, lemmas.borrow_statement_said)

pub add_statement-returns-in-BorrowTyped : goal.add_statement-returns-in-BorrowTyped
add_statement-returns-in-BorrowTyped t c = grind (arith, lemmas.borrow_typed_statement_said)

pub add_statement-returns-in-Call : goal.add_statement-returns-in-Call
add_statement-returns-in-Call t c = grind (arith, lemmas.call_statement_said)

pub add_statement-returns-in-Return : goal.add_statement-returns-in-Return
add_statement-returns-in-Return t c = grind (arith, lemmas.return_statement_said)

pub add_statement-returns-in_ok-add_branches-in-IfElse :
    goal.add_statement-returns-in_ok-add_branches-in-IfElse
add_statement-returns-in_ok-add_branches-in-IfElse t c =
    grind (arith, adds_both, lemmas.if_else_statement_said)

pub add_statement-returns-in_ok-add_expression-in-Case :
    goal.add_statement-returns-in_ok-add_expression-in-Case
add_statement-returns-in_ok-add_expression-in-Case t c =
    grind (arith, adds_both, lemmas.case_statement_said)

pub add_statement-returns-in_ok-add_expression-in-While :
    goal.add_statement-returns-in_ok-add_expression-in-While
add_statement-returns-in_ok-add_expression-in-While t c =
    grind (arith, adds_both, lemmas.while_statement_said)

pub add_block-loop-one-init : goal.add_block-loop-one-init
add_block-loop-one-init t c = refl

pub add_block-loop-one-preserved : goal.add_block-loop-one-preserved
add_block-loop-one-preserved t c =
    let said = types_noted [] in
    added_more same (statement_all closed) snoc_statements (statement closed)
    (said_in_block said) (said_in_statement said) (statements_push closed) (statements_told said)
    c.args.found.now _ _ c.deref-one-items.result.now c.loop-one.one-index
    c.one-item.result c.loop-one.invariant c.loop-one-test.true c.one-item.is c.in_ok-add_statement.ensures

pub add_branches-loop-one-init : goal.add_branches-loop-one-init
add_branches-loop-one-init t c = refl

pub add_branches-loop-one-preserved : goal.add_branches-loop-one-preserved
add_branches-loop-one-preserved t c =
    let said = types_noted [] in
    added_more same (branch_all closed) snoc_branches (one_branch closed)
    (said_in_branches said) (said_in_branches said) (branches_push closed) (branches_told said)
    c.args.found.now _ _ c.deref-one-items.result.now c.loop-one.one-index
    c.one-item.result c.loop-one.invariant c.loop-one-test.true c.one-item.is
    (added_alone same c.loop-one.found
    (said_in said (expression closed c.one-item.result.test.value)
    ++ said_in_block said (block closed c.one-item.result.block)) _ c.in_ok-add_branch.ensures)

pub add_arms-loop-one-init : goal.add_arms-loop-one-init
add_arms-loop-one-init t c = refl

pub add_arms-loop-one-preserved : goal.add_arms-loop-one-preserved
add_arms-loop-one-preserved t c =
    let said = types_noted [] in
    added_more same (arm_all closed) snoc_arms (one_arm closed)
    (said_in_arms said) (said_in_arms said) (arms_push closed) (arms_told said)
    c.args.found.now _ _ c.deref-one-items.result.now c.loop-one.one-index
    c.one-item.result c.loop-one.invariant c.loop-one-test.true c.one-item.is
    (added_alone same c.loop-one.found
    (said_in_block said (block closed c.one-item.result.block)) _ c.in_ok-add_arm.ensures)

pub add_statement-returns-in_ok-add_expression-in-For-2 :
    goal.add_statement-returns-in_ok-add_expression-in-For-2
add_statement-returns-in_ok-add_expression-in-For-2 t c =
    grind (arith, adds_both, lemmas.for_statement_said)

pub add_branch-returns : goal.add_branch-returns
add_branch-returns t c = grind (arith, adds_both)
