use Rattle.std.proofs.Common.{◌++◌, map, sym, arith}
use Rattle.std.proofs.lemmas.Grind.{common_steps}
use Rattle.std.proofs.lemmas.List.{append-nil}
use Rattle.au_sights.specs.contracts.noted.NotedPhase.TheImpl.{ghosts as noted}
use Rattle.au_syntax.specs.Views.{arm_all, block, branch_all, expression, statement, statement_all}
use Rattle.au_closed_trees.specs.Calls.{calls_in, calls_in_arms, calls_in_block, calls_in_branches, calls_in_statement}
use Rattle.au_closed_trees.proofs.CallLemmas as lemmas
use Rattle.au_closed_trees.proofs.CallLemmas.{arms_lead, branches_lead, statements_lead}
use Rattle.au_closed_trees.proofs.SnocLemmas.{arms_push, branches_push, one_arm, one_branch, snoc_arms}
use Rattle.au_closed_trees.proofs.SnocLemmas.{snoc_branches, snoc_statements, statements_push}
use Rattle.au_closed_trees.proofs.LoopLemmas.{alone_behind, found_more}
use Rattle.au_closed_trees.proofs.calls.+add_statement.Goals as goal

pub add_statement-returns-in-Skip : goal.add_statement-returns-in-Skip
add_statement-returns-in-Skip g t c = grind (arith, common_steps, lemmas.skip_statement_calls)

pub add_statement-returns-in-Let : goal.add_statement-returns-in-Let
add_statement-returns-in-Let g t c = grind (arith, lemmas.let_statement_calls)

pub add_statement-returns-in-Destructure : goal.add_statement-returns-in-Destructure
add_statement-returns-in-Destructure g t c = grind (arith, lemmas.destructure_statement_calls)

pub add_statement-returns-in-Assign : goal.add_statement-returns-in-Assign
add_statement-returns-in-Assign g t c = grind (arith, lemmas.assign_statement_calls)

pub add_statement-returns-in-AssignThrough : goal.add_statement-returns-in-AssignThrough
add_statement-returns-in-AssignThrough g t c = grind (arith, lemmas.assign_through_statement_calls)

pub add_statement-returns-in-If : goal.add_statement-returns-in-If
add_statement-returns-in-If g t c = grind (arith, lemmas.if_statement_calls)

pub add_statement-returns-in-Borrow : goal.add_statement-returns-in-Borrow
add_statement-returns-in-Borrow g t c = grind (arith, lemmas.borrow_statement_calls)

pub add_statement-returns-in-BorrowTyped : goal.add_statement-returns-in-BorrowTyped
add_statement-returns-in-BorrowTyped g t c = grind (arith, lemmas.borrow_typed_statement_calls)

pub add_statement-returns-in-Call : goal.add_statement-returns-in-Call
add_statement-returns-in-Call g t c = grind (arith, lemmas.call_statement_calls)

pub add_statement-returns-in-Return : goal.add_statement-returns-in-Return
add_statement-returns-in-Return g t c = grind (arith, lemmas.return_statement_calls)

pub add_statement-returns-in_ok-add_branches-in-IfElse :
    goal.add_statement-returns-in_ok-add_branches-in-IfElse
add_statement-returns-in_ok-add_branches-in-IfElse g t c =
    grind (arith, common_steps, lemmas.if_else_statement_calls)

pub add_statement-returns-in_ok-add_expression-in-Case :
    goal.add_statement-returns-in_ok-add_expression-in-Case
add_statement-returns-in_ok-add_expression-in-Case g t c =
    grind (arith, common_steps, lemmas.case_statement_calls)

pub add_statement-returns-in_ok-add_expression-in-While :
    goal.add_statement-returns-in_ok-add_expression-in-While
add_statement-returns-in_ok-add_expression-in-While g t c =
    grind (arith, common_steps, lemmas.while_statement_calls)

pub add_block-loop-one-init : goal.add_block-loop-one-init
add_block-loop-one-init g t c = sym (append-nil (map g.R.Finder.see c.args.found.now.items))

pub add_block-loop-one-preserved : goal.add_block-loop-one-preserved
add_block-loop-one-preserved g t c =
    let leads = g.R.Finder.leads c.args.finder.now in
    found_more (statement_all noted) snoc_statements (statement noted)
    (calls_in_block leads) (calls_in_statement leads) (statements_push noted) (statements_lead leads)
    (map g.R.Finder.see c.args.found.now.items) _ _ c.deref-one-items.result.now c.loop-one.one-index
    c.one-item.result c.loop-one.invariant c.loop-one-test.true c.one-item.is c.in_ok-add_statement.ensures

pub add_branches-loop-one-init : goal.add_branches-loop-one-init
add_branches-loop-one-init g t c = sym (append-nil (map g.R.Finder.see c.args.found.now.items))

pub add_branches-loop-one-preserved : goal.add_branches-loop-one-preserved
add_branches-loop-one-preserved g t c =
    let leads = g.R.Finder.leads c.args.finder.now in
    found_more (branch_all noted) snoc_branches (one_branch noted)
    (calls_in_branches leads) (calls_in_branches leads) (branches_push noted) (branches_lead leads)
    (map g.R.Finder.see c.args.found.now.items) _ _ c.deref-one-items.result.now c.loop-one.one-index
    c.one-item.result c.loop-one.invariant c.loop-one-test.true c.one-item.is
    (alone_behind (map g.R.Finder.see c.loop-one.found.items)
    (calls_in leads (expression noted c.one-item.result.test.value)
    ++ calls_in_block leads (block noted c.one-item.result.block)) _ c.in_ok-add_branch.ensures)

pub add_arms-loop-one-init : goal.add_arms-loop-one-init
add_arms-loop-one-init g t c = sym (append-nil (map g.R.Finder.see c.args.found.now.items))

pub add_arms-loop-one-preserved : goal.add_arms-loop-one-preserved
add_arms-loop-one-preserved g t c =
    let leads = g.R.Finder.leads c.args.finder.now in
    found_more (arm_all noted) snoc_arms (one_arm noted)
    (calls_in_arms leads) (calls_in_arms leads) (arms_push noted) (arms_lead leads)
    (map g.R.Finder.see c.args.found.now.items) _ _ c.deref-one-items.result.now c.loop-one.one-index
    c.one-item.result c.loop-one.invariant c.loop-one-test.true c.one-item.is
    (alone_behind (map g.R.Finder.see c.loop-one.found.items)
    (calls_in_block leads (block noted c.one-item.result.block)) _ c.in_ok-add_arm.ensures)

pub add_statement-returns-in_ok-add_expression-in-For-2 : goal.add_statement-returns-in_ok-add_expression-in-For-2
add_statement-returns-in_ok-add_expression-in-For-2 g t c =
    grind (arith, common_steps, lemmas.for_statement_calls)
