use Rattle.std.proofs.Common.{◌++◌, map, sym, arith}
use Rattle.std.proofs.lemmas.Grind.{common_steps}
use Rattle.std.proofs.lemmas.List.{append-nil}
use Rattle.au_sights.specs.contracts.noted.NotedPhase.TheImpl.{ghosts as noted}
use Rattle.au_syntax.specs.Views.{arm_all, block, bound, branch_all, statement, statement_all}
use Rattle.au_types.specs.WrittenViews.{sense_in}
use Rattle.au_closed_trees.proofs.LoopLemmas.{alone_behind, found_more}
use Rattle.au_closed_trees.proofs.SnocLemmas.{arms_push, branches_push, one_arm, one_branch, snoc_arms}
use Rattle.au_closed_trees.proofs.SnocLemmas.{snoc_branches, snoc_statements, statements_push}
use Rattle.au_caps_lists.specs.Holding.{held_in, held_in_arms, held_in_block, held_in_branches}
use Rattle.au_caps_lists.specs.Mentions.{bind_mentions}
use Rattle.au_caps_lists.specs.Views.{mentions_said}
use Rattle.au_caps_lists.proofs.HoldLemmas as lemmas
use Rattle.au_caps_lists.proofs.HoldLemmas.{arms_hold, branches_hold, statements_hold}
use Rattle.au_caps_lists.proofs.holding.+push_statement.Goals as goal

pub push_statement-returns-in-Skip : goal.push_statement-returns-in-Skip
push_statement-returns-in-Skip t c = grind (arith, common_steps, lemmas.skip_holds)

pub push_statement-returns-in-Let : goal.push_statement-returns-in-Let
push_statement-returns-in-Let t c = grind (arith, lemmas.let_holds)

pub push_statement-returns-in-Destructure : goal.push_statement-returns-in-Destructure
push_statement-returns-in-Destructure t c = grind (arith, lemmas.destructure_holds)

pub push_statement-returns-in-Assign : goal.push_statement-returns-in-Assign
push_statement-returns-in-Assign t c = grind (arith, common_steps, lemmas.assign_holds)

pub push_statement-returns-in-AssignThrough : goal.push_statement-returns-in-AssignThrough
push_statement-returns-in-AssignThrough t c = grind (arith, common_steps, lemmas.assign_through_holds)

pub push_statement-returns-in-If : goal.push_statement-returns-in-If
push_statement-returns-in-If t c = grind (arith, lemmas.if_holds)

pub push_statement-returns-in-Borrow : goal.push_statement-returns-in-Borrow
push_statement-returns-in-Borrow t c = grind (arith, lemmas.borrow_holds)

pub push_statement-returns-in_ok-push_written-in-BorrowTyped :
    goal.push_statement-returns-in_ok-push_written-in-BorrowTyped
push_statement-returns-in_ok-push_written-in-BorrowTyped t c =
    grind (arith, common_steps, lemmas.borrow_typed_holds)

pub push_statement-returns-in-Call : goal.push_statement-returns-in-Call
push_statement-returns-in-Call t c = grind (arith, common_steps, lemmas.call_holds)

pub push_statement-returns-in-Return : goal.push_statement-returns-in-Return
push_statement-returns-in-Return t c = grind (arith, common_steps, lemmas.return_holds)

pub push_statement-returns-in_ok-push_branches-in-IfElse :
    goal.push_statement-returns-in_ok-push_branches-in-IfElse
push_statement-returns-in_ok-push_branches-in-IfElse t c =
    grind (arith, common_steps, lemmas.if_else_holds)

pub push_statement-returns-in-Case : goal.push_statement-returns-in-Case
push_statement-returns-in-Case t c = grind (arith, lemmas.case_holds)

pub push_statement-returns-in-While : goal.push_statement-returns-in-While
push_statement-returns-in-While t c = grind (arith, lemmas.while_holds)

pub push_statement-returns-in-For : goal.push_statement-returns-in-For
push_statement-returns-in-For t c = grind (arith, lemmas.for_holds)

pub push_block-loop-one-init : goal.push_block-loop-one-init
push_block-loop-one-init t c = sym (append-nil (mentions_said c.args.made.now.items))

pub push_block-loop-one-preserved : goal.push_block-loop-one-preserved
push_block-loop-one-preserved t c =
    let sense = sense_in c.args.scope.now in
    found_more (statement_all noted) snoc_statements (statement noted) (held_in_block sense) (held_in sense)
    (statements_push noted) (statements_hold sense)
    (mentions_said c.args.made.now.items) _ _ c.deref-one-items.result.now c.loop-one.one-index
    c.one-item.result c.loop-one.invariant c.loop-one-test.true c.one-item.is
    c.in_ok-push_statement.ensures

pub push_branches-loop-one-init : goal.push_branches-loop-one-init
push_branches-loop-one-init t c = sym (append-nil (mentions_said c.args.made.now.items))

pub push_branches-loop-one-preserved : goal.push_branches-loop-one-preserved
push_branches-loop-one-preserved t c =
    let sense = sense_in c.args.scope.now in
    found_more (branch_all noted) snoc_branches (one_branch noted) (held_in_branches sense)
    (held_in_branches sense) (branches_push noted) (branches_hold sense)
    (mentions_said c.args.made.now.items) _ _ c.deref-one-items.result.now c.loop-one.one-index
    c.one-item.result c.loop-one.invariant c.loop-one-test.true c.one-item.is
    (alone_behind (mentions_said c.loop-one.made.items)
    (held_in_block sense (block noted c.one-item.result.block)) _ c.in_ok-push_branch.ensures)

pub push_arms-loop-one-init : goal.push_arms-loop-one-init
push_arms-loop-one-init t c = sym (append-nil (mentions_said c.args.made.now.items))

pub push_arms-loop-one-preserved : goal.push_arms-loop-one-preserved
push_arms-loop-one-preserved t c =
    let sense = sense_in c.args.scope.now in
    found_more (arm_all noted) snoc_arms (one_arm noted) (held_in_arms sense) (held_in_arms sense)
    (arms_push noted) (arms_hold sense)
    (mentions_said c.args.made.now.items) _ _ c.deref-one-items.result.now c.loop-one.one-index
    c.one-item.result c.loop-one.invariant c.loop-one-test.true c.one-item.is
    (alone_behind (mentions_said c.loop-one.made.items)
    (bind_mentions sense (map (bound noted) c.one-item.result.binds.items)
    ++ held_in_block sense (block noted c.one-item.result.block)) _ c.in_ok-push_arm.ensures)
