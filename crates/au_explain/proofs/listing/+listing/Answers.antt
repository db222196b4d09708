use Rattle.std.proofs.Common.{◌≡◌, ℕ, ◌+◌, ◌++◌, List, OnOk, ap, drop, refl, subst, sym, ◌∙◌}
use Rattle.std.specs.Option.{option_map}
use Rattle.au_base.proofs.ListLemmas.{nothing_added}
use Rattle.au_typing.specs.InScope.{after, with_bound}
use Rattle.au_judgements.proofs.LeavingLemmas.{after_grown, grown_left, grown_none, grown_twice}
use Rattle.au_judgements.specs.Leaving.{IsGrown}
use Rattle.au_judgements.specs.Said.{reference_said}
use Rattle.au_explain.specs.Said.{arms_said, binds_said, block_said, branches_said, name_said, statement_said}
use Rattle.au_explain.specs.Said.{statements_said}
use Rattle.au_explain.specs.Variables.{listed, listed_arm, listed_binds, listed_for, listed_in}
use Rattle.au_explain.specs.Variables.{listed_in_arms, listed_in_branches, listed_inside, listed_lent}
use Rattle.au_explain.specs.Variables.{listed_typed, listed_with}
use Rattle.au_explain.proofs.TurnLemmas.{block_turn}
use Rattle.au_explain.proofs.PutLemmas as puts
use Rattle.au_noting.specs.Scopes.{closed_in, scope_said, without}
use Rattle.au_noting_programs.proofs.Depths.{ParsedArm, ParsedBranch, ParsedCode, ParsedStmt}
use Rattle.au_noting_programs.proofs.Forms.{bound_back, left_again, left_to, variable_back}
use Rattle.au_noting_programs.proofs.Turns.{rest_is}
use Rattle.au_typing.specs.Scopes.{Scope}
use Rattle.au_syntax.proofs.StatementLemmas.{skip_says, let_says, destructure_says, assign_says}
use Rattle.au_syntax.proofs.StatementLemmas.{assign_through_says, call_says, return_says, if_says}
use Rattle.au_syntax.proofs.StatementLemmas.{if_else_says, case_says, while_says, for_says, borrow_says}
use Rattle.au_syntax.proofs.StatementLemmas.{borrow_typed_says}
use Rattle.au_syntax.specs.contracts.parsed.ParsedPhase.TheImpl.{ghosts as parsed}
use Rattle.au_syntax.specs.Plain.{PlainStatement}
use Rattle.au_syntax.specs.Statements.{for_loop}
use Rattle.au_syntax.specs.Views.{block, expression, placed, statement}
use Rattle.au_types.specs.Views.{meaning}
use Rattle.au_explain.proofs.listing.+listing.Goals as goal

-- ---- blocks

pub push_block-loop-index-init : goal.push_block-loop-index-init
push_block-loop-index-init t c = record { put = refl; grown = grown_none (scope_said c.args.scope.now) }

pub push_block-loop-index-preserved : goal.push_block-loop-index-preserved
push_block-loop-index-preserved t c =
    let s = statement_said c.stmt-item.result in
    let here = scope_said c.loop-index.scope in
    let next = c.in_ok-go_on.ensures.after ∙ ap (λ (sc : Scope). after s sc) c.in_ok-push_inside.ensures.kept in
    let left = sym (ap (drop (c.loop-index.index + 1))
    (c.deref-stmt-items.ensures.value ∙ sym c.deref.ensures.value)
    ∙ rest_is c.deref.result.now (c.loop-index.index + 1)) in
    record {
      put =
          block_turn c.deref-stmt-items.result.now c.loop-index.index c.stmt-item.result c.stmt-item.is
          c.loop-index-test.true _ here
          (scope_said c.push_inside.new.scope) (scope_said c.go_on.new.scope) c.loop-index.made.items
          c.push_inside.new.made.items c.go_on.new.made.items _
          left c.in_ok-push_inside.ensures.kept c.loop-index.invariant.put c.in_ok-push_inside.ensures.put
          c.in_ok-go_on.ensures.put c.in_ok-go_on.ensures.after;
      grown =
          grown_twice (scope_said c.args.scope.now) here (scope_said c.go_on.new.scope) c.loop-index.invariant.grown
          (subst (IsGrown here) (sym next) (after_grown s here));
    }

pub push_block-returns-clause-put : goal.push_block-returns-clause-put
push_block-returns-clause-put t c =
    puts.items_put (λ (ss : List ParsedStmt). listed_in (statements_said ss) (scope_said c.loop-index.scope))
    c.deref-stmt-items.result.now c.loop-index.index
    c.loop-index-test.false c.loop-index.made.items _ refl c.loop-index.invariant.put
    ∙ ap (λ (ss : List ParsedStmt). c.args.made.now.items
    ++ listed_in (statements_said ss) (scope_said c.args.scope.now)) c.deref-stmt-items.ensures.value

pub push_block-returns-clause-kept : goal.push_block-returns-clause-kept
push_block-returns-clause-kept t c =
    c.leave_to.ensures
    ∙ ap (λ (n : ℕ). left_to n (scope_said c.loop-index.scope)) c.depth-depth.ensures
    ∙ grown_left (scope_said c.args.scope.now) (scope_said c.loop-index.scope) c.loop-index.invariant.grown

pub push_with-returns-clause-put : goal.push_with-returns-clause-put
push_with-returns-clause-put t c =
    puts.then_put c.push_block.result c.args.made.now.items
    (listed (scope_said c.args.scope.now) (name_said c.args.name.now) (block_said c.args.block.now))
    (listed_in (block_said c.args.block.now) (scope_said c.args.scope.now))
    c.push_one.new.made.items c.push_block.new.made.items c.in_ok-push_one.ensures c.push_block.ensures.put

pub push_with-returns-clause-kept : goal.push_with-returns-clause-kept
push_with-returns-clause-kept t c = c.push_block.ensures.kept

-- ---- statements

-- what a statement says decides
says_so : (sc : Scope) (one other : PlainStatement) → one ≡ other → listed_inside one sc ≡ listed_inside other sc
says_so sc one other e = ap (λ (s : PlainStatement). listed_inside s sc) e

pub push_inside-returns-in-Skip-clause-put : goal.push_inside-returns-in-Skip-clause-put
push_inside-returns-in-Skip-clause-put t c =
    nothing_added c.args.made.now.items _
    (says_so (scope_said c.args.scope.now) (statement_said c.args.stmt.now) _
    (ap (statement parsed) c.in-Skip.is ∙ skip_says parsed _))

pub push_inside-returns-in-Skip-clause-kept : goal.push_inside-returns-in-Skip-clause-kept
push_inside-returns-in-Skip-clause-kept t c = refl

pub push_inside-returns-in-Let-clause-put : goal.push_inside-returns-in-Let-clause-put
push_inside-returns-in-Let-clause-put t c =
    nothing_added c.args.made.now.items _
    (says_so (scope_said c.args.scope.now) (statement_said c.args.stmt.now) _
    (ap (statement parsed) c.in-Let.is ∙ let_says parsed _ _ _ _ _))

pub push_inside-returns-in-Let-clause-kept : goal.push_inside-returns-in-Let-clause-kept
push_inside-returns-in-Let-clause-kept t c = refl

pub push_inside-returns-in-Destructure-clause-put : goal.push_inside-returns-in-Destructure-clause-put
push_inside-returns-in-Destructure-clause-put t c =
    nothing_added c.args.made.now.items _
    (says_so (scope_said c.args.scope.now) (statement_said c.args.stmt.now) _
    (ap (statement parsed) c.in-Destructure.is ∙ destructure_says parsed _ _ _))

pub push_inside-returns-in-Destructure-clause-kept : goal.push_inside-returns-in-Destructure-clause-kept
push_inside-returns-in-Destructure-clause-kept t c = refl

pub push_inside-returns-in-Assign-clause-put : goal.push_inside-returns-in-Assign-clause-put
push_inside-returns-in-Assign-clause-put t c =
    nothing_added c.args.made.now.items _
    (says_so (scope_said c.args.scope.now) (statement_said c.args.stmt.now) _
    (ap (statement parsed) c.in-Assign.is ∙ assign_says parsed _ _ _ _))

pub push_inside-returns-in-Assign-clause-kept : goal.push_inside-returns-in-Assign-clause-kept
push_inside-returns-in-Assign-clause-kept t c = refl

pub push_inside-returns-in-AssignThrough-clause-put : goal.push_inside-returns-in-AssignThrough-clause-put
push_inside-returns-in-AssignThrough-clause-put t c =
    nothing_added c.args.made.now.items _
    (says_so (scope_said c.args.scope.now) (statement_said c.args.stmt.now) _
    (ap (statement parsed) c.in-AssignThrough.is ∙ assign_through_says parsed _ _ _ _))

pub push_inside-returns-in-AssignThrough-clause-kept : goal.push_inside-returns-in-AssignThrough-clause-kept
push_inside-returns-in-AssignThrough-clause-kept t c = refl

pub push_inside-returns-in-Call-clause-put : goal.push_inside-returns-in-Call-clause-put
push_inside-returns-in-Call-clause-put t c =
    nothing_added c.args.made.now.items _
    (says_so (scope_said c.args.scope.now) (statement_said c.args.stmt.now) _
    (ap (statement parsed) c.in-Call.is ∙ call_says parsed _ _))

pub push_inside-returns-in-Call-clause-kept : goal.push_inside-returns-in-Call-clause-kept
push_inside-returns-in-Call-clause-kept t c = refl

pub push_inside-returns-in-Return-clause-put : goal.push_inside-returns-in-Return-clause-put
push_inside-returns-in-Return-clause-put t c =
    nothing_added c.args.made.now.items _
    (says_so (scope_said c.args.scope.now) (statement_said c.args.stmt.now) _
    (ap (statement parsed) c.in-Return.is ∙ return_says parsed _ _))

pub push_inside-returns-in-Return-clause-kept : goal.push_inside-returns-in-Return-clause-kept
push_inside-returns-in-Return-clause-kept t c = refl

pub push_inside-returns-in-If-clause-put : goal.push_inside-returns-in-If-clause-put
push_inside-returns-in-If-clause-put t c =
    puts.put_as c.push_branches.result c.args.made.now.items c.push_branches.new.made.items _ _
    (says_so (scope_said c.args.scope.now) (statement_said c.args.stmt.now) _
    (ap (statement parsed) c.in-If.is ∙ if_says parsed _ _))
    c.push_branches.ensures.put

pub push_inside-returns-in-If-clause-kept : goal.push_inside-returns-in-If-clause-kept
push_inside-returns-in-If-clause-kept t c = c.push_branches.ensures.kept

pub push_inside-returns-in-Case-clause-put : goal.push_inside-returns-in-Case-clause-put
push_inside-returns-in-Case-clause-put t c =
    puts.put_as c.push_arms.result c.args.made.now.items c.push_arms.new.made.items _ _
    (says_so (scope_said c.args.scope.now) (statement_said c.args.stmt.now) _
    (ap (statement parsed) c.in-Case.is ∙ case_says parsed _ _ _))
    c.push_arms.ensures.put

pub push_inside-returns-in-Case-clause-kept : goal.push_inside-returns-in-Case-clause-kept
push_inside-returns-in-Case-clause-kept t c = c.push_arms.ensures.kept

pub push_inside-returns-in-While-clause-put : goal.push_inside-returns-in-While-clause-put
push_inside-returns-in-While-clause-put t c =
    puts.put_as c.push_block-in-While.result c.args.made.now.items c.push_block-in-While.new.made.items _ _
    (says_so (scope_said c.args.scope.now) (statement_said c.args.stmt.now) _
    (ap (statement parsed) c.in-While.is ∙ while_says parsed _ _ _))
    c.push_block-in-While.ensures.put

pub push_inside-returns-in-While-clause-kept : goal.push_inside-returns-in-While-clause-kept
push_inside-returns-in-While-clause-kept t c = c.push_block-in-While.ensures.kept

pub push_inside-returns-in-For-clause-put : goal.push_inside-returns-in-For-clause-put
push_inside-returns-in-For-clause-put t c =
    puts.put_as c.push_for.result c.args.made.now.items c.push_for.new.made.items _ _
    (says_so (scope_said c.args.scope.now) (statement_said c.args.stmt.now) _
    (ap (statement parsed) c.in-For.is ∙ for_says parsed _ _ _ _ _
    ∙ ap (λ (e : ParsedCode). for_loop c.in-For.field-0 (placed parsed c.in-For.name) (expression parsed e)
    (expression parsed c.in-For.last.value) (block parsed c.in-For.block)) (sym c.deref.ensures)
    ∙ ap (λ (e : ParsedCode). for_loop c.in-For.field-0 (placed parsed c.in-For.name)
    (expression parsed c.deref.result.now) (expression parsed e) (block parsed c.in-For.block))
    (sym c.deref-in-For.ensures)))
    c.push_for.ensures.put

pub push_inside-returns-in-For-clause-kept : goal.push_inside-returns-in-For-clause-kept
push_inside-returns-in-For-clause-kept t c = c.push_for.ensures.kept

pub push_inside-returns-in-Borrow-clause-put : goal.push_inside-returns-in-Borrow-clause-put
push_inside-returns-in-Borrow-clause-put t c =
    puts.put_as c.push_borrow.result c.args.made.now.items c.push_borrow.new.made.items _ _
    (says_so (scope_said c.args.scope.now) (statement_said c.args.stmt.now) _
    (ap (statement parsed) c.in-Borrow.is ∙ borrow_says parsed _ _ _ _ _))
    c.push_borrow.ensures.put

pub push_inside-returns-in-Borrow-clause-kept : goal.push_inside-returns-in-Borrow-clause-kept
push_inside-returns-in-Borrow-clause-kept t c = c.push_borrow.ensures.kept

pub push_inside-returns-in_ok-found-in-BorrowTyped-clause-put :
    goal.push_inside-returns-in_ok-found-in-BorrowTyped-clause-put
push_inside-returns-in_ok-found-in-BorrowTyped-clause-put t c =
    puts.put_as c.push_typed.result c.args.made.now.items c.push_typed.new.made.items _ _
    (says_so (scope_said c.args.scope.now) (statement_said c.args.stmt.now) _
    (ap (statement parsed) c.in-BorrowTyped.is ∙ borrow_typed_says parsed _ _ _ _ _ _ _)
    ∙ ap (listed_typed (scope_said c.args.scope.now) (name_said c.in-BorrowTyped.name)
    (block_said c.in-BorrowTyped.block)) (sym c.in_ok-found-in-BorrowTyped.ensures))
    c.push_typed.ensures.put

pub push_inside-returns-in_ok-found-in-BorrowTyped-clause-kept :
    goal.push_inside-returns-in_ok-found-in-BorrowTyped-clause-kept
push_inside-returns-in_ok-found-in-BorrowTyped-clause-kept t c = c.push_typed.ensures.kept

pub push_inside-returns-in_ok-push_branches-in-IfElse-clause-put :
    goal.push_inside-returns-in_ok-push_branches-in-IfElse-clause-put
push_inside-returns-in_ok-push_branches-in-IfElse-clause-put t c =
    let sc = scope_said c.args.scope.now in
    let one = listed_in_branches (branches_said c.in-IfElse.branches.items) sc in
    let two = listed_in (block_said c.in-IfElse.last) sc in
    let r = c.push_block.result in
    let made = c.push_branches-in-IfElse.new.made.items in
    let new = c.push_block.new.made.items in
    puts.put_as r c.args.made.now.items new (one ++ two) _
    (says_so sc (statement_said c.args.stmt.now) _ (ap (statement parsed) c.in-IfElse.is ∙ if_else_says parsed _ _ _))
    (puts.then_put r c.args.made.now.items one two made new c.in_ok-push_branches-in-IfElse.ensures.put
    (subst (λ (s : Scope). OnOk r (new ≡ made ++ listed_in (block_said c.in-IfElse.last) s))
    c.in_ok-push_branches-in-IfElse.ensures.kept c.push_block.ensures.put))

pub push_inside-returns-in_ok-push_branches-in-IfElse-clause-kept :
    goal.push_inside-returns-in_ok-push_branches-in-IfElse-clause-kept
push_inside-returns-in_ok-push_branches-in-IfElse-clause-kept t c =
    subst (λ (s : Scope). OnOk c.push_block.result (scope_said c.push_block.new.scope ≡ s))
    c.in_ok-push_branches-in-IfElse.ensures.kept c.push_block.ensures.kept

-- ---- `for` and borrow statements

pub push_counted-returns-clause-put : goal.push_counted-returns-clause-put
push_counted-returns-clause-put t c =
    c.in_ok-push_with.ensures.put
    ∙ ap (λ (s : Scope). c.args.made.now.items ++ listed_with (name_said c.args.name.now)
    (block_said c.args.block.now) s) c.in_ok-declare_fixed.ensures.ok

pub push_counted-returns-clause-kept : goal.push_counted-returns-clause-kept
push_counted-returns-clause-kept t c =
    left_again (scope_said c.args.scope.now) (scope_said c.declare_fixed.new.scope)
    (scope_said c.push_with.new.scope) _ c.depth-depth.result c.depth-depth.ensures
    (variable_back _ (scope_said c.args.scope.now) (scope_said c.declare_fixed.new.scope)
    c.in_ok-declare_fixed.ensures.ok)
    c.in_ok-push_with.ensures.kept c.leave_to.ensures

pub push_lent-returns-clause-put : goal.push_lent-returns-clause-put
push_lent-returns-clause-put t c =
    c.in_ok-push_with.ensures.put
    ∙ ap (λ (s : Scope). c.args.made.now.items ++ listed_with (name_said c.args.name.now)
    (block_said c.args.block.now) s) c.in_ok-enter_reference.ensures

pub push_lent-returns-clause-kept : goal.push_lent-returns-clause-kept
push_lent-returns-clause-kept t c =
    c.leave_reference.ensures ∙ ap (λ (s : Scope). closed_in (without 1 s))
    (c.in_ok-push_with.ensures.kept ∙ c.in_ok-enter_reference.ensures)

pub push_for-returns-in-None-clause-put : goal.push_for-returns-in-None-clause-put
push_for-returns-in-None-clause-put t c =
    nothing_added c.args.made.now.items _
    (ap (listed_for (scope_said c.args.scope.now) (name_said c.args.name.now) (block_said c.args.block.now))
    (sym c.in_ok-found.ensures ∙ ap (option_map meaning) c.in-None.is))

pub push_for-returns-in-None-clause-kept : goal.push_for-returns-in-None-clause-kept
push_for-returns-in-None-clause-kept t c = refl

pub push_for-returns-in-Some-clause-put : goal.push_for-returns-in-Some-clause-put
push_for-returns-in-Some-clause-put t c =
    puts.put_as c.push_counted.result c.args.made.now.items c.push_counted.new.made.items _ _
    (ap (listed_for (scope_said c.args.scope.now) (name_said c.args.name.now) (block_said c.args.block.now))
    (sym c.in_ok-found.ensures ∙ ap (option_map meaning) c.in-Some.is))
    c.push_counted.ensures.put

pub push_for-returns-in-Some-clause-kept : goal.push_for-returns-in-Some-clause-kept
push_for-returns-in-Some-clause-kept t c = c.push_counted.ensures.kept

pub push_borrow-returns-in-None-clause-put : goal.push_borrow-returns-in-None-clause-put
push_borrow-returns-in-None-clause-put t c =
    nothing_added c.args.made.now.items _
    (ap (listed_lent (scope_said c.args.scope.now) (name_said c.args.names.now.reference)
    (name_said c.args.names.now.region).name (block_said c.args.block.now))
    (sym c.in_ok-found.ensures ∙ ap (option_map meaning) c.in-None.is))

pub push_borrow-returns-in-None-clause-kept : goal.push_borrow-returns-in-None-clause-kept
push_borrow-returns-in-None-clause-kept t c = refl

pub push_borrow-returns-in-Some-clause-put : goal.push_borrow-returns-in-Some-clause-put
push_borrow-returns-in-Some-clause-put t c =
    puts.put_as c.push_lent.result c.args.made.now.items c.push_lent.new.made.items _ _
    (ap (listed_lent (scope_said c.args.scope.now) (name_said c.args.names.now.reference)
    (name_said c.args.names.now.region).name (block_said c.args.block.now))
    (sym c.in_ok-found.ensures ∙ ap (option_map meaning) c.in-Some.is))
    c.push_lent.ensures.put

pub push_borrow-returns-in-Some-clause-kept : goal.push_borrow-returns-in-Some-clause-kept
push_borrow-returns-in-Some-clause-kept t c = c.push_lent.ensures.kept

pub push_typed-returns-in-None-clause-put : goal.push_typed-returns-in-None-clause-put
push_typed-returns-in-None-clause-put t c =
    nothing_added c.args.made.now.items _
    (ap (listed_typed (scope_said c.args.scope.now) (name_said c.args.name.now) (block_said c.args.block.now))
    (ap (option_map reference_said) c.in-None.is))

pub push_typed-returns-in-None-clause-kept : goal.push_typed-returns-in-None-clause-kept
push_typed-returns-in-None-clause-kept t c = refl

pub push_typed-returns-in-Some-clause-put : goal.push_typed-returns-in-Some-clause-put
push_typed-returns-in-Some-clause-put t c =
    puts.put_as c.push_lent.result c.args.made.now.items c.push_lent.new.made.items _ _
    (ap (listed_typed (scope_said c.args.scope.now) (name_said c.args.name.now) (block_said c.args.block.now))
    (ap (option_map reference_said) c.in-Some.is))
    c.push_lent.ensures.put

pub push_typed-returns-in-Some-clause-kept : goal.push_typed-returns-in-Some-clause-kept
push_typed-returns-in-Some-clause-kept t c = c.push_lent.ensures.kept

-- ---- branches and arms

pub push_branches-loop-one-init : goal.push_branches-loop-one-init
push_branches-loop-one-init t c = record { put = refl; kept = refl }

pub push_branches-loop-one-preserved : goal.push_branches-loop-one-preserved
push_branches-loop-one-preserved t c =
    let sc = scope_said c.args.scope.now in
    let one = c.one-item.result in
    record {
      put =
          puts.item_put (λ (bs : List ParsedBranch). listed_in_branches (branches_said bs) sc)
          c.deref-one-items.result.now c.loop-one.one-index one c.one-item.is
          c.loop-one-test.true (listed_in (block_said one.block) sc) c.loop-one.made.items
          c.push_branch.new.made.items _ refl c.loop-one.invariant.put
          (c.in_ok-push_branch.ensures.put
          ∙ ap (λ (s : Scope). c.loop-one.made.items ++ listed_in (block_said one.block) s)
          c.loop-one.invariant.kept);
      kept = c.in_ok-push_branch.ensures.kept ∙ c.loop-one.invariant.kept;
    }

pub push_branches-returns-clause-put : goal.push_branches-returns-clause-put
push_branches-returns-clause-put t c =
    let sc = scope_said c.args.scope.now in
    puts.items_put (λ (bs : List ParsedBranch). listed_in_branches (branches_said bs) sc)
    c.deref-one-items.result.now c.loop-one.one-index c.loop-one-test.false
    c.loop-one.made.items _ refl c.loop-one.invariant.put
    ∙ ap (λ (bs : List ParsedBranch). c.args.made.now.items ++ listed_in_branches (branches_said bs) sc)
    c.deref-one-items.ensures.value

pub push_branches-returns-clause-kept : goal.push_branches-returns-clause-kept
push_branches-returns-clause-kept t c = c.loop-one.invariant.kept

pub push_branch-returns-clause-put : goal.push_branch-returns-clause-put
push_branch-returns-clause-put t c = c.push_block.ensures.put

pub push_branch-returns-clause-kept : goal.push_branch-returns-clause-kept
push_branch-returns-clause-kept t c = c.push_block.ensures.kept

pub push_arms-loop-one-init : goal.push_arms-loop-one-init
push_arms-loop-one-init t c = record { put = refl; kept = refl }

pub push_arms-loop-one-preserved : goal.push_arms-loop-one-preserved
push_arms-loop-one-preserved t c =
    let sc = scope_said c.args.scope.now in
    let one = c.one-item.result in
    record {
      put =
          puts.item_put (λ (all : List ParsedArm). listed_in_arms (arms_said all) sc)
          c.deref-one-items.result.now c.loop-one.one-index one c.one-item.is
          c.loop-one-test.true (listed_arm sc (binds_said one.binds.items) (block_said one.block))
          c.loop-one.made.items c.push_arm.new.made.items _ refl c.loop-one.invariant.put
          (c.in_ok-push_arm.ensures.put ∙ ap
          (λ (s : Scope). c.loop-one.made.items ++ listed_arm s (binds_said one.binds.items)
          (block_said one.block)) c.loop-one.invariant.kept);
      kept = c.in_ok-push_arm.ensures.kept ∙ c.loop-one.invariant.kept;
    }

pub push_arms-returns-clause-put : goal.push_arms-returns-clause-put
push_arms-returns-clause-put t c =
    let sc = scope_said c.args.scope.now in
    puts.items_put (λ (all : List ParsedArm). listed_in_arms (arms_said all) sc) c.deref-one-items.result.now
    c.loop-one.one-index c.loop-one-test.false
    c.loop-one.made.items _ refl c.loop-one.invariant.put
    ∙ ap (λ (all : List ParsedArm). c.args.made.now.items ++ listed_in_arms (arms_said all) sc)
    c.deref-one-items.ensures.value

pub push_arms-returns-clause-kept : goal.push_arms-returns-clause-kept
push_arms-returns-clause-kept t c = c.loop-one.invariant.kept

pub push_arm-returns-clause-put : goal.push_arm-returns-clause-put
push_arm-returns-clause-put t c =
    let binds = binds_said c.args.arm.now.binds.items in
    let b = block_said c.args.arm.now.block in
    puts.both_put c.args.made.now.items
    (listed_binds (with_bound binds (scope_said c.args.scope.now)) binds b)
    (listed_in b (with_bound binds (scope_said c.args.scope.now)))
    c.push_bound.new.made.items c.push_block.new.made.items
    (c.in_ok-push_bound.ensures ∙ ap (λ (s : Scope). c.args.made.now.items ++ listed_binds s binds b)
    c.in_ok-enter_arm.ensures)
    (c.in_ok-push_block.ensures.put ∙ ap (λ (s : Scope). c.push_bound.new.made.items ++ listed_in b s)
    c.in_ok-enter_arm.ensures)

pub push_arm-returns-clause-kept : goal.push_arm-returns-clause-kept
push_arm-returns-clause-kept t c =
    left_again (scope_said c.args.scope.now) (scope_said c.enter_arm.new.scope)
    (scope_said c.push_block.new.scope) _ c.depth-depth.result c.depth-depth.ensures
    (bound_back (binds_said c.args.arm.now.binds.items) (scope_said c.args.scope.now)
    (scope_said c.enter_arm.new.scope) c.in_ok-enter_arm.ensures)
    c.in_ok-push_block.ensures.kept c.leave_to.ensures
