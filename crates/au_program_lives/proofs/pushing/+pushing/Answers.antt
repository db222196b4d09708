use Rattle.std.proofs.Common.{◌≡◌, ◌∷◌, [], ◌++◌, refl, Some, sym, ap, subst, ◌∙◌}
use Rattle.std.specs.Prelude.{OnOk}
use Rattle.au_base.proofs.ListLemmas.{nothing_added}
use Rattle.au_program_lives.specs.Said.{arms_said, binds_said, block_said, branches_said, statement_said}
use Rattle.au_program_lives.specs.Said.{statements_said}
use Rattle.au_program_lives.specs.Scopes.{closed_in, opened_by, opened_in, scope_said}
use Rattle.au_program_lives.specs.Sorts.{bound_sorts, reference_sort, region_written, sorts, sorts_after}
use Rattle.au_program_lives.specs.Sorts.{sorts_inside, sorts_of_arms, sorts_of_branches}
use Rattle.au_program_lives.proofs.PutLemmas as puts
use Rattle.au_program_lives.proofs.StatementLemmas.{lent_same, arms_give, branches_give, statements_give}
use Rattle.au_program_lives.proofs.StatementLemmas.{if_inside, if_else_inside, case_inside, while_inside}
use Rattle.au_program_lives.proofs.StatementLemmas.{for_inside, borrow_inside, borrow_typed_inside}
use Rattle.au_program_lives.proofs.StatementLemmas.{skip_inside, let_inside, destructure_inside}
use Rattle.au_program_lives.proofs.StatementLemmas.{assign_inside, assign_through_inside, call_inside}
use Rattle.au_program_lives.proofs.StatementLemmas.{return_inside}
use Rattle.au_syntax.specs.Views.{placed, written}
use Rattle.au_program_lives.proofs.pushing.+pushing.Goals as goal

-- ---- blocks

pub push_block-loop-one-preserved : goal.push_block-loop-one-preserved
push_block-loop-one-preserved g t c =
    let sc = scope_said c.args.scope.now in
    let st = statement_said g.P.Phase c.one-item.result in
    let here = scope_said c.loop-one.scope in
    record {
      put =
          puts.item_put (statements_give g.P.Phase sc) c.deref-one-items.result.now c.loop-one.one-index
          c.one-item.result c.one-item.is
          c.loop-one-test.true c.loop-one.made.items c.push_inside.new.made.items
          (c.args.made.now.items ++ sorts (statements_said g.P.Phase c.deref-one-items.result.now) sc)
          c.loop-one.invariant.put
          (puts.at_scope (λ s. sorts_after st s ++ sorts_inside st s) here sc c.loop-one.invariant.kept
          c.loop-one.made.items c.push_inside.new.made.items
          (puts.both_put c.loop-one.made.items (sorts_after st here) (sorts_inside st here)
          c.push_after.new.made.items c.push_inside.new.made.items
          c.in_ok-push_after.ensures c.in_ok-push_inside.ensures.put));
      kept = c.in_ok-push_inside.ensures.kept ∙ c.loop-one.invariant.kept;
    }

pub push_block-returns-clause-put : goal.push_block-returns-clause-put
push_block-returns-clause-put g t c =
    let sc = scope_said c.args.scope.now in
    puts.items_put (statements_give g.P.Phase sc) c.deref-one-items.result.now c.loop-one.one-index
    c.loop-one-test.false
    c.loop-one.made.items (c.args.made.now.items
    ++ sorts (statements_said g.P.Phase c.deref-one-items.result.now) sc) c.loop-one.invariant.put
    ∙ ap (λ l. c.args.made.now.items ++ sorts (statements_said g.P.Phase l) sc) c.deref-one-items.ensures.value

pub push_behind-returns-clause-put : goal.push_behind-returns-clause-put
push_behind-returns-clause-put g t c =
    puts.then_put c.push_block.result c.args.made.now.items (c.args.sort ∷ [])
    (sorts (block_said g.P.Phase c.args.block.now) (scope_said c.args.scope.now))
    c.push.new.self.items c.push_block.new.made.items c.in_ok-push.ensures.items c.push_block.ensures.put

pub push_within-returns-clause-put : goal.push_within-returns-clause-put
push_within-returns-clause-put g t c =
    puts.at_scope (λ s. c.args.sort ∷ sorts (block_said g.P.Phase c.args.block.now) s)
    (scope_said c.enter_region.new.self)
    (opened_in c.args.region (scope_said c.args.scope.now)) c.in_ok-enter_region.ensures.ok
    c.args.made.now.items c.push_behind.new.made.items
    c.in_ok-push_behind.ensures.put

pub push_within-returns-clause-kept : goal.push_within-returns-clause-kept
push_within-returns-clause-kept g t c =
    c.leave_region.ensures ∙ ap closed_in (c.in_ok-push_behind.ensures.kept ∙ c.in_ok-enter_region.ensures.ok)

pub push_typed-returns-in_ok-region-in-Some-clause-put : goal.push_typed-returns-in_ok-region-in-Some-clause-put
push_typed-returns-in_ok-region-in-Some-clause-put g t c =
    let sc = scope_said c.args.scope.now in
    let b = block_said g.P.Phase c.args.block.now in
    puts.put_as c.push_within.result c.args.made.now.items c.push_within.new.made.items
    (c.args.sort ∷ sorts b (opened_in c.in_ok-region-in-Some.region sc)) _
    (ap (λ o. c.args.sort ∷ sorts b (opened_by o sc))
    (sym c.in-Some.ensures ∙ ap Some (sym c.in_ok-region-in-Some.ensures))) c.push_within.ensures.put

pub push_typed-returns-in-None-clause-put : goal.push_typed-returns-in-None-clause-put
push_typed-returns-in-None-clause-put g t c =
    let sc = scope_said c.args.scope.now in
    let b = block_said g.P.Phase c.args.block.now in
    puts.put_as c.push_behind.result c.args.made.now.items c.push_behind.new.made.items (c.args.sort ∷ sorts b sc) _
    (ap (λ o. c.args.sort ∷ sorts b (opened_by o sc)) (sym c.in-None.ensures)) c.push_behind.ensures.put

pub push_lent-returns-clause-put : goal.push_lent-returns-clause-put
push_lent-returns-clause-put g t c =
    puts.put_as c.push_within.result c.args.made.now.items c.push_within.new.made.items _ _
    (lent_same g.P.Phase (scope_said c.args.scope.now) (block_said g.P.Phase c.args.block.now)
    c.reference_sort.result (reference_sort c.args.access) c.in_ok-region.region
    (g.P.Phase.name_bytes (placed g.P.Phase c.args.names.now.region).name)
    c.reference_sort.ensures c.in_ok-region.ensures)
    c.push_within.ensures.put

-- ---- statements

pub push_inside-returns-in-If-clause-put : goal.push_inside-returns-in-If-clause-put
push_inside-returns-in-If-clause-put g t c =
    puts.put_as c.push_branches.result c.args.made.now.items c.push_branches.new.made.items _ _
    (if_inside g.P.Phase (scope_said c.args.scope.now) c.args.stmt.now _ _ c.in-If.is) c.push_branches.ensures.put

pub push_inside-returns-in_ok-push_branches-in-IfElse-clause-put :
    goal.push_inside-returns-in_ok-push_branches-in-IfElse-clause-put
push_inside-returns-in_ok-push_branches-in-IfElse-clause-put g t c =
    let sc = scope_said c.args.scope.now in
    let one = sorts_of_branches (branches_said g.P.Phase c.in-IfElse.branches.items) sc in
    let two = sorts (block_said g.P.Phase c.in-IfElse.last) sc in
    let r = c.push_block.result in
    let made = c.push_branches-in-IfElse.new.made.items in
    let new = c.push_block.new.made.items in
    puts.put_as r c.args.made.now.items new (one ++ two) _
    (if_else_inside g.P.Phase sc c.args.stmt.now _ _ _ c.in-IfElse.is)
    (puts.then_put r c.args.made.now.items one two made new c.in_ok-push_branches-in-IfElse.ensures.put
    (subst (λ s. OnOk r (new ≡ made ++ sorts (block_said g.P.Phase c.in-IfElse.last) s))
    c.in_ok-push_branches-in-IfElse.ensures.kept c.push_block.ensures.put))

pub push_inside-returns-in-Case-clause-put : goal.push_inside-returns-in-Case-clause-put
push_inside-returns-in-Case-clause-put g t c =
    puts.put_as c.push_arms.result c.args.made.now.items c.push_arms.new.made.items _ _
    (case_inside g.P.Phase (scope_said c.args.scope.now) c.args.stmt.now _ _ _ c.in-Case.is) c.push_arms.ensures.put

pub push_inside-returns-in-While-clause-put : goal.push_inside-returns-in-While-clause-put
push_inside-returns-in-While-clause-put g t c =
    puts.put_as c.push_block-in-While.result c.args.made.now.items c.push_block-in-While.new.made.items _ _
    (while_inside g.P.Phase (scope_said c.args.scope.now) c.args.stmt.now _ _ _ c.in-While.is)
    c.push_block-in-While.ensures.put

pub push_inside-returns-in-For-clause-put : goal.push_inside-returns-in-For-clause-put
push_inside-returns-in-For-clause-put g t c =
    puts.put_as c.push_behind.result c.args.made.now.items c.push_behind.new.made.items _ _
    (for_inside g.P.Phase (scope_said c.args.scope.now) c.args.stmt.now _ _ _ _ _ c.in-For.is) c.push_behind.ensures.put

pub push_inside-returns-in-Borrow-clause-put : goal.push_inside-returns-in-Borrow-clause-put
push_inside-returns-in-Borrow-clause-put g t c =
    puts.put_as c.push_lent.result c.args.made.now.items c.push_lent.new.made.items _ _
    (borrow_inside g.P.Phase (scope_said c.args.scope.now) c.args.stmt.now _ _ _ _ _ c.in-Borrow.is)
    c.push_lent.ensures.put

pub push_inside-returns-in-BorrowTyped-clause-put : goal.push_inside-returns-in-BorrowTyped-clause-put
push_inside-returns-in-BorrowTyped-clause-put g t c =
    let sc = scope_said c.args.scope.now in
    let all = sorts (block_said g.P.Phase c.in-BorrowTyped.block)
    (opened_by (region_written (written c.in-BorrowTyped.text)) sc) in
    puts.put_as c.push_typed.result c.args.made.now.items c.push_typed.new.made.items (c.borrow_sort.result ∷ all) _
    (borrow_typed_inside g.P.Phase sc c.args.stmt.now _ _ _ _ _ _ _ c.in-BorrowTyped.is
    ∙ ap (λ s. s ∷ all) (sym c.borrow_sort.ensures))
    c.push_typed.ensures.put

pub push_inside-returns-in-Skip-clause-put : goal.push_inside-returns-in-Skip-clause-put
push_inside-returns-in-Skip-clause-put g t c =
    nothing_added c.args.made.now.items
    (sorts_inside (statement_said g.P.Phase c.args.stmt.now) (scope_said c.args.scope.now))
    (skip_inside g.P.Phase (scope_said c.args.scope.now) c.args.stmt.now _ c.in-Skip.is)

pub push_inside-returns-in-Let-clause-put : goal.push_inside-returns-in-Let-clause-put
push_inside-returns-in-Let-clause-put g t c =
    nothing_added c.args.made.now.items
    (sorts_inside (statement_said g.P.Phase c.args.stmt.now) (scope_said c.args.scope.now))
    (let_inside g.P.Phase (scope_said c.args.scope.now) c.args.stmt.now _ _ _ _ _ c.in-Let.is)

pub push_inside-returns-in-Destructure-clause-put : goal.push_inside-returns-in-Destructure-clause-put
push_inside-returns-in-Destructure-clause-put g t c =
    nothing_added c.args.made.now.items
    (sorts_inside (statement_said g.P.Phase c.args.stmt.now) (scope_said c.args.scope.now))
    (destructure_inside g.P.Phase (scope_said c.args.scope.now) c.args.stmt.now _ _ _ c.in-Destructure.is)

pub push_inside-returns-in-Assign-clause-put : goal.push_inside-returns-in-Assign-clause-put
push_inside-returns-in-Assign-clause-put g t c =
    nothing_added c.args.made.now.items
    (sorts_inside (statement_said g.P.Phase c.args.stmt.now) (scope_said c.args.scope.now))
    (assign_inside g.P.Phase (scope_said c.args.scope.now) c.args.stmt.now _ _ _ _ c.in-Assign.is)

pub push_inside-returns-in-AssignThrough-clause-put : goal.push_inside-returns-in-AssignThrough-clause-put
push_inside-returns-in-AssignThrough-clause-put g t c =
    nothing_added c.args.made.now.items
    (sorts_inside (statement_said g.P.Phase c.args.stmt.now) (scope_said c.args.scope.now))
    (assign_through_inside g.P.Phase (scope_said c.args.scope.now) c.args.stmt.now _ _ _ _ c.in-AssignThrough.is)

pub push_inside-returns-in-Call-clause-put : goal.push_inside-returns-in-Call-clause-put
push_inside-returns-in-Call-clause-put g t c =
    nothing_added c.args.made.now.items
    (sorts_inside (statement_said g.P.Phase c.args.stmt.now) (scope_said c.args.scope.now))
    (call_inside g.P.Phase (scope_said c.args.scope.now) c.args.stmt.now _ _ c.in-Call.is)

pub push_inside-returns-in-Return-clause-put : goal.push_inside-returns-in-Return-clause-put
push_inside-returns-in-Return-clause-put g t c =
    nothing_added c.args.made.now.items
    (sorts_inside (statement_said g.P.Phase c.args.stmt.now) (scope_said c.args.scope.now))
    (return_inside g.P.Phase (scope_said c.args.scope.now) c.args.stmt.now _ _ c.in-Return.is)

-- ---- branches and arms

pub push_branches-loop-one-preserved : goal.push_branches-loop-one-preserved
push_branches-loop-one-preserved g t c =
    let sc = scope_said c.args.scope.now in
    record {
      put =
          puts.item_put (branches_give g.P.Phase sc) c.deref-one-items.result.now c.loop-one.one-index
          c.one-item.result c.one-item.is
          c.loop-one-test.true c.loop-one.made.items c.push_branch.new.made.items
          (c.args.made.now.items ++ sorts_of_branches (branches_said g.P.Phase c.deref-one-items.result.now) sc)
          c.loop-one.invariant.put
          (puts.at_scope (λ s. sorts (block_said g.P.Phase c.one-item.result.block) s)
          (scope_said c.loop-one.scope) sc c.loop-one.invariant.kept
          c.loop-one.made.items c.push_branch.new.made.items c.in_ok-push_branch.ensures.put);
      kept = c.in_ok-push_branch.ensures.kept ∙ c.loop-one.invariant.kept;
    }

pub push_branches-returns-clause-put : goal.push_branches-returns-clause-put
push_branches-returns-clause-put g t c =
    let sc = scope_said c.args.scope.now in
    puts.items_put (branches_give g.P.Phase sc) c.deref-one-items.result.now c.loop-one.one-index c.loop-one-test.false
    c.loop-one.made.items (c.args.made.now.items
    ++ sorts_of_branches (branches_said g.P.Phase c.deref-one-items.result.now) sc) c.loop-one.invariant.put
    ∙ ap (λ l. c.args.made.now.items ++ sorts_of_branches (branches_said g.P.Phase l) sc)
    c.deref-one-items.ensures.value

pub push_arms-loop-one-preserved : goal.push_arms-loop-one-preserved
push_arms-loop-one-preserved g t c =
    let sc = scope_said c.args.scope.now in
    let arm = c.one-item.result in
    record {
      put =
          puts.item_put (arms_give g.P.Phase sc) c.deref-one-items.result.now c.loop-one.one-index arm c.one-item.is
          c.loop-one-test.true c.loop-one.made.items c.push_arm.new.made.items
          (c.args.made.now.items ++ sorts_of_arms (arms_said g.P.Phase c.deref-one-items.result.now) sc)
          c.loop-one.invariant.put
          (puts.at_scope (λ s. bound_sorts (binds_said g.P.Phase arm.binds.items) s
          ++ sorts (block_said g.P.Phase arm.block) s) (scope_said c.loop-one.scope) sc
          c.loop-one.invariant.kept c.loop-one.made.items c.push_arm.new.made.items c.in_ok-push_arm.ensures.put);
      kept = c.in_ok-push_arm.ensures.kept ∙ c.loop-one.invariant.kept;
    }

pub push_arms-returns-clause-put : goal.push_arms-returns-clause-put
push_arms-returns-clause-put g t c =
    let sc = scope_said c.args.scope.now in
    puts.items_put (arms_give g.P.Phase sc) c.deref-one-items.result.now c.loop-one.one-index c.loop-one-test.false
    c.loop-one.made.items (c.args.made.now.items
    ++ sorts_of_arms (arms_said g.P.Phase c.deref-one-items.result.now) sc) c.loop-one.invariant.put
    ∙ ap (λ l. c.args.made.now.items ++ sorts_of_arms (arms_said g.P.Phase l) sc) c.deref-one-items.ensures.value

pub push_arm-returns-clause-put : goal.push_arm-returns-clause-put
push_arm-returns-clause-put g t c =
    let sc = scope_said c.args.scope.now in
    puts.then_put c.push_block.result c.args.made.now.items
    (bound_sorts (binds_said g.P.Phase c.args.arm.now.binds.items) sc)
    (sorts (block_said g.P.Phase c.args.arm.now.block) sc) c.push_binds.new.made.items c.push_block.new.made.items
    c.in_ok-push_binds.ensures c.push_block.ensures.put

-- ---- scopes stay as they were

pub push_block-loop-one-init : goal.push_block-loop-one-init
push_block-loop-one-init g t c = record { put = refl; kept = refl }

pub push_block-returns-clause-kept : goal.push_block-returns-clause-kept
push_block-returns-clause-kept g t c = c.loop-one.invariant.kept

pub push_branches-loop-one-init : goal.push_branches-loop-one-init
push_branches-loop-one-init g t c = record { put = refl; kept = refl }

pub push_branches-returns-clause-kept : goal.push_branches-returns-clause-kept
push_branches-returns-clause-kept g t c = c.loop-one.invariant.kept

pub push_arms-loop-one-init : goal.push_arms-loop-one-init
push_arms-loop-one-init g t c = record { put = refl; kept = refl }

pub push_arms-returns-clause-kept : goal.push_arms-returns-clause-kept
push_arms-returns-clause-kept g t c = c.loop-one.invariant.kept

pub push_inside-returns-in-If-clause-kept : goal.push_inside-returns-in-If-clause-kept
push_inside-returns-in-If-clause-kept g t c = c.push_branches.ensures.kept

pub push_inside-returns-in-Case-clause-kept : goal.push_inside-returns-in-Case-clause-kept
push_inside-returns-in-Case-clause-kept g t c = c.push_arms.ensures.kept

pub push_inside-returns-in-While-clause-kept : goal.push_inside-returns-in-While-clause-kept
push_inside-returns-in-While-clause-kept g t c = c.push_block-in-While.ensures.kept

pub push_inside-returns-in-For-clause-kept : goal.push_inside-returns-in-For-clause-kept
push_inside-returns-in-For-clause-kept g t c = c.push_behind.ensures.kept

pub push_inside-returns-in-Borrow-clause-kept : goal.push_inside-returns-in-Borrow-clause-kept
push_inside-returns-in-Borrow-clause-kept g t c = c.push_lent.ensures.kept

pub push_inside-returns-in-BorrowTyped-clause-kept : goal.push_inside-returns-in-BorrowTyped-clause-kept
push_inside-returns-in-BorrowTyped-clause-kept g t c = c.push_typed.ensures.kept

pub push_inside-returns-in-Skip-clause-kept : goal.push_inside-returns-in-Skip-clause-kept
push_inside-returns-in-Skip-clause-kept g t c = refl

pub push_inside-returns-in-Let-clause-kept : goal.push_inside-returns-in-Let-clause-kept
push_inside-returns-in-Let-clause-kept g t c = refl

pub push_inside-returns-in-Destructure-clause-kept : goal.push_inside-returns-in-Destructure-clause-kept
push_inside-returns-in-Destructure-clause-kept g t c = refl

pub push_inside-returns-in-Assign-clause-kept : goal.push_inside-returns-in-Assign-clause-kept
push_inside-returns-in-Assign-clause-kept g t c = refl

pub push_inside-returns-in-AssignThrough-clause-kept : goal.push_inside-returns-in-AssignThrough-clause-kept
push_inside-returns-in-AssignThrough-clause-kept g t c = refl

pub push_inside-returns-in-Call-clause-kept : goal.push_inside-returns-in-Call-clause-kept
push_inside-returns-in-Call-clause-kept g t c = refl

pub push_inside-returns-in-Return-clause-kept : goal.push_inside-returns-in-Return-clause-kept
push_inside-returns-in-Return-clause-kept g t c = refl

pub push_inside-returns-in_ok-push_branches-in-IfElse-clause-kept :
    goal.push_inside-returns-in_ok-push_branches-in-IfElse-clause-kept
push_inside-returns-in_ok-push_branches-in-IfElse-clause-kept g t c =
    subst (λ s. OnOk c.push_block.result (scope_said c.push_block.new.scope ≡ s))
    c.in_ok-push_branches-in-IfElse.ensures.kept c.push_block.ensures.kept

pub push_behind-returns-clause-kept : goal.push_behind-returns-clause-kept
push_behind-returns-clause-kept g t c = c.push_block.ensures.kept

pub push_lent-returns-clause-kept : goal.push_lent-returns-clause-kept
push_lent-returns-clause-kept g t c = c.push_within.ensures.kept

pub push_typed-returns-in_ok-region-in-Some-clause-kept : goal.push_typed-returns-in_ok-region-in-Some-clause-kept
push_typed-returns-in_ok-region-in-Some-clause-kept g t c = c.push_within.ensures.kept

pub push_typed-returns-in-None-clause-kept : goal.push_typed-returns-in-None-clause-kept
push_typed-returns-in-None-clause-kept g t c = c.push_behind.ensures.kept

pub push_branch-returns-clause-put : goal.push_branch-returns-clause-put
push_branch-returns-clause-put g t c = c.push_block.ensures.put

pub push_branch-returns-clause-kept : goal.push_branch-returns-clause-kept
push_branch-returns-clause-kept g t c = c.push_block.ensures.kept

pub push_arm-returns-clause-kept : goal.push_arm-returns-clause-kept
push_arm-returns-clause-kept g t c = c.push_block.ensures.kept
