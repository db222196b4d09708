use Rattle.std.proofs.Common.{subst, sym, ap, ◌∙◌, get_or, length, arith, drop, ◌+◌, ◌∷◌, [], Ok, Err}
use Rattle.std.proofs.lemmas.Result.{err_from_is_err_and}
use Rattle.au_lives.specs.Scopes.{scope, bound_over, scopes, scopes_after, scopes_inside, scopes_of_branches}
use Rattle.au_lives.specs.Scopes.{scopes_of_arms}
use Rattle.au_paths.specs.Seen.{seen_name, seen_binds, seen_statement, seen_statements, seen_block}
use Rattle.au_paths.specs.Seen.{seen_branches, seen_arms}
use Rattle.au_linear.specs.Allotting.{Sees}
use Rattle.au_linear.proofs.DeclaringLemmas.{statements_declare, branches_declare, arms_declare, else_declares}
use Rattle.au_linear.proofs.TellingLemmas as telling
use Rattle.au_linear.proofs.checking.+checking.Goals as goal

pub check_branches-loop-one-init : goal.check_branches-loop-one-init
check_branches-loop-one-init g t c = λ r h. h

pub check_branches-loop-one-preserved : goal.check_branches-loop-one-preserved
check_branches-loop-one-preserved g t c =
    telling.item_goes (branches_declare g.P.Phase) c.deref-one-items.result.now c.loop-one.one-index
    c.one-item.result c.one-item.is
    c.loop-one-test.true (scopes_of_branches (seen_branches g.P.Phase c.deref-one-items.result.now))
    c.args.tasks.now c.loop-one.at c.args.next
    c.loop-one.invariant c.in_ok-at.at c.in_ok-at.ensures

pub check_branches-returns-in_err-at : goal.check_branches-returns-in_err-at
check_branches-returns-in_err-at g t c =
    let p = err_from_is_err_and c.from_residual.result c.from_residual.ensures.1 in
    rw (p.1, p.2) (subst (λ l. Sees (Err c.in_err-at.field-0.0)
    (scopes_of_branches (seen_branches g.P.Phase l)) c.args.tasks.now c.args.next)
    c.deref-one-items.ensures.value
    (telling.item_stops (branches_declare g.P.Phase) c.deref-one-items.result.now c.loop-one.one-index
    c.one-item.result c.one-item.is
    c.loop-one-test.true (scopes_of_branches (seen_branches g.P.Phase c.deref-one-items.result.now))
    c.args.tasks.now c.loop-one.at c.args.next
    c.loop-one.invariant c.in_err-at.field-0.0 c.in_err-at.ensures))

pub check_branches-returns : goal.check_branches-returns
check_branches-returns g t c =
    subst (λ l. Sees (Ok c.loop-one.at) (scopes_of_branches (seen_branches g.P.Phase l)) c.args.tasks.now
    c.args.next) c.deref-one-items.ensures.value
    (telling.items_done (branches_declare g.P.Phase) c.deref-one-items.result.now c.loop-one.one-index
    c.loop-one-test.false
    (scopes_of_branches (seen_branches g.P.Phase c.deref-one-items.result.now)) c.args.tasks.now c.loop-one.at
    c.args.next c.loop-one.invariant)

pub check_arms-loop-one-init : goal.check_arms-loop-one-init
check_arms-loop-one-init g t c = λ r h. h

pub check_arms-loop-one-preserved : goal.check_arms-loop-one-preserved
check_arms-loop-one-preserved g t c =
    telling.item_goes (arms_declare g.P.Phase) c.deref-one-items.result.now c.loop-one.one-index
    c.one-item.result c.one-item.is
    c.loop-one-test.true (scopes_of_arms (seen_arms g.P.Phase c.deref-one-items.result.now)) c.args.tasks.now
    c.loop-one.at c.args.next
    c.loop-one.invariant c.in_ok-at.at c.in_ok-at.ensures

pub check_arms-returns-in_err-at : goal.check_arms-returns-in_err-at
check_arms-returns-in_err-at g t c =
    let p = err_from_is_err_and c.from_residual.result c.from_residual.ensures.1 in
    rw (p.1, p.2) (subst (λ l. Sees (Err c.in_err-at.field-0.0) (scopes_of_arms (seen_arms g.P.Phase l))
    c.args.tasks.now c.args.next)
    c.deref-one-items.ensures.value
    (telling.item_stops (arms_declare g.P.Phase) c.deref-one-items.result.now c.loop-one.one-index
    c.one-item.result c.one-item.is
    c.loop-one-test.true (scopes_of_arms (seen_arms g.P.Phase c.deref-one-items.result.now)) c.args.tasks.now
    c.loop-one.at c.args.next
    c.loop-one.invariant c.in_err-at.field-0.0 c.in_err-at.ensures))

pub check_arms-returns : goal.check_arms-returns
check_arms-returns g t c =
    subst (λ l. Sees (Ok c.loop-one.at) (scopes_of_arms (seen_arms g.P.Phase l)) c.args.tasks.now c.args.next)
    c.deref-one-items.ensures.value
    (telling.items_done (arms_declare g.P.Phase) c.deref-one-items.result.now c.loop-one.one-index c.loop-one-test.false
    (scopes_of_arms (seen_arms g.P.Phase c.deref-one-items.result.now)) c.args.tasks.now c.loop-one.at
    c.args.next c.loop-one.invariant)

pub check_block-loop-index-init : goal.check_block-loop-index-init
check_block-loop-index-init g t c = λ r h. h

pub check_block-loop-index-preserved : goal.check_block-loop-index-preserved
check_block-loop-index-preserved g t c =
    telling.item_goes (statements_declare g.P.Phase) c.args.block.now.statements.items c.loop-index.index
    c.one-item.result
    (c.one-item.is ∙ ap (λ l. get_or l c.loop-index.index c.one-item.result) c.deref-one-items.ensures.value)
    (omega (arith, c.loop-index-test.true, ap length c.deref-one-items.ensures.value))
    (scopes (seen_statements g.P.Phase c.args.block.now.statements.items)) c.args.tasks.now c.loop-index.at
    c.args.next
    c.loop-index.invariant c.in_ok-at.at
    (telling.sees_both (scopes_after (seen_statement g.P.Phase c.one-item.result)
    (seen_statements g.P.Phase (drop (c.loop-index.index + 1) c.args.block.now.statements.items)))
    (scopes_inside (seen_statement g.P.Phase c.one-item.result))
    c.args.tasks.now c.in_ok-behind.behind c.loop-index.at (Ok c.in_ok-at.at) c.in_ok-behind.ensures c.in_ok-at.ensures)

pub check_block-returns-in_err-behind : goal.check_block-returns-in_err-behind
check_block-returns-in_err-behind g t c =
    let p = err_from_is_err_and c.from_residual.result c.from_residual.ensures.1 in
    rw (p.1, p.2) (telling.item_stops (statements_declare g.P.Phase) c.args.block.now.statements.items
    c.loop-index.index c.one-item.result
    (c.one-item.is ∙ ap (λ l. get_or l c.loop-index.index c.one-item.result) c.deref-one-items.ensures.value)
    (omega (arith, c.loop-index-test.true, ap length c.deref-one-items.ensures.value))
    (scopes (seen_statements g.P.Phase c.args.block.now.statements.items)) c.args.tasks.now c.loop-index.at
    c.args.next
    c.loop-index.invariant c.in_err-behind.field-0.0
    (telling.sees_stop (scopes_after (seen_statement g.P.Phase c.one-item.result)
    (seen_statements g.P.Phase (drop (c.loop-index.index + 1) c.args.block.now.statements.items)))
    (scopes_inside (seen_statement g.P.Phase c.one-item.result))
    c.args.tasks.now c.loop-index.at c.in_err-behind.field-0.0 c.in_err-behind.ensures))

pub check_block-returns-in_err-at : goal.check_block-returns-in_err-at
check_block-returns-in_err-at g t c =
    let p = err_from_is_err_and c.from_residual-in_err-at.result c.from_residual-in_err-at.ensures.1 in
    rw (p.1, p.2) (telling.item_stops (statements_declare g.P.Phase) c.args.block.now.statements.items
    c.loop-index.index c.one-item.result
    (c.one-item.is ∙ ap (λ l. get_or l c.loop-index.index c.one-item.result) c.deref-one-items.ensures.value)
    (omega (arith, c.loop-index-test.true, ap length c.deref-one-items.ensures.value))
    (scopes (seen_statements g.P.Phase c.args.block.now.statements.items)) c.args.tasks.now c.loop-index.at
    c.args.next
    c.loop-index.invariant c.in_err-at.field-0.0
    (telling.sees_both (scopes_after (seen_statement g.P.Phase c.one-item.result)
    (seen_statements g.P.Phase (drop (c.loop-index.index + 1) c.args.block.now.statements.items)))
    (scopes_inside (seen_statement g.P.Phase c.one-item.result))
    c.args.tasks.now c.in_ok-behind.behind c.loop-index.at (Err c.in_err-at.field-0.0) c.in_ok-behind.ensures
    c.in_err-at.ensures))

pub check_block-returns : goal.check_block-returns
check_block-returns g t c =
    telling.items_done (statements_declare g.P.Phase) c.args.block.now.statements.items c.loop-index.index
    (omega (arith, c.loop-index-test.false, ap length c.deref-one-items.ensures.value))
    (scopes (seen_statements g.P.Phase c.args.block.now.statements.items)) c.args.tasks.now c.loop-index.at
    c.args.next c.loop-index.invariant

pub check_named-returns-in_err-behind : goal.check_named-returns-in_err-behind
check_named-returns-in_err-behind g t c =
    let p = err_from_is_err_and c.from_residual.result c.from_residual.ensures.1 in
    rw (p.1, p.2) (telling.sees_stop
    (scope (seen_name g.P.Phase c.args.name.now) (seen_block g.P.Phase c.args.block.now) ∷ [])
    (scopes (seen_block g.P.Phase c.args.block.now)) c.args.tasks.now c.args.next c.in_err-behind.field-0.0
    c.in_err-behind.ensures)

pub check_named-returns : goal.check_named-returns
check_named-returns g t c =
    telling.sees_both (scope (seen_name g.P.Phase c.args.name.now) (seen_block g.P.Phase c.args.block.now) ∷ [])
    (scopes (seen_block g.P.Phase c.args.block.now)) c.args.tasks.now c.in_ok-behind.behind c.args.next
    c.check_block.result
    c.in_ok-behind.ensures c.check_block.ensures

pub check_arm-returns-in_err-behind : goal.check_arm-returns-in_err-behind
check_arm-returns-in_err-behind g t c =
    let p = err_from_is_err_and c.from_residual.result c.from_residual.ensures.1 in
    rw (p.1, p.2) (telling.sees_stop
    (bound_over (seen_binds g.P.Phase c.args.arm.now.binds.items)
    (seen_block g.P.Phase c.args.arm.now.block))
    (scopes (seen_block g.P.Phase c.args.arm.now.block)) c.args.tasks.now c.args.next
    c.in_err-behind.field-0.0 c.in_err-behind.ensures)

pub check_arm-returns : goal.check_arm-returns
check_arm-returns g t c =
    telling.sees_both (bound_over (seen_binds g.P.Phase c.args.arm.now.binds.items)
    (seen_block g.P.Phase c.args.arm.now.block))
    (scopes (seen_block g.P.Phase c.args.arm.now.block)) c.args.tasks.now c.in_ok-behind.behind c.args.next
    c.check_block.result
    c.in_ok-behind.ensures c.check_block.ensures

pub check_inside-returns-in_err-behind-in-IfElse : goal.check_inside-returns-in_err-behind-in-IfElse
check_inside-returns-in_err-behind-in-IfElse g t c =
    let p = err_from_is_err_and c.from_residual.result c.from_residual.ensures.1 in
    let e = else_declares g.P.Phase c.args.stmt.now _ c.in-IfElse.branches c.in-IfElse.block c.in-IfElse.is in
    rw (p.1, p.2) (subst (λ l. Sees (Err c.in_err-behind-in-IfElse.field-0.0) l c.args.tasks.now c.args.next) (sym e)
    (telling.sees_stop (scopes_of_branches (seen_branches g.P.Phase c.in-IfElse.branches.items))
    (scopes (seen_block g.P.Phase c.in-IfElse.block))
    c.args.tasks.now c.args.next c.in_err-behind-in-IfElse.field-0.0 c.in_err-behind-in-IfElse.ensures))

pub check_inside-returns-in_ok-behind-in-IfElse : goal.check_inside-returns-in_ok-behind-in-IfElse
check_inside-returns-in_ok-behind-in-IfElse g t c =
    let e = else_declares g.P.Phase c.args.stmt.now _ c.in-IfElse.branches c.in-IfElse.block c.in-IfElse.is in
    subst (λ l. Sees c.check_block.result l c.args.tasks.now c.args.next) (sym e)
    (telling.sees_both (scopes_of_branches (seen_branches g.P.Phase c.in-IfElse.branches.items))
    (scopes (seen_block g.P.Phase c.in-IfElse.block))
    c.args.tasks.now c.in_ok-behind-in-IfElse.behind c.args.next c.check_block.result
    c.in_ok-behind-in-IfElse.ensures c.check_block.ensures)
