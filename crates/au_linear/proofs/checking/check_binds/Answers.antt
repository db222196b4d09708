use Rattle.std.proofs.Common.{subst, drop, Ok, Err}
use Rattle.std.proofs.lemmas.Result.{err_from_is_err_and}
use Rattle.au_lives.specs.Scopes.{bound_over}
use Rattle.au_paths.specs.Seen.{seen_binds, seen_statements}
use Rattle.au_linear.specs.Allotting.{Sees}
use Rattle.au_linear.proofs.DeclaringLemmas.{binds_declare}
use Rattle.au_linear.proofs.TellingLemmas as telling
use Rattle.au_linear.proofs.checking.check_binds.Goals as goal

pub loop-one-init : goal.loop-one-init
loop-one-init g c = λ r h. h

pub loop-one-preserved : goal.loop-one-preserved
loop-one-preserved g c =
    telling.item_goes (binds_declare g.P.Phase
    (seen_statements g.P.Phase (drop c.args.from c.args.block.now.statements.items)))
    c.deref-one-items.result.now c.loop-one.one-index c.one-item.result c.one-item.is
    c.loop-one-test.true (bound_over (seen_binds g.P.Phase c.deref-one-items.result.now)
    (seen_statements g.P.Phase (drop c.args.from c.args.block.now.statements.items))) c.args.tasks.now
    c.loop-one.at c.args.next
    c.loop-one.invariant c.in_ok-at.at c.in_ok-at.ensures

pub returns-in_err-at : goal.returns-in_err-at
returns-in_err-at g c =
    let p = err_from_is_err_and c.from_residual.result c.from_residual.ensures.1 in
    rw (p.1, p.2) (subst (λ l. Sees (Err c.in_err-at.field-0.0)
    (bound_over (seen_binds g.P.Phase l)
    (seen_statements g.P.Phase (drop c.args.from c.args.block.now.statements.items))) c.args.tasks.now
    c.args.next)
    c.deref-one-items.ensures.value
    (telling.item_stops (binds_declare g.P.Phase
    (seen_statements g.P.Phase (drop c.args.from c.args.block.now.statements.items)))
    c.deref-one-items.result.now c.loop-one.one-index c.one-item.result c.one-item.is
    c.loop-one-test.true (bound_over (seen_binds g.P.Phase c.deref-one-items.result.now)
    (seen_statements g.P.Phase (drop c.args.from c.args.block.now.statements.items))) c.args.tasks.now
    c.loop-one.at c.args.next
    c.loop-one.invariant c.in_err-at.field-0.0 c.in_err-at.ensures))

pub returns : goal.returns
returns g c =
    subst (λ l. Sees (Ok c.loop-one.at)
    (bound_over (seen_binds g.P.Phase l)
    (seen_statements g.P.Phase (drop c.args.from c.args.block.now.statements.items))) c.args.tasks.now
    c.args.next) c.deref-one-items.ensures.value
    (telling.items_done (binds_declare g.P.Phase
    (seen_statements g.P.Phase (drop c.args.from c.args.block.now.statements.items)))
    c.deref-one-items.result.now c.loop-one.one-index c.loop-one-test.false
    (bound_over (seen_binds g.P.Phase c.deref-one-items.result.now)
    (seen_statements g.P.Phase (drop c.args.from c.args.block.now.statements.items))) c.args.tasks.now
    c.loop-one.at c.args.next c.loop-one.invariant)
