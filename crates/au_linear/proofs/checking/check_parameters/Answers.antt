use Rattle.std.proofs.Common.{subst, map, Ok, Err}
use Rattle.std.proofs.lemmas.Result.{err_from_is_err_and}
use Rattle.au_lives.specs.Scopes.{scope}
use Rattle.au_paths.specs.Seen.{seen_parameters, seen_block}
use Rattle.au_linear.specs.Allotting.{Sees}
use Rattle.au_linear.proofs.DeclaringLemmas.{parameters_declare}
use Rattle.au_linear.proofs.TellingLemmas as telling
use Rattle.au_linear.proofs.checking.check_parameters.Goals as goal

pub loop-one-init : goal.loop-one-init
loop-one-init g c = λ r h. h

pub loop-one-preserved : goal.loop-one-preserved
loop-one-preserved g c =
    telling.item_goes (parameters_declare g.P.Phase (seen_block g.P.Phase c.args.block.now))
    c.deref-one-items.result.now c.loop-one.one-index c.one-item.result c.one-item.is
    c.loop-one-test.true (map (λ parameter. scope parameter.name (seen_block g.P.Phase c.args.block.now))
    (seen_parameters g.P.Phase c.deref-one-items.result.now)) c.args.tasks.now c.loop-one.at 0
    c.loop-one.invariant c.in_ok-at.at c.in_ok-at.ensures

pub returns-in_err-at : goal.returns-in_err-at
returns-in_err-at g c =
    let p = err_from_is_err_and c.from_residual.result c.from_residual.ensures.1 in
    rw (p.1, p.2) (subst (λ l. Sees (Err c.in_err-at.field-0.0)
    (map (λ parameter. scope parameter.name (seen_block g.P.Phase c.args.block.now))
    (seen_parameters g.P.Phase l)) c.args.tasks.now 0)
    c.deref-one-items.ensures.value
    (telling.item_stops (parameters_declare g.P.Phase (seen_block g.P.Phase c.args.block.now))
    c.deref-one-items.result.now c.loop-one.one-index c.one-item.result c.one-item.is
    c.loop-one-test.true (map (λ parameter. scope parameter.name (seen_block g.P.Phase c.args.block.now))
    (seen_parameters g.P.Phase c.deref-one-items.result.now)) c.args.tasks.now c.loop-one.at 0
    c.loop-one.invariant c.in_err-at.field-0.0 c.in_err-at.ensures))

pub returns : goal.returns
returns g c =
    subst (λ l. Sees (Ok c.loop-one.at)
    (map (λ parameter. scope parameter.name (seen_block g.P.Phase c.args.block.now))
    (seen_parameters g.P.Phase l)) c.args.tasks.now 0) c.deref-one-items.ensures.value
    (telling.items_done (parameters_declare g.P.Phase (seen_block g.P.Phase c.args.block.now))
    c.deref-one-items.result.now c.loop-one.one-index c.loop-one-test.false
    (map (λ parameter. scope parameter.name (seen_block g.P.Phase c.args.block.now))
    (seen_parameters g.P.Phase c.deref-one-items.result.now)) c.args.tasks.now c.loop-one.at 0
    c.loop-one.invariant)
