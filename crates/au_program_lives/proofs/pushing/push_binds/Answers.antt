use Rattle.std.proofs.Common.{◌∷◌, [], ◌++◌, ap, ◌∙◌}
use Rattle.au_program_lives.specs.Said.{binds_said}
use Rattle.au_program_lives.specs.Scopes.{scope_said}
use Rattle.au_program_lives.specs.Sorts.{bound_sorts}
use Rattle.au_program_lives.proofs.PutLemmas as puts
use Rattle.au_program_lives.proofs.StatementLemmas.{binds_give}
use Rattle.au_program_lives.proofs.pushing.push_binds.Goals as goal

pub loop-one-preserved : goal.loop-one-preserved
loop-one-preserved g c =
    puts.item_put (binds_give g.P.Phase (scope_said c.args.scope.now)) c.deref-one-items.result.now
    c.loop-one.one-index c.one-item.result c.one-item.is
    c.loop-one-test.true c.loop-one.made.items c.push.new.self.items
    (c.args.made.now.items ++ bound_sorts (binds_said g.P.Phase c.deref-one-items.result.now)
    (scope_said c.args.scope.now))
    c.loop-one.invariant (c.in_ok-push.ensures.items ∙ ap (λ s. c.loop-one.made.items ++ s ∷ []) c.in_ok-sort.ensures)

pub returns : goal.returns
returns g c =
    puts.items_put (binds_give g.P.Phase (scope_said c.args.scope.now)) c.deref-one-items.result.now
    c.loop-one.one-index c.loop-one-test.false
    c.loop-one.made.items (c.args.made.now.items
    ++ bound_sorts (binds_said g.P.Phase c.deref-one-items.result.now) (scope_said c.args.scope.now))
    c.loop-one.invariant
    ∙ ap (λ l. c.args.made.now.items ++ bound_sorts (binds_said g.P.Phase l) (scope_said c.args.scope.now))
    c.deref-one-items.ensures.value
