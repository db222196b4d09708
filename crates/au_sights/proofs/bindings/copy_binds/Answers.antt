use Rattle.au_base.proofs.ListLemmas.{copied_before}
use Rattle.au_sights.specs.contracts.noted.NotedPhase.TheImpl.{ghosts as noted}
use Rattle.au_syntax.specs.contracts.parsed.ParsedPhase.TheImpl.{ghosts as parsed}
use Rattle.au_syntax.specs.Views.{bound}
use Rattle.au_sights.proofs.bindings.copy_binds.Goals as goal

pub loop-one-preserved : goal.loop-one-preserved
loop-one-preserved c =
    copied_before (bound noted) (bound parsed) c.loop-one.copies.items c.push.new.self.items
    c.deref-one-items.result.now c.loop-one.one-index c.one-item.result c.in_ok-copy_bind.field-0 _
    c.loop-one.invariant c.loop-one-test.true c.one-item.is c.in_ok-push.ensures.items c.in_ok-copy_bind.ensures
