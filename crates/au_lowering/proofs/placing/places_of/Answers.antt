use Rattle.std.proofs.Common.{arith, ap, nat_eq, ◌∙◌}
use Rattle.indexmap.specs.IndexMap.{get}
use Rattle.au_lowering.specs.Placed.{placed_with}
use Rattle.au_lowering.proofs.PlaceLemmas.{placed_more}
use Rattle.au_lowering.proofs.placing.places_of.Goals as goal

pub loop-place-preserved : goal.loop-place-preserved
loop-place-preserved c =
    placed_more c.deref-one-items.result.now c.loop-place.place c.one-item.result
    (get nat_eq c.loop-place.places) (get nat_eq c.put_place.new.places)
    (omega (arith, c.loop-place-test.true)) c.one-item.is
    (λ other. c.in_ok-put_place.ensures other
    ∙ ap (λ n. placed_with n c.loop-place.place (get nat_eq c.loop-place.places) other) c.mixed_type.ensures)
    c.loop-place.invariant
