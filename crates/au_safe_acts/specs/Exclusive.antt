-- Borrows are exclusive, as a world of the meaning shows it.
use Rattle.std.specs.Prelude.{◌≡◌, ◌≢◌, List, Contains}
use Rattle.au_effects.specs.Values.{Place, reference}
use Rattle.au_syntax.specs.declared.types.Access.TheVariants.{Read, Write}
use Rattle.au_agreeing.specs.Stores.{memory_of}
use Rattle.au_meaning.specs.Worlds.{Borrow, World}
use Rattle.au_readers.specs.Exclusive.{IsHeldAt, Overlap, Spot}

-- Borrows are exclusive in a world: in what its names hold, with all that lies in boxes and buffers there.
pub record IsExclusive (w : World) : Type 0 where
  -- of the references that are held for one open write borrow, no two have overlapping places
  pub writers : (one : Borrow) → Contains w.borrows one → one.access ≡ Write
      → (here there : Spot) (p q : Place) → here ≢ there
      → IsHeldAt (memory_of w.store) here (reference one.number p)
      → IsHeldAt (memory_of w.store) there (reference one.number q)
      → Overlap (memory_of w.store) p q → ⊥
  -- and none has a place that overlaps that of an open read borrow, so nothing is written there
  pub reads : (one : Borrow) → Contains w.borrows one → one.access ≡ Write
      → (here : Spot) (p : Place) → IsHeldAt (memory_of w.store) here (reference one.number p)
      → (seen : Borrow) → Contains w.borrows seen → seen.access ≡ Read
      → Overlap (memory_of w.store) p seen.place → ⊥
