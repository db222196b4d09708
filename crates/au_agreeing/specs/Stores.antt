-- The store of a running program as a memory, and as what is told of it.
use Rattle.std.specs.Prelude.{◌≡◌, ℕ, ◌<◌, List, length, map, slice_get, Option, Some}
use Rattle.au_effects.specs.Calls.{elements_in}
use Rattle.au_effects.specs.Parts.{along}
use Rattle.au_effects.specs.Places.{base_at}
use Rattle.au_effects.specs.Values.{Value}
use Rattle.au_effects.specs.Worlds.{World}
use Rattle.au_places.specs.Memories.{Memory}
use Rattle.au_borrows.specs.Told.{Open, Told}

module _ {T B : Type 0} where
  -- what its names, its boxes and its buffers hold
  abbrev pub memory_of : World T B → Memory T
  memory_of w = record {
    at = λ base. base_at base w;
    elements = λ i. along (slice_get w.births i) elements_in;
  }

  -- what is told of it, where these borrows lie open
  abbrev pub told_of : List Open → World T B → Told B
  told_of lying w = record {
    next_birth = length w.births;
    next_borrow = w.borrows;
    lying = lying;
    events = w.deeds;
  }

  -- how many names each frame has, the oldest first
  abbrev pub sizes_of : World T B → List ℕ
  sizes_of w = map (λ (names : List (Option (Value T))). length names) w.frames

  -- A frame has a name of this number, whether or not it holds a value.
  pub record HasName (w : World T B) (frame name : ℕ) : Type 0 where
    pub names : List (Option (Value T))
    pub there : slice_get w.frames frame ≡ Some names
    pub within : name < length names
