-- Places that don't cover each other are independent of each other.
use Rattle.std.specs.Prelude.{◌≡◌, ℕ, suc, ◌+◌, ◌≤◌, Some}
use Rattle.au_effects.specs.Values.{Place, Value}
use Rattle.au_places.specs.Places.{Id, cell_of, in_node, in_place, part_at}
use Rattle.au_places.specs.Memories.{Memory, held_at, written}

-- A place counts once for itself, and each id at most once; and a place is its parts, one by one, and what is
-- left.
abbrev pub PlacesCount : Type 0
PlacesCount =
    ((to : Place) (n : ℕ) → in_node n (cell_of to) to ≡ 1)
    × ((id : Id) (to : Place) (n : ℕ) → in_node n id to ≤ 1)

abbrev pub PlacesSplit : Type 0
PlacesSplit =
    (id : Id) (to : Place) (n : ℕ)
    → in_node n id to ≡ in_node (suc n) id to + in_place id (part_at n to)

module _ (T : Type 0) where
  -- What is written at a place that is there stands there.
  abbrev pub WritesStand : Type 0
  WritesStand =
      (m : Memory T) (to : Place) (old new : Value T) → held_at m to ≡ Some old
      → held_at (written to new m) to ≡ Some new

  -- What is written at one place leaves another as it is where neither covers the other.
  abbrev pub WritesAreApart : Type 0
  WritesAreApart =
      (m : Memory T) (to other : Place) (new : Value T)
      → in_place (cell_of to) other ≡ 0 → in_place (cell_of other) to ≡ 0
      → held_at (written to new m) other ≡ held_at m other
