-- A part of Free type of what a name holds, or of what a reference in it leads to, gives way to another
-- value.
use Rattle.std.specs.Prelude.{◌≡◌, ℕ, ◌+◌, Bool, true, List, ◌∷◌, Some}
use Rattle.au_effects.specs.References.{name_along, place_along}
use Rattle.au_effects.specs.Values.{Place, name_of, reference}
use Rattle.au_places.specs.Memories.{Memory, held_at, written}
use Rattle.au_places.specs.Places.{Id}
use Rattle.au_running_types.specs.Running.{token}
use Rattle.au_types.specs.Types.{Meaning, writes}
use Rattle.au_memory.specs.Forests.{Core, Holds, Made, ready, in_forest, in_list}
use Rattle.au_memory.specs.Loans.{Types, Table}
use Rattle.au_memory.specs.Shown.{AreDeclared, AreLawful}
use Rattle.au_memory.specs.Trees.{Value}
use Rattle.au_lending.specs.Laws.{IsReadable}
use Rattle.au_lending.specs.Parting.{CasesAreAlone}
use Rattle.au_lending.specs.Seeing.{LeadsOn}

module _ (types : Types) (clock : ℕ) (scope act : ℕ → Bool) (hold : Holds) (type : ℕ → ℕ → Meaning)
    (v : Value) (u : Meaning) (under : Made) (s : Table) (m : Memory (List ℕ))
    (core : Core types clock scope act hold type ((v, u) ∷ under) s m) where
  -- The newest value is put at a place where a value stands, which is no more; and everything counts as it
  -- did.
  pub record Put (to : Place) : Type 0 where
    pub old : Value
    pub there : held_at m to ≡ Some old
    pub after : Core types clock scope act hold type under s (written to v m)
    pub counts : (id : Id)
        → in_forest id after.top after.forest + in_list id after.trees
        ≡ in_forest id core.top core.forest + in_list id core.trees

  -- So it may be at the end of a path from a name that is ready, where what stands there is of a Free type,
  -- which is that of the value.
  abbrev pub PartsArePut : Type 0
  PartsArePut =
      AreDeclared types → CasesAreAlone types → AreLawful types → (frame x : ℕ) → hold frame x ≡ ready
      → (path : List ℕ) → LeadsOn types (type frame x) path u → types.is_free u ≡ true
      → Put (name_along frame x path)

  -- The same behind a write reference in a name that is ready, or lent to read, while the region of its
  -- type is in scope.
  abbrev pub PartsArePutBehind : Type 0
  PartsArePutBehind =
      AreDeclared types → CasesAreAlone types → AreLawful types → (frame x : ℕ) → IsReadable (hold frame x)
      → (t : Meaning) (z : ℕ) → type frame x ≡ writes t (token z) → scope z ≡ true
      → (path : List ℕ) → LeadsOn types t path u → types.is_free u ≡ true
      → (borrow : ℕ) × (to : Place) × (m.at (name_of frame x) ≡ Some (reference borrow to))
      × Put (place_along to path)
