-- Values under way change places, those that hold nothing are dropped, and borrows of references are used.
use Rattle.std.specs.Prelude.{◌≡◌, ℕ, true, List, ◌∷◌, Option}
use Rattle.au_effects.specs.Values.{Place, reference}
use Rattle.au_places.specs.Memories.{Memory}
use Rattle.au_running_types.specs.Running.{token}
use Rattle.au_types.specs.Types.{Meaning, integer, named, parameter, reads, text, truth, unit, writes}
use Rattle.au_memory.specs.Forests.{Holds, Made}
use Rattle.au_memory.specs.Loans.{Types}
use Rattle.au_memory.specs.Shown.{AreDeclared, IsPlain}
use Rattle.au_memory.specs.Trees.{Value}
use Rattle.au_borrows.specs.Orders.{Act, is_active}
use Rattle.au_borrows.specs.Told.{Told, with_use}
use Rattle.au_acting.specs.Safe.{IsSafe}

-- a type whose values hold nothing
abbrev pub IsBasic : Meaning → Type 0
IsBasic unit = Unit {0}
IsBasic truth = Unit {0}
IsBasic (integer kind) = Unit {0}
IsBasic text = Unit {0}
IsBasic (parameter name) = ⊥
IsBasic (named of args) = ⊥
IsBasic (reads to region) = ⊥
IsBasic (writes to region) = ⊥

module _ (B : Type 0) (types : Types) (owner : B → Option (List ℕ)) (acts : List Act) (hold : Holds)
    (type : ℕ → ℕ → Meaning) (under : Made) (m : Memory (List ℕ)) (w : Told B) where
  -- The two newest values change places.
  abbrev pub Turns : Type 0
  Turns =
      (v u : Value) (t s : Meaning) → IsSafe types owner acts hold type ((v, t) ∷ (u, s) ∷ under) m w
      → IsSafe types owner acts hold type ((u, s) ∷ (v, t) ∷ under) m w

  -- The newest value is of its type where that is one whose values hold nothing, and it is dropped.
  abbrev pub DropsPlains : Type 0
  DropsPlains =
      AreDeclared types → (v : Value) (t : Meaning) → IsBasic t
      → IsSafe types owner acts hold type ((v, t) ∷ under) m w
      → IsPlain v t × IsSafe types owner acts hold type under m w

  -- The borrow of a write reference is used, and nothing else is done; so is that of a read reference, and
  -- that of a write reference below the newest value.
  abbrev pub UsesWriters : Type 0
  UsesWriters =
      AreDeclared types → (r : Value) (t : Meaning) (z : ℕ) → is_active acts z ≡ true
      → IsSafe types owner acts hold type ((r, writes t (token z)) ∷ under) m w
      → (borrow : ℕ) × (to : Place) × (r ≡ reference borrow to)
      × IsSafe types owner acts hold type ((r, writes t (token z)) ∷ under) m (with_use borrow w)

  abbrev pub UsesReaders : Type 0
  UsesReaders =
      AreDeclared types → (r : Value) (t : Meaning) (z : ℕ) → is_active acts z ≡ true
      → IsSafe types owner acts hold type ((r, reads t (token z)) ∷ under) m w
      → (borrow : ℕ) × (to : Place) × (r ≡ reference borrow to)
      × IsSafe types owner acts hold type ((r, reads t (token z)) ∷ under) m (with_use borrow w)

  abbrev pub UsesSeconds : Type 0
  UsesSeconds =
      AreDeclared types → (new r : Value) (u t : Meaning) (z : ℕ) → is_active acts z ≡ true
      → IsSafe types owner acts hold type ((new, u) ∷ (r, writes t (token z)) ∷ under) m w
      → (borrow : ℕ) × (to : Place) × (r ≡ reference borrow to)
      × IsSafe types owner acts hold type ((new, u) ∷ (r, writes t (token z)) ∷ under) m (with_use borrow w)
