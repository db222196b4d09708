-- The root, and terminals, which have nothing but their births.
use Rattle.std.specs.Prelude.{◌≡◌, ℕ, true, List, ◌∷◌, Option, Some}
use Rattle.au_effects.specs.Values.{Place, reference, root, terminal}
use Rattle.au_effects.specs.Worlds.{born}
use Rattle.au_events.specs.Laws.{FitsHome}
use Rattle.au_places.specs.Memories.{Memory, held_at}
use Rattle.au_running_types.specs.Running.{token}
use Rattle.au_types.specs.Types.{Meaning, writes}
use Rattle.au_memory.specs.Forests.{Holds, Made}
use Rattle.au_memory.specs.Loans.{Types}
use Rattle.au_memory.specs.Shown.{AreDeclared}
use Rattle.au_memory.specs.Trees.{Value}
use Rattle.au_borrows.specs.Orders.{Act, is_active}
use Rattle.au_borrows.specs.Told.{Told, with_birth, with_end, with_use}
use Rattle.au_acting.specs.Safe.{IsSafe}

-- A type of terminals is no other, and so is that of the root.
pub record GrantsAreAlone (types : Types) : Type 0 where
  pub terminal_fields : (t : Meaning) (tag : ℕ) (parts : List Meaning) → types.is_terminal t ≡ true
      → types.fields t tag ≡ Some parts → ⊥
  pub terminal_boxes : (t of : Meaning) → types.is_terminal t ≡ true → types.boxed t ≡ Some of → ⊥
  pub terminal_buffers : (t of : Meaning) → types.is_terminal t ≡ true → types.buffered t ≡ Some of → ⊥
  pub root_fields : (t : Meaning) (tag : ℕ) (parts : List Meaning) → types.is_root t ≡ true
      → types.fields t tag ≡ Some parts → ⊥
  pub root_boxes : (t of : Meaning) → types.is_root t ≡ true → types.boxed t ≡ Some of → ⊥
  pub root_buffers : (t of : Meaning) → types.is_root t ≡ true → types.buffered t ≡ Some of → ⊥
  pub either : (t : Meaning) → types.is_terminal t ≡ true → types.is_root t ≡ true → ⊥

module _ (B : Type 0) (types : Types) (owner : B → Option (List ℕ)) (acts : List Act) (hold : Holds)
    (type : ℕ → ℕ → Meaning) (under : Made) (m : Memory (List ℕ)) (w : Told B) where
  -- A terminal, or the root, comes under way as the next birth.
  abbrev pub MakesTerminals : Type 0
  MakesTerminals =
      (t : Meaning) (kind : B) (home : List ℕ) → types.is_terminal t ≡ true
      → FitsHome owner (born w.next_birth kind home) → IsSafe types owner acts hold type under m w
      → IsSafe types owner acts hold type ((terminal w.next_birth, t) ∷ under) m (with_birth kind home w)

  abbrev pub MakesRoots : Type 0
  MakesRoots =
      (t : Meaning) (kind : B) (home : List ℕ) → types.is_root t ≡ true
      → FitsHome owner (born w.next_birth kind home) → IsSafe types owner acts hold type under m w
      → IsSafe types owner acts hold type ((root w.next_birth, t) ∷ under) m (with_birth kind home w)

  -- It ends.
  abbrev pub EndsTerminals : Type 0
  EndsTerminals =
      AreDeclared types → GrantsAreAlone types → (v : Value) (t : Meaning) → types.is_terminal t ≡ true
      → IsSafe types owner acts hold type ((v, t) ∷ under) m w
      → (i : ℕ) × (v ≡ terminal i) × IsSafe types owner acts hold type under m (with_end i w)

  abbrev pub EndsRoots : Type 0
  EndsRoots =
      AreDeclared types → GrantsAreAlone types → (v : Value) (t : Meaning) → types.is_root t ≡ true
      → IsSafe types owner acts hold type ((v, t) ∷ under) m w
      → (i : ℕ) × (v ≡ root i) × IsSafe types owner acts hold type under m (with_end i w)

  -- It is used, by a write reference that is under way.
  abbrev pub UsesTerminals : Type 0
  UsesTerminals =
      AreDeclared types → GrantsAreAlone types → (r : Value) (t : Meaning) (z : ℕ)
      → types.is_terminal t ≡ true
      → is_active acts z ≡ true → IsSafe types owner acts hold type ((r, writes t (token z)) ∷ under) m w
      → (borrow : ℕ) × (to : Place) × (i : ℕ) × (r ≡ reference borrow to) × (held_at m to ≡ Some (terminal i))
      × IsSafe types owner acts hold type under m (with_use borrow w)

  abbrev pub UsesRoots : Type 0
  UsesRoots =
      AreDeclared types → GrantsAreAlone types → (r : Value) (t : Meaning) (z : ℕ) → types.is_root t ≡ true
      → is_active acts z ≡ true → IsSafe types owner acts hold type ((r, writes t (token z)) ∷ under) m w
      → (borrow : ℕ) × (to : Place) × (i : ℕ) × (r ≡ reference borrow to) × (held_at m to ≡ Some (root i))
      × IsSafe types owner acts hold type under m (with_use borrow w)
