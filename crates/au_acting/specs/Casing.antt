-- What is seen behind references: cases with their parts, and how many elements a buffer has.
use Rattle.std.specs.Prelude.{◌≡◌, ℕ, suc, true, List, [], ◌∷◌, length, Option, Some}
use Rattle.au_effects.specs.Values.{Fields, Place, buffer, listed, made, reference}
use Rattle.au_places.specs.Memories.{Memory, held_at}
use Rattle.au_places.specs.Places.{part_at}
use Rattle.au_running_types.specs.Running.{token}
use Rattle.au_types.specs.Types.{Meaning, reads, writes}
use Rattle.au_memory.specs.Forests.{Holds, Made}
use Rattle.au_memory.specs.Loans.{Types}
use Rattle.au_memory.specs.Shown.{AreDeclared}
use Rattle.au_memory.specs.Trees.{Value}
use Rattle.au_lending.specs.Buffers.{BuffersAreAlone}
use Rattle.au_lending.specs.Parting.{CasesAreAlone}
use Rattle.au_borrows.specs.Orders.{Act, is_active}
use Rattle.au_borrows.specs.Told.{Told, with_use}
use Rattle.au_acting.specs.Safe.{IsSafe}

-- references to parts, from a number on, come under way, the first one first, to read
abbrev pub with_parts_seen : ℕ → Place → ℕ → ℕ → List Meaning → Made → Made
with_parts_seen b to z i [] under = under
with_parts_seen b to z i (t ∷ ts) under =
    with_parts_seen b to z (suc i) ts ((reference b (part_at i to), reads t (token z)) ∷ under)

module _ (B : Type 0) (types : Types) (owner : B → Option (List ℕ)) (acts : List Act) (hold : Holds)
    (type : ℕ → ℕ → Meaning) (under : Made) (m : Memory (List ℕ)) (w : Told B) where
  -- What a write reference leads to has as many parts as its case has fields.
  abbrev pub HasParts : Type 0
  HasParts =
      AreDeclared types → CasesAreAlone types → (r : Value) (t : Meaning) (z tag : ℕ) (of : List Meaning)
      → types.fields t tag ≡ Some of → is_active acts z ≡ true
      → IsSafe types owner acts hold type ((r, writes t (token z)) ∷ under) m w
      → (borrow : ℕ) (to : Place) (tagged : ℕ) (born : Option ℕ) (parts : Fields (List ℕ))
      (kinds : List Meaning)
      → r ≡ reference borrow to → held_at m to ≡ Some (made tagged born parts)
      → types.fields t tagged ≡ Some kinds
      → length (listed parts) ≡ length kinds

  -- A read reference gives way to references to the parts of what it leads to: `case`.
  abbrev pub SeesParts : Type 0
  SeesParts =
      AreDeclared types → CasesAreAlone types → (r : Value) (t : Meaning) (z tag : ℕ) (of : List Meaning)
      → types.fields t tag ≡ Some of → is_active acts z ≡ true
      → IsSafe types owner acts hold type ((r, reads t (token z)) ∷ under) m w
      → (borrow : ℕ) × (to : Place) × (tagged : ℕ) × (born : Option ℕ) × (kinds : List Meaning)
      × (parts : Fields (List ℕ)) × (r ≡ reference borrow to) × (held_at m to ≡ Some (made tagged born parts))
      × (types.fields t tagged ≡ Some kinds) × (length (listed parts) ≡ length kinds)
      × IsSafe types owner acts hold type (with_parts_seen borrow to z 0 kinds under) m (with_use borrow w)

  -- A read reference is dropped.
  abbrev pub DropsReaders : Type 0
  DropsReaders =
      AreDeclared types → (r : Value) (t : Meaning) (z : ℕ)
      → IsSafe types owner acts hold type ((r, reads t (token z)) ∷ under) m w
      → IsSafe types owner acts hold type under m w

  -- It leads to a buffer, whose elements are seen: `length`.
  abbrev pub SeesItems : Type 0
  SeesItems =
      AreDeclared types → BuffersAreAlone types → (r : Value) (t of : Meaning) (z : ℕ)
      → types.buffered t ≡ Some of → is_active acts z ≡ true
      → IsSafe types owner acts hold type ((r, reads t (token z)) ∷ under) m w
      → (borrow : ℕ) × (to : Place) × (born : ℕ) × (items : List Value) × (r ≡ reference borrow to)
      × (held_at m to ≡ Some (buffer born)) × (m.elements born ≡ Some items)
      × IsSafe types owner acts hold type under m (with_use borrow w)
