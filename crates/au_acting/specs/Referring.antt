-- What is done behind references under way. Each use of a borrow is told.
use Rattle.std.specs.Prelude.{◌≡◌, ℕ, true, List, [], ◌∷◌, ◌++◌, Option, Some}
use Rattle.au_effects.specs.References.{place_along}
use Rattle.au_effects.specs.Values.{Fields, Place, made, box, buffer, reference}
use Rattle.au_places.specs.Memories.{Memory, held_at, with_items, written}
use Rattle.au_places.specs.Places.{content_place}
use Rattle.au_running_types.specs.Running.{token}
use Rattle.au_types.specs.Types.{Meaning, reads, writes}
use Rattle.au_memory.specs.Forests.{Holds, Made}
use Rattle.au_memory.specs.Loans.{Types}
use Rattle.au_memory.specs.Shown.{AreDeclared, AreLawful}
use Rattle.au_memory.specs.Trees.{Value}
use Rattle.au_lending.specs.Buffers.{BuffersAreAlone}
use Rattle.au_lending.specs.Laws.{BoxesAreAlone}
use Rattle.au_lending.specs.Parting.{CasesAreAlone, with_parts}
use Rattle.au_lending.specs.Seeing.{LeadsOn}
use Rattle.au_borrows.specs.Orders.{Act, is_active}
use Rattle.au_borrows.specs.Told.{Told, with_use}
use Rattle.au_acting.specs.Safe.{IsSafe}

module _ (B : Type 0) (types : Types) (owner : B → Option (List ℕ)) (acts : List Act) (hold : Holds)
    (type : ℕ → ℕ → Meaning) (under : Made) (m : Memory (List ℕ)) (w : Told B) where
  -- ---- to write

  -- A value is put behind a write reference, for what stood there: `swap`.
  abbrev pub Swaps : Type 0
  Swaps =
      AreDeclared types → (new r : Value) (t : Meaning) (z : ℕ) → is_active acts z ≡ true
      → IsSafe types owner acts hold type ((new, t) ∷ (r, writes t (token z)) ∷ under) m w
      → (borrow : ℕ) × (to : Place) × (old : Value) × (r ≡ reference borrow to) × (held_at m to ≡ Some old)
      × IsSafe types owner acts hold type ((old, t) ∷ under) (written to new m) (with_use borrow w)

  -- The reference gives way to one to the content of the box that it leads to: `boxGetMut`.
  abbrev pub LendsContents : Type 0
  LendsContents =
      AreDeclared types → BoxesAreAlone types → (r : Value) (t of : Meaning) (z : ℕ) → types.boxed t ≡ Some of
      → is_active acts z ≡ true → IsSafe types owner acts hold type ((r, writes t (token z)) ∷ under) m w
      → (borrow : ℕ) × (to : Place) × (born : ℕ) × (r ≡ reference borrow to)
      × (held_at m to ≡ Some (box born))
      × IsSafe types owner acts hold type ((reference borrow (content_place born), writes of (token z))
      ∷ under) m
      (with_use borrow w)

  -- It gives way to references to the parts of what it leads to: `case`.
  abbrev pub LendsParts : Type 0
  LendsParts =
      AreDeclared types → CasesAreAlone types → (r : Value) (t : Meaning) (z tag : ℕ) (of : List Meaning)
      → types.fields t tag ≡ Some of → is_active acts z ≡ true
      → IsSafe types owner acts hold type ((r, writes t (token z)) ∷ under) m w
      → (borrow : ℕ) × (to : Place) × (tagged : ℕ) × (born : Option ℕ) × (kinds : List Meaning)
      × (parts : Fields (List ℕ)) × (r ≡ reference borrow to) × (held_at m to ≡ Some (made tagged born parts))
      × (types.fields t tagged ≡ Some kinds)
      × IsSafe types owner acts hold type (with_parts borrow to z 0 kinds under) m (with_use borrow w)

  -- ---- to read

  -- A read reference gives way to one to a part of what it leads to: nothing is told.
  abbrev pub Moves : Type 0
  Moves =
      AreDeclared types → CasesAreAlone types → (r : Value) (t : Meaning) (z : ℕ) (path : List ℕ)
      (u : Meaning)
      → LeadsOn types t path u → is_active acts z ≡ true
      → IsSafe types owner acts hold type ((r, reads t (token z)) ∷ under) m w
      → (borrow : ℕ) × (to : Place) × (r ≡ reference borrow to)
      × IsSafe types owner acts hold type ((reference borrow (place_along to path), reads u (token z))
      ∷ under) m w

  -- It gives way to one to the content of the box that it leads to: `boxGet`.
  abbrev pub SeesContents : Type 0
  SeesContents =
      AreDeclared types → BoxesAreAlone types → (r : Value) (t of : Meaning) (z : ℕ) → types.boxed t ≡ Some of
      → is_active acts z ≡ true → IsSafe types owner acts hold type ((r, reads t (token z)) ∷ under) m w
      → (borrow : ℕ) × (to : Place) × (born : ℕ) × (r ≡ reference borrow to)
      × (held_at m to ≡ Some (box born))
      × IsSafe types owner acts hold type ((reference borrow (content_place born), reads of (token z))
      ∷ under) m
      (with_use borrow w)

  -- It gives way to a copy of a part of what it leads to, which is Free.
  abbrev pub Copies : Type 0
  Copies =
      AreDeclared types → CasesAreAlone types → AreLawful types → (r : Value) (t : Meaning) (z : ℕ)
      (path : List ℕ) (u : Meaning) → LeadsOn types t path u → types.is_free u ≡ true
      → is_active acts z ≡ true
      → IsSafe types owner acts hold type ((r, reads t (token z)) ∷ under) m w
      → (borrow : ℕ) × (to : Place) × (v : Value) × (r ≡ reference borrow to)
      × (held_at m (place_along to path) ≡ Some v)
      × IsSafe types owner acts hold type ((v, u) ∷ under) m (with_use borrow w)

  -- ---- elements of buffers

  -- The newest value becomes the last element of a buffer behind a write reference, or is exchanged for one.
  abbrev pub PutsItems : Type 0
  PutsItems =
      AreDeclared types → BuffersAreAlone types → (new r : Value) (t of : Meaning) (z : ℕ)
      → types.buffered t ≡ Some of → is_active acts z ≡ true
      → IsSafe types owner acts hold type ((new, of) ∷ (r, writes t (token z)) ∷ under) m w
      → (borrow : ℕ) × (to : Place) × (born : ℕ) × (items : List Value) × (r ≡ reference borrow to)
      × (held_at m to ≡ Some (buffer born)) × (m.elements born ≡ Some items)
      × IsSafe types owner acts hold type under (with_items born (Some (items ++ new ∷ [])) m)
      (with_use borrow w)
      × ((front back : List Value) (old : Value) → items ≡ front ++ old ∷ back
      → IsSafe types owner acts hold type ((old, of) ∷ under) (with_items born (Some (front ++ new ∷ back)) m)
      (with_use borrow w))

  -- The last element is taken.
  abbrev pub TakesItems : Type 0
  TakesItems =
      AreDeclared types → BuffersAreAlone types → (r : Value) (t of : Meaning) (z : ℕ)
      → types.buffered t ≡ Some of → is_active acts z ≡ true
      → IsSafe types owner acts hold type ((r, writes t (token z)) ∷ under) m w
      → (borrow : ℕ) × (to : Place) × (born : ℕ) × (items : List Value) × (r ≡ reference borrow to)
      × (held_at m to ≡ Some (buffer born)) × (m.elements born ≡ Some items)
      × ((front : List Value) (last : Value) → items ≡ front ++ last ∷ []
      → IsSafe types owner acts hold type ((last, of) ∷ under) (with_items born (Some front) m)
      (with_use borrow w))

  -- An element of Free type is copied, from a buffer behind a read reference.
  abbrev pub CopiesItems : Type 0
  CopiesItems =
      AreDeclared types → BuffersAreAlone types → (r : Value) (t of : Meaning) (z : ℕ)
      → types.buffered t ≡ Some of → is_active acts z ≡ true
      → IsSafe types owner acts hold type ((r, reads t (token z)) ∷ under) m w
      → (borrow : ℕ) × (to : Place) × (born : ℕ) × (items : List Value) × (r ≡ reference borrow to)
      × (held_at m to ≡ Some (buffer born)) × (m.elements born ≡ Some items)
      × (AreLawful types → types.is_free of ≡ true → (front back : List Value) (v : Value)
      → items ≡ front ++ v ∷ back
      → IsSafe types owner acts hold type ((v, of) ∷ under) m (with_use borrow w))
