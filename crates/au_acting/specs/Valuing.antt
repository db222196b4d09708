-- Values under way come and go: those that hold nothing, boxes, buffers, records and unions. Each birth and
-- each end of one is told.
use Rattle.std.specs.Prelude.{◌≡◌, ℕ, true, false, List, [], ◌∷◌, Option, Some, None}
use Rattle.au_effects.specs.Values.{box, buffer, content_of, made}
use Rattle.au_effects.specs.Worlds.{born}
use Rattle.au_events.specs.Laws.{FitsHome}
use Rattle.au_places.specs.Memories.{Memory, with_base, with_items}
use Rattle.au_running_types.specs.Running.{token}
use Rattle.au_types.specs.Types.{Meaning, writes}
use Rattle.au_memory.specs.Forests.{Holds, Made}
use Rattle.au_memory.specs.Loans.{Types}
use Rattle.au_memory.specs.Shown.{AreDeclared, AreLawful, IsPlain}
use Rattle.au_memory.specs.Trees.{Value}
use Rattle.au_lending.specs.Buffers.{BuffersAreAlone}
use Rattle.au_lending.specs.Laws.{BoxesAreAlone}
use Rattle.au_lending.specs.Parting.{CasesAreAlone}
use Rattle.au_lending.specs.Records.{fields_made, onto, types_made}
use Rattle.au_borrows.specs.Orders.{Act}
use Rattle.au_borrows.specs.Told.{Told, with_birth, with_end}
use Rattle.au_acting.specs.Safe.{IsSafe}

-- a value is consumed that may have a birth
abbrev pub with_spent : {B : Type 0} → Option ℕ → Told B → Told B
with_spent None w = w
with_spent (Some i) w = with_end i w

module _ (B : Type 0) (types : Types) (owner : B → Option (List ℕ)) (acts : List Act) (hold : Holds)
    (type : ℕ → ℕ → Meaning) (under : Made) (m : Memory (List ℕ)) (w : Told B) where
  -- ---- what holds nothing

  -- A value that holds nothing comes under way.
  abbrev pub Plains : Type 0
  Plains =
      (v : Value) (t : Meaning) → IsPlain v t → IsSafe types owner acts hold type under m w
      → IsSafe types owner acts hold type ((v, t) ∷ under) m w

  -- A value of a Free type is dropped, and so is a write reference.
  abbrev pub Drops : Type 0
  Drops =
      AreLawful types → (v : Value) (t : Meaning) → types.is_free t ≡ true
      → IsSafe types owner acts hold type ((v, t) ∷ under) m w → IsSafe types owner acts hold type under m w

  abbrev pub DropsWriters : Type 0
  DropsWriters =
      AreDeclared types → (r : Value) (t : Meaning) (z : ℕ)
      → IsSafe types owner acts hold type ((r, writes t (token z)) ∷ under) m w
      → IsSafe types owner acts hold type under m w

  -- ---- boxes and buffers

  -- A box is made of the newest value, as the next birth.
  abbrev pub MakesBoxes : Type 0
  MakesBoxes =
      (v : Value) (of t : Meaning) (kind : B) (home : List ℕ) → types.boxed t ≡ Some of
      → m.at (content_of w.next_birth) ≡ None → FitsHome owner (born w.next_birth kind home)
      → IsSafe types owner acts hold type ((v, of) ∷ under) m w
      → IsSafe types owner acts hold type ((box w.next_birth, t) ∷ under)
      (with_base (content_of w.next_birth) (Some v) m) (with_birth kind home w)

  -- A box is opened, and its content under way in its place.
  abbrev pub OpensBoxes : Type 0
  OpensBoxes =
      AreDeclared types → BoxesAreAlone types → (v : Value) (t of : Meaning) → types.boxed t ≡ Some of
      → IsSafe types owner acts hold type ((v, t) ∷ under) m w
      → (i : ℕ) × (content : Value) × (v ≡ box i) × (m.at (content_of i) ≡ Some content)
      × IsSafe types owner acts hold type ((content, of) ∷ under) (with_base (content_of i) None m)
      (with_end i w)

  -- A buffer without elements is made, as the next birth.
  abbrev pub MakesBuffers : Type 0
  MakesBuffers =
      (t of : Meaning) (kind : B) (home : List ℕ) → types.buffered t ≡ Some of
      → FitsHome owner (born w.next_birth kind home) → IsSafe types owner acts hold type under m w
      → IsSafe types owner acts hold type ((buffer w.next_birth, t) ∷ under)
      (with_items w.next_birth (Some []) m)
      (with_birth kind home w)

  -- A buffer ends where it has no elements.
  abbrev pub EndsBuffers : Type 0
  EndsBuffers =
      AreDeclared types → BuffersAreAlone types → (v : Value) (t of : Meaning) → types.buffered t ≡ Some of
      → IsSafe types owner acts hold type ((v, t) ∷ under) m w
      → (i : ℕ) × (items : List Value) × (v ≡ buffer i) × (m.elements i ≡ Some items)
      × (items ≡ [] → IsSafe types owner acts hold type under (with_items i None m) (with_end i w))

  -- ---- records and unions

  -- A value of a case of a Free type is made of the newest values, without a birth.
  abbrev pub MakesFree : Type 0
  MakesFree =
      (vs : Made) (t : Meaning) (tag : ℕ) → types.fields t tag ≡ Some (types_made vs) → types.is_free t ≡ true
      → IsSafe types owner acts hold type (onto vs under) m w
      → IsSafe types owner acts hold type ((made tag None (fields_made vs), t) ∷ under) m w

  -- One of another type is made as the next birth.
  abbrev pub MakesLinear : Type 0
  MakesLinear =
      (vs : Made) (t : Meaning) (tag : ℕ) (kind : B) (home : List ℕ)
      → types.fields t tag ≡ Some (types_made vs)
      → types.is_free t ≡ false → FitsHome owner (born w.next_birth kind home)
      → IsSafe types owner acts hold type (onto vs under) m w
      → IsSafe types owner acts hold type ((made tag (Some w.next_birth) (fields_made vs), t) ∷ under) m
      (with_birth kind home w)

  -- A value of a case is taken apart, and its fields are under way in its place.
  abbrev pub OpensCases : Type 0
  OpensCases =
      AreDeclared types → CasesAreAlone types → (v : Value) (t : Meaning) (tag : ℕ) (of : List Meaning)
      → types.fields t tag ≡ Some of → IsSafe types owner acts hold type ((v, t) ∷ under) m w
      → (tagged : ℕ) × (birth : Option ℕ) × (parts : Made) × (v ≡ made tagged birth (fields_made parts))
      × (types.fields t tagged ≡ Some (types_made parts))
      × IsSafe types owner acts hold type (onto parts under) m (with_spent birth w)
