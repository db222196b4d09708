-- What is done to names.
use Rattle.std.specs.Prelude.{◌≡◌, ℕ, true, false, List, [], ◌∷◌, Option, Some, None}
use Rattle.au_effects.specs.References.{name_along, place_along}
use Rattle.au_effects.specs.Values.{Place, name_of, reference}
use Rattle.au_places.specs.Memories.{Memory, held_at, with_base, written}
use Rattle.au_running_types.specs.Running.{token}
use Rattle.au_types.specs.Types.{Meaning, reads, writes}
use Rattle.au_memory.specs.Forests.{Holds, Made, empty, ready, shut}
use Rattle.au_memory.specs.Loans.{Types}
use Rattle.au_memory.specs.Shown.{AreDeclared, AreLawful}
use Rattle.au_memory.specs.Trees.{Value}
use Rattle.au_lending.specs.Holding.{with_hold, with_name}
use Rattle.au_lending.specs.Laws.{IsReadable, also_watched}
use Rattle.au_lending.specs.Parting.{CasesAreAlone}
use Rattle.au_lending.specs.Seeing.{LeadsOn}
use Rattle.au_borrows.specs.Orders.{Act, is_active}
use Rattle.au_borrows.specs.Told.{Told, with_opening, with_use}
use Rattle.au_acting.specs.Safe.{IsSafe}

module _ (B : Type 0) (types : Types) (owner : B → Option (List ℕ)) (acts : List Act) (hold : Holds)
    (type : ℕ → ℕ → Meaning) (under : Made) (m : Memory (List ℕ)) (w : Told B) where
  -- A name that is ready is mentioned, and its value moved out of it.
  abbrev pub Mentions : Type 0
  Mentions =
      (frame x : ℕ) → hold frame x ≡ ready → IsSafe types owner acts hold type under m w
      → (v : Value) × (m.at (name_of frame x) ≡ Some v)
      × IsSafe types owner acts (with_hold frame x empty hold) type ((v, type frame x) ∷ under)
      (with_base (name_of frame x) None m) w

  -- A name that is empty takes the newest value.
  abbrev pub Fills : Type 0
  Fills =
      (frame x : ℕ) (v : Value) (t : Meaning) → hold frame x ≡ empty
      → IsSafe types owner acts hold type ((v, t) ∷ under) m w
      → IsSafe types owner acts (with_hold frame x ready hold) (with_name frame x t type) under
      (with_base (name_of frame x) (Some v) m) w

  -- ---- borrows, each for the newest token

  -- A name that is ready is lent to write, with the next borrow.
  abbrev pub Lends : Type 0
  Lends =
      (a : Act) (older : List Act) → acts ≡ a ∷ older → (frame x : ℕ) → hold frame x ≡ ready
      → IsSafe types owner acts hold type under m w
      → IsSafe types owner acts (with_hold frame x (shut a.token) hold) type
      ((reference w.next_borrow (name_along frame x []), writes (type frame x) (token a.token)) ∷ under) m
      (with_opening true (name_along frame x []) w)

  -- One that is ready, or lent to read, is lent to read.
  abbrev pub Reads : Type 0
  Reads =
      (a : Act) (older : List Act) → acts ≡ a ∷ older → (frame x : ℕ) → IsReadable (hold frame x)
      → IsSafe types owner acts hold type under m w
      → IsSafe types owner acts (with_hold frame x (also_watched a.token (hold frame x)) hold) type
      ((reference w.next_borrow (name_along frame x []), reads (type frame x) (token a.token)) ∷ under) m
      (with_opening false (name_along frame x []) w)

  -- A write reference in a name that is ready is lent again, while the region of its type is in scope.
  abbrev pub Relends : Type 0
  Relends =
      AreDeclared types → (a : Act) (older : List Act) → acts ≡ a ∷ older
      → (frame x : ℕ) (t : Meaning) (y : ℕ)
      → hold frame x ≡ ready → type frame x ≡ writes t (token y) → is_active acts y ≡ true
      → IsSafe types owner acts hold type under m w
      → (borrow : ℕ) × (to : Place) × (m.at (name_of frame x) ≡ Some (reference borrow to))
      × IsSafe types owner acts (with_hold frame x (shut a.token) hold) type
      ((reference w.next_borrow to, writes t (token a.token)) ∷ under) m (with_opening true to w)

  -- ---- parts of Free type

  -- A part of a name that is ready, or lent to read, is copied.
  abbrev pub Looks : Type 0
  Looks =
      AreDeclared types → CasesAreAlone types → AreLawful types → (frame x : ℕ) → IsReadable (hold frame x)
      → (path : List ℕ) (u : Meaning) → LeadsOn types (type frame x) path u → types.is_free u ≡ true
      → IsSafe types owner acts hold type under m w
      → (v : Value) × (held_at m (name_along frame x path) ≡ Some v)
      × IsSafe types owner acts hold type ((v, u) ∷ under) m w

  -- So is a part of what a write reference in it leads to, whose borrow is used.
  abbrev pub LooksBehind : Type 0
  LooksBehind =
      AreDeclared types → CasesAreAlone types → AreLawful types → (frame x : ℕ) → IsReadable (hold frame x)
      → (t : Meaning) (z : ℕ) → type frame x ≡ writes t (token z) → is_active acts z ≡ true
      → (path : List ℕ) (u : Meaning) → LeadsOn types t path u → types.is_free u ≡ true
      → IsSafe types owner acts hold type under m w
      → (borrow : ℕ) × (to : Place) × (v : Value) × (m.at (name_of frame x) ≡ Some (reference borrow to))
      × (held_at m (place_along to path) ≡ Some v)
      × IsSafe types owner acts hold type ((v, u) ∷ under) m (with_use borrow w)

  -- The newest value is put in the place of a part of a name that is ready.
  abbrev pub Puts : Type 0
  Puts =
      AreDeclared types → CasesAreAlone types → AreLawful types → (frame x : ℕ) → hold frame x ≡ ready
      → (path : List ℕ) (v : Value) (u : Meaning) → LeadsOn types (type frame x) path u
      → types.is_free u ≡ true
      → IsSafe types owner acts hold type ((v, u) ∷ under) m w
      → (old : Value) × (held_at m (name_along frame x path) ≡ Some old)
      × IsSafe types owner acts hold type under (written (name_along frame x path) v m) w

  -- So it is in that of a part of what a write reference in a name leads to, whose borrow is used.
  abbrev pub PutsBehind : Type 0
  PutsBehind =
      AreDeclared types → CasesAreAlone types → AreLawful types → (frame x : ℕ) → IsReadable (hold frame x)
      → (t : Meaning) (z : ℕ) → type frame x ≡ writes t (token z) → is_active acts z ≡ true
      → (path : List ℕ) (v : Value) (u : Meaning) → LeadsOn types t path u → types.is_free u ≡ true
      → IsSafe types owner acts hold type ((v, u) ∷ under) m w
      → (borrow : ℕ) × (to : Place) × (old : Value) × (m.at (name_of frame x) ≡ Some (reference borrow to))
      × (held_at m (place_along to path) ≡ Some old)
      × IsSafe types owner acts hold type under (written (place_along to path) v m) (with_use borrow w)
