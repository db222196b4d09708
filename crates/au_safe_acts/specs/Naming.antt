-- What the meaning does to names of the running frame is safe.
use Rattle.std.specs.Prelude.{◌≡◌, ℕ, ◌<◌, true, List, ◌∷◌, Option}
use Rattle.au_types.specs.Types.{Meaning}
use Rattle.au_type_texts.specs.Types.{ClosedType}
use Rattle.au_memory.specs.Forests.{Made, empty, ready}
use Rattle.au_memory.specs.Loans.{Types}
use Rattle.au_memory.specs.Shown.{AreDeclared, AreLawful}
use Rattle.au_lending.specs.Laws.{IsReadable}
use Rattle.au_lending.specs.Parting.{CasesAreAlone}
use Rattle.au_lending.specs.Seeing.{LeadsOn}
use Rattle.au_borrows.specs.Orders.{Act}
use Rattle.au_frames.specs.Frames.{Frame, filled, standing}
use Rattle.au_meaning.specs.Acts.{holds, looks, moves, sets}
use Rattle.au_meaning.specs.Worlds.{Value, World}
use Rattle.au_safe_acts.specs.Good.{Good, IsIn, IsRunning}

module _ (types : Types) (owner : ClosedType → Option (List ℕ)) (acts : List Act) (f : Frame)
    (fs : List Frame)
    (sizes : List ℕ) (size : ℕ) (under : Made) (w : World) (ticks : ℕ) where
  -- A part of Free type of a name that may be looked at is copied.
  abbrev pub LooksWell : Type 0
  LooksWell =
      AreDeclared types → CasesAreAlone types → AreLawful types → IsRunning sizes fs size
      → (x : ℕ) (path : List ℕ) (u : Meaning) → IsReadable (f.hold x) → LeadsOn types (f.type x) path u
      → types.is_free u ≡ true → IsIn types owner acts (f ∷ fs) sizes under w
      → Good owner (λ (v : Value) n. IsIn types owner acts (f ∷ fs) sizes ((v, u) ∷ under) n)
      (looks x path w ticks)

  -- What a name that is ready holds is moved out of it.
  abbrev pub MovesWell : Type 0
  MovesWell =
      IsRunning sizes fs size → (x : ℕ) → f.hold x ≡ ready → IsIn types owner acts (f ∷ fs) sizes under w
      → Good owner
      (λ (v : Value) n. IsIn types owner acts (standing x empty f ∷ fs) sizes ((v, f.type x) ∷ under) n)
      (moves x w ticks)

  -- A name that is empty, and that the frame has, takes the newest value.
  abbrev pub HoldsWell : Type 0
  HoldsWell =
      IsRunning sizes fs size → (x : ℕ) (v : Value) (t : Meaning) → x < size → f.hold x ≡ empty
      → IsIn types owner acts (f ∷ fs) sizes ((v, t) ∷ under) w
      → Good owner (λ (a : Unit {0}) n. IsIn types owner acts (filled x t f ∷ fs) sizes under n)
      (holds x v w ticks)

  -- A part of Free type of a name that is ready gives way to the newest value.
  abbrev pub SetsWell : Type 0
  SetsWell =
      AreDeclared types → CasesAreAlone types → AreLawful types → IsRunning sizes fs size
      → (x : ℕ) (path : List ℕ) (v : Value) (u : Meaning) → f.hold x ≡ ready → LeadsOn types (f.type x) path u
      → types.is_free u ≡ true → IsIn types owner acts (f ∷ fs) sizes ((v, u) ∷ under) w
      → Good owner (λ (old : Value) n. IsIn types owner acts (f ∷ fs) sizes under n) (sets x path v w ticks)
