-- Frames come and go.
use Rattle.std.specs.Prelude.{◌≡◌, ℕ, ◌≤◌, List, [], ◌∷◌, length, map, Option, Some}
use Rattle.au_effects.specs.Values.{name_of}
use Rattle.au_effects.specs.Worlds.{World}
use Rattle.au_places.specs.Memories.{Memory}
use Rattle.au_types.specs.Types.{Meaning}
use Rattle.au_memory.specs.Forests.{Hold, Made, empty}
use Rattle.au_memory.specs.Loans.{Types}
use Rattle.au_memory.specs.Shown.{AreDeclared, AreLawful}
use Rattle.au_memory.specs.Trees.{Value}
use Rattle.au_lending.specs.Holding.{with_hold, with_name}
use Rattle.au_lending.specs.Records.{onto}
use Rattle.au_borrows.specs.Orders.{Act}
use Rattle.au_borrows.specs.Told.{Told}
use Rattle.au_acting.specs.Safe.{IsSafe}
use Rattle.au_frames.specs.Frames.{Frame, IsLoose, filled, frame_of, hold_at, standing, type_at, with_frame}
use Rattle.au_frames.specs.Frames.{without_frame}

-- ---- names of the running frame

-- In the newest frame a name stands as it says, and what is said of a name of it is said of the frame.
abbrev pub NamesAreOfFrames : Type 0
NamesAreOfFrames =
    (f : Frame) (fs : List Frame) (x : ℕ)
    → (hold_at (f ∷ fs) (length fs) x ≡ f.hold x) × (type_at (f ∷ fs) (length fs) x ≡ f.type x)
    × ((h : Hold) (k y : ℕ)
    → with_hold (length fs) x h (hold_at (f ∷ fs)) k y ≡ hold_at (standing x h f ∷ fs) k y)
    × ((t : Meaning) (k y : ℕ)
    → with_name (length fs) x t (type_at (f ∷ fs)) k y ≡ type_at (filled x t f ∷ fs) k y)

module _ (B : Type 0) (types : Types) (owner : B → Option (List ℕ)) (acts : List Act) (fs : List Frame)
    (under : Made) (m : Memory (List ℕ)) (w : Told B) where
  -- A frame begins, whose names from one on take the newest values, in order.
  abbrev pub FramesBegin : Type 0
  FramesBegin =
      (values : Made) (first : ℕ) → IsSafe types owner acts (hold_at fs) (type_at fs) (onto values under) m w
      → IsSafe types owner acts (hold_at (frame_of first values ∷ fs))
      (type_at (frame_of first values ∷ fs)) under
      (with_frame (length fs) first values m) w

  -- A frame ends of which the first so many names are loose and the others empty: what they hold is dropped.
  abbrev pub FramesEnd : Type 0
  FramesEnd =
      AreDeclared types → AreLawful types → (f : Frame) (n : ℕ)
      → ((x : ℕ) → IsLoose types (f.hold x) (f.type x))
      → ((x : ℕ) → n ≤ x → f.hold x ≡ empty)
      → IsSafe types owner acts (hold_at (f ∷ fs)) (type_at (f ∷ fs)) under m w
      → IsSafe types owner acts (hold_at fs) (type_at fs) under (without_frame (length fs) m) w
