-- Frames of the meaning begin and end: both safe.
use Rattle.std.specs.Prelude.{◌≡◌, ℕ, suc, ◌≤◌, List, [], ◌∷◌, ◌++◌, length, take, Option}
use Rattle.au_type_texts.specs.Types.{ClosedType}
use Rattle.au_memory.specs.Forests.{Made, empty}
use Rattle.au_memory.specs.Loans.{Types}
use Rattle.au_lending.specs.Records.{onto}
use Rattle.au_borrows.specs.Orders.{Act}
use Rattle.au_frames.specs.Frames.{Frame, IsLoose, frame_of}
use Rattle.au_meaning.specs.Acts.{begins, ends_frame, new_names}
use Rattle.au_meaning.specs.Worlds.{World}
use Rattle.au_sound_calls.specs.Sound.{AreTyped}
use Rattle.au_safe_acts.specs.Good.{IsIn}
use Rattle.au_safe_acts.specs.Making.{values_of}

module _ (types : Types) (owner : ClosedType → Option (List ℕ)) (acts : List Act) (fs : List Frame)
    (sizes : List ℕ) (under : Made) (w : World) where
  -- A frame begins, of which names from one on hold the arguments, which were the newest values.
  abbrev pub EntersWell : Type 0
  EntersWell =
      (first others : ℕ) (values : Made) → length sizes ≡ length fs
      → IsIn types owner acts fs sizes (onto values under) w
      → IsIn types owner acts (frame_of first values ∷ fs)
      (sizes ++ length (new_names first (values_of values) others) ∷ []) under
      (begins (new_names first (values_of values) others) w)

  -- The newest frame ends, of which the first so many names are loose and the others empty.
  abbrev pub LeavesWell : Type 0
  LeavesWell =
      AreTyped types → (f : Frame) (n : ℕ) → ((x : ℕ) → IsLoose types (f.hold x) (f.type x))
      → ((x : ℕ) → n ≤ x → f.hold x ≡ empty) → length sizes ≡ suc (length fs)
      → IsIn types owner acts (f ∷ fs) sizes under w
      → IsIn types owner acts fs (take (length fs) sizes) under (ends_frame w)
