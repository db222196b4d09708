-- Names of the running frame are filled in a row, and emptied at the end of a block: both safe.
use Rattle.std.specs.Prelude.{ℕ, zero, suc, ◌+◌, ◌<◌, ◌≤◌, ◌≡◌, List, [], ◌∷◌, length, Option}
use Rattle.au_type_texts.specs.Types.{ClosedType}
use Rattle.au_memory.specs.Forests.{Made, empty}
use Rattle.au_memory.specs.Loans.{Types}
use Rattle.au_lending.specs.Records.{onto}
use Rattle.au_safe_acts.specs.Orders.{Act}
use Rattle.au_safe_acts.specs.Frames.{Frame, IsLoose, filled, standing}
use Rattle.au_meaning.specs.Acts.{emptied, with_values}
use Rattle.au_meaning.specs.Worlds.{World}
use Rattle.au_safe_acts.specs.Sound.{AreTyped}
use Rattle.au_safe_acts.specs.Good.{IsIn, IsRunning}
use Rattle.au_safe_acts.specs.Making.{values_of}

-- a frame of which names from one on hold these values, and one of which so many are emptied
abbrev pub filled_from : ℕ → Made → Frame → Frame
filled_from first [] f = f
filled_from first (v ∷ vs) f = filled_from (suc first) vs (filled first v.1 f)

abbrev pub emptied_from : ℕ → ℕ → Frame → Frame
emptied_from first zero f = f
emptied_from first (suc count) f = emptied_from (suc first) count (standing first empty f)

module _ (types : Types) (owner : ClosedType → Option (List ℕ)) (acts : List Act) (f : Frame)
    (fs : List Frame)
    (sizes : List ℕ) (size : ℕ) (under : Made) (w : World) where
  -- Names from one on, which are empty, take the newest values in order.
  abbrev pub FillsWell : Type 0
  FillsWell =
      IsRunning sizes fs size → (first : ℕ) (vs : Made) → first + length vs ≤ size
      → ((x : ℕ) → first ≤ x → x < first + length vs → f.hold x ≡ empty)
      → IsIn types owner acts (f ∷ fs) sizes (onto vs under) w
      → IsIn types owner acts (filled_from first vs f ∷ fs) sizes under (with_values first (values_of vs) w)

  -- So many names from one on are emptied, of which each is empty or holds what may be dropped.
  abbrev pub EmptiesWell : Type 0
  EmptiesWell =
      AreTyped types → IsRunning sizes fs size → (first count : ℕ) → first + count ≤ size
      → ((x : ℕ) → first ≤ x → x < first + count → IsLoose types (f.hold x) (f.type x))
      → IsIn types owner acts (f ∷ fs) sizes under w
      → IsIn types owner acts (emptied_from first count f ∷ fs) sizes under (emptied first count w)
