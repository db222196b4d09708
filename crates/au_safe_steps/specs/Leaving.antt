-- Many tokens end at once, as a return asks it; frames that wait for none of them stay; and a new frame has
-- room.
use Rattle.std.specs.Prelude.{◌≡◌, ℕ, ◌+◌, List, [], ◌∷◌, ◌++◌, length, take, Option}
use Rattle.au_type_texts.specs.Types.{ClosedType}
use Rattle.au_memory.specs.Forests.{Hold, IsAmong, Made, empty, ready, shut, watched}
use Rattle.au_memory.specs.Loans.{Types}
use Rattle.au_safe_acts.specs.Orders.{Act}
use Rattle.au_safe_acts.specs.Frames.{Frame}
use Rattle.au_meaning.specs.Acts.{closed_to, new_names}
use Rattle.au_meaning.specs.Worlds.{World}
use Rattle.au_safe_acts.specs.Closing.{freed_frames}
use Rattle.au_safe_acts.specs.Good.{IsIn, IsRunning, lying_in}
use Rattle.au_safe_acts.specs.Making.{values_of}

-- ---- tokens

-- frames whose names were freed of tokens, one after another
abbrev pub freed_of : List Act → List Frame → List Frame
freed_of [] fs = fs
freed_of (a ∷ rest) fs = freed_of rest (freed_frames a.token fs)

-- Where borrows are closed until as many are left as lay open when a token began, this one ends and all
-- that are newer.
abbrev pub TokensEndTo : Type 0
TokensEndTo =
    (types : Types) (owner : ClosedType → Option (List ℕ)) (newest : List Act) (a : Act) (older : List Act)
    (fs : List Frame) (sizes : List ℕ) (under : Made) (w : World)
    → IsIn types owner (newest ++ a ∷ older) fs sizes under w
    → IsIn types owner older (freed_of (newest ++ a ∷ []) fs) sizes under (closed_to (length a.base) w)
    × (lying_in (closed_to (length a.base) w) ≡ a.base)

-- ---- frames

-- A name doesn't wait for a token: it isn't shut for it, nor watched for it, but for others of which there
-- is one.
abbrev pub IsClear : ℕ → Hold → Type 0
IsClear z empty = Unit {0}
IsClear z ready = Unit {0}
IsClear z (shut y) = z ≡ y → ⊥
IsClear z (watched []) = ⊥
IsClear z (watched (y ∷ tokens)) = IsAmong z (y ∷ tokens) → ⊥

-- no name of frames does
abbrev pub AreClear : ℕ → List Frame → Type 0
AreClear z [] = Unit {0}
AreClear z (f ∷ fs) = ((x : ℕ) → IsClear z (f.hold x)) × AreClear z fs

-- Then the end of the token leaves them as they are.
abbrev pub OthersStay : Type 0
OthersStay = (z : ℕ) (fs : List Frame) → AreClear z fs → freed_frames z fs ≡ fs

-- A frame that begins is the running one, and has room for its names; without it there are the sizes from
-- before.
abbrev pub FramesHaveRoom : Type 0
FramesHaveRoom =
    (sizes : List ℕ) (fs : List Frame) (first others : ℕ) (values : Made) → length sizes ≡ length fs
    → IsRunning (sizes ++ length (new_names first (values_of values) others) ∷ []) fs
    (first + (length values + others))
    × (take (length fs) (sizes ++ length (new_names first (values_of values) others) ∷ []) ≡ sizes)
