-- Frames of a running program: how the names of each stand, and their types.
use Rattle.std.specs.Prelude.{◌≡◌, ◌⊎◌, ℕ, suc, ◌==◌, true, if◌then◌else◌, List, [], ◌∷◌, length, Option}
use Rattle.std.specs.Prelude.{Some, None}
use Rattle.au_effects.specs.Values.{Base, Value, content_of, name_of}
use Rattle.au_places.specs.Memories.{Memory, with_base}
use Rattle.au_running_types.specs.Running.{token}
use Rattle.au_types.specs.Types.{Meaning, unit, writes}
use Rattle.au_memory.specs.Forests.{Hold, Holds, Made, empty, ready}
use Rattle.au_memory.specs.Loans.{Types}

-- a frame: how each of its names stands, and the type of each
pub record Frame : Type 0 where
  pub hold : ℕ → Hold
  pub type : ℕ → Meaning

-- How names stand in frames, the newest first, and which types they have. The number of a frame is how many
-- are below it.
abbrev pub hold_at : List Frame → Holds
hold_at [] k x = empty
hold_at (f ∷ fs) k x = if length fs == k then f.hold x else hold_at fs k x

abbrev pub type_at : List Frame → ℕ → ℕ → Meaning
type_at [] k x = unit
type_at (f ∷ fs) k x = if length fs == k then f.type x else type_at fs k x

-- a frame of which no name holds anything
abbrev pub no_names : Frame
no_names = record { hold = λ x. empty; type = λ x. unit }

-- one name of a frame stands so, or holds a value of this type
abbrev pub standing : ℕ → Hold → Frame → Frame
standing x h f = record { hold = λ y. if x == y then h else f.hold y; type = f.type }

abbrev pub filled : ℕ → Meaning → Frame → Frame
filled x t f = record {
  hold = λ y. if x == y then ready else f.hold y;
  type = λ y. if x == y then t else f.type y;
}

-- ---- a call

-- a frame of which names from one on hold these values
abbrev pub frame_of : ℕ → Made → Frame
frame_of first [] = no_names
frame_of first (v ∷ vs) = filled first v.1 (frame_of (suc first) vs)

-- a memory in which they do
abbrev pub with_frame : ℕ → ℕ → Made → Memory (List ℕ) → Memory (List ℕ)
with_frame k first [] m = m
with_frame k first (v ∷ vs) m = with_base (name_of k first) (Some v.0) (with_frame k (suc first) vs m)

-- ---- a return

-- a memory without the names of a frame
abbrev pub at_outside : {T : Type 0} → ℕ → Memory T → Base → Option (Value T)
at_outside k m (name_of frame x) = if k == frame then None else m.at (name_of frame x)
at_outside k m (content_of i) = m.at (content_of i)

abbrev pub without_frame : {T : Type 0} → ℕ → Memory T → Memory T
without_frame k m = record { at = λ base. at_outside k m base; elements = m.elements }

-- a type whose values may be dropped: it is Free, or one of references that write
abbrev pub IsDroppable : Types → Meaning → Type 0
IsDroppable types t = (types.is_free t ≡ true) ⊎ ((of : Meaning) × (z : ℕ) × (t ≡ writes of (token z)))

-- a name is empty, or it is ready and what it holds may be dropped
abbrev pub IsLoose : Types → Hold → Meaning → Type 0
IsLoose types h t = (h ≡ empty) ⊎ ((h ≡ ready) × IsDroppable types t)
