-- Tokens and borrows of the meaning are safe.
use Rattle.std.specs.Prelude.{◌≡◌, ℕ, false, List, [], ◌∷◌, length, Option}
use Rattle.au_type_texts.specs.Types.{ClosedType}
use Rattle.au_memory.specs.Forests.{Made}
use Rattle.au_memory.specs.Loans.{Types}
use Rattle.au_lending.specs.Ending.{freed}
use Rattle.au_borrows.specs.Orders.{Act, is_active}
use Rattle.au_frames.specs.Frames.{Frame}
use Rattle.au_meaning.specs.Acts.{closed_to}
use Rattle.au_meaning.specs.Worlds.{World}
use Rattle.au_safe_acts.specs.Good.{IsIn, lying_in}

-- a frame whose names were freed of a token
abbrev pub freed_frame : ℕ → Frame → Frame
freed_frame z f = record { hold = λ x. freed z (f.hold x); type = f.type }

abbrev pub freed_frames : ℕ → List Frame → List Frame
freed_frames z [] = []
freed_frames z (f ∷ fs) = freed_frame z f ∷ freed_frames z fs

module _ (types : Types) (owner : ClosedType → Option (List ℕ)) (acts : List Act) (fs : List Frame)
    (sizes : List ℕ) (under : Made) (w : World) where
  -- A token begins, whose base is what lies open.
  abbrev pub TokensBegin : Type 0
  TokensBegin =
      IsIn types owner acts fs sizes under w
      → (z : ℕ) × (is_active acts z ≡ false)
      × IsIn types owner (record { token = z; base = lying_in w } ∷ acts) fs sizes under w

  -- The newest token ends where borrows are closed until as many are left as lay open when it began.
  abbrev pub TokensEnd : Type 0
  TokensEnd =
      (a : Act) (older : List Act) → acts ≡ a ∷ older → IsIn types owner acts fs sizes under w
      → IsIn types owner older (freed_frames a.token fs) sizes under (closed_to (length a.base) w)
