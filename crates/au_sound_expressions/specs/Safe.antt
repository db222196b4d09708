-- What the evaluation of an expression leaves, and what is asked of calls.
use Rattle.std.specs.Prelude.{◌≡◌, ℕ, Bool, true, List, [], ◌∷◌, length, Option}
use Rattle.au_type_texts.specs.Types.{ClosedType}
use Rattle.au_types.specs.Types.{Meaning}
use Rattle.au_lives.specs.Mentions.{Counts}
use Rattle.au_memory.specs.Forests.{Hold, Made, empty, ready, shut, watched}
use Rattle.au_memory.specs.Loans.{Types}
use Rattle.au_lending.specs.Ending.{freed}
use Rattle.au_lending.specs.Records.{onto, types_made}
use Rattle.au_borrows.specs.Orders.{Act, is_active}
use Rattle.au_running_judgements.specs.Frames.{Frame}
use Rattle.au_meaning.specs.Ticks.{Action}
use Rattle.au_meaning.specs.Worlds.{Value, World}
use Rattle.au_running_judgements.specs.Good.{IsIn, lying_in}
use Rattle.au_running_judgements.specs.Held.{ArePermitted, GoodHeld, Permits}
use Rattle.au_running_judgements.specs.Making.{values_of}
use Rattle.au_running_judgements.specs.Known.{AreActive, Callables}
use Rattle.au_running_judgements.specs.Lives.{AreReady, Standing, spent}

-- a name waits for tokens that are active alone
abbrev pub Waits : (ℕ → Bool) → Hold → Type 0
Waits active empty = Unit {0}
Waits active ready = Unit {0}
Waits active (shut z) = active z ≡ true
Waits active (watched []) = ⊥
Waits active (watched (z ∷ zs)) = AreActive active (z ∷ zs)

-- a frame whose names stand so and have these types
abbrev pub frame : Standing → (ℕ → Meaning) → Frame
frame hold names = record { hold = hold; type = names }

-- So does each name of a frame, and whatever it holds is of a type that is permitted.
abbrev pub Stands : {V W : Type 0} → Permits V W → V → (ℕ → Bool) → Standing → (ℕ → Meaning) → Type 0
Stands permits way active hold names = ((k : ℕ) → Waits active (hold k)) × ArePermitted permits way hold names

-- so does each name of frames, the newest first, of functions that were called in these ways
abbrev pub AllWait : {V W : Type 0} → Permits V W → List V → (ℕ → Bool) → List Frame → Type 0
AllWait permits [] active [] = Unit {0}
AllWait permits (way ∷ ways) active (f ∷ fs) =
    Stands permits way active f.hold f.type × AllWait permits ways active fs
AllWait permits ways active fs = ⊥

module _ (types : Types) (owner : ClosedType → Option (List ℕ)) {V W : Type 0} (permits : Permits V W)
    (way : V) (acts : List Act) (names : ℕ → Meaning)
    (fs : List Frame) (sizes : List ℕ) (z : ℕ) where
  -- What an expression of the token z leaves of the running frame, where names stood so before it: a name
  -- is empty where it was consumed, and else stands as before, but for the token; and what is still to come
  -- of it is good for how it stands. The frames below are as they were.
  pub record After (before : Standing) (consumed : ℕ → ℕ)
      (left : ℕ → Counts) (under : Made) (w : World) : Type 0
    where
      pub hold : Standing
      pub met : AreReady hold left
      pub gone : (k : ℕ) → freed z (hold k) ≡ spent (consumed k) (freed z (before k))
      pub waits : Stands permits way (is_active acts) hold names
      pub state : IsIn types owner acts (frame hold names ∷ fs) sizes under w

-- Each call is safe that may be made where the frames are those of functions that were called in these ways:
-- from wherever its arguments are under way, its result is, and borrows lie as they did; and names hold what
-- they may wherever it is cut off.
abbrev pub CallsSafe : Types → (ClosedType → Option (List ℕ)) → {V W : Type 0} → Permits V W
    → List V → {I K : Type 0} → Callables I K
    → (I → List Value → Action Value) → Type 0
CallsSafe types owner permits ways {K = K} known invoke =
    (key : K) (acts : List Act) (fs : List Frame) (sizes : List ℕ) (made under : Made) (w : World) (ticks : ℕ)
    → AreActive (is_active acts) (known.tokens key) → AllWait permits ways (is_active acts) fs
    → length sizes ≡ length fs
    → types_made made ≡ known.parameters key → IsIn types owner acts fs sizes (onto made under) w
    → GoodHeld types owner permits ways
    (λ (v : Value) n. IsIn types owner acts fs sizes ((v, known.result key) ∷ under) n
    × (lying_in n ≡ lying_in w))
    (invoke (known.of key) (values_of made) w ticks)
