-- Operations, shipped calls, and values of cases are safe.
use Rattle.std.specs.Prelude.{ℕ, List, ◌∷◌, Option}
use Rattle.au_effects.specs.Answers.{Answer, Result}
use Rattle.au_types.specs.Types.{Meaning}
use Rattle.au_type_texts.specs.Types.{ClosedType}
use Rattle.au_memory.specs.Forests.{Made}
use Rattle.au_memory.specs.Loans.{Types}
use Rattle.au_borrows.specs.Orders.{Act}
use Rattle.au_frames.specs.Frames.{Frame, hold_at, type_at}
use Rattle.au_meaning.specs.Acts.{answered}
use Rattle.au_meaning.specs.Ticks.{comes}
use Rattle.au_meaning.specs.Worlds.{Value, World}
use Rattle.au_sound_calls.specs.Operating.{ComesWell}
use Rattle.au_sound_calls.specs.Sound.{GoesWell}
use Rattle.au_safe_acts.specs.Good.{Good, IsIn, lying_in}

module _ (types : Types) (owner : ClosedType → Option (List ℕ)) (acts : List Act) (fs : List Frame)
    (sizes : List ℕ) (under : Made) (w : World) (ticks : ℕ) where
  -- An operation that comes to something good is.
  abbrev pub ComesSafely : Type 0
  ComesSafely =
      (t : Meaning) (result : Result (List ℕ))
      → ComesWell ClosedType types owner acts (hold_at fs) (type_at fs) under
      (lying_in w) sizes w.store t result
      → Good owner (λ (v : Value) n. IsIn types owner acts fs sizes ((v, t) ∷ under) n) (comes result w ticks)

  -- So is a shipped call that goes well.
  abbrev pub GoesSafely : Type 0
  GoesSafely =
      (t : Meaning) (answer : Answer (List ℕ) ClosedType)
      → GoesWell types owner acts (hold_at fs) (type_at fs) t under (lying_in w) sizes answer
      → Good owner (λ (v : Value) n. IsIn types owner acts fs sizes ((v, t) ∷ under) n)
      (answered answer w ticks)
