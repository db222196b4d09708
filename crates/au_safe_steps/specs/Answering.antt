-- What shipped calls come to, also where they wait for a byte: safe.
use Rattle.std.specs.Prelude.{ℕ, List, ◌∷◌, Option}
use Rattle.au_effects.specs.Answers.{Answer, waits}
use Rattle.au_effects.specs.Calls.{byte_read, of_one}
use Rattle.au_types.specs.Types.{Meaning}
use Rattle.au_type_texts.specs.Types.{ClosedType}
use Rattle.au_memory.specs.Forests.{Made}
use Rattle.au_memory.specs.Loans.{Types}
use Rattle.au_safe_acts.specs.Orders.{Act}
use Rattle.au_safe_acts.specs.Frames.{Frame, hold_at, type_at}
use Rattle.au_meaning.specs.Acts.{told}
use Rattle.au_meaning.specs.Worlds.{Value, World}
use Rattle.au_safe_acts.specs.Sound.{GoesWell}
use Rattle.au_safe_acts.specs.Good.{Good, IsIn, lying_in}

module _ (types : Types) (owner : ClosedType → Option (List ℕ)) (acts : List Act) (fs : List Frame)
    (sizes : List ℕ) (under : Made) (w : World) (ticks : ℕ) where
  -- a shipped call that goes well
  abbrev pub AnswersWell : Type 0
  AnswersWell =
      (t : Meaning) (args : List Value) (answer : Answer (List ℕ) ClosedType)
      → GoesWell types owner acts (hold_at fs) (type_at fs) t under (lying_in w) sizes answer
      → Good owner (λ (v : Value) n. IsIn types owner acts fs sizes ((v, t) ∷ under) n)
      (told args answer w ticks)

  -- one that waits, and goes well whichever byte comes
  abbrev pub HearsWell : Type 0
  HearsWell =
      (t : Meaning) (args : List Value)
      → ((byte : Option ℕ) → GoesWell types owner acts (hold_at fs) (type_at fs) t under (lying_in w) sizes
      (of_one (byte_read byte w.store) args))
      → Good owner (λ (v : Value) n. IsIn types owner acts fs sizes ((v, t) ∷ under) n)
      (told args waits w ticks)
