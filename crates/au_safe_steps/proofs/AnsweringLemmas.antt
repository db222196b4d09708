-- What shipped calls come to, also where they wait for a byte.
use Rattle.std.proofs.Common.{ℕ, List, Option}
use Rattle.au_effects.specs.Answers.{aborts, gives, none, waits, writes}
use Rattle.au_effects.specs.Calls.{byte_read, of_one}
use Rattle.au_type_texts.specs.Types.{ClosedType}
use Rattle.au_memory.specs.Forests.{Made}
use Rattle.au_memory.specs.Loans.{Types}
use Rattle.au_safe_acts.specs.Orders.{Act}
use Rattle.au_safe_acts.specs.Frames.{Frame}
use Rattle.au_meaning.specs.Acts.{next_byte, other_bytes}
use Rattle.au_meaning.specs.Worlds.{World}
use Rattle.au_safe_acts.proofs.CallLemmas.{goes_safely}
use Rattle.au_safe_steps.specs.Answering.{AnswersWell, HearsWell}

module _ (types : Types) (owner : ClosedType → Option (List ℕ)) (acts : List Act) (fs : List Frame)
    (sizes : List ℕ) (under : Made) (w : World) (ticks : ℕ) where
  pub answers_well : AnswersWell types owner acts fs sizes under w ticks
  answers_well t args (gives v store) well = well
  answers_well t args (writes bytes store) well = well
  answers_well t args waits well = absurd well
  answers_well t args (aborts why store) well = well
  answers_well t args none well = absurd well

  pub hears_well : HearsWell types owner acts fs sizes under w ticks
  hears_well t args each =
      goes_safely types owner acts fs sizes under (record w { left = other_bytes w.left }) ticks t
      (of_one (byte_read (next_byte w.left) w.store) args) (each (next_byte w.left))
