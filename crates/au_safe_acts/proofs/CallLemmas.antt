-- Operations and shipped calls.
use Rattle.std.proofs.Common.{ℕ, List, Option}
use Rattle.au_effects.specs.Answers.{aborts, fault, gives, no_rule, none, value, waits, writes}
use Rattle.au_type_texts.specs.Types.{ClosedType}
use Rattle.au_memory.specs.Forests.{Made}
use Rattle.au_memory.specs.Loans.{Types}
use Rattle.au_borrows.specs.Orders.{Act}
use Rattle.au_frames.specs.Frames.{Frame}
use Rattle.au_meaning.specs.Worlds.{World}
use Rattle.au_safe_acts.specs.Calling.{ComesSafely, GoesSafely}

module _ (types : Types) (owner : ClosedType → Option (List ℕ)) (acts : List Act) (fs : List Frame)
    (sizes : List ℕ) (under : Made) (w : World) (ticks : ℕ) where
  pub comes_safely : ComesSafely types owner acts fs sizes under w ticks
  comes_safely t (value v) well = well
  comes_safely t (fault f) well = well
  comes_safely t no_rule well = absurd well

  pub goes_safely : GoesSafely types owner acts fs sizes under w ticks
  goes_safely t (gives v store) well = well
  goes_safely t (writes bytes store) well = well
  goes_safely t waits well = absurd well
  goes_safely t (aborts why store) well = well
  goes_safely t none well = absurd well
