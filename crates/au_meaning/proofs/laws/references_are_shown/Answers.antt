use Rattle.std.proofs.Common.{refl}
use Rattle.au_effects.specs.Calls.{shipped}
use Rattle.au_meaning.specs.Meanings.{call_at}
use Rattle.au_meaning.specs.Ticks.{follows, ticked}
use Rattle.au_meaning.proofs.laws.references_are_shown.Goals as goal

pub returns : goal.returns
unfolding call_at follows shipped ticked
returns c = record {
  lends = refl;
  returns = refl;
  drops = refl;
  tells_cases = refl;
  closes = refl;
  call_left = refl;
  place_gone = refl;
  no_reference = refl;
}
