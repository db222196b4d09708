use Rattle.std.proofs.Common.{refl}
use Rattle.au_ints.specs.Operations.{trapped, wrapped, converted}
use Rattle.au_ints.specs.Orders.{truth_of}
use Rattle.au_effects.specs.Calls.{shipped}
use Rattle.au_low.specs.Instructions.{act}
use Rattle.au_low.specs.Runs.{exec}
use Rattle.au_low.proofs.laws.calls_are_shown.Goals as goal

pub returns : goal.returns
unfolding act exec shipped trapped wrapped converted truth_of
returns c = record {
  call = refl;
  call_begins = refl;
  success = refl;
  failure = refl;
  steps = refl;
  limit = refl;
  closes_first = refl;
}
