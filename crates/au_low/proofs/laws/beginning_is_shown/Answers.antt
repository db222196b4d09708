use Rattle.std.proofs.Common.{refl}
use Rattle.au_effects.specs.Calls.{shipped}
use Rattle.au_low.specs.Instructions.{act}
use Rattle.au_low.specs.Runs.{exec}
use Rattle.au_low.proofs.laws.beginning_is_shown.Goals as goal

pub returns : goal.returns
unfolding act exec shipped
returns c = record {
  limit_first = refl;
  no_function = refl;
  parameters = refl;
  root_slot = refl;
  root_type = refl;
}
