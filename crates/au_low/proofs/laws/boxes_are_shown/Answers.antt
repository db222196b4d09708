use Rattle.std.proofs.Common.{refl}
use Rattle.au_effects.specs.Calls.{shipped}
use Rattle.au_low.specs.Instructions.{act}
use Rattle.au_low.specs.Runs.{exec}
use Rattle.au_low.proofs.laws.boxes_are_shown.Goals as goal

pub returns : goal.returns
unfolding act exec shipped
returns c = record {
  make = refl;
  tells = refl;
  unbox = refl;
  unbox_ends = refl;
  get = refl;
  get_mut = refl;
}
