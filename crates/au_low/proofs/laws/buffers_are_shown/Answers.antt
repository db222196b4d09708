use Rattle.std.proofs.Common.{refl}
use Rattle.au_effects.specs.Calls.{shipped}
use Rattle.au_low.specs.Instructions.{act}
use Rattle.au_low.specs.Runs.{exec}
use Rattle.au_low.proofs.laws.buffers_are_shown.Goals as goal

pub returns : goal.returns
unfolding act exec shipped
returns c = record {
  make = refl;
  insert = refl;
  length = refl;
  remove = refl;
  nth = refl;
  nth_beyond = refl;
  replace = refl;
  replace_beyond = refl;
  destroy = refl;
  destroy_full = refl;
  remove_none = refl;
  used_before_abort = refl;
}
