use Rattle.std.proofs.Common.{refl}
use Rattle.au_effects.specs.Calls.{shipped}
use Rattle.au_low.specs.Instructions.{act}
use Rattle.au_low.specs.Runs.{exec}
use Rattle.au_low.proofs.laws.prints_are_shown.Goals as goal

pub returns : goal.returns
unfolding act exec shipped
returns c = record {
  text_printed = refl;
  text_line = refl;
  number_printed = refl;
  number_line = refl;
  truth_printed = refl;
  truth_line = refl;
  gives_unit = refl;
  span_length = refl;
  abort = refl;
  swap = refl;
  swap_puts = refl;
}
