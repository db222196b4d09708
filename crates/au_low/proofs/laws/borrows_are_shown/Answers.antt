use Rattle.std.proofs.Common.{refl}
use Rattle.au_effects.specs.Calls.{shipped}
use Rattle.au_low.specs.Instructions.{act}
use Rattle.au_low.specs.Runs.{exec}
use Rattle.au_low.proofs.laws.borrows_are_shown.Goals as goal

pub returns : goal.returns
unfolding act exec shipped
returns c = record {
  open_pushes = refl;
  open_tells = refl;
  again = refl;
  part = refl;
  part_of_part = refl;
  bind_again = refl;
  read = refl;
  read_tells = refl;
  put = refl;
  deref = refl;
  case_behind = refl;
  case_behind_goes = refl;
  case_behind_tells = refl;
  close = refl;
  close_more = refl;
}
