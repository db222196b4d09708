use Rattle.std.proofs.Common.{refl}
use Rattle.au_ints.specs.Operations.{trapped, wrapped, converted}
use Rattle.au_ints.specs.Orders.{truth_of}
use Rattle.au_effects.specs.Calls.{shipped}
use Rattle.au_low.specs.Instructions.{act}
use Rattle.au_low.specs.Runs.{exec}
use Rattle.au_low.proofs.laws.slots_are_shown.Goals as goal

pub returns : goal.returns
unfolding act exec shipped trapped wrapped converted truth_of
returns c = record {
  store = refl;
  look = refl;
  move = refl;
  move_pushes = refl;
  set = refl;
  for_test = refl;
  for_test_not = refl;
  for_step = refl;
  for_step_goes = refl;
  for_step_ends = refl;
  make_ordered = refl;
  make_linear = refl;
  make_tells = refl;
  take = refl;
  take_tells = refl;
  case_goes = refl;
  case_takes = refl;
}
