use Rattle.std.proofs.Common.{refl}
use Rattle.au_ints.specs.Operations.{trapped, wrapped, converted}
use Rattle.au_ints.specs.Orders.{truth_of}
use Rattle.au_effects.specs.Calls.{shipped}
use Rattle.au_low.specs.Instructions.{act}
use Rattle.au_low.specs.Runs.{exec}
use Rattle.au_low.proofs.laws.other_is_stuck.Goals as goal

pub returns : goal.returns
unfolding act exec shipped trapped wrapped converted truth_of
returns c = record {
  range = record { ending = refl; made = refl };
  kind = record { ending = refl; made = refl };
  kind_of_slots = record { ending = refl; made = refl };
  truths_in_order = record { ending = refl; made = refl };
  no_truth = record { ending = refl; made = refl };
  no_record = record { ending = refl; made = refl };
  no_reference = record { ending = refl; made = refl };
  no_exit_code = record { ending = refl; made = refl };
  an_argument_twice = record { ending = refl; made = refl };
  an_argument_beyond = record { ending = refl; made = refl };
  wraps_are_no_shipped_calls = record { ending = refl; made = refl };
  a_type_without_a_birth = record { ending = refl; made = refl };
  again_is_no_slot = record { ending = refl; made = refl };
}
