use Rattle.std.proofs.Common.{refl}
use Rattle.au_ints.specs.Operations.{trapped, wrapped, converted}
use Rattle.au_ints.specs.Orders.{truth_of}
use Rattle.au_effects.specs.Calls.{shipped}
use Rattle.au_low.specs.Instructions.{act}
use Rattle.au_low.specs.Runs.{exec}
use Rattle.au_low.proofs.laws.missing_is_stuck.Goals as goal

pub returns : goal.returns
unfolding act exec shipped trapped wrapped converted truth_of
returns c = record {
  operand = record { ending = refl; made = refl };
  second_operand = record { ending = refl; made = refl };
  slot = record { ending = refl; made = refl };
  slot_value = record { ending = refl; made = refl };
  filled_by_store_alone = record { ending = refl; made = refl };
  field = record { ending = refl; made = refl };
  label = record { ending = refl; made = refl };
  text = record { ending = refl; made = refl };
  type = record { ending = refl; made = refl };
  function = record { ending = refl; made = refl };
  instruction = record { ending = refl; made = refl };
  slot_of_a_field = record { ending = refl; made = refl };
  case_of_a_label = record { ending = refl; made = refl };
  type_of_a_birth = record { ending = refl; made = refl };
  slot_of_a_borrow = record { ending = refl; made = refl };
  place = record { ending = refl; made = refl };
}
