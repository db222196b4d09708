use Rattle.std.proofs.Common.{refl}
use Rattle.au_ints.specs.Operations.{trapped, wrapped, converted}
use Rattle.au_ints.specs.Orders.{truth_of}
use Rattle.au_effects.specs.Calls.{shipped}
use Rattle.au_low.specs.Instructions.{act}
use Rattle.au_low.specs.Runs.{exec}
use Rattle.au_low.proofs.laws.operands_are_shown.Goals as goal

pub returns : goal.returns
unfolding act exec shipped trapped wrapped converted truth_of
returns c = record {
  push = refl;
  push_bool = refl;
  push_unit = refl;
  push_text = refl;
  discard = refl;
  arith = refl;
  overflow = refl;
  wrap = refl;
  wrap_ordered = refl;
  compare = refl;
  compare_truths = refl;
  negation = refl;
  conversion = refl;
  conversion_fails = refl;
  jump = refl;
  jump_not = refl;
  jump_not_taken = refl;
}
