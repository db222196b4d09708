use Rattle.std.proofs.Common.{subst, sym}
use Rattle.std.specs.List.{AllByRecursion}
use Rattle.au_cprint.specs.Told.{IsToldInstruction}
use Rattle.au_told.specs.Names.{IsPlainInstruction}
use Rattle.au_told.proofs.codes.function_is_told.Goals as goal

pub returns : goal.returns
returns c =
    λ plain. record {
      params = c.number_is_told.ensures;
      slots = c.number_is_told-2.ensures;
      code = subst (AllByRecursion IsToldInstruction) c.as_slice.ensures
          (c.instructions_are_told.ensures
          (subst (AllByRecursion IsPlainInstruction) (sym c.as_slice.ensures) plain));
    }
