use Rattle.std.proofs.Common.{subst, sym}
use Rattle.std.specs.List.{AllByRecursion}
use Rattle.au_cprint.specs.Told.{IsToldFunction, IsToldText}
use Rattle.au_told.specs.Names.{IsPlainFunction}
use Rattle.au_told.proofs.ToldLemmas.{types_told}
use Rattle.au_told.proofs.codes.code_is_told.Goals as goal

pub returns : goal.returns
returns c =
    λ plain. record {
      texts = subst (AllByRecursion IsToldText) c.as_slice.ensures c.texts_are_told.ensures;
      types = types_told c.args.code.now.types plain.types;
      functions = subst (AllByRecursion IsToldFunction) c.as_slice-2.ensures
          (c.functions_are_told.ensures
          (subst (AllByRecursion IsPlainFunction) (sym c.as_slice-2.ensures) plain.functions));
    }
