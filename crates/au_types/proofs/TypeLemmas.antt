-- What the code's types mean, variant by variant. The views are opaque; these equations stand for them,
-- and `type_steps` names them all.
use Rattle.std.proofs.Common.{◌≡◌, ℕ, ◌+◌, ◌<◌, List, [], ◌∷◌, ◌++◌, length, take, Vec, ap, ◌∙◌, refl, get_or}
use Rattle.std.specs.Global.{Global}
use mathlib.Core.Former.{Count}
use Rattle.std.proofs.lemmas.List.{take_more}
use Rattle.std.specs.declared.boxed.Box.{Box}
use Rattle.au_base.specs.declared.kinds.IntKind.{IntKind}
use Rattle.au_types.specs.declared.types.DeclAt.{DeclAt}
use Rattle.au_types.specs.declared.types.Region.{Region}
use Rattle.au_types.specs.declared.types.Ty.{Ty, Unit, Bool, Int, Text, Param, Named, Read, Write, Row_of-Arg}
use Rattle.au_types.specs.declared.types.Ty.{end_of-Arg, more_of-Arg, items-the_row-Arg}
use Rattle.au_types.specs.declared.types.Ty.{items_hidden-the_row-Arg-0}
use Rattle.au_types.specs.declared.types.Arg.{Arg, Of, In}
use Rattle.au_types.specs.declared.types.Arg.TheBlock.{hidden-the_row-Arg-0}
use Rattle.au_types.specs.Types.{Argument, Arguments, unit, truth, integer, text, parameter, named, reads}
use Rattle.au_types.specs.Types.{writes, of_type, in_region, no_arguments, arguments}
use Rattle.au_types.specs.Views.{meaning, argument, row_arguments, argument_all}

pub row_arguments_is : (n : Count) (row : Row_of-Arg n) → row_arguments row ≡ argument_all (items-the_row-Arg n row)
unfolding row_arguments
row_arguments_is n end_of-Arg = refl
row_arguments_is n (more_of-Arg one rest) = ap (arguments (argument one)) (row_arguments_is _ rest)

pub unit_means : meaning Unit ≡ unit
unfolding meaning
unit_means = refl

pub truth_means : meaning Bool ≡ truth
unfolding meaning
truth_means = refl

pub integer_means : (kind : IntKind) → meaning (Int kind) ≡ integer kind
unfolding meaning
integer_means kind = refl

pub text_means : meaning Text ≡ text
unfolding meaning
text_means = refl

pub parameter_means : (name : List ℕ) → meaning (Param name) ≡ parameter name
unfolding meaning
parameter_means name = refl

pub named_means : (of : DeclAt) (args : Vec Arg Global) → meaning (Named of args) ≡ named of (argument_all args.items)
unfolding meaning
named_means of args = ap (named of)
    (row_arguments_is _ (hidden-the_row-Arg-0 args) ∙ ap argument_all (items_hidden-the_row-Arg-0 args))

pub reads_means : (to : Box Ty Global) (region : Region) → meaning (Read to region) ≡ reads (meaning to.value) region
unfolding meaning
reads_means to region = refl

pub writes_means : (to : Box Ty Global) (region : Region) → meaning (Write to region) ≡ writes (meaning to.value) region
unfolding meaning
writes_means to region = refl

pub type_argument_means : (of : Ty) → argument (Of of) ≡ of_type (meaning of)
unfolding argument
type_argument_means of = refl

pub region_argument_means : (region : Region) → argument (In region) ≡ in_region region
unfolding argument
region_argument_means region = refl

-- arguments with one behind them
pub snoc_arguments : Arguments → Argument → Arguments
snoc_arguments no_arguments one = arguments one no_arguments
snoc_arguments (arguments first rest) one = arguments first (snoc_arguments rest one)

pub arguments_push : (xs : List Arg) (x : Arg) → argument_all (xs ++ x ∷ [])
    ≡ snoc_arguments (argument_all xs) (argument x)
unfolding snoc_arguments
arguments_push [] x = refl
arguments_push (y ∷ ys) x = ap (arguments (argument y)) (arguments_push ys x)

pub arguments_more : (xs : List Arg) (i : ℕ) (d : Arg) → i < length xs → argument_all (take (i + 1) xs)
    ≡ snoc_arguments (argument_all (take i xs)) (argument (get_or xs i d))
arguments_more xs i d h = ap argument_all (take_more xs i d h) ∙ arguments_push (take i xs) (get_or xs i d)

pub ruleset type_steps = (
  unit_means,
  truth_means,
  integer_means,
  text_means,
  parameter_means,
  named_means,
  reads_means,
  writes_means,
  type_argument_means,
  region_argument_means,
  arguments_push,
  arguments_more,
)
