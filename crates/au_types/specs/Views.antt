-- What the code's types mean.
use Rattle.std.specs.Prelude.{List, [], ◌∷◌}
use Rattle.au_types.specs.declared.types.Ty.{Ty, Unit, Bool, Int, Text, Param, Named', Read', Write'}
use Rattle.au_types.specs.declared.types.Ty.{Row_of-Arg, end_of-Arg, more_of-Arg}
use Rattle.au_types.specs.declared.types.Arg.{Arg, Of, In}
use Rattle.au_types.specs.Types.{Meaning, Argument, Arguments, unit, truth, integer, text, parameter, named}
use Rattle.au_types.specs.Types.{reads, writes, of_type, in_region, no_arguments, arguments}

unfoldable mutual
  -- a type
  pub meaning : Ty → Meaning
  meaning Unit = unit
  meaning Bool = truth
  meaning (Int kind) = integer kind
  meaning Text = text
  meaning (Param name) = parameter name
  meaning (Named' of shape args) = named of (row_arguments args)
  meaning (Read' p to region) = reads (meaning to) region
  meaning (Write' p to region) = writes (meaning to) region

  -- an argument
  pub argument : Arg → Argument
  argument (Of t) = of_type (meaning t)
  argument (In region) = in_region region

  -- the arguments of a declared type
  pub row_arguments : {m : _} → Row_of-Arg m → Arguments
  row_arguments end_of-Arg = no_arguments
  row_arguments (more_of-Arg one rest) = arguments (argument one) (row_arguments rest)

-- arguments in order
abbrev pub argument_all : List Arg → Arguments
argument_all [] = no_arguments
argument_all (one ∷ rest) = arguments (argument one) (argument_all rest)
