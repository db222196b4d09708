-- Whether a type parameter stands in a type.
use Rattle.std.specs.Prelude.{Bool, true, false, ◌||◌}
use Rattle.au_types.specs.Types.{Meaning, Argument, Arguments, unit, truth, integer, text, parameter, named}
use Rattle.au_types.specs.Types.{reads, writes, of_type, in_region, no_arguments, arguments}

abbrev mutual
  -- in a type
  pub has_parameter : Meaning → Bool
  has_parameter unit = false
  has_parameter truth = false
  has_parameter (integer kind) = false
  has_parameter text = false
  has_parameter (parameter name) = true
  has_parameter (named at args) = have_parameter args
  has_parameter (reads to region) = has_parameter to
  has_parameter (writes to region) = has_parameter to

  -- in an argument; a region is none
  pub argument_has : Argument → Bool
  argument_has (of_type t) = has_parameter t
  argument_has (in_region region) = false

  -- in some arguments
  pub have_parameter : Arguments → Bool
  have_parameter no_arguments = false
  have_parameter (arguments one rest) = argument_has one || have_parameter rest
