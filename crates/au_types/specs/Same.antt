-- Whether two types are one type.
use Rattle.std.specs.Prelude.{Bool, true, false, ◌&&◌}
use Rattle.std.specs.Str.{bytes_eq}
use denote.Enum.Bare.{sameb}
use Rattle.au_base.specs.contracts.kinds.IntKind.{the_type as kind}
use Rattle.au_types.specs.declared.types.Region.{Region}
use Rattle.au_types.specs.declared.types.Region.TheVariants.{Static, Named, Anonymous}
use Rattle.au_types.specs.Rows.{same_place}
use Rattle.au_types.specs.Types.{Meaning, Argument, Arguments, unit, truth, integer, text, parameter, named}
use Rattle.au_types.specs.Types.{reads, writes, of_type, in_region, no_arguments, arguments}

-- two regions
abbrev pub same_region : Region → Region → Bool
same_region Static Static = true
same_region (Named a) (Named b) = bytes_eq a b
same_region Anonymous Anonymous = true
same_region a b = false

abbrev mutual
  -- two types
  pub same : Meaning → Meaning → Bool
  same unit unit = true
  same truth truth = true
  same (integer a) (integer b) = sameb kind a b
  same text text = true
  same (parameter a) (parameter b) = bytes_eq a b
  same (named a args) (named b others) = same_place a b && same_all args others
  same (reads a r) (reads b s) = same a b && same_region r s
  same (writes a r) (writes b s) = same a b && same_region r s
  same a b = false

  -- two arguments
  pub same_argument : Argument → Argument → Bool
  same_argument (of_type a) (of_type b) = same a b
  same_argument (in_region r) (in_region s) = same_region r s
  same_argument a b = false

  -- two lists of arguments, each with that in its place
  pub same_all : Arguments → Arguments → Bool
  same_all no_arguments no_arguments = true
  same_all (arguments a args) (arguments b others) = same_argument a b && same_all args others
  same_all a b = false
