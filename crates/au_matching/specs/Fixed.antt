-- Whether a list fixes all names of a type, as a test.
use Rattle.std.specs.Prelude.{Bool, true, false, ◌&&◌, Option, Some, None}
use Rattle.au_types.specs.declared.types.Region.{Region}
use Rattle.au_types.specs.declared.types.Region.TheVariants.{Static, Named, Anonymous}
use Rattle.au_types.specs.Types.{Meaning, Argument, Arguments, unit, truth, integer, text, parameter, named}
use Rattle.au_types.specs.Types.{reads, writes, of_type, in_region, no_arguments, arguments}
use Rattle.au_matching.specs.Bindings.{Bindings, value_of}

-- whether a name stands for a type
abbrev pub is_a_type : Option Argument → Bool
is_a_type None = false
is_a_type (Some (of_type t)) = true
is_a_type (Some (in_region region)) = false

-- whether a name stands for a region
abbrev pub is_a_region : Option Argument → Bool
is_a_region None = false
is_a_region (Some (of_type t)) = false
is_a_region (Some (in_region region)) = true

-- a region
abbrev pub region_fixed : Bindings → Region → Bool
region_fixed s Static = true
region_fixed s (Named name) = is_a_region (value_of name s)
region_fixed s Anonymous = true

abbrev mutual
  -- a type
  pub fixed : Bindings → Meaning → Bool
  fixed s unit = true
  fixed s truth = true
  fixed s (integer kind) = true
  fixed s text = true
  fixed s (parameter name) = is_a_type (value_of name s)
  fixed s (named of args) = all_fixed s args
  fixed s (reads to region) = fixed s to && region_fixed s region
  fixed s (writes to region) = fixed s to && region_fixed s region

  -- an argument
  pub argument_fixed : Bindings → Argument → Bool
  argument_fixed s (of_type t) = fixed s t
  argument_fixed s (in_region region) = region_fixed s region

  -- arguments
  pub all_fixed : Bindings → Arguments → Bool
  all_fixed s no_arguments = true
  all_fixed s (arguments one rest) = argument_fixed s one && all_fixed s rest
