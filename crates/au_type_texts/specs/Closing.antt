-- Which closed type a type is, once its regions are left out.
use Rattle.std.specs.Prelude.{Option, None, Some}
use Rattle.std.specs.Option.{option_map}
use Rattle.au_types.specs.Types as whole
use Rattle.au_types.specs.Types.{Meaning, Argument, Arguments}
use Rattle.au_type_texts.specs.Types.{ClosedType, ClosedTypes, unit, truth, integer, text, named, reads}
use Rattle.au_type_texts.specs.Types.{writes, no_types, types}

-- a closed type in front of others, where there are both
abbrev pub in_front : Option ClosedType → Option ClosedTypes → Option ClosedTypes
in_front (Some one) (Some rest) = Some (types one rest)
in_front one rest = None

abbrev mutual
  -- a type, and none where a type parameter stands in it
  pub closed : Meaning → Option ClosedType
  closed whole.unit = Some unit
  closed whole.truth = Some truth
  closed (whole.integer kind) = Some (integer kind)
  closed whole.text = Some text
  closed (whole.parameter name) = None
  closed (whole.named at args) = option_map (named at) (all_closed args)
  closed (whole.reads to region) = option_map reads (closed to)
  closed (whole.writes to region) = option_map writes (closed to)

  -- an argument in front of others: a region is left out
  pub argument_closed : Argument → Option ClosedTypes → Option ClosedTypes
  argument_closed (whole.of_type t) rest = in_front (closed t) rest
  argument_closed (whole.in_region region) rest = rest

  -- those arguments that are types, in order
  pub all_closed : Arguments → Option ClosedTypes
  all_closed whole.no_arguments = Some no_types
  all_closed (whole.arguments one rest) = argument_closed one (all_closed rest)
