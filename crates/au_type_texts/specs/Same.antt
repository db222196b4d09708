-- Whether two closed types are one type.
use Rattle.std.specs.Prelude.{Bool, true, false, ◌&&◌}
use denote.Enum.Bare.{sameb}
use Rattle.au_base.specs.contracts.kinds.IntKind.{the_type as kind}
use Rattle.au_types.specs.Rows.{same_place}
use Rattle.au_type_texts.specs.Types.{ClosedType, ClosedTypes, unit, truth, integer, text, named, reads}
use Rattle.au_type_texts.specs.Types.{writes, no_types, types}

abbrev mutual
  -- two closed types
  pub same : ClosedType → ClosedType → Bool
  same unit unit = true
  same truth truth = true
  same (integer a) (integer b) = sameb kind a b
  same text text = true
  same (named a args) (named b others) = same_place a b && same_all args others
  same (reads a) (reads b) = same a b
  same (writes a) (writes b) = same a b
  same a b = false

  -- two lists of closed types, each with that in its place
  pub same_all : ClosedTypes → ClosedTypes → Bool
  same_all no_types no_types = true
  same_all (types a list) (types b others) = same a b && same_all list others
  same_all a b = false
