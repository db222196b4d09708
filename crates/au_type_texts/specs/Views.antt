-- What the code's closed types mean.
use Rattle.std.specs.Prelude.{List, [], ◌∷◌, Vec}
use Rattle.std.specs.Global.{Global}
use Rattle.std.specs.declared.boxed.Box.{Box}
use Rattle.au_type_texts.specs.declared.types.Closed.{Closed, Unit, Bool, Int, Text, Named', Read', Write'}
use Rattle.au_type_texts.specs.declared.types.Closed.{Row_of-Closed, end_of-Closed, more_of-Closed}
use Rattle.au_type_texts.specs.Types.{ClosedType, ClosedTypes, unit, truth, integer, text, named, reads}
use Rattle.au_type_texts.specs.Types.{writes, no_types, types}

unfoldable mutual
  -- a closed type
  pub closed_meaning : Closed → ClosedType
  closed_meaning Unit = unit
  closed_meaning Bool = truth
  closed_meaning (Int kind) = integer kind
  closed_meaning Text = text
  closed_meaning (Named' of shape args) = named of (row_meanings args)
  closed_meaning (Read' p to) = reads (closed_meaning to)
  closed_meaning (Write' p to) = writes (closed_meaning to)

  -- the arguments of a declared type
  pub row_meanings : {m : _} → Row_of-Closed m → ClosedTypes
  row_meanings end_of-Closed = no_types
  row_meanings (more_of-Closed one rest) = types (closed_meaning one) (row_meanings rest)

-- closed types in order
abbrev pub closed_meanings : List Closed → ClosedTypes
closed_meanings [] = no_types
closed_meanings (one ∷ rest) = types (closed_meaning one) (closed_meanings rest)

-- those of a vector
abbrev pub listed_meaning : Vec Closed Global → ClosedTypes
listed_meaning list = closed_meanings list.items

-- that in a box
abbrev pub boxed_meaning : Box Closed Global → ClosedType
boxed_meaning one = closed_meaning one.value
