-- The first of some places.
use Rattle.std.specs.Prelude.{List, [], ◌∷◌, Option, None, Some}
use Rattle.au_base.specs.declared.places.Pos.{Pos}
use Rattle.au_syntax.specs.Plain.{Bytes, PlainExpression}
use Rattle.au_lives.specs.declared.lives.Sort.{Sort}
use Rattle.au_lives.specs.Lives.{Hold}
use Rattle.au_lives.specs.Places.{consumptions_at, partings_at}
use Rattle.au_linear.specs.declared.sought.Sought.{Sought}
use Rattle.au_linear.specs.declared.sought.Sought.TheVariants as soughts

abbrev pub first_of : List Pos → Option Pos
first_of [] = None
first_of (at ∷ rest) = Some at

-- the first place, or else the other
abbrev pub or_else : Option Pos → Option Pos → Option Pos
or_else (Some at) other = Some at
or_else None other = other

-- the places of an expression that are sought
abbrev pub sought_at : Sought → Bytes → Sort → Hold → PlainExpression → List Pos
sought_at soughts.Consumption x sort = consumptions_at x sort
sought_at soughts.Parting x sort = partings_at x sort
