-- Where the reading of a type stops, however deep the type is: token by token, with what is open.
use Rattle.std.specs.Prelude.{ℕ, suc, Bool, true, false, List, [], ◌∷◌, Option, Some, None, cond, length}
use Rattle.std.specs.Prelude.{reverse}
use Rattle.au_base.specs.declared.tokens.Sign.TheVariants.{LeftBracket, RightBracket, Comma, ReadBorrow}
use Rattle.au_base.specs.declared.tokens.Sign.TheVariants.{WriteBorrow}
use Rattle.au_base.specs.declared.tokens.Token.{Token}
use Rattle.au_base.specs.declared.tokens.What.{What}
use Rattle.au_base.specs.declared.tokens.What.TheVariants.{Sign, Name}
use Rattle.au_read_expressions.specs.Reading.{same_what}
use Rattle.au_read_expressions.specs.declared.stops.Awaits.{Awaits}
use Rattle.au_read_expressions.specs.declared.stops.Awaits.TheVariants as awaits
use Rattle.au_read_expressions.specs.declared.stops.Within.{Within}
use Rattle.au_read_expressions.specs.declared.stops.Within.TheVariants as within

-- what may stand at a place of a type, and what is open there, the innermost first
abbrev pub Place : Type 0
Place = Awaits × List Within

-- behind the first token of a type
abbrev pub begun : List Within → What → Option Place
begun inside (Name bytes) = Some (awaits.Arguments, inside)
begun inside (Sign ReadBorrow) = Some (awaits.Target, inside)
begun inside (Sign WriteBorrow) = Some (awaits.Target, inside)
begun inside other = None

abbrev pub is_name : What → Bool
is_name (Name bytes) = true
is_name other = false

-- behind a token that stands behind a whole type
abbrev pub behind_type : List Within → What → Option Place
behind_type [] what = None
behind_type (within.Arguments ∷ inside) what =
    cond (same_what what (Sign Comma)) (Some (awaits.Type, within.Arguments ∷ inside))
    (cond (same_what what (Sign RightBracket)) (Some (awaits.Behind, inside)) None)
behind_type (within.Target ∷ inside) what =
    cond (same_what what (Sign Comma)) (Some (awaits.Region, inside)) None

-- behind a token, if it may stand at the place
abbrev pub next : Place → What → Option Place
next (awaits.Type, inside) what = begun inside what
next (awaits.Target, inside) what =
    cond (same_what what (Sign LeftBracket)) (Some (awaits.Type, within.Target ∷ inside)) None
next (awaits.Arguments, inside) what =
    cond (same_what what (Sign LeftBracket)) (Some (awaits.Type, within.Arguments ∷ inside))
    (behind_type inside what)
next (awaits.Behind, inside) what = behind_type inside what
next (awaits.Region, inside) what = cond (is_name what) (Some (awaits.Close, inside)) None
next (awaits.Close, inside) what =
    cond (same_what what (Sign RightBracket)) (Some (awaits.Behind, inside)) None

-- how many tokens are left where reading stops: with the first one that may not stand at its place, which the
-- place behind it tells, or where there is none any more
abbrev pub stops : Option Place → List Token → ℕ
stops None tokens = suc (length tokens)
stops (Some place) [] = 0
stops (Some place) (token ∷ tokens) = stops (next place token.what) tokens

-- the place that code holds: with what is open there, the innermost last
abbrev pub place_held : Option Awaits → List Within → Option Place
place_held None inside = None
place_held (Some awaits) inside = Some (awaits, reverse inside)
