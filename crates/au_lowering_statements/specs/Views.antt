-- What is kept of the variables in scope, which fields are bound, and where arms begin.
use Rattle.std.specs.Prelude.{◌≡◌, ℕ, List, Option, Some, None, length, map, take}
use Rattle.au_type_texts.specs.Types as types
use Rattle.au_type_texts.specs.Types.{ClosedType}
use Rattle.au_type_texts.specs.Views.{closed_meaning}
use Rattle.au_closed_meanings.specs.Surroundings.{Surroundings, fields_in}
use Rattle.au_lowering_expressions.specs.declared.locals.Local.{Local}
use Rattle.au_lowering_statements.specs.declared.arms.Start.{Start}
use Rattle.au_lowering_statements.specs.declared.taking.Taken.{Taken}
use Rattle.au_meaning.specs.Views.{Field}
use Rattle.au_syntax.specs.declared.types.Access.{Access}
use Rattle.au_syntax.specs.declared.types.Access.TheVariants as access

-- variables with more behind them
abbrev pub Begins : List Local → List Local → Type 0
Begins first all = take (length first) all ≡ first

-- the access of a reference, if the type is that of one
abbrev pub access_behind : ClosedType → Option Access
access_behind (types.reads of) = Some access.Read
access_behind (types.writes of) = Some access.Write
access_behind other = None

-- the type of what is reached through a reference of an access, or not through one
abbrev pub reached : Option Access → ClosedType → ClosedType
reached None of = of
reached (Some access.Read) of = types.reads of
reached (Some access.Write) of = types.writes of

-- the fields that are bound
abbrev pub fields_taken : Surroundings → Taken → List Field
fields_taken round taken =
    map (λ (field : Field). record field { of = reached taken.through field.of })
    (fields_in round (closed_meaning taken.of.now) taken.tag)

-- where arms begin: the number of the case, if there is one, and the place
abbrev pub starts_said : List Start → List (Option ℕ × ℕ)
starts_said all = map (λ (one : Start). (one.tag, one.place)) all
