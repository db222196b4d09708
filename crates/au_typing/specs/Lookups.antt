-- What names, parts and written types mean in a scope.
use Rattle.std.specs.Prelude.{◌≡◌, List, [], ◌∷◌, Bool, Option, Some, None, is_some, option_map}
use Rattle.std.specs.Prelude.{option_and_then, Ok, Err}
use Rattle.std.specs.List.{find}
use Rattle.std.specs.Option.{option_or}
use Rattle.std.specs.Str.{bytes_eq}
use Rattle.au_syntax.specs.Names.{Placed}
use Rattle.au_syntax.specs.Plain.{Bytes}
use Rattle.au_syntax.specs.Types.{WrittenType}
use Rattle.au_types.specs.declared.parameters.Parameter.{Parameter}
use Rattle.au_types.specs.Types.{Meaning, reads, writes}
use Rattle.au_matching.specs.Universes.{is_free, universe_of}
use Rattle.au_judged_types.specs.Bounds.{parameters}
use Rattle.au_judged_types.specs.Judging.{judged}
use Rattle.au_judged_types.specs.Reasons.{Outcome, means, fails}
use Rattle.au_typing.specs.Scopes.{Typed, Scope, Variable}
use Rattle.au_typing.specs.Faults.{Noting, ◌>>=◌, check, known_or, reason_why, why, unknown, shape}
use Rattle.au_typing.specs.Faults.{record_wanted}

-- ---- names

-- the innermost variable of a name
abbrev pub variable_of : Scope → Bytes → Option Variable
variable_of scope name = find (λ one. bytes_eq one.name name) scope.variables

-- the type of a variable
abbrev pub variable_type : Scope → Bytes → Option Meaning
variable_type scope name = option_map (λ one. one.of) (variable_of scope name)

-- the type of what a name means among values: of a variable, and else of a constant
abbrev pub value_type : Scope → Bytes → Option Meaning
value_type scope name = option_or (variable_type scope name) (scope.outside.constant name)

-- the type parameters in scope
abbrev pub parameters_in : Scope → List Parameter
parameters_in scope = parameters scope.generics

-- whether a type is Free there
abbrev pub is_free_in : Scope → Meaning → Bool
is_free_in scope t = is_free (universe_of scope.outside.heads (parameters_in scope) t)

-- ---- parts

-- whether a type is a record that is known there
abbrev pub is_record : Scope → Meaning → Bool
is_record scope t = is_some (scope.outside.fields t)

-- the type of what has a name among fields or parameters
abbrev pub type_of_name : Bytes → List Typed → Option Meaning
type_of_name name fields = option_map (λ one. one.of) (find (λ one. bytes_eq one.name name) fields)

-- the type of a field of a type
abbrev pub field_type : Scope → Meaning → Bytes → Option Meaning
field_type scope t name = option_and_then (type_of_name name) (scope.outside.fields t)

-- a part has a type: each name is a field of what stands before it
abbrev pub IsPart : Scope → Meaning → List (Placed Bytes) → Meaning → Type 0
IsPart scope t [] part = part ≡ t
IsPart scope t (field ∷ fields) part =
    (next : Meaning) × (field_type scope t field.name ≡ Some next) × IsPart scope next fields part

-- the type of a part, or the first name that is no field
abbrev pub part_type : Scope → Meaning → List (Placed Bytes) → Noting Meaning
part_type scope t [] = Ok t
part_type scope t (field ∷ fields) =
    known_or (unknown field.name) (field_type scope t field.name) >>= λ next. part_type scope next fields

-- the type of a part of a record
abbrev pub record_part : Scope → Meaning → List (Placed Bytes) → Noting Meaning
record_part scope t fields = check (is_record scope t) (shape record_wanted) (part_type scope t fields)

-- ---- references

-- the type behind a reference
abbrev pub target_behind : Meaning → Option Meaning
target_behind (reads t region) = Some t
target_behind (writes t region) = Some t
target_behind t = None

-- ---- written types

-- what a written type is judged to mean
abbrev pub written_means : Scope → WrittenType → Outcome Meaning
written_means scope t = judged scope.regions (parameters_in scope) scope.outside.visible scope.outside.heads t

-- the same with the cause of a fault
abbrev pub outcome_noted : {A : Type 0} → Outcome A → Noting A
outcome_noted (means t) = Ok t
outcome_noted (fails reason) = Err (why (reason_why reason))

abbrev pub written_type : Scope → WrittenType → Noting Meaning
written_type scope t = outcome_noted (written_means scope t)
