-- The tests of the rules on single expressions.
use Rattle.std.specs.Prelude.{[], Bool, true, false, Some, None, Ok}
use Rattle.au_base.specs.declared.kinds.IntKind.{IntKind}
use Rattle.au_base.specs.declared.kinds.IntKind.TheVariants.{Int32}
use Rattle.au_syntax.specs.declared.expressions.BinaryOperator.{BinaryOperator}
use Rattle.au_syntax.specs.declared.expressions.BinaryOperator.TheVariants.{Equal, NotEqual, And, Or}
use Rattle.au_types.specs.Same.{same}
use Rattle.au_types.specs.Types.{Meaning, integer, truth}
use Rattle.au_typing.specs.Faults.{Noting, check, different}
use Rattle.au_typing.specs.Limits.{within, types_noted}
use Rattle.au_typing.specs.Notes.{Mode, Note, plain_note}

-- the type that is had where none is wanted of an integer literal
abbrev pub int32 : Meaning
int32 = integer Int32

-- the kind of an integer literal: the wanted one, and else Int32
abbrev pub literal_kind : Mode → IntKind
literal_kind (Some (integer kind)) = kind
literal_kind mode = Int32

-- an integer kind
abbrev pub is_integer : Meaning → Bool
is_integer (integer kind) = true
is_integer t = false

-- a type whose values `=` and `/=` compare
abbrev pub is_integer_or_truth : Meaning → Bool
is_integer_or_truth (integer kind) = true
is_integer_or_truth truth = true
is_integer_or_truth t = false

-- an operation on two Bools
abbrev pub is_logical : BinaryOperator → Bool
is_logical And = true
is_logical Or = true
is_logical operator = false

-- a type on which a comparison is defined
abbrev pub is_compared : BinaryOperator → Meaning → Bool
is_compared Equal t = is_integer_or_truth t
is_compared NotEqual t = is_integer_or_truth t
is_compared operator t = is_integer t

-- a type is the wanted one, where one is wanted
abbrev pub meets : Mode → Meaning → Bool
meets None t = true
meets (Some wanted) t = same wanted t

-- the note of a type, where it is the wanted one
abbrev pub wanted_note : Mode → Meaning → Noting Note
wanted_note None t = Ok (plain_note None t)
wanted_note (Some wanted) t = check (same wanted t) (different wanted t) (Ok (plain_note (Some wanted) t))

-- the note of a type, where it passes no limit and is the wanted one
abbrev pub noted : Mode → Meaning → Noting Note
noted mode t = within (types_noted mode t []) (wanted_note mode t)
