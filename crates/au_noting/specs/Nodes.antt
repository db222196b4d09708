-- Parts of the search for the notes of single nodes, over types in the place of noted expressions.
use Rattle.std.specs.Prelude.{[], Option, None, Some, Ok}
use Rattle.au_syntax.specs.declared.expressions.BinaryOperator.{BinaryOperator}
use Rattle.au_types.specs.Same.{same}
use Rattle.au_types.specs.Types as mean
use Rattle.au_types.specs.Types.{Argument, Meaning, of_type}
use Rattle.au_matching.specs.Bindings.{Bindings}
use Rattle.au_judged_types.specs.Bounds.{parameters}
use Rattle.au_typing.specs.Scopes.{Callable, Scope}
use Rattle.au_typing.specs.Calls.{first_lacking, first_misfit, types_of_call, wanted_of}
use Rattle.au_typing.specs.Faults.{Noting, check, different, shape, integer_wanted}
use Rattle.au_typing.specs.Limits.{within, types_noted}
use Rattle.au_typing.specs.Notes.{Mode, Note}
use Rattle.au_typing.specs.Rules.{is_compared, wanted_note}
use Rattle.au_typing.specs.SearchCalls.{call_note, lacks, misfit, unless_why}

-- a comparison of types that may be compared
abbrev pub comparable_note : BinaryOperator → Mode → Meaning → Noting Note
comparable_note op mode t = check (is_compared op t) (shape integer_wanted) (wanted_note mode mean.truth)

-- a comparison of two operands of these types
abbrev pub compared_note : BinaryOperator → Mode → Meaning → Meaning → Noting Note
compared_note op mode t u =
    within (types_noted mode mean.truth []) (check (same t u) (different t u) (comparable_note op mode t))

-- the note of a call whose constraints hold
abbrev pub held_note : Scope → Mode → Callable → Bindings → Noting Note
held_note scope mode called s =
    unless_why lacks (first_lacking scope s (wanted_of called)) (Ok (call_note mode called s))

-- the note of a call whose type arguments fit, and whose constraints hold
abbrev pub fitting_note : Scope → Mode → Callable → Bindings → Noting Note
fitting_note scope mode called s =
    unless_why (misfit s) (first_misfit scope s (parameters called.generics)) (held_note scope mode called s)

-- the note of a call whose types pass no limit, whose type arguments fit, and whose constraints hold
abbrev pub limited_note : Scope → Mode → Callable → Bindings → Noting Note
limited_note scope mode called s = within (types_of_call mode called s) (fitting_note scope mode called s)

-- the type that a value is, if it is one
abbrev pub type_in : Option Argument → Option Meaning
type_in (Some (of_type t)) = Some t
type_in value = None
