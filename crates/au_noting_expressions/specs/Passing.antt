-- The search for the note of a call in three steps: what it begins with, its arguments, and the rest. And
-- what the code answers at each.
use Rattle.std.specs.Prelude.{List, Option, Some, Ok, Vec}
use Rattle.std.specs.Global.{Global}
use Rattle.au_matching.specs.Bindings.{Bindings}
use Rattle.au_matching.specs.Substituted.{substituted}
use Rattle.au_noting.specs.Said.{meanings}
use Rattle.au_noting_expressions.specs.Said.{NotedCode, all_said, half_said}
use Rattle.au_noting_expressions.specs.Made.{typed_made}
use Rattle.au_typing.specs.Scopes.{Callable, Scope, Typed}
use Rattle.au_sights.specs.declared.called.Callable as code
use Rattle.au_sights.specs.Sights.{callable_said}
use Rattle.au_syntax.specs.Expressions.{Node}
use Rattle.au_syntax.specs.Plain.{Bytes, PlainExpression}
use Rattle.au_syntax.specs.Types.{WrittenType}
use Rattle.au_types.specs.declared.types.Ty.{Ty}
use Rattle.au_types.specs.Types.{Meaning}
use Rattle.au_typing.specs.Calls.{begun}
use Rattle.au_typing.specs.Faults.{Noting, ◌>>=◌, Why, known_or, unknown}
use Rattle.au_typing.specs.Notes.{Mode, NotedExpression}
use Rattle.au_typing.specs.Operands.{Noter}
use Rattle.au_typing.specs.Search.{note_expression}
use Rattle.au_typing.specs.SearchCalls.{Half, Operand, beside, first, result_differs, second}

-- what is called, the types of its arguments, and the substitution that it begins with
abbrev pub call_begun : Scope → Bytes → (List Typed → Option (List Meaning)) → (List Typed → Why) → Mode →
    Noting (Callable × List Meaning × Bindings)
call_begun scope name takes mistaken mode =
    known_or (unknown name) (scope.outside.callable name) >>= λ called.
    known_or (mistaken called.parameters) (takes called.parameters) >>= λ types.
    known_or (result_differs mode called.result) (begun mode called.result) >>= λ s. Ok (called, types, s)

-- the arguments with their notes, by both passes
abbrev pub both_passes : List Operand → List Meaning → Bindings → Noting (List NotedExpression × Bindings)
both_passes ops types s = first ops types s >>= λ halves. second ops halves.0 types halves.1

-- what a call begins with, as the code has it
abbrev pub begun_said : code.Callable × Vec Ty Global × Bindings → Callable × List Meaning × Bindings
begun_said y = (callable_said y.0, meanings y.1.items, y.2)

-- an argument after the first pass, and the substitution
abbrev pub half_beside : Option NotedCode × Bindings → Half × Bindings
half_beside y = (half_said y.0, y.1)

-- the arguments with their notes, and the substitution
abbrev pub all_beside : Vec NotedCode Global × Bindings → List NotedExpression × Bindings
all_beside y = (all_said y.0.items, y.1)

-- an argument of which its parameter's type is wanted
abbrev pub fixed_taken : Noter → Meaning → Bindings → Noting (NotedExpression × Bindings)
fixed_taken e p s = e (Some (substituted s p)) >>= beside s

-- an operand of which the type is wanted that is written behind it
abbrev pub typed_noted : Scope → Node (Unit {0}) → Mode → PlainExpression → WrittenType → Meaning →
    Noting NotedExpression
typed_noted scope u mode e t of = note_expression scope e (Some of) >>= typed_made u mode t of
