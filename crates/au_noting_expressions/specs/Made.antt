-- The last steps of the search: what is made of noted operands.
use Rattle.std.specs.Prelude.{List, Ok}
use Rattle.au_syntax.specs.declared.expressions.BinaryOperator.{BinaryOperator}
use Rattle.au_syntax.specs.Expressions.{Node, call, named_call, parenthesized, dereference, binary, negation}
use Rattle.au_syntax.specs.Expressions.{typed, choice}
use Rattle.au_syntax.specs.Names.{Placed}
use Rattle.au_syntax.specs.Plain.{Bytes, PlainArguments}
use Rattle.au_syntax.specs.Types.{WrittenType}
use Rattle.au_typing.specs.Scopes.{Scope}
use Rattle.au_types.specs.Types as mean
use Rattle.au_types.specs.Types.{Meaning}
use Rattle.au_typing.specs.Faults.{Noting, ◌>>=◌}
use Rattle.au_typing.specs.Notes.{Mode, Note, NotedExpression, noted_at, type_of}
use Rattle.au_typing.specs.Operands.{of_one_type}
use Rattle.au_typing.specs.Rules.{noted}
use Rattle.au_typing.specs.Search.{arithmetic_note, comparison_note, dereference_note, labelled, listed}

-- an expression in parentheses
abbrev pub parenthesized_made : Node (Unit {0}) → Mode → NotedExpression → Noting NotedExpression
parenthesized_made u mode a = noted mode (type_of a) >>= λ n. Ok (parenthesized (noted_at u n) a)

-- what is copied from behind a reference
abbrev pub dereference_made : Scope → Node (Unit {0}) → Mode → NotedExpression → Noting NotedExpression
dereference_made scope u mode a =
    dereference_note scope mode (type_of a) >>= λ n. Ok (dereference (noted_at u n) a)

-- `+ - * /` of two operands
abbrev pub arithmetic_made : Node (Unit {0}) → BinaryOperator → Mode → NotedExpression × NotedExpression →
    Noting NotedExpression
arithmetic_made u op mode z =
    of_one_type z.0 z.1 (arithmetic_note mode (type_of z.0)) >>= λ n. Ok (binary (noted_at u n) op z.0 z.1)

-- `and` or `or` of two operands
abbrev pub logical_made : Node (Unit {0}) → BinaryOperator → Mode → NotedExpression → NotedExpression →
    Noting NotedExpression
logical_made u op mode left right = noted mode mean.truth >>= λ n. Ok (binary (noted_at u n) op left right)

-- a comparison of two operands
abbrev pub comparison_made : Node (Unit {0}) → BinaryOperator → Mode → NotedExpression × NotedExpression →
    Noting NotedExpression
comparison_made u op mode z =
    comparison_note op mode z.0 z.1 >>= λ n. Ok (binary (noted_at u n) op z.0 z.1)

-- `not` of an operand
abbrev pub negation_made : Node (Unit {0}) → Mode → NotedExpression → Noting NotedExpression
negation_made u mode a = noted mode mean.truth >>= λ n. Ok (negation (noted_at u n) a)

-- an operand with its written type, and what that means
abbrev pub typed_made : Node (Unit {0}) → Mode → WrittenType → Meaning → NotedExpression →
    Noting NotedExpression
typed_made u mode t of a = noted mode of >>= λ n. Ok (typed (noted_at u n) a t)

-- one of two operands, by a test
abbrev pub choice_made : Node (Unit {0}) → Mode → NotedExpression → NotedExpression × NotedExpression →
    Noting NotedExpression
choice_made u mode test z =
    of_one_type z.0 z.1 (noted mode (type_of z.0)) >>= λ n. Ok (choice (noted_at u n) test z.0 z.1)

-- a call with positional arguments
abbrev pub call_made : Node (Unit {0}) → Placed Bytes → Note × List NotedExpression → Noting NotedExpression
call_made u f z = Ok (call (noted_at u z.0) f (listed z.1) tt)

-- a call with labelled arguments
abbrev pub named_call_made : Node (Unit {0}) → Placed Bytes → PlainArguments → Note × List NotedExpression →
    Noting NotedExpression
named_call_made u f es z = Ok (named_call (noted_at u z.0) f (labelled es z.1) tt)
