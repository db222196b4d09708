-- The arguments of a call as the code has them, and what they are for the search.
use Rattle.std.specs.Prelude.{ℕ, List, Option, map}
use Rattle.au_noting_expressions.specs.declared.noted_operands.Operands as code
use Rattle.au_noting_expressions.specs.declared.noted_operands.Operands.TheVariants as form
use Rattle.au_typing.specs.Scopes.{Scope, Typed}
use Rattle.au_syntax.specs.contracts.parsed.ParsedPhase.TheImpl.{ghosts as parsed}
use Rattle.au_syntax.specs.declared.expressions.Argument.{Argument}
use Rattle.au_syntax.specs.declared.expressions.Expr.{Expr}
use Rattle.au_syntax.specs.declared.parsed.Parsed.{Parsed}
use Rattle.au_syntax.specs.Views.{argument_all, expression, expression_all}
use Rattle.au_types.specs.Types.{Meaning}
use Rattle.au_typing.specs.Bare.{is_bare}
use Rattle.au_typing.specs.Calls.{by_labels, in_order}
use Rattle.au_typing.specs.Faults.{Why}
use Rattle.au_typing.specs.Good.{count_of, labels_of}
use Rattle.au_typing.specs.Search.{another_number, labelled_operands, note_expression, operands, other_labels}
use Rattle.au_typing.specs.SearchCalls.{Operand}

-- an expression of the code as it is read
abbrev pub ReadCode : Type 0
ReadCode = Expr Parsed (List ℕ) (Unit {0}) (Unit {0})

-- a labelled argument of the code as it is read
abbrev pub ReadArgument : Type 0
ReadArgument = Argument Parsed (List ℕ) (Unit {0}) (Unit {0})

-- an argument without its label
abbrev pub value_of : ReadArgument → ReadCode
value_of one = one.value

-- the arguments without their labels
abbrev pub values : code.Operands → List ReadCode
values (form.Positional args) = args.now.items
values (form.Labelled args) = map value_of args.now.items

-- which types the arguments get from the parameters
abbrev pub takes : code.Operands → List Typed → Option (List Meaning)
takes (form.Positional args) = in_order (count_of (expression_all parsed args.now.items))
takes (form.Labelled args) = by_labels (labels_of (argument_all parsed args.now.items))

-- what is told where they can't get any
abbrev pub mistaken : code.Operands → List Typed → Why
mistaken (form.Positional args) = another_number
mistaken (form.Labelled args) = other_labels

-- an argument that is to be noted
abbrev pub operand : Scope → ReadCode → Operand
operand scope e =
    record { bare = is_bare (expression parsed e); noter = note_expression scope (expression parsed e) }

-- arguments that are to be noted
abbrev pub each_operand : Scope → List ReadCode → List Operand
each_operand scope es = map (operand scope) es

-- the arguments of a call, which are to be noted
abbrev pub operands_of : Scope → code.Operands → List Operand
operands_of scope (form.Positional args) = operands scope (expression_all parsed args.now.items)
operands_of scope (form.Labelled args) = labelled_operands scope (argument_all parsed args.now.items)
