-- What is noted at each expression, and trees with such notes.
use Rattle.std.specs.Prelude.{Option, None}
use Rattle.au_syntax.specs.Expressions.{Node, Expression, Expressions, Arguments, number, negative, text}
use Rattle.au_syntax.specs.Expressions.{truth, nil, path, arrow, call, named_call, parenthesized, dereference}
use Rattle.au_syntax.specs.Expressions.{borrow, borrow_part, binary, negation, typed, choice}
use Rattle.au_syntax.specs.Plain.{Bytes, PlainExpression, PlainExpressions, PlainArguments, plain_expression}
use Rattle.au_syntax.specs.Plain.{plain_expressions, plain_arguments}
use Rattle.au_types.specs.Types.{Meaning}
use Rattle.au_matching.specs.Bindings.{Bindings}

-- the type that is wanted of an expression, if one is
abbrev pub Mode : Type 0
Mode = Option Meaning

-- the mode of an expression, its type, and at a call the substitution for the type parameters of what is
-- called
pub record Note : Type 0 where
  pub mode : Mode
  pub of : Meaning
  pub call : Option Bindings

-- a tree with a note at each expression
abbrev pub NotedExpression : Type 0
NotedExpression = Expression Bytes Note (Unit {0})

abbrev pub NotedExpressions : Type 0
NotedExpressions = Expressions Bytes Note (Unit {0})

abbrev pub NotedArguments : Type 0
NotedArguments = Arguments Bytes Note (Unit {0})

-- the tree without its notes
abbrev pub erase : NotedExpression → PlainExpression
erase e = plain_expression (λ (name : Bytes). name) e

abbrev pub erase_all : NotedExpressions → PlainExpressions
erase_all es = plain_expressions (λ (name : Bytes). name) es

abbrev pub erase_arguments : NotedArguments → PlainArguments
erase_arguments es = plain_arguments (λ (name : Bytes). name) es

module _ {N T C : Type 0} where
  -- the place of an expression, and what stands there
  abbrev pub node_of : Expression N T C → Node T
  node_of (number n l) = n
  node_of (negative n l) = n
  node_of (text n t) = n
  node_of (truth n b) = n
  node_of (nil n) = n
  node_of (path n x fields) = n
  node_of (arrow n x fields) = n
  node_of (call n f es c) = n
  node_of (named_call n f es c) = n
  node_of (parenthesized n e) = n
  node_of (dereference n e) = n
  node_of (borrow n m x) = n
  node_of (borrow_part n x fields) = n
  node_of (binary n op a b) = n
  node_of (negation n e) = n
  node_of (typed n e t) = n
  node_of (choice n c a b) = n

-- the note of an expression
abbrev pub note_of : NotedExpression → Note
note_of e = (node_of e).note

-- the type of an expression, and its mode
abbrev pub type_of : NotedExpression → Meaning
type_of e = (note_of e).of

abbrev pub mode_of : NotedExpression → Mode
mode_of e = (note_of e).mode

-- a note where nothing is called
abbrev pub plain_note : Mode → Meaning → Note
plain_note mode t = record { mode = mode; of = t; call = None }

-- a note at a place
abbrev pub noted_at : Node (Unit {0}) → Note → Node Note
noted_at at note = record { at = at.at; note = note }
