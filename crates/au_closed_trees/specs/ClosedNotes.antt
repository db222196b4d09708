-- What is noted in a tree whose types are closed.
use Rattle.std.specs.Prelude.{ℕ, Bool, Option}
use Rattle.au_shipped.specs.declared.prims.ShippedCall.{ShippedCall}
use Rattle.au_syntax.specs.Expressions.{Expression}
use Rattle.au_syntax.specs.Plain.{Bytes}
use Rattle.au_syntax.specs.Statements.{Statement, Statements}
use Rattle.au_type_texts.specs.Types.{ClosedType}
use Rattle.au_closed_trees.specs.declared.notes.Literal.{Literal}

-- what is noted at an expression: its closed type; where a variable or a part of one is mentioned, whether
-- that was Free before closed types were put for type parameters; and the literal of a constant that is
-- mentioned
pub record ClosedNote : Type 0 where
  pub of : ClosedType
  pub free : Option Bool
  pub literal : Option Literal

-- what a call leads to: an instance, the constructor of a type with the number of its case, or a shipped call
pub data Callee (I : Type 0) : Type 0 where
  instance : I → Callee I
  constructor : ClosedType → ℕ → Callee I
  shipped : ShippedCall → Callee I

-- trees with such notes, where instances are told by their numbers
abbrev pub ClosedExpression : Type 0
ClosedExpression = Expression Bytes ClosedNote (Callee ℕ)

abbrev pub ClosedStatement : Type 0
ClosedStatement = Statement Bytes ClosedNote (Callee ℕ)

abbrev pub ClosedStatements : Type 0
ClosedStatements = Statements Bytes ClosedNote (Callee ℕ)
