-- An argument by the name of its parameter, as reading sees it, and a call behind its parenthesis.
use Rattle.std.specs.Prelude.{List, [], ◌∷◌}
use Rattle.au_base.specs.declared.places.Pos.{Pos}
use Rattle.au_base.specs.declared.tokens.Sign.TheVariants.{RightParenthesis}
use Rattle.au_base.specs.declared.tokens.Token.{Token}
use Rattle.au_base.specs.declared.tokens.What.TheVariants.{Sign}
use Rattle.au_read_expressions.specs.Reading.{Read, ◌>>=◌, joined_with, built_at, closed, listed, shaped}
use Rattle.au_read_expressions.specs.ExpressionReading.{by_name, labelled, ordered, given_at, call_of}
use Rattle.au_syntax.specs.Plain.{Bytes, PlainExpression}
use Rattle.au_syntax.specs.declared.phases.Phase.{Ghosts}
use Rattle.au_syntax.specs.declared.expressions.Argument.{Argument}
use Rattle.au_syntax.specs.Expressions.{Expression}
use Rattle.au_syntax.specs.Names.{Placed}
use Rattle.au_syntax.specs.Views.{placed, expression}

module _ {X N T C : Type 0} (g : Ghosts X N T C) where
  -- the parameter's name and the expression
  abbrev pub argument : Argument X N T C → Placed g.SeenName × Expression g.SeenName g.SeenType g.SeenCall
  argument a = (placed g a.label, expression g a.value)

module _ (inner inner_atom : List Token → Read PlainExpression) (at : Pos) (name : Placed Bytes) where
  -- a call behind its name and its parenthesis
  unfoldable pub called : List Token → Read PlainExpression
  called tokens = given_at inner inner_atom tokens >>= joined_with name >>= built_at (call_of at)

  -- a call whose arguments are in order, of which there is one
  unfoldable pub called_in_order : List Token → Read PlainExpression
  called_in_order tokens = ordered inner inner_atom tokens >>= joined_with name >>= built_at (call_of at)

  -- a call whose arguments are given by the names of parameters
  unfoldable pub called_by_name : List Token → Read PlainExpression
  called_by_name tokens =
      shaped by_name (closed (Sign RightParenthesis ∷ [])
      (listed (labelled inner inner_atom))) tokens >>= joined_with name >>= built_at (call_of at)
