-- The forms of expressions that have operands in boxes, by what is in the boxes.
use Rattle.std.proofs.Common.{◌≡◌, ℕ, List, ap, sym, ◌∙◌}
use Rattle.std.specs.Global.{Global}
use Rattle.std.specs.declared.boxed.Box.{Box}
use Rattle.au_noting_expressions.specs.Arguments.{ReadCode}
use Rattle.au_syntax.specs.contracts.parsed.ParsedPhase.TheImpl.{ghosts as parsed}
use Rattle.au_syntax.specs.declared.expressions.BinaryOperator.{BinaryOperator}
use Rattle.au_syntax.specs.declared.expressions.Expr as code
use Rattle.au_syntax.specs.declared.expressions.Site.{Site}
use Rattle.au_syntax.specs.declared.parsed.Parsed.{Parsed}
use Rattle.au_syntax.specs.declared.types.TypeText.{TypeText}
use Rattle.au_syntax.specs.Expressions.{parenthesized, dereference, binary, negation, typed, choice}
use Rattle.au_syntax.specs.Views.{expression, node, written}
use Rattle.au_syntax.proofs.ExpressionLemmas.{parenthesized_says, dereference_says, binary_says, not_says}
use Rattle.au_syntax.proofs.ExpressionLemmas.{typed_says, if_says}

module _ (s : Site Parsed (List ℕ) (Unit {0}) (Unit {0})) where
  module _ (a : Box ReadCode Global) (x : ReadCode) (x_is : x ≡ a.value) where
    pub parenthesized_at : expression parsed (code.Parenthesized s a) ≡ parenthesized (node parsed s)
        (expression parsed x)
    parenthesized_at = parenthesized_says parsed s a
        ∙ ap (λ (e : ReadCode). parenthesized (node parsed s) (expression parsed e)) (sym x_is)

    pub dereference_at : expression parsed (code.Dereference s a) ≡ dereference (node parsed s) (expression parsed x)
    dereference_at = dereference_says parsed s a
        ∙ ap (λ (e : ReadCode). dereference (node parsed s) (expression parsed e)) (sym x_is)

    pub negation_at : expression parsed (code.Not s a) ≡ negation (node parsed s) (expression parsed x)
    negation_at = not_says parsed s a ∙ ap (λ (e : ReadCode). negation (node parsed s) (expression parsed e)) (sym x_is)

    pub typed_at : (t : TypeText) → expression parsed (code.Typed s a t) ≡ typed (node parsed s)
        (expression parsed x) (written t)
    typed_at t = typed_says parsed s a t
        ∙ ap (λ (e : ReadCode). typed (node parsed s) (expression parsed e) (written t)) (sym x_is)

    module _ (b : Box ReadCode Global) (y : ReadCode) (y_is : y ≡ b.value) where
      pub binary_at : (op : BinaryOperator) → expression parsed (code.Binary s op a b)
          ≡ binary (node parsed s) op (expression parsed x) (expression parsed y)
      binary_at op =
          binary_says parsed s op a b
          ∙ (ap (λ (e : ReadCode). binary (node parsed s) op (expression parsed e)
          (expression parsed b.value)) (sym x_is)
          ∙ ap (λ (e : ReadCode). binary (node parsed s) op (expression parsed x) (expression parsed e)) (sym y_is))

      pub choice_at : (test : Box ReadCode Global) (z : ReadCode) → z ≡ test.value →
          expression parsed (code.If s test a b) ≡ choice (node parsed s) (expression parsed z)
          (expression parsed x) (expression parsed y)
      choice_at test z z_is =
          if_says parsed s test a b
          ∙ (ap (λ (e : ReadCode). choice (node parsed s) (expression parsed e) (expression parsed a.value)
          (expression parsed b.value)) (sym z_is)
          ∙ (ap (λ (e : ReadCode). choice (node parsed s) (expression parsed z) (expression parsed e)
          (expression parsed b.value)) (sym x_is)
          ∙ ap (λ (e : ReadCode). choice (node parsed s) (expression parsed z) (expression parsed x)
          (expression parsed e)) (sym y_is)))
