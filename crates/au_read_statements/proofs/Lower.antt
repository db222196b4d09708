-- The laws of the readers of types, expressions and calls, on which the laws of statements rest.
use Rattle.std.proofs.Common.{ℕ, ◌<◌, length}
use Rattle.au_syntax.specs.Plain.{PlainExpression}
use Rattle.au_syntax.specs.Words.{expression_words}
use Rattle.au_read_expressions.specs.Bounds.{Bounds}
use Rattle.au_read_expressions.proofs.Forms.{Reads, anything}
use Rattle.au_read_expressions.specs.TypeReading.{ends_type, type_at}
use Rattle.au_read_expressions.proofs.TypeForm.{type_form, type_reads}
use Rattle.au_read_expressions.specs.ExpressionReading.{ends_expression, expression_at, call_at}
use Rattle.au_read_expressions.proofs.ExpressionForm.{expression_form, call_form, expression_some as some_words}
use Rattle.au_read_expressions.proofs.ExpressionReads.{expression_reads, call_reads}

module _ (b : Bounds) where
  pub record Lower : Type 0 where
    pub types : Reads (type_form b) ends_type (type_at b)
    pub expressions : (n : ℕ) → Reads (expression_form b n) ends_expression (expression_at b n)
    pub calls : (n : ℕ) → Reads (call_form b n) anything (call_at b n)
    pub expression_some : (e : PlainExpression) → 0 < length (expression_words e)

  pub lower : Lower
  lower = record {
    types = type_reads b;
    expressions = expression_reads b (type_reads b);
    calls =
        call_reads b (type_reads b);
    expression_some = some_words;
  }
