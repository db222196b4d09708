-- The laws of the readers of types, expressions and blocks, as the readers of declarations use them.
use Rattle.std.proofs.Common.{◌≡◌, ℕ, Bool, true, Option, Some, refl}
use Rattle.au_base.specs.declared.tokens.Keyword.TheVariants.{KwIs, KwEnd}
use Rattle.au_base.specs.declared.tokens.Sign.TheVariants.{Assign, RightParenthesis, Comma, Semicolon}
use Rattle.au_base.specs.declared.tokens.What.{What}
use Rattle.au_base.specs.declared.tokens.What.TheVariants.{Word, Sign}
use Rattle.au_read_expressions.specs.Bounds.{Bounds}
use Rattle.au_read_expressions.proofs.Forms.{Reads}
use Rattle.au_read_expressions.specs.TypeReading.{ends_type, type_at}
use Rattle.au_read_expressions.proofs.TypeForm.{type_form, type_reads}
use Rattle.au_read_expressions.specs.ExpressionReading.{ends_expression, expression_at}
use Rattle.au_read_expressions.proofs.ExpressionForm.{expression_form}
use Rattle.au_read_expressions.proofs.ExpressionReads.{expression_reads}
use Rattle.au_read_statements.specs.StatementReading.{ends_block, block_at}
use Rattle.au_read_statements.proofs.Lower as statements
use Rattle.au_read_statements.proofs.StatementForm.{block_form}
use Rattle.au_read_statements.proofs.StatementLaws.{block_reads}

-- The laws of these readers. Behind what they read stands a token that ends it: of these, the tokens
-- that stand there in declarations are named.
pub record Lower (b : Bounds) : Type 0 where
  pub ends_type : Option What → Bool
  pub types : Reads (type_form b) ends_type (type_at b)
  pub type_comma : ends_type (Some (Sign Comma)) ≡ true
  pub type_semicolon : ends_type (Some (Sign Semicolon)) ≡ true
  pub type_right : ends_type (Some (Sign RightParenthesis)) ≡ true
  pub type_assign : ends_type (Some (Sign Assign)) ≡ true
  pub type_is : ends_type (Some (Word KwIs)) ≡ true
  pub ends_expression : Option What → Bool
  pub expressions : (n : ℕ) → Reads (expression_form b n) ends_expression (expression_at b n)
  pub expression_semicolon : ends_expression (Some (Sign Semicolon)) ≡ true
  pub ends_block : Option What → Bool
  pub blocks : (n : ℕ) → Reads (block_form b n) ends_block (block_at b n)
  pub block_end : ends_block (Some (Word KwEnd)) ≡ true

-- they are the laws of the crates below
pub lower : (b : Bounds) → Lower b
lower b = record {
  ends_type = ends_type;
  types = type_reads b;
  type_comma = refl;
  type_semicolon = refl;
  type_right = refl;
  type_assign = refl;
  type_is = refl;
  ends_expression = ends_expression;
  expressions = expression_reads b (type_reads b);
  expression_semicolon = refl;
  ends_block = ends_block;
  blocks = block_reads b (statements.lower b);
  block_end = refl;
}
