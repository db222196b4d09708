-- Reading an expression.
use Rattle.std.specs.Prelude.{ℕ, suc, Bool, true, false, nat_le, List, [], ◌∷◌, Option, Some, None, Ok, Err}
use Rattle.std.specs.Prelude.{length, drop, cond, not}
use Prim.Native.Nat.{zero}
use Rattle.au_base.specs.declared.places.Pos.{Pos}
use Rattle.au_base.specs.declared.tokens.Keyword.TheVariants.{KwIf, KwThen, KwElse, KwNot, KwAnd, KwOr}
use Rattle.au_base.specs.declared.tokens.Keyword.TheVariants.{KwTrue, KwFalse, KwNil}
use Rattle.au_base.specs.declared.tokens.Sign.TheVariants.{FatArrow, Arrow, WriteBorrow, Reborrow, NotEqual}
use Rattle.au_base.specs.declared.tokens.Sign.TheVariants.{LessEqual, GreaterEqual, LeftParenthesis}
use Rattle.au_base.specs.declared.tokens.Sign.TheVariants.{RightParenthesis, LeftBracket, Colon, Comma, Dot}
use Rattle.au_base.specs.declared.tokens.Sign.TheVariants.{ReadBorrow, Exclamation, Plus, Minus, Star, Slash}
use Rattle.au_base.specs.declared.tokens.Sign.TheVariants.{Equal, Less, Greater}
use Rattle.au_base.specs.declared.tokens.Token.{Token}
use Rattle.au_base.specs.declared.tokens.What.{What}
use Rattle.au_base.specs.declared.tokens.What.TheVariants.{Word, Sign, Name, Number, Text}
use Rattle.au_syntax.specs.declared.expressions.BinaryOperator.{BinaryOperator}
use Rattle.au_syntax.specs.declared.expressions.BinaryOperator.TheVariants as operator
use Rattle.au_syntax.specs.declared.expressions.BorrowMode.{BorrowMode}
use Rattle.au_syntax.specs.declared.expressions.BorrowMode.TheVariants as mode
use Rattle.au_syntax.specs.declared.expressions.Literal.{Literal}
use Rattle.au_syntax.specs.Depths.{expression_depth}
use Rattle.au_syntax.specs.Types.{WrittenType}
use Rattle.au_syntax.specs.Expressions.{Node, number, negative, text, truth, nil, path, arrow, call}
use Rattle.au_syntax.specs.Expressions.{named_call, parenthesized, dereference, borrow, borrow_part, binary}
use Rattle.au_syntax.specs.Expressions.{negation, typed, choice, no_expressions, expressions, no_arguments}
use Rattle.au_syntax.specs.Expressions.{arguments}
use Rattle.au_syntax.specs.Names.{Placed}
use Rattle.au_syntax.specs.Plain.{Bytes, PlainExpression, PlainExpressions, PlainArguments}
use Rattle.au_read_expressions.specs.declared.faults.Fault.TheVariants.{Passed}
use Rattle.au_read_expressions.specs.Bounds.{Bounds, nesting_limit}
use Rattle.au_read_expressions.specs.Reading.{Read, ◌>>=◌, front, place_of, begins_with, no, name_at}
use Rattle.au_read_expressions.specs.Reading.{number_at, text_at, exactly, behind_tokens, closed, pair}
use Rattle.au_read_expressions.specs.Reading.{shaped, built, listed, dotted_at, fields_at}
use Rattle.au_read_expressions.specs.TypeReading.{type_at}

-- the place of an expression, without a note
abbrev pub site : Pos → Node (Unit {0})
site at = record { at = at; note = tt }

-- with which tokens an atom begins
abbrev pub begins_atom : Option What → Bool
begins_atom (Some (Number value digits)) = true
begins_atom (Some (Text bytes)) = true
begins_atom (Some (Name bytes)) = true
begins_atom (Some (Word KwTrue)) = true
begins_atom (Some (Word KwFalse)) = true
begins_atom (Some (Word KwNil)) = true
begins_atom (Some (Sign Minus)) = true
begins_atom (Some (Sign LeftParenthesis)) = true
begins_atom (Some (Sign Exclamation)) = true
begins_atom (Some (Sign ReadBorrow)) = true
begins_atom (Some (Sign WriteBorrow)) = true
begins_atom (Some (Sign Reborrow)) = true
begins_atom other = false

-- with which tokens an expression begins
abbrev pub begins_expression : Option What → Bool
begins_expression (Some (Word KwNot)) = true
begins_expression (Some (Word KwIf)) = true
begins_expression other = begins_atom other

-- the operator that a token is
abbrev pub operator_of : Option What → Option BinaryOperator
operator_of (Some (Sign Plus)) = Some operator.Add
operator_of (Some (Sign Minus)) = Some operator.Subtract
operator_of (Some (Sign Star)) = Some operator.Multiply
operator_of (Some (Sign Slash)) = Some operator.Divide
operator_of (Some (Sign Equal)) = Some operator.Equal
operator_of (Some (Sign NotEqual)) = Some operator.NotEqual
operator_of (Some (Sign Less)) = Some operator.Less
operator_of (Some (Sign LessEqual)) = Some operator.LessEqual
operator_of (Some (Sign Greater)) = Some operator.Greater
operator_of (Some (Sign GreaterEqual)) = Some operator.GreaterEqual
operator_of (Some (Word KwAnd)) = Some operator.And
operator_of (Some (Word KwOr)) = Some operator.Or
operator_of other = None

abbrev pub is_none : {A : Type 0} → Option A → Bool
is_none None = true
is_none (Some x) = false

-- a token that doesn't continue an atom
abbrev pub ends_atom : Option What → Bool
ends_atom (Some (Sign Dot)) = false
ends_atom (Some (Sign Arrow)) = false
ends_atom (Some (Sign LeftParenthesis)) = false
ends_atom other = true

-- a token that doesn't continue an expression
abbrev pub ends_expression : Option What → Bool
ends_expression (Some (Sign Colon)) = false
ends_expression (Some (Sign LeftBracket)) = false
ends_expression (Some (Sign Dot)) = false
ends_expression (Some (Sign Arrow)) = false
ends_expression (Some (Sign LeftParenthesis)) = false
ends_expression other = is_none (operator_of other)

-- a token that may stand behind a name with which an expression begins that is an argument
abbrev pub goes_on : Option What → Bool
goes_on (Some (Sign RightParenthesis)) = true
goes_on (Some (Sign Comma)) = true
goes_on (Some (Sign Colon)) = true
goes_on (Some (Sign Dot)) = true
goes_on (Some (Sign Arrow)) = true
goes_on (Some (Sign LeftParenthesis)) = true
goes_on other = not (is_none (operator_of other))

-- lists, as trees hold them
abbrev pub expressions_of : List PlainExpression → PlainExpressions
expressions_of [] = no_expressions
expressions_of (e ∷ es) = expressions e (expressions_of es)

abbrev pub arguments_of : List (Placed Bytes × PlainExpression) → PlainArguments
arguments_of [] = no_arguments
arguments_of (a ∷ rest) = arguments a.0 a.1 (arguments_of rest)

-- the arguments of a call: in order, or by the names of parameters
pub data Given : Type 0 where
  in_order : List PlainExpression → Given
  by_name : List (Placed Bytes × PlainExpression) → Given

abbrev pub call_by : Pos → Placed Bytes → Given → PlainExpression
call_by at name (in_order es) = call (site at) name (expressions_of es) tt
call_by at name (by_name args) = named_call (site at) name (arguments_of args) tt

abbrev pub call_of : Pos → Placed Bytes × Given → PlainExpression
call_of at x = call_by at x.0 x.1

-- what is built of the place of an atom and its parts
abbrev pub number_of : Pos → Literal → PlainExpression
number_of at literal = number (site at) literal

abbrev pub negative_of : Pos → Literal → PlainExpression
negative_of at literal = negative (site at) literal

abbrev pub text_of : Pos → Bytes → PlainExpression
text_of at bytes = text (site at) bytes

abbrev pub truth_of : Bool → Pos → Unit {0} → PlainExpression
truth_of value at x = truth (site at) value

abbrev pub nil_of : Pos → Unit {0} → PlainExpression
nil_of at x = nil (site at)

abbrev pub path_of : Pos → Placed Bytes × List (Placed Bytes) → PlainExpression
path_of at x = path (site at) x.0 x.1

abbrev pub arrow_of : Pos → Placed Bytes × List (Placed Bytes) → PlainExpression
arrow_of at x = arrow (site at) x.0 x.1

abbrev pub parenthesized_of : Pos → PlainExpression → PlainExpression
parenthesized_of at e = parenthesized (site at) e

abbrev pub dereference_of : Pos → PlainExpression → PlainExpression
dereference_of at e = dereference (site at) e

abbrev pub borrow_of : BorrowMode → Pos → Placed Bytes → PlainExpression
borrow_of m at name = borrow (site at) m name

abbrev pub borrow_part_of : Pos → Placed Bytes × List (Placed Bytes) → PlainExpression
borrow_part_of at x = borrow_part (site at) x.0 x.1

abbrev pub negation_of : Pos → PlainExpression → PlainExpression
negation_of at e = negation (site at) e

abbrev pub choice_of : Pos → PlainExpression × (PlainExpression × PlainExpression) → PlainExpression
choice_of at x = choice (site at) x.0 x.1.0 x.1.1

-- a name and the fields of a part behind a reference
abbrev pub arrow_parts : List Token → Read (Placed Bytes × List (Placed Bytes))
arrow_parts = pair name_at (behind_tokens (Sign Arrow ∷ []) dotted_at)

-- `inner` reads what is nested, and `inner_atom` an atom that is nested
module _ (inner inner_atom : List Token → Read PlainExpression) where
  -- an argument by the name of its parameter
  abbrev pub labelled : List Token → Read (Placed Bytes × PlainExpression)
  labelled = pair name_at (behind_tokens (Sign FatArrow ∷ []) inner)

  abbrev pub none_given : Unit {0} → Given
  none_given x = in_order []

  -- arguments in order, one or more
  abbrev pub ordered : List Token → Read Given
  ordered = shaped in_order (closed (Sign RightParenthesis ∷ []) (listed inner))

  -- The arguments of a call behind its parenthesis: the next one or two tokens tell which. That a name
  -- begins an expression, and isn't that of a parameter, is known with the token behind it.
  abbrev pub given_by : Option What → Option What → List Token → Read Given
  given_by (Some (Sign RightParenthesis)) second tokens =
      shaped none_given (exactly (Sign RightParenthesis ∷ [])) tokens
  given_by (Some (Name bytes)) (Some (Sign FatArrow)) tokens =
      shaped by_name (closed (Sign RightParenthesis ∷ []) (listed labelled)) tokens
  given_by (Some (Name bytes)) second tokens = cond (goes_on second) (ordered tokens) (no (drop 1 tokens))
  given_by first second tokens = ordered tokens

  abbrev pub given_at : List Token → Read Given
  given_at tokens = given_by (front tokens) (front (drop 1 tokens)) tokens

  -- a call
  unfoldable pub call_with : List Token → Read PlainExpression
  call_with = built call_of (pair name_at (behind_tokens (Sign LeftParenthesis ∷ []) given_at))

  -- what begins with a name: the next token tells which
  abbrev pub named_by : Option What → List Token → Read PlainExpression
  named_by (Some (Sign LeftParenthesis)) tokens = call_with tokens
  named_by (Some (Sign Arrow)) tokens = built arrow_of arrow_parts tokens
  named_by other tokens = built path_of (pair name_at fields_at) tokens

  -- what begins with `&`
  abbrev pub borrowed_by : Option What → List Token → Read PlainExpression
  borrowed_by (Some (Sign LeftParenthesis)) tokens =
      built borrow_part_of (behind_tokens (Sign ReadBorrow ∷ Sign LeftParenthesis ∷ [])
      (closed (Sign RightParenthesis ∷ []) arrow_parts)) tokens
  borrowed_by other tokens = built (borrow_of mode.Read) (behind_tokens (Sign ReadBorrow ∷ []) name_at) tokens

  -- an atom, by its first two tokens
  abbrev pub atom_by : Option What → Option What → List Token → Read PlainExpression
  atom_by (Some (Number value digits)) second tokens = built number_of number_at tokens
  atom_by (Some (Sign Minus)) second tokens =
      built negative_of (behind_tokens (Sign Minus ∷ []) number_at) tokens
  atom_by (Some (Text bytes)) second tokens = built text_of text_at tokens
  atom_by (Some (Word KwTrue)) second tokens = built (truth_of true) (exactly (Word KwTrue ∷ [])) tokens
  atom_by (Some (Word KwFalse)) second tokens = built (truth_of false) (exactly (Word KwFalse ∷ [])) tokens
  atom_by (Some (Word KwNil)) second tokens = built nil_of (exactly (Word KwNil ∷ [])) tokens
  atom_by (Some (Name bytes)) second tokens = named_by second tokens
  atom_by (Some (Sign LeftParenthesis)) second tokens =
      built parenthesized_of (behind_tokens (Sign LeftParenthesis ∷ [])
      (closed (Sign RightParenthesis ∷ []) inner)) tokens
  atom_by (Some (Sign Exclamation)) second tokens =
      built dereference_of (behind_tokens (Sign Exclamation ∷ []) inner_atom) tokens
  atom_by (Some (Sign ReadBorrow)) second tokens = borrowed_by second tokens
  atom_by (Some (Sign WriteBorrow)) second tokens =
      built (borrow_of mode.Write) (behind_tokens (Sign WriteBorrow ∷ []) name_at) tokens
  atom_by (Some (Sign Reborrow)) second tokens =
      built (borrow_of mode.Reborrow) (behind_tokens (Sign Reborrow ∷ []) name_at) tokens
  atom_by other second tokens = no tokens

  unfoldable pub atom_with : List Token → Read PlainExpression
  atom_with tokens = atom_by (front tokens) (front (drop 1 tokens)) tokens

  -- `if .. then .. else ..`
  unfoldable pub choice_with : List Token → Read PlainExpression
  choice_with =
      built choice_of (behind_tokens (Word KwIf ∷ [])
      (pair inner (behind_tokens (Word KwThen ∷ []) (pair inner (behind_tokens (Word KwElse ∷ []) inner)))))

  module _ (b : Bounds) (n : ℕ) where
    -- An atom that goes on is one deeper: this is known at the token that continues it.
    abbrev pub deeper : PlainExpression → List Token → Read PlainExpression → Read PlainExpression
    deeper atom tokens read =
        cond (nat_le (expression_depth atom) n) read (Err (Passed (nesting_limit b) (length tokens)))

    abbrev pub binary_of : Pos → BinaryOperator → PlainExpression → PlainExpression × List Token
        → Read PlainExpression
    binary_of at op a y = Ok (binary (site at) op a y.0, y.1)

    abbrev pub typed_of : Pos → PlainExpression → WrittenType × List Token → Read PlainExpression
    typed_of at a y = Ok (typed (site at) a y.0, y.1)

    -- what stands behind an atom, by its first token
    abbrev pub continued_by : Option BinaryOperator → Bool → Pos → PlainExpression × List Token
        → Read PlainExpression
    continued_by (Some op) colon at x = deeper x.0 x.1 (inner_atom (drop 1 x.1) >>= binary_of at op x.0)
    continued_by None true at x = deeper x.0 x.1 (type_at b (drop 1 x.1) >>= typed_of at x.0)
    continued_by None false at x = Ok x

    abbrev pub continued : Pos → PlainExpression × List Token → Read PlainExpression
    continued at x = continued_by (operator_of (front x.1)) (begins_with (Sign Colon) x.1) at x

    -- an expression, by its first token
    abbrev pub expression_by : Option What → List Token → Read PlainExpression
    expression_by (Some (Word KwNot)) tokens =
        built negation_of (behind_tokens (Word KwNot ∷ []) inner_atom) tokens
    expression_by (Some (Word KwIf)) tokens = choice_with tokens
    expression_by other tokens = atom_with tokens >>= continued (place_of tokens)

    unfoldable pub expression_with : List Token → Read PlainExpression
    expression_with tokens = expression_by (front tokens) tokens

module _ (b : Bounds) where
  -- a node where no level is left
  abbrev pub too_deep : Bool → List Token → Read PlainExpression
  too_deep begins tokens = cond begins (Err (Passed (nesting_limit b) (length tokens))) (no tokens)

  unfoldable mutual
    -- an expression, with so many levels left
    pub expression_at : ℕ → List Token → Read PlainExpression
    expression_at zero tokens = too_deep (begins_expression (front tokens)) tokens
    expression_at (suc n) tokens = expression_with (expression_at n) (atom_at n) b n tokens

    -- an atom, with so many levels left
    pub atom_at : ℕ → List Token → Read PlainExpression
    atom_at zero tokens = too_deep (begins_atom (front tokens)) tokens
    atom_at (suc n) tokens = atom_with (expression_at n) (atom_at n) tokens

  -- a call, with so many levels left: that there is a call is known at its parenthesis
  abbrev pub no_call : Placed Bytes × List Token → Read PlainExpression
  no_call x = too_deep (begins_with (Sign LeftParenthesis) x.1) x.1

  unfoldable pub call_at : ℕ → List Token → Read PlainExpression
  call_at zero tokens = name_at tokens >>= no_call
  call_at (suc n) tokens = call_with (expression_at n) (atom_at n) tokens
