-- What is said of expressions, atoms and calls; with which tokens they begin, and which don't continue them.
use Rattle.std.proofs.Common.{◌≡◌, ℕ, ◌<◌, true, false, ◌&&◌, List, [], ◌∷◌, ◌++◌, length, Option, Some, None}
use Rattle.std.proofs.Common.{refl, ap, ◌∙◌, arith}
use Rattle.std.proofs.lemmas.Bool.{and_parts, and_from}
use Rattle.au_base.specs.declared.places.Pos.{Pos}
use Rattle.au_base.specs.declared.tokens.Keyword.TheVariants.{KwIf, KwNot, KwAnd, KwOr}
use Rattle.au_base.specs.declared.tokens.Sign.TheVariants.{Arrow, NotEqual, LessEqual, GreaterEqual}
use Rattle.au_base.specs.declared.tokens.Sign.TheVariants.{LeftParenthesis, LeftBracket, Colon, Dot, Plus}
use Rattle.au_base.specs.declared.tokens.Sign.TheVariants.{Minus, Star, Slash, Equal, Less, Greater}
use Rattle.au_base.specs.declared.tokens.Token.{Token}
use Rattle.au_base.specs.declared.tokens.What.{What}
use Rattle.au_base.specs.declared.tokens.What.TheVariants.{Word, Sign}
use Rattle.au_syntax.specs.declared.expressions.BinaryOperator.{BinaryOperator}
use Rattle.au_syntax.specs.declared.expressions.BinaryOperator.TheVariants as operator
use Rattle.au_syntax.specs.declared.expressions.BorrowMode.TheVariants as mode
use Rattle.au_syntax.specs.Depths.{expression_depth}
use Rattle.au_syntax.specs.Sizes.{expression_types}
use Rattle.au_syntax.specs.Expressions.{number, negative, text, truth, nil, path, arrow, call, named_call}
use Rattle.au_syntax.specs.Expressions.{parenthesized, dereference, borrow, borrow_part, binary, negation}
use Rattle.au_syntax.specs.Expressions.{typed, choice}
use Rattle.au_syntax.specs.Forms.{is_atom, is_call, formed_expression}
use Rattle.au_syntax.specs.Plain.{PlainExpression}
use Rattle.au_syntax.specs.Words.{Words, begun, type_words, mark, expression_words, operator_words}
use Rattle.au_read_expressions.specs.Bounds.{Bounds, TreePasses}
use Rattle.au_read_expressions.specs.Reading.{front, is_front}
use Rattle.au_read_expressions.specs.Spelling.{Begins, fixed}
use Rattle.au_read_expressions.proofs.Begins.{first_word, front_of}
use Rattle.au_read_expressions.proofs.Forms.{Form}
use Rattle.au_read_expressions.proofs.Limits.{TreeFits}
use Rattle.au_read_expressions.specs.TypeReading.{ends_type}
use Rattle.au_read_expressions.specs.ExpressionReading.{begins_atom, begins_expression, operator_of}
use Rattle.au_read_expressions.specs.ExpressionReading.{ends_atom, ends_expression}

module _ (b : Bounds) (n : ℕ) where
  -- expressions within the limits, where so many levels are left
  abbrev pub expression_form : Form PlainExpression
  expression_form = record {
    words = expression_words;
    good = formed_expression;
    Fits = λ e. TreeFits b n (expression_depth e) (expression_types e);
    Passes = λ e l. TreePasses b n (expression_depth e) (expression_types e) l;
  }

  -- atoms
  abbrev pub atom_form : Form PlainExpression
  atom_form = record {
    words = expression_words;
    good = λ e. is_atom e && formed_expression e;
    Fits = λ e. TreeFits b n (expression_depth e) (expression_types e);
    Passes = λ e l. TreePasses b n (expression_depth e) (expression_types e) l;
  }

  -- calls
  abbrev pub call_form : Form PlainExpression
  call_form = record {
    words = expression_words;
    good = λ e. is_call e && formed_expression e;
    Fits = λ e. TreeFits b n (expression_depth e) (expression_types e);
    Passes = λ e l. TreePasses b n (expression_depth e) (expression_types e) l;
  }

pub call_is_atom : (e : PlainExpression) → is_call e ≡ true → is_atom e ≡ true
call_is_atom (call node name args note) h = refl
call_is_atom (named_call node name args note) h = refl
call_is_atom e h = absurd cc

-- ---- the first word

begun_some : (at : Pos) (ws : Words) → 0 < length ws → 0 < length (begun at ws)
begun_some at [] h = h
begun_some at (w ∷ ws) h = omega arith

pub before_some : (a z : Words) → 0 < length a → 0 < length (a ++ z)
before_some [] z h = absurd (let wrong : ⊥ = omega (arith, h) in wrong)
before_some (w ∷ a) z h = omega arith

pub begun_first : (at : Pos) (ws : Words) → first_word (begun at ws) ≡ first_word ws
begun_first at [] = refl
begun_first at (w ∷ ws) = refl

pub before_first : (a z : Words) → 0 < length a → first_word (a ++ z) ≡ first_word a
before_first [] z h = absurd (let wrong : ⊥ = omega (arith, h) in wrong)
before_first (w ∷ a) z h = refl

-- every expression has words
pub expression_some : (e : PlainExpression) → 0 < length (expression_words e)
expression_some (truth node true) = omega arith
expression_some (truth node false) = omega arith
expression_some (binary node op a z) =
    begun_some node.at (expression_words a ++ operator_words op ++ expression_words z)
    (before_some (expression_words a ++ operator_words op) (expression_words z)
    (before_some (expression_words a) (operator_words op) (expression_some a)))
expression_some (typed node e t) = begun_some node.at (expression_words e ++ mark Colon ++ type_words t)
    (before_some (expression_words e ++ mark Colon) (type_words t)
    (before_some (expression_words e) (mark Colon) (expression_some e)))
expression_some e = omega arith

-- the first word of an atom
atom_first : (e : PlainExpression) → is_atom e ≡ true → begins_atom (first_word (expression_words e)) ≡ true
atom_first (truth node true) h = refl
atom_first (truth node false) h = refl
atom_first (borrow node mode.Read name) h = refl
atom_first (borrow node mode.Write name) h = refl
atom_first (borrow node mode.Reborrow name) h = refl
atom_first (binary node op a z) h = absurd cc
atom_first (negation node e) h = absurd cc
atom_first (typed node e t) h = absurd cc
atom_first (choice node c a z) h = absurd cc
atom_first e h = refl

pub atom_expression : (w : Option What) → begins_atom w ≡ true → begins_expression w ≡ true
atom_expression (Some (Word KwNot)) h = refl
atom_expression (Some (Word KwIf)) h = refl
atom_expression w h = h

-- the words of the operands of a tree that begins with an atom
begun_atom : (at : Pos) (e : PlainExpression) (y z : Words) → is_atom e ≡ true →
    begins_expression (first_word (begun at (expression_words e ++ y ++ z))) ≡ true
begun_atom at e y z h =
    ap begins_expression (
    begun_first at (expression_words e ++ y ++ z) ∙ before_first (expression_words e ++ y) z
    (before_some (expression_words e) y (expression_some e))
    ∙ before_first (expression_words e) y (expression_some e))
    ∙ atom_expression (first_word (expression_words e)) (atom_first e h)

pub binary_good : (a z : PlainExpression) →
    (is_atom a && is_atom z && formed_expression a && formed_expression z) ≡ true
    → ((is_atom a && formed_expression a) ≡ true) × ((is_atom z && formed_expression z) ≡ true)
binary_good a z h =
    let p = and_parts (is_atom a && is_atom z && formed_expression a) (formed_expression z) h in
    let q = and_parts (is_atom a && is_atom z) (formed_expression a) p.0 in
    let r = and_parts (is_atom a) (is_atom z) q.0 in
    (and_from (is_atom a) (formed_expression a) r.0 q.1, and_from (is_atom z) (formed_expression z) r.1 p.1)

pub good_binary : (a z : PlainExpression) → (is_atom a && formed_expression a) ≡ true →
    (is_atom z && formed_expression z) ≡ true
    → (is_atom a && is_atom z && formed_expression a && formed_expression z) ≡ true
good_binary a z h k =
    let p = and_parts (is_atom a) (formed_expression a) h in
    let q = and_parts (is_atom z) (formed_expression z) k in
    and_from (is_atom a && is_atom z && formed_expression a) (formed_expression z)
    (and_from (is_atom a && is_atom z) (formed_expression a) (and_from (is_atom a) (is_atom z) p.0 q.0) p.1) q.1

expression_first : (e : PlainExpression) → formed_expression e ≡ true →
    begins_expression (first_word (expression_words e)) ≡ true
expression_first (binary node op a z) h = begun_atom node.at a (operator_words op) (expression_words z)
    (and_parts (is_atom a) (formed_expression a) (binary_good a z h).0).0
expression_first (typed node e t) h = begun_atom node.at e (mark Colon) (type_words t)
    (and_parts (is_atom e) (formed_expression e) h).0
expression_first (truth node true) h = refl
expression_first (truth node false) h = refl
expression_first (borrow node mode.Read name) h = refl
expression_first (borrow node mode.Write name) h = refl
expression_first (borrow node mode.Reborrow name) h = refl
expression_first e h = refl

-- with which tokens what is spelled begins
pub expression_begins : (e : PlainExpression) (ts rest : List Token) → Begins (expression_words e) ts rest →
    formed_expression e ≡ true → begins_expression (front ts) ≡ true
expression_begins e ts rest h good =
    ap begins_expression (front_of (expression_words e) ts rest (expression_some e) h) ∙ expression_first e good

pub atom_begins : (e : PlainExpression) (ts rest : List Token) → Begins (expression_words e) ts rest →
    is_atom e ≡ true → begins_atom (front ts) ≡ true
atom_begins e ts rest h good = ap begins_atom (front_of (expression_words e) ts rest (expression_some e) h)
    ∙ atom_first e good

-- every expression is a level
pub expression_level : (e : PlainExpression) → 0 < expression_depth e
expression_level (number node literal) = omega arith
expression_level (negative node literal) = omega arith
expression_level (text node bytes) = omega arith
expression_level (truth node value) = omega arith
expression_level (nil node) = omega arith
expression_level (path node name fields) = omega arith
expression_level (arrow node name fields) = omega arith
expression_level (call node name args note) = omega arith
expression_level (named_call node name args note) = omega arith
expression_level (parenthesized node e) = omega arith
expression_level (dereference node e) = omega arith
expression_level (borrow node way name) = omega arith
expression_level (borrow_part node name fields) = omega arith
expression_level (binary node op a z) = omega arith
expression_level (negation node e) = omega arith
expression_level (typed node e t) = omega arith
expression_level (choice node c a z) = omega arith

-- ---- what doesn't continue

pub ends_both : (w : Option What) → ends_expression w ≡ true → ends_atom w ≡ true
ends_both (Some (Sign Dot)) h = h
ends_both (Some (Sign Arrow)) h = h
ends_both (Some (Sign LeftParenthesis)) h = h
ends_both w h = refl

pub ends_operator : (w : Option What) → ends_expression w ≡ true → operator_of w ≡ None
ends_operator (Some (Sign Plus)) h = absurd cc
ends_operator (Some (Sign Minus)) h = absurd cc
ends_operator (Some (Sign Star)) h = absurd cc
ends_operator (Some (Sign Slash)) h = absurd cc
ends_operator (Some (Sign Equal)) h = absurd cc
ends_operator (Some (Sign NotEqual)) h = absurd cc
ends_operator (Some (Sign Less)) h = absurd cc
ends_operator (Some (Sign LessEqual)) h = absurd cc
ends_operator (Some (Sign Greater)) h = absurd cc
ends_operator (Some (Sign GreaterEqual)) h = absurd cc
ends_operator (Some (Word KwAnd)) h = absurd cc
ends_operator (Some (Word KwOr)) h = absurd cc
ends_operator w h = refl

pub ends_colon : (w : Option What) → ends_expression w ≡ true → is_front (Sign Colon) w ≡ false
ends_colon (Some (Sign Colon)) h = absurd cc
ends_colon w h = refl

pub ends_bracket : (w : Option What) → ends_expression w ≡ true → ends_type w ≡ true
ends_bracket (Some (Sign LeftBracket)) h = h
ends_bracket w h = refl

-- ---- operators

abbrev pub operator_what : BinaryOperator → What
operator_what operator.Add = Sign Plus
operator_what operator.Subtract = Sign Minus
operator_what operator.Multiply = Sign Star
operator_what operator.Divide = Sign Slash
operator_what operator.Equal = Sign Equal
operator_what operator.NotEqual = Sign NotEqual
operator_what operator.Less = Sign Less
operator_what operator.LessEqual = Sign LessEqual
operator_what operator.Greater = Sign Greater
operator_what operator.GreaterEqual = Sign GreaterEqual
operator_what operator.And = Word KwAnd
operator_what operator.Or = Word KwOr

pub operator_fixed : (op : BinaryOperator) → operator_words op ≡ fixed (operator_what op ∷ [])
operator_fixed operator.Add = refl
operator_fixed operator.Subtract = refl
operator_fixed operator.Multiply = refl
operator_fixed operator.Divide = refl
operator_fixed operator.Equal = refl
operator_fixed operator.NotEqual = refl
operator_fixed operator.Less = refl
operator_fixed operator.LessEqual = refl
operator_fixed operator.Greater = refl
operator_fixed operator.GreaterEqual = refl
operator_fixed operator.And = refl
operator_fixed operator.Or = refl

pub operator_there : (op : BinaryOperator) → operator_of (Some (operator_what op)) ≡ Some op
operator_there operator.Add = refl
operator_there operator.Subtract = refl
operator_there operator.Multiply = refl
operator_there operator.Divide = refl
operator_there operator.Equal = refl
operator_there operator.NotEqual = refl
operator_there operator.Less = refl
operator_there operator.LessEqual = refl
operator_there operator.Greater = refl
operator_there operator.GreaterEqual = refl
operator_there operator.And = refl
operator_there operator.Or = refl

pub operator_ends : (op : BinaryOperator) → ends_atom (Some (operator_what op)) ≡ true
operator_ends operator.And = refl
operator_ends operator.Or = refl
operator_ends op = refl

abbrev whats_of : Option BinaryOperator → Option What
whats_of None = None
whats_of (Some op) = Some (operator_what op)

-- the token that an operator is read of
pub operator_back : (w : Option What) (op : BinaryOperator) → operator_of w ≡ Some op → w ≡ Some (operator_what op)
operator_back (Some (Sign Plus)) op h = ap whats_of h
operator_back (Some (Sign Minus)) op h = ap whats_of h
operator_back (Some (Sign Star)) op h = ap whats_of h
operator_back (Some (Sign Slash)) op h = ap whats_of h
operator_back (Some (Sign Equal)) op h = ap whats_of h
operator_back (Some (Sign NotEqual)) op h = ap whats_of h
operator_back (Some (Sign Less)) op h = ap whats_of h
operator_back (Some (Sign LessEqual)) op h = ap whats_of h
operator_back (Some (Sign Greater)) op h = ap whats_of h
operator_back (Some (Sign GreaterEqual)) op h = ap whats_of h
operator_back (Some (Word KwAnd)) op h = ap whats_of h
operator_back (Some (Word KwOr)) op h = ap whats_of h
operator_back w op h = absurd cc
