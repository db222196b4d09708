-- The heads of statements with blocks: what stands before the block.
use Rattle.std.specs.Prelude.{List, [], ◌∷◌}
use Rattle.au_base.specs.declared.places.Pos.{Pos}
use Rattle.au_base.specs.declared.tokens.Keyword.TheVariants.{KwWhen, KwDo, KwFor, KwFrom, KwTo, KwBorrow}
use Rattle.au_base.specs.declared.tokens.Keyword.TheVariants.{KwAs, KwIn}
use Rattle.au_base.specs.declared.tokens.Sign.TheVariants.{Assign, LeftParenthesis, RightParenthesis, Colon}
use Rattle.au_base.specs.declared.tokens.Token.{Token}
use Rattle.au_base.specs.declared.tokens.What.{What}
use Rattle.au_base.specs.declared.tokens.What.TheVariants.{Word, Sign}
use Rattle.au_syntax.specs.declared.expressions.BorrowMode.{BorrowMode}
use Rattle.au_syntax.specs.declared.types.Access.{Access}
use Rattle.au_syntax.specs.Names.{Placed}
use Rattle.au_syntax.specs.Plain.{Bytes, PlainExpression, PlainStatement, PlainStatements}
use Rattle.au_syntax.specs.Statements.{for_loop, borrow_in, borrow_typed}
use Rattle.au_syntax.specs.Types.{WrittenType, Bound}
use Rattle.au_read_expressions.specs.Bounds.{Bounds}
use Rattle.au_read_expressions.specs.Reading.{Read, name_at, behind_tokens, closed, pair, bracketed}
use Rattle.au_read_expressions.specs.TypeReading.{type_at}
use Rattle.au_read_statements.specs.StatementReading.{bound_at, borrow_whats, mode_at}

-- three parts, grouped from the right
abbrev pub regrouped : {A B C : Type 0} → (A × B) × C → A × (B × C)
regrouped x = (x.0.0, (x.0.1, x.1))

-- a part between two tokens
abbrev pub between : {A : Type 0} → What → What → (List Token → Read A) → List Token → Read A
between first last part = behind_tokens (first ∷ []) (closed (last ∷ []) part)

-- `for NAME from EXPRESSION to`
abbrev pub for_start : (List Token → Read PlainExpression) → List Token
    → Read (Placed Bytes × PlainExpression)
for_start inner = pair (behind_tokens (Word KwFor ∷ []) name_at) (between (Word KwFrom) (Word KwTo) inner)

-- `for NAME from EXPRESSION to EXPRESSION do`
abbrev pub for_head : (List Token → Read PlainExpression) → List Token
    → Read ((Placed Bytes × PlainExpression) × PlainExpression)
for_head inner = pair (for_start inner) (closed (Word KwDo ∷ []) inner)

-- `borrow NAME as NAME in`, or with `borrow!`
abbrev pub borrow_start : Access → List Token → Read (Placed Bytes × Placed Bytes)
borrow_start access =
    pair (behind_tokens (borrow_whats access) name_at) (between (Word KwAs) (Word KwIn) name_at)

-- `borrow NAME as NAME in NAME`, or with `borrow!`
abbrev pub borrow_head : Access → List Token → Read ((Placed Bytes × Placed Bytes) × Placed Bytes)
borrow_head access = pair (borrow_start access) name_at

module _ (b : Bounds) where
  -- fields in parentheses, or none, and `do`
  abbrev pub binds_end : List Token → Read (List (Bound Bytes))
  binds_end = closed (Word KwDo ∷ []) (bracketed LeftParenthesis RightParenthesis (bound_at b))

  -- `when NAME(..) do`
  abbrev pub arm_head : List Token → Read (Placed Bytes × List (Bound Bytes))
  arm_head = pair (behind_tokens (Word KwWhen ∷ []) name_at) binds_end

  -- `borrow NAME: TYPE :=`
  abbrev pub typed_start : List Token → Read (Placed Bytes × WrittenType)
  typed_start =
      pair (behind_tokens (Word KwBorrow ∷ []) name_at) (between (Sign Colon) (Sign Assign) (type_at b))

  -- `borrow NAME: TYPE := &NAME`
  abbrev pub typed_head : List Token → Read (((Placed Bytes × WrittenType) × BorrowMode) × Placed Bytes)
  typed_head = pair (pair typed_start mode_at) name_at

-- ---- what is built of a head and a block

abbrev pub for_of_parts : Pos → ((Placed Bytes × PlainExpression) × PlainExpression) × PlainStatements
    → PlainStatement
for_of_parts at x = for_loop at x.0.0.0 x.0.0.1 x.0.1 x.1

abbrev pub borrow_in_of_parts : Access → Pos
    → ((Placed Bytes × Placed Bytes) × Placed Bytes) × (PlainStatements × Pos) → PlainStatement
borrow_in_of_parts access at x = borrow_in at access x.0.0.0 x.0.0.1 x.0.1 x.1.0 x.1.1

abbrev pub borrow_typed_of_parts : Pos
    → (((Placed Bytes × WrittenType) × BorrowMode) × Placed Bytes) × (PlainStatements × Pos) → PlainStatement
borrow_typed_of_parts at x = borrow_typed at x.0.0.0.0 x.0.0.0.1 x.0.0.1 x.0.1 x.1.0 x.1.1
