-- Expressions, by what a phase keeps for a name (N), for an expression (T) and for a call besides (C).
use Rattle.std.specs.Prelude.{ℕ, Bool, List}
use Rattle.au_base.specs.declared.places.Pos.{Pos}
use Rattle.au_syntax.specs.declared.expressions.BinaryOperator.{BinaryOperator}
use Rattle.au_syntax.specs.declared.expressions.BorrowMode.{BorrowMode}
use Rattle.au_syntax.specs.declared.expressions.Literal.{Literal}
use Rattle.au_syntax.specs.Names.{Placed}
use Rattle.au_syntax.specs.Types.{WrittenType}

-- the place of an expression's first token, and its note
pub record Node (T : Type 0) : Type 0 where
  pub at : Pos
  pub note : T

mutual
  -- an expression, one constructor for each row of the grammar
  pub data Expression (N T C : Type 0) : Type 0 where
    number : Node T → Literal → Expression N T C
    negative : Node T → Literal → Expression N T C
    text : Node T → List ℕ → Expression N T C
    truth : Node T → Bool → Expression N T C
    nil : Node T → Expression N T C
    path : Node T → Placed N → List (Placed N) → Expression N T C
    arrow : Node T → Placed N → List (Placed N) → Expression N T C
    call : Node T → Placed N → Expressions N T C → C → Expression N T C
    named_call : Node T → Placed N → Arguments N T C → C → Expression N T C
    parenthesized : Node T → Expression N T C → Expression N T C
    dereference : Node T → Expression N T C → Expression N T C
    borrow : Node T → BorrowMode → Placed N → Expression N T C
    borrow_part : Node T → Placed N → List (Placed N) → Expression N T C
    binary : Node T → BinaryOperator → Expression N T C → Expression N T C → Expression N T C
    negation : Node T → Expression N T C → Expression N T C
    typed : Node T → Expression N T C → WrittenType → Expression N T C
    choice : Node T → Expression N T C → Expression N T C → Expression N T C → Expression N T C

  -- expressions with commas between
  pub data Expressions (N T C : Type 0) : Type 0 where
    no_expressions : Expressions N T C
    expressions : Expression N T C → Expressions N T C → Expressions N T C

  -- named arguments with commas between
  pub data Arguments (N T C : Type 0) : Type 0 where
    no_arguments : Arguments N T C
    arguments : Placed N → Expression N T C → Arguments N T C → Arguments N T C
