-- Statements, by what a phase keeps for a name, an expression and a call.
use Rattle.std.specs.Prelude.{List}
use Rattle.au_base.specs.declared.places.Pos.{Pos}
use Rattle.au_syntax.specs.declared.expressions.BorrowMode.{BorrowMode}
use Rattle.au_syntax.specs.declared.statements.Binding.{Binding}
use Rattle.au_syntax.specs.declared.types.Access.{Access}
use Rattle.au_syntax.specs.Names.{Placed}
use Rattle.au_syntax.specs.Types.{WrittenType, Bound}
use Rattle.au_syntax.specs.Expressions.{Expression}

mutual
  -- a statement, one constructor for each row of the grammar; a conditional has two, without `else` and with
  pub data Statement (N T C : Type 0) : Type 0 where
    skip : Pos → Statement N T C
    declare : Pos → Binding → Placed N → WrittenType → Expression N T C → Statement N T C
    destructure : Pos → List (Bound N) → Expression N T C → Statement N T C
    assign : Pos → Placed N → List (Placed N) → Expression N T C → Statement N T C
    assign_through : Pos → Placed N → List (Placed N) → Expression N T C → Statement N T C
    conditional : Pos → Branches N T C → Statement N T C
    conditional_else : Pos → Branches N T C → Statements N T C → Statement N T C
    case_of : Pos → Expression N T C → Arms N T C → Statement N T C
    while_loop : Pos → Expression N T C → Statements N T C → Statement N T C
    for_loop : Pos → Placed N → Expression N T C → Expression N T C → Statements N T C → Statement N T C
    borrow_in : Pos → Access → Placed N → Placed N → Placed N → Statements N T C → Pos → Statement N T C
    borrow_typed : Pos → Placed N → WrittenType → BorrowMode → Placed N → Statements N T C → Pos
        → Statement N T C
    discard : Pos → Expression N T C → Statement N T C
    return_of : Pos → Expression N T C → Statement N T C

  -- a block: statements one after another
  pub data Statements (N T C : Type 0) : Type 0 where
    no_statements : Statements N T C
    statements : Statement N T C → Statements N T C → Statements N T C

  -- the tests of a conditional, each with its block
  pub data Branches (N T C : Type 0) : Type 0 where
    no_branches : Branches N T C
    branches : Expression N T C → Statements N T C → Branches N T C → Branches N T C

  -- the arms of a case: the place of `when`, the case, what is bound, and the block
  pub data Arms (N T C : Type 0) : Type 0 where
    no_arms : Arms N T C
    arms : Pos → Placed N → List (Bound N) → Statements N T C → Arms N T C → Arms N T C
