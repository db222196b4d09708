use Rattle.std.proofs.Common.{arith}
use Rattle.au_syntax.proofs.StatementLemmas as says
use Rattle.au_lowering_statements.proofs.rooms.+room.Goals as goal

pub room-returns-in-Skip : goal.room-returns-in-Skip
room-returns-in-Skip g t c = grind (arith, says.skip_says)

pub room-returns-in-Let : goal.room-returns-in-Let
room-returns-in-Let g t c = grind (arith, says.let_says)

pub room-returns-in-Destructure : goal.room-returns-in-Destructure
room-returns-in-Destructure g t c = grind (arith, says.destructure_says)

pub room-returns-in-Assign : goal.room-returns-in-Assign
room-returns-in-Assign g t c = grind (arith, says.assign_says)

pub room-returns-in-AssignThrough : goal.room-returns-in-AssignThrough
room-returns-in-AssignThrough g t c = grind (arith, says.assign_through_says)

pub room-returns-in-If : goal.room-returns-in-If
room-returns-in-If g t c = grind (arith, says.if_says)

pub room-returns-in_ok-other-in-IfElse : goal.room-returns-in_ok-other-in-IfElse
room-returns-in_ok-other-in-IfElse g t c = grind (arith, says.if_else_says)

pub room-returns-in-Case : goal.room-returns-in-Case
room-returns-in-Case g t c = grind (arith, says.case_says)

pub room-returns-in-While : goal.room-returns-in-While
room-returns-in-While g t c = grind (arith, says.while_says)

pub room-returns-in_ok-inner-in-For : goal.room-returns-in_ok-inner-in-For
room-returns-in_ok-inner-in-For g t c = grind (arith, says.for_says)

pub room-returns-in_ok-inner-in-Borrow : goal.room-returns-in_ok-inner-in-Borrow
room-returns-in_ok-inner-in-Borrow g t c = grind (arith, says.borrow_says)

pub room-returns-in_ok-inner-in-BorrowTyped : goal.room-returns-in_ok-inner-in-BorrowTyped
room-returns-in_ok-inner-in-BorrowTyped g t c = grind (arith, says.borrow_typed_says)

pub room-returns-in-Call : goal.room-returns-in-Call
room-returns-in-Call g t c = grind (arith, says.call_says)

pub room-returns-in-Return : goal.room-returns-in-Return
room-returns-in-Return g t c = grind (arith, says.return_says)
