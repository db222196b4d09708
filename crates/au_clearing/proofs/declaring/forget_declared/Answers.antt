use Rattle.std.proofs.Common.{arith}
use Rattle.au_syntax.proofs.StatementLemmas.{let_says, destructure_says, skip_says, assign_says}
use Rattle.au_syntax.proofs.StatementLemmas.{assign_through_says, if_says, if_else_says, case_says}
use Rattle.au_syntax.proofs.StatementLemmas.{while_says, for_says, borrow_says, borrow_typed_says}
use Rattle.au_syntax.proofs.StatementLemmas.{call_says, return_says}
use Rattle.au_clearing.proofs.declaring.forget_declared.Goals as goal

pub returns-in-Let : goal.returns-in-Let
returns-in-Let g c = grind (arith, let_says)

pub returns-in-Destructure : goal.returns-in-Destructure
returns-in-Destructure g c = grind (arith, destructure_says)

pub returns-in-Skip : goal.returns-in-Skip
returns-in-Skip g c = grind (arith, skip_says)

pub returns-in-Assign : goal.returns-in-Assign
returns-in-Assign g c = grind (arith, assign_says)

pub returns-in-AssignThrough : goal.returns-in-AssignThrough
returns-in-AssignThrough g c = grind (arith, assign_through_says)

pub returns-in-If : goal.returns-in-If
returns-in-If g c = grind (arith, if_says)

pub returns-in-IfElse : goal.returns-in-IfElse
returns-in-IfElse g c = grind (arith, if_else_says)

pub returns-in-Case : goal.returns-in-Case
returns-in-Case g c = grind (arith, case_says)

pub returns-in-While : goal.returns-in-While
returns-in-While g c = grind (arith, while_says)

pub returns-in-For : goal.returns-in-For
returns-in-For g c = grind (arith, for_says)

pub returns-in-Borrow : goal.returns-in-Borrow
returns-in-Borrow g c = grind (arith, borrow_says)

pub returns-in-BorrowTyped : goal.returns-in-BorrowTyped
returns-in-BorrowTyped g c = grind (arith, borrow_typed_says)

pub returns-in-Call : goal.returns-in-Call
returns-in-Call g c = grind (arith, call_says)

pub returns-in-Return : goal.returns-in-Return
returns-in-Return g c = grind (arith, return_says)
