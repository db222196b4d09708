use Rattle.std.proofs.Common.{arith}
use Rattle.au_syntax.proofs.ExpressionLemmas as says
use Rattle.au_closed_programs.proofs.constants.literal_of.Goals as goal

pub returns-in-Number : goal.returns-in-Number
returns-in-Number c = grind (arith, says.number_says)

pub returns-in-Negative : goal.returns-in-Negative
returns-in-Negative c = grind (arith, says.negative_says)

pub returns-in-Bool : goal.returns-in-Bool
returns-in-Bool c = grind (arith, says.bool_says)

pub returns-in-Nil : goal.returns-in-Nil
returns-in-Nil c = grind (arith, says.nil_says)

pub returns-in-Path : goal.returns-in-Path
returns-in-Path c = grind (arith, says.path_says)

pub returns-in-Arrow : goal.returns-in-Arrow
returns-in-Arrow c = grind (arith, says.arrow_says)

pub returns-in-Call : goal.returns-in-Call
returns-in-Call c = grind (arith, says.call_says)

pub returns-in-NamedCall : goal.returns-in-NamedCall
returns-in-NamedCall c = grind (arith, says.named_call_says)

pub returns-in-Parenthesized : goal.returns-in-Parenthesized
returns-in-Parenthesized c = grind (arith, says.parenthesized_says)

pub returns-in-Dereference : goal.returns-in-Dereference
returns-in-Dereference c = grind (arith, says.dereference_says)

pub returns-in-Borrow : goal.returns-in-Borrow
returns-in-Borrow c = grind (arith, says.borrow_says)

pub returns-in-BorrowPart : goal.returns-in-BorrowPart
returns-in-BorrowPart c = grind (arith, says.borrow_part_says)

pub returns-in-Binary : goal.returns-in-Binary
returns-in-Binary c = grind (arith, says.binary_says)

pub returns-in-Not : goal.returns-in-Not
returns-in-Not c = grind (arith, says.not_says)

pub returns-in-Typed : goal.returns-in-Typed
returns-in-Typed c = grind (arith, says.typed_says)

pub returns-in-If : goal.returns-in-If
returns-in-If c = grind (arith, says.if_says)

pub returns-in_ok-copy-in-Text : goal.returns-in_ok-copy-in-Text
returns-in_ok-copy-in-Text c = grind (arith, says.text_says)
