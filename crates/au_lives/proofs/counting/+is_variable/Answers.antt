use Rattle.std.proofs.Common.{arith}
use Rattle.au_syntax.proofs.ExpressionLemmas.{number_says, negative_says, text_says, bool_says, nil_says}
use Rattle.au_syntax.proofs.ExpressionLemmas.{arrow_says, borrow_says, borrow_part_says, call_says}
use Rattle.au_syntax.proofs.ExpressionLemmas.{named_call_says, parenthesized_says, dereference_says}
use Rattle.au_syntax.proofs.ExpressionLemmas.{not_says, typed_says, binary_says, if_says, path_says}
use Rattle.au_lives.proofs.CountLemmas.{alone}
use Rattle.au_lives.proofs.counting.+is_variable.Goals as goal

pub returns-in-Path : goal.returns-in-Path
returns-in-Path g t c = grind (arith, path_says, alone)

pub returns-in-Number : goal.returns-in-Number
returns-in-Number g t c = grind (arith, number_says)

pub returns-in-Negative : goal.returns-in-Negative
returns-in-Negative g t c = grind (arith, negative_says)

pub returns-in-Text : goal.returns-in-Text
returns-in-Text g t c = grind (arith, text_says)

pub returns-in-Bool : goal.returns-in-Bool
returns-in-Bool g t c = grind (arith, bool_says)

pub returns-in-Nil : goal.returns-in-Nil
returns-in-Nil g t c = grind (arith, nil_says)

pub returns-in-Arrow : goal.returns-in-Arrow
returns-in-Arrow g t c = grind (arith, arrow_says)

pub returns-in-Borrow : goal.returns-in-Borrow
returns-in-Borrow g t c = grind (arith, borrow_says)

pub returns-in-BorrowPart : goal.returns-in-BorrowPart
returns-in-BorrowPart g t c = grind (arith, borrow_part_says)

pub returns-in-Call : goal.returns-in-Call
returns-in-Call g t c = grind (arith, call_says)

pub returns-in-NamedCall : goal.returns-in-NamedCall
returns-in-NamedCall g t c = grind (arith, named_call_says)

pub returns-in-Parenthesized : goal.returns-in-Parenthesized
returns-in-Parenthesized g t c = grind (arith, parenthesized_says)

pub returns-in-Dereference : goal.returns-in-Dereference
returns-in-Dereference g t c = grind (arith, dereference_says)

pub returns-in-Not : goal.returns-in-Not
returns-in-Not g t c = grind (arith, not_says)

pub returns-in-Typed : goal.returns-in-Typed
returns-in-Typed g t c = grind (arith, typed_says)

pub returns-in-Binary : goal.returns-in-Binary
returns-in-Binary g t c = grind (arith, binary_says)

pub returns-in-If : goal.returns-in-If
returns-in-If g t c = grind (arith, if_says)
