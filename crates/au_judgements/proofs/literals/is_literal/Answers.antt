use Rattle.std.proofs.Common.{arith}
use Rattle.au_syntax.proofs.ExpressionLemmas.{number_says, negative_says, text_says, bool_says, nil_says}
use Rattle.au_syntax.proofs.ExpressionLemmas.{path_says, arrow_says, call_says, named_call_says}
use Rattle.au_syntax.proofs.ExpressionLemmas.{parenthesized_says, dereference_says, borrow_says}
use Rattle.au_syntax.proofs.ExpressionLemmas.{borrow_part_says, binary_says, not_says, typed_says, if_says}
use Rattle.au_judgements.proofs.literals.is_literal.Goals as goal

pub returns-in-Number : goal.returns-in-Number
returns-in-Number g c = grind (arith, number_says)

pub returns-in-Negative : goal.returns-in-Negative
returns-in-Negative g c = grind (arith, negative_says)

pub returns-in-Text : goal.returns-in-Text
returns-in-Text g c = grind (arith, text_says)

pub returns-in-Bool : goal.returns-in-Bool
returns-in-Bool g c = grind (arith, bool_says)

pub returns-in-Nil : goal.returns-in-Nil
returns-in-Nil g c = grind (arith, nil_says)

pub returns-in-Path : goal.returns-in-Path
returns-in-Path g c = grind (arith, path_says)

pub returns-in-Arrow : goal.returns-in-Arrow
returns-in-Arrow g c = grind (arith, arrow_says)

pub returns-in-Call : goal.returns-in-Call
returns-in-Call g c = grind (arith, call_says)

pub returns-in-NamedCall : goal.returns-in-NamedCall
returns-in-NamedCall g c = grind (arith, named_call_says)

pub returns-in-Parenthesized : goal.returns-in-Parenthesized
returns-in-Parenthesized g c = grind (arith, parenthesized_says)

pub returns-in-Dereference : goal.returns-in-Dereference
returns-in-Dereference g c = grind (arith, dereference_says)

pub returns-in-Borrow : goal.returns-in-Borrow
returns-in-Borrow g c = grind (arith, borrow_says)

pub returns-in-BorrowPart : goal.returns-in-BorrowPart
returns-in-BorrowPart g c = grind (arith, borrow_part_says)

pub returns-in-Binary : goal.returns-in-Binary
returns-in-Binary g c = grind (arith, binary_says)

pub returns-in-Not : goal.returns-in-Not
returns-in-Not g c = grind (arith, not_says)

pub returns-in-Typed : goal.returns-in-Typed
returns-in-Typed g c = grind (arith, typed_says)

pub returns-in-If : goal.returns-in-If
returns-in-If g c = grind (arith, if_says)
