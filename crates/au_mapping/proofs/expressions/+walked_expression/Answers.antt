use Rattle.std.proofs.Common.{arith}
use Rattle.au_base.proofs.MeasureLemmas.{item_falls}
use Rattle.au_syntax.specs.declared.expressions.Argument.{size-Argument}
use Rattle.au_syntax.specs.declared.expressions.Expr.{size-Expr}
use Rattle.au_syntax.specs.Views.{expression, expression_all, argument_all}
use Rattle.au_syntax.proofs.ExpressionLemmas.{snoc_expressions, snoc_arguments, expressions_push}
use Rattle.au_syntax.proofs.ExpressionLemmas.{arguments_push, number_says, negative_says, text_says}
use Rattle.au_syntax.proofs.ExpressionLemmas.{bool_says, nil_says, path_says, arrow_says, call_says}
use Rattle.au_syntax.proofs.ExpressionLemmas.{named_call_says, parenthesized_says, dereference_says}
use Rattle.au_syntax.proofs.ExpressionLemmas.{borrow_says, borrow_part_says, binary_says, not_says}
use Rattle.au_syntax.proofs.ExpressionLemmas.{typed_says, if_says}
use Rattle.au_mapping.specs.Seen.{before, after}
use Rattle.au_mapping.proofs.WalkLemmas.{one_argument, all_walked, walked_more, argument_walked}
use Rattle.au_mapping.proofs.expressions.+walked_expression.Goals as goal

pub walked_expression-returns-in_ok-walked-in-Number : goal.walked_expression-returns-in_ok-walked-in-Number
walked_expression-returns-in_ok-walked-in-Number g t c = grind (arith, number_says)

pub walked_expression-returns-in_ok-walked-in-Negative :
    goal.walked_expression-returns-in_ok-walked-in-Negative
walked_expression-returns-in_ok-walked-in-Negative g t c = grind (arith, negative_says)

pub walked_expression-returns-in_ok-site-in-Text : goal.walked_expression-returns-in_ok-site-in-Text
walked_expression-returns-in_ok-site-in-Text g t c = grind (arith, text_says)

pub walked_expression-returns-in_ok-walked-in-Bool : goal.walked_expression-returns-in_ok-walked-in-Bool
walked_expression-returns-in_ok-walked-in-Bool g t c = grind (arith, bool_says)

pub walked_expression-returns-in_ok-walked-in-Nil : goal.walked_expression-returns-in_ok-walked-in-Nil
walked_expression-returns-in_ok-walked-in-Nil g t c = grind (arith, nil_says)

pub walked_expression-returns-in_ok-site-in-Path : goal.walked_expression-returns-in_ok-site-in-Path
walked_expression-returns-in_ok-site-in-Path g t c = grind (arith, path_says)

pub walked_expression-returns-in_ok-site-in-Arrow : goal.walked_expression-returns-in_ok-site-in-Arrow
walked_expression-returns-in_ok-site-in-Arrow g t c = grind (arith, arrow_says)

pub walked_expression-returns-in-Call : goal.walked_expression-returns-in-Call
walked_expression-returns-in-Call g t c = grind (arith, call_says)

pub walked_expression-returns-in-NamedCall : goal.walked_expression-returns-in-NamedCall
walked_expression-returns-in-NamedCall g t c = grind (arith, named_call_says)

pub walked_expression-returns-in_ok-site-in-Parenthesized :
    goal.walked_expression-returns-in_ok-site-in-Parenthesized
walked_expression-returns-in_ok-site-in-Parenthesized g t c = grind (arith, parenthesized_says)

pub walked_expression-returns-in_ok-site-in-Dereference :
    goal.walked_expression-returns-in_ok-site-in-Dereference
walked_expression-returns-in_ok-site-in-Dereference g t c = grind (arith, dereference_says)

pub walked_expression-returns-in_ok-site-in-Borrow : goal.walked_expression-returns-in_ok-site-in-Borrow
walked_expression-returns-in_ok-site-in-Borrow g t c = grind (arith, borrow_says)

pub walked_expression-returns-in_ok-site-in-BorrowPart :
    goal.walked_expression-returns-in_ok-site-in-BorrowPart
walked_expression-returns-in_ok-site-in-BorrowPart g t c = grind (arith, borrow_part_says)

pub walked_expression-returns-in_ok-walked_boxed-in-Binary :
    goal.walked_expression-returns-in_ok-walked_boxed-in-Binary
walked_expression-returns-in_ok-walked_boxed-in-Binary g t c = grind (arith, binary_says)

pub walked_expression-returns-in_ok-site-in-Not : goal.walked_expression-returns-in_ok-site-in-Not
walked_expression-returns-in_ok-site-in-Not g t c = grind (arith, not_says)

pub walked_expression-returns-in-Typed : goal.walked_expression-returns-in-Typed
walked_expression-returns-in-Typed g t c = grind (arith, typed_says)

pub walked_expression-returns-in_ok-walked_boxed-in-If :
    goal.walked_expression-returns-in_ok-walked_boxed-in-If
walked_expression-returns-in_ok-walked_boxed-in-If g t c = grind (arith, if_says)

pub walked_call-returns : goal.walked_call-returns
walked_call-returns g t c = grind (arith, call_says)

pub walked_named_call-returns : goal.walked_named_call-returns
walked_named_call-returns g t c = grind (arith, named_call_says)

pub walked_typed-returns : goal.walked_typed-returns
walked_typed-returns g t c = grind (arith, typed_says)

pub walked_expressions-loop-one-preserved : goal.walked_expressions-loop-one-preserved
walked_expressions-loop-one-preserved g t c =
    walked_more (expression_all (after g.W.Walk)) (expression_all (before g.W.Walk)) snoc_expressions
    (expression (after g.W.Walk)) (expression (before g.W.Walk))
    (expressions_push (after g.W.Walk)) (expressions_push (before g.W.Walk))
    c.loop-one.made.items c.push.new.self.items c.deref-one-items.result.now c.loop-one.one-index
    c.one-item.result c.in_ok-new.new c.loop-one.invariant c.loop-one-test.true c.one-item.is
    c.in_ok-push.ensures.items
    c.in_ok-new.ensures

pub walked_expressions-returns : goal.walked_expressions-returns
walked_expressions-returns g t c =
    all_walked (expression_all (after g.W.Walk)) (expression_all (before g.W.Walk)) c.loop-one.made.items
    c.deref-one-items.result.now c.args.expressions.now.items c.loop-one.one-index c.loop-one.invariant
    c.deref-one-items.ensures.value c.loop-one-test.false

pub walked_arguments-loop-one-preserved : goal.walked_arguments-loop-one-preserved
walked_arguments-loop-one-preserved g t c =
    walked_more (argument_all (after g.W.Walk)) (argument_all (before g.W.Walk)) snoc_arguments
    (one_argument (after g.W.Walk)) (one_argument (before g.W.Walk))
    (arguments_push (after g.W.Walk)) (arguments_push (before g.W.Walk))
    c.loop-one.made.items c.push.new.self.items c.deref-one-items.result.now c.loop-one.one-index
    c.one-item.result c.in_ok-new.new c.loop-one.invariant c.loop-one-test.true c.one-item.is
    c.in_ok-push.ensures.items
    (argument_walked g.W.Walk c.in_ok-new.new c.one-item.result c.in_ok-new.ensures.label
    c.in_ok-new.ensures.value)

pub walked_arguments-returns : goal.walked_arguments-returns
walked_arguments-returns g t c =
    all_walked (argument_all (after g.W.Walk)) (argument_all (before g.W.Walk)) c.loop-one.made.items
    c.deref-one-items.result.now c.args.arguments.now.items c.loop-one.one-index c.loop-one.invariant
    c.deref-one-items.ensures.value c.loop-one-test.false

pub walked_arguments-walked_argument-requires : goal.walked_arguments-walked_argument-requires
walked_arguments-walked_argument-requires g t c κs within = (
  item_falls 3 0 1 (omega arith) (size-Argument _ _ _ _) c.deref-one-items.result.now
      c.args.arguments.now.items c.loop-one.one-index c.one-item.result t c.decreases
      c.deref-one-items.ensures.value c.loop-one-test.true c.one-item.is,
  within,
)

pub walked_expressions-walked_expression-requires : goal.walked_expressions-walked_expression-requires
walked_expressions-walked_expression-requires g t c κs within = (
  item_falls 3 0 1 (omega arith) (size-Expr _ _ _ _) c.deref-one-items.result.now
      c.args.expressions.now.items c.loop-one.one-index c.one-item.result t c.decreases
      c.deref-one-items.ensures.value c.loop-one-test.true c.one-item.is,
  within,
)
