use Rattle.std.proofs.Common.{arith}
use Rattle.au_base.proofs.MeasureLemmas.{item_falls}
use Rattle.au_sights.specs.contracts.noted.NotedPhase.TheImpl.{ghosts as noted}
use Rattle.au_syntax.specs.declared.expressions.Argument.{size-Argument}
use Rattle.au_syntax.specs.Views.{argument_all, expression, expression_all}
use Rattle.au_syntax.proofs.ExpressionLemmas as says
use Rattle.au_closed_trees.specs.contracts.phase.ClosedTreesPhase.TheImpl.{ghosts as closed}
use Rattle.au_closed_trees.specs.Renoted.{arguments_renoted, expression_renoted, expressions_renoted}
use Rattle.au_closed_trees.proofs.ClosingLemmas as lemmas
use Rattle.au_closed_trees.proofs.ClosingLemmas.{argument_closed, arguments_turn, expressions_turn}
use Rattle.au_closed_trees.proofs.SnocLemmas.{arguments_push, expressions_push, one_argument, snoc_arguments}
use Rattle.au_closed_trees.proofs.SnocLemmas.{snoc_expressions}
use Rattle.au_closed_trees.proofs.LoopLemmas.{all_made, made_more}
use Rattle.au_closed_trees.proofs.expressions.+close_expression.Goals as goal

pub close_expression-returns-in_ok-close_site-in-Number :
    goal.close_expression-returns-in_ok-close_site-in-Number
close_expression-returns-in_ok-close_site-in-Number g t c =
    grind (arith, says.number_says, lemmas.number_becomes)

pub close_expression-returns-in_ok-close_site-in-Negative :
    goal.close_expression-returns-in_ok-close_site-in-Negative
close_expression-returns-in_ok-close_site-in-Negative g t c =
    grind (arith, says.negative_says, lemmas.negative_becomes)

pub close_expression-returns-in_ok-copy-in-Text : goal.close_expression-returns-in_ok-copy-in-Text
close_expression-returns-in_ok-copy-in-Text g t c = grind (arith, says.text_says, lemmas.text_becomes)

pub close_expression-returns-in_ok-close_site-in-Bool : goal.close_expression-returns-in_ok-close_site-in-Bool
close_expression-returns-in_ok-close_site-in-Bool g t c = grind (arith, says.bool_says, lemmas.bool_becomes)

pub close_expression-returns-in_ok-close_site-in-Nil : goal.close_expression-returns-in_ok-close_site-in-Nil
close_expression-returns-in_ok-close_site-in-Nil g t c = grind (arith, says.nil_says, lemmas.nil_becomes)

pub close_expression-returns-in_ok-copy_names-in-Path : goal.close_expression-returns-in_ok-copy_names-in-Path
close_expression-returns-in_ok-copy_names-in-Path g t c = grind (arith, says.path_says, lemmas.path_becomes)

pub close_expression-returns-in_ok-copy_names-in-Arrow :
    goal.close_expression-returns-in_ok-copy_names-in-Arrow
close_expression-returns-in_ok-copy_names-in-Arrow g t c =
    grind (arith, says.arrow_says, lemmas.arrow_becomes)

pub close_expression-returns-in_ok-site-in-Call : goal.close_expression-returns-in_ok-site-in-Call
close_expression-returns-in_ok-site-in-Call g t c = grind (arith, says.call_says, lemmas.call_becomes)

pub close_expression-returns-in_ok-site-in-NamedCall : goal.close_expression-returns-in_ok-site-in-NamedCall
close_expression-returns-in_ok-site-in-NamedCall g t c =
    grind (arith, says.named_call_says, lemmas.named_call_becomes)

pub close_expression-returns-in_ok-site-in-Parenthesized :
    goal.close_expression-returns-in_ok-site-in-Parenthesized
close_expression-returns-in_ok-site-in-Parenthesized g t c =
    grind (arith, says.parenthesized_says, lemmas.parenthesized_becomes)

pub close_expression-returns-in_ok-site-in-Dereference :
    goal.close_expression-returns-in_ok-site-in-Dereference
close_expression-returns-in_ok-site-in-Dereference g t c =
    grind (arith, says.dereference_says, lemmas.dereference_becomes)

pub close_expression-returns-in_ok-copy_name-in-Borrow :
    goal.close_expression-returns-in_ok-copy_name-in-Borrow
close_expression-returns-in_ok-copy_name-in-Borrow g t c =
    grind (arith, says.borrow_says, lemmas.borrow_becomes)

pub close_expression-returns-in_ok-copy_names-in-BorrowPart :
    goal.close_expression-returns-in_ok-copy_names-in-BorrowPart
close_expression-returns-in_ok-copy_names-in-BorrowPart g t c =
    grind (arith, says.borrow_part_says, lemmas.borrow_part_becomes)

pub close_expression-returns-in_ok-close_boxed-in-Binary :
    goal.close_expression-returns-in_ok-close_boxed-in-Binary
close_expression-returns-in_ok-close_boxed-in-Binary g t c =
    grind (arith, says.binary_says, lemmas.binary_becomes)

pub close_expression-returns-in_ok-site-in-Not : goal.close_expression-returns-in_ok-site-in-Not
close_expression-returns-in_ok-site-in-Not g t c = grind (arith, says.not_says, lemmas.not_becomes)

pub close_expression-returns-in_ok-copy_text_of_type-in-Typed :
    goal.close_expression-returns-in_ok-copy_text_of_type-in-Typed
close_expression-returns-in_ok-copy_text_of_type-in-Typed g t c = grind (arith, says.typed_says, lemmas.typed_becomes)

pub close_expression-returns-in_ok-close_boxed-in-If : goal.close_expression-returns-in_ok-close_boxed-in-If
close_expression-returns-in_ok-close_boxed-in-If g t c = grind (arith, says.if_says, lemmas.if_becomes)

pub close_expressions-loop-one-preserved : goal.close_expressions-loop-one-preserved
close_expressions-loop-one-preserved g t c =
    let change = g.R.Closer.change c.args.closer.now in
    made_more (expression_all closed) snoc_expressions (expression closed) (expression_all noted)
    snoc_expressions (expression noted) (expressions_renoted change) (expression_renoted change)
    (expressions_push closed)
    (expressions_push noted) (expressions_turn change) c.loop-one.made.items c.push.new.self.items
    c.deref-one-items.result.now c.loop-one.one-index c.one-item.result c.in_ok-new.new c.loop-one.invariant
    c.loop-one-test.true c.one-item.is c.in_ok-push.ensures.items c.in_ok-new.ensures

pub close_expressions-returns : goal.close_expressions-returns
close_expressions-returns g t c =
    all_made (expressions_renoted (g.R.Closer.change c.args.closer.now)) (expression_all noted)
    (expression_all closed c.loop-one.made.items) c.deref-one-items.result.now c.args.expressions.now.items
    c.loop-one.one-index c.loop-one.invariant c.deref-one-items.ensures.value c.loop-one-test.false

pub close_arguments-loop-one-preserved : goal.close_arguments-loop-one-preserved
close_arguments-loop-one-preserved g t c =
    let change = g.R.Closer.change c.args.closer.now in
    made_more (argument_all closed) snoc_arguments (one_argument closed) (argument_all noted)
    snoc_arguments (one_argument noted)
    (arguments_renoted change) (arguments_renoted change) (arguments_push closed) (arguments_push noted)
    (arguments_turn change) c.loop-one.made.items c.push.new.self.items c.deref-one-items.result.now
    c.loop-one.one-index c.one-item.result c.in_ok-new.new c.loop-one.invariant c.loop-one-test.true
    c.one-item.is c.in_ok-push.ensures.items
    (argument_closed change c.in_ok-new.new c.one-item.result c.in_ok-new.ensures.label
    c.in_ok-new.ensures.value)

pub close_arguments-returns : goal.close_arguments-returns
close_arguments-returns g t c =
    all_made (arguments_renoted (g.R.Closer.change c.args.closer.now)) (argument_all noted)
    (argument_all closed c.loop-one.made.items) c.deref-one-items.result.now c.args.arguments.now.items
    c.loop-one.one-index c.loop-one.invariant c.deref-one-items.ensures.value c.loop-one-test.false

pub close_arguments-close_argument-requires : goal.close_arguments-close_argument-requires
close_arguments-close_argument-requires g t c κs within = (
  item_falls 3 0 1 (omega arith) (size-Argument _ _ _ _) c.deref-one-items.result.now
      c.args.arguments.now.items c.loop-one.one-index c.one-item.result t c.decreases
      c.deref-one-items.ensures.value c.loop-one-test.true c.one-item.is,
  within,
)
