use Rattle.std.proofs.Common.{map, sym, arith}
use Rattle.std.proofs.lemmas.Grind.{common_steps}
use Rattle.std.proofs.lemmas.List.{append-nil}
use Rattle.au_sights.specs.contracts.noted.NotedPhase.TheImpl.{ghosts as noted}
use Rattle.au_syntax.specs.Views.{argument_all, expression, expression_all}
use Rattle.au_closed_trees.specs.Calls.{calls_in, calls_in_all, calls_in_arguments}
use Rattle.au_closed_trees.proofs.CallLemmas as lemmas
use Rattle.au_closed_trees.proofs.CallLemmas.{arguments_lead, expressions_lead}
use Rattle.au_closed_trees.proofs.SnocLemmas.{arguments_push, expressions_push, one_argument, snoc_arguments}
use Rattle.au_closed_trees.proofs.SnocLemmas.{snoc_expressions}
use Rattle.au_closed_trees.proofs.LoopLemmas.{alone_behind, found_more}
use Rattle.au_closed_trees.proofs.calls.+add_expression.Goals as goal

pub add_expression-returns-in-Number : goal.add_expression-returns-in-Number
add_expression-returns-in-Number g t c = grind (arith, common_steps, lemmas.number_calls)

pub add_expression-returns-in-Negative : goal.add_expression-returns-in-Negative
add_expression-returns-in-Negative g t c = grind (arith, common_steps, lemmas.negative_calls)

pub add_expression-returns-in-Text : goal.add_expression-returns-in-Text
add_expression-returns-in-Text g t c = grind (arith, common_steps, lemmas.text_calls)

pub add_expression-returns-in-Bool : goal.add_expression-returns-in-Bool
add_expression-returns-in-Bool g t c = grind (arith, common_steps, lemmas.bool_calls)

pub add_expression-returns-in-Nil : goal.add_expression-returns-in-Nil
add_expression-returns-in-Nil g t c = grind (arith, common_steps, lemmas.nil_calls)

pub add_expression-returns-in-Path : goal.add_expression-returns-in-Path
add_expression-returns-in-Path g t c = grind (arith, common_steps, lemmas.path_calls)

pub add_expression-returns-in-Arrow : goal.add_expression-returns-in-Arrow
add_expression-returns-in-Arrow g t c = grind (arith, common_steps, lemmas.arrow_calls)

pub add_expression-returns-in-Borrow : goal.add_expression-returns-in-Borrow
add_expression-returns-in-Borrow g t c = grind (arith, common_steps, lemmas.borrow_calls)

pub add_expression-returns-in-BorrowPart : goal.add_expression-returns-in-BorrowPart
add_expression-returns-in-BorrowPart g t c = grind (arith, common_steps, lemmas.borrow_part_calls)

pub add_expression-returns-in-Parenthesized : goal.add_expression-returns-in-Parenthesized
add_expression-returns-in-Parenthesized g t c = grind (arith, lemmas.parenthesized_calls)

pub add_expression-returns-in-Dereference : goal.add_expression-returns-in-Dereference
add_expression-returns-in-Dereference g t c = grind (arith, lemmas.dereference_calls)

pub add_expression-returns-in-Not : goal.add_expression-returns-in-Not
add_expression-returns-in-Not g t c = grind (arith, lemmas.not_calls)

pub add_expression-returns-in-Typed : goal.add_expression-returns-in-Typed
add_expression-returns-in-Typed g t c = grind (arith, lemmas.typed_calls)

pub add_expression-returns-in_ok-add-in-Call : goal.add_expression-returns-in_ok-add-in-Call
add_expression-returns-in_ok-add-in-Call g t c = grind (arith, common_steps, lemmas.call_calls)

pub add_expression-returns-in_ok-add-in-NamedCall : goal.add_expression-returns-in_ok-add-in-NamedCall
add_expression-returns-in_ok-add-in-NamedCall g t c = grind (arith, common_steps, lemmas.named_call_calls)

pub add_expression-returns-in_ok-add_expression-in-Binary :
    goal.add_expression-returns-in_ok-add_expression-in-Binary
add_expression-returns-in_ok-add_expression-in-Binary g t c = grind (arith, common_steps, lemmas.binary_calls)

pub add_expressions-loop-one-init : goal.add_expressions-loop-one-init
add_expressions-loop-one-init g t c = sym (append-nil (map g.R.Finder.see c.args.found.now.items))

pub add_expressions-loop-one-preserved : goal.add_expressions-loop-one-preserved
add_expressions-loop-one-preserved g t c =
    let leads = g.R.Finder.leads c.args.finder.now in
    found_more (expression_all noted) snoc_expressions (expression noted)
    (calls_in_all leads) (calls_in leads)
    (expressions_push noted) (expressions_lead leads) (map g.R.Finder.see c.args.found.now.items) _ _
    c.deref-one-items.result.now c.loop-one.one-index c.one-item.result c.loop-one.invariant
    c.loop-one-test.true c.one-item.is c.in_ok-add_expression.ensures

pub add_arguments-loop-one-init : goal.add_arguments-loop-one-init
add_arguments-loop-one-init g t c = sym (append-nil (map g.R.Finder.see c.args.found.now.items))

pub add_arguments-loop-one-preserved : goal.add_arguments-loop-one-preserved
add_arguments-loop-one-preserved g t c =
    let leads = g.R.Finder.leads c.args.finder.now in
    found_more (argument_all noted) snoc_arguments (one_argument noted) (calls_in_arguments leads)
    (calls_in_arguments leads) (arguments_push noted) (arguments_lead leads)
    (map g.R.Finder.see c.args.found.now.items) _ _ c.deref-one-items.result.now c.loop-one.one-index
    c.one-item.result c.loop-one.invariant c.loop-one-test.true c.one-item.is
    (alone_behind (map g.R.Finder.see c.loop-one.found.items)
    (calls_in leads (expression noted c.one-item.result.value)) _ c.in_ok-add_argument.ensures)

pub add_expression-returns-in_ok-add_expression-in-If-2 : goal.add_expression-returns-in_ok-add_expression-in-If-2
add_expression-returns-in_ok-add_expression-in-If-2 g t c =
    grind (arith, common_steps, lemmas.if_calls)
