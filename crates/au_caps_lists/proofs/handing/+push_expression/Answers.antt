use Rattle.std.proofs.Common.{sym, arith}
use Rattle.std.proofs.lemmas.Grind.{common_steps}
use Rattle.std.proofs.lemmas.List.{append-nil}
use Rattle.au_sights.specs.contracts.noted.NotedPhase.TheImpl.{ghosts as noted}
use Rattle.au_syntax.specs.Views.{argument_all, expression, expression_all}
use Rattle.au_closed_trees.proofs.LoopLemmas.{alone_behind, found_more}
use Rattle.au_closed_trees.proofs.SnocLemmas.{arguments_push, expressions_push, one_argument, snoc_arguments}
use Rattle.au_closed_trees.proofs.SnocLemmas.{snoc_expressions}
use Rattle.au_caps_lists.specs.Holding.{handed_in, handed_in_all, handed_in_arguments}
use Rattle.au_caps_lists.specs.Views.{mentions_said}
use Rattle.au_caps_lists.proofs.HandLemmas as lemmas
use Rattle.au_caps_lists.proofs.HandLemmas.{arguments_hand, expressions_hand}
use Rattle.au_caps_lists.proofs.handing.+push_expression.Goals as goal

pub push_expression-returns-in-Number : goal.push_expression-returns-in-Number
push_expression-returns-in-Number t c = grind (arith, common_steps, lemmas.number_hands)

pub push_expression-returns-in-Negative : goal.push_expression-returns-in-Negative
push_expression-returns-in-Negative t c = grind (arith, common_steps, lemmas.negative_hands)

pub push_expression-returns-in-Text : goal.push_expression-returns-in-Text
push_expression-returns-in-Text t c = grind (arith, common_steps, lemmas.text_hands)

pub push_expression-returns-in-Bool : goal.push_expression-returns-in-Bool
push_expression-returns-in-Bool t c = grind (arith, common_steps, lemmas.bool_hands)

pub push_expression-returns-in-Nil : goal.push_expression-returns-in-Nil
push_expression-returns-in-Nil t c = grind (arith, common_steps, lemmas.nil_hands)

pub push_expression-returns-in-Path : goal.push_expression-returns-in-Path
push_expression-returns-in-Path t c = grind (arith, common_steps, lemmas.path_hands)

pub push_expression-returns-in-Arrow : goal.push_expression-returns-in-Arrow
push_expression-returns-in-Arrow t c = grind (arith, common_steps, lemmas.arrow_hands)

pub push_expression-returns-in-Borrow : goal.push_expression-returns-in-Borrow
push_expression-returns-in-Borrow t c = grind (arith, common_steps, lemmas.borrow_hands)

pub push_expression-returns-in-BorrowPart : goal.push_expression-returns-in-BorrowPart
push_expression-returns-in-BorrowPart t c = grind (arith, common_steps, lemmas.borrow_part_hands)

pub push_expression-returns-in-Parenthesized : goal.push_expression-returns-in-Parenthesized
push_expression-returns-in-Parenthesized t c = grind (arith, lemmas.parenthesized_hands)

pub push_expression-returns-in-Dereference : goal.push_expression-returns-in-Dereference
push_expression-returns-in-Dereference t c = grind (arith, lemmas.dereference_hands)

pub push_expression-returns-in-Not : goal.push_expression-returns-in-Not
push_expression-returns-in-Not t c = grind (arith, lemmas.not_hands)

pub push_expression-returns-in-Typed : goal.push_expression-returns-in-Typed
push_expression-returns-in-Typed t c = grind (arith, lemmas.typed_hands)

pub push_expression-returns-in_ok-push_types-in-Call : goal.push_expression-returns-in_ok-push_types-in-Call
push_expression-returns-in_ok-push_types-in-Call t c = grind (arith, common_steps, lemmas.call_hands)

pub push_expression-returns-in_ok-push_named_types-in-NamedCall :
    goal.push_expression-returns-in_ok-push_named_types-in-NamedCall
push_expression-returns-in_ok-push_named_types-in-NamedCall t c = grind
    (arith, common_steps, lemmas.named_call_hands)

pub push_expression-returns-in_ok-push_expression-in-Binary :
    goal.push_expression-returns-in_ok-push_expression-in-Binary
push_expression-returns-in_ok-push_expression-in-Binary t c = grind (arith, common_steps, lemmas.binary_hands)

pub push_expression-returns-in_ok-push_expression-in-If-2 : goal.push_expression-returns-in_ok-push_expression-in-If-2
push_expression-returns-in_ok-push_expression-in-If-2 t c =
    grind (arith, common_steps, lemmas.if_hands)

pub push_expressions-loop-one-init : goal.push_expressions-loop-one-init
push_expressions-loop-one-init t c = sym (append-nil (mentions_said c.args.made.now.items))

pub push_expressions-loop-one-preserved : goal.push_expressions-loop-one-preserved
push_expressions-loop-one-preserved t c =
    found_more (expression_all noted) snoc_expressions (expression noted) handed_in_all handed_in
    (expressions_push noted) expressions_hand
    (mentions_said c.args.made.now.items) _ _ c.deref-one-items.result.now c.loop-one.one-index
    c.one-item.result c.loop-one.invariant c.loop-one-test.true c.one-item.is
    c.in_ok-push_expression.ensures

pub push_arguments-loop-one-init : goal.push_arguments-loop-one-init
push_arguments-loop-one-init t c = sym (append-nil (mentions_said c.args.made.now.items))

pub push_arguments-loop-one-preserved : goal.push_arguments-loop-one-preserved
push_arguments-loop-one-preserved t c =
    found_more (argument_all noted) snoc_arguments (one_argument noted) handed_in_arguments
    handed_in_arguments (arguments_push noted) arguments_hand
    (mentions_said c.args.made.now.items) _ _ c.deref-one-items.result.now c.loop-one.one-index
    c.one-item.result c.loop-one.invariant c.loop-one-test.true c.one-item.is
    (alone_behind (mentions_said c.loop-one.made.items)
    (handed_in (expression noted c.one-item.result.value)) _ c.in_ok-push_argument.ensures)
