use Rattle.std.proofs.Common.{[], refl, arith}
use Rattle.au_closed_trees.specs.contracts.phase.ClosedTreesPhase.TheImpl.{ghosts as closed}
use Rattle.au_type_texts.specs.Same.{same}
use Rattle.au_closed_trees.specs.Types.{types_noted}
use Rattle.au_syntax.specs.Views.{argument_all, expression, expression_all}
use Rattle.au_closed_trees.specs.Notes.{said_in, said_in_all, said_in_arguments}
use Rattle.au_closed_trees.proofs.NoteLemmas as lemmas
use Rattle.au_closed_trees.proofs.NoteLemmas.{arguments_told, expressions_told}
use Rattle.au_closed_trees.proofs.SnocLemmas.{arguments_push, expressions_push, one_argument, snoc_arguments}
use Rattle.au_closed_trees.proofs.SnocLemmas.{snoc_expressions}
use Rattle.au_closed_trees.proofs.LoopLemmas.{added_alone, added_more}
use Rattle.au_graphs.proofs.HasLemmas.{adds_both}
use Rattle.au_closed_trees.proofs.trees.+add_expression.Goals as goal

pub add_expression-returns-in-Number : goal.add_expression-returns-in-Number
add_expression-returns-in-Number t c = grind (arith, adds_both, lemmas.number_said)

pub add_expression-returns-in-Negative : goal.add_expression-returns-in-Negative
add_expression-returns-in-Negative t c = grind (arith, adds_both, lemmas.negative_said)

pub add_expression-returns-in-Text : goal.add_expression-returns-in-Text
add_expression-returns-in-Text t c = grind (arith, adds_both, lemmas.text_said)

pub add_expression-returns-in-Bool : goal.add_expression-returns-in-Bool
add_expression-returns-in-Bool t c = grind (arith, adds_both, lemmas.bool_said)

pub add_expression-returns-in-Nil : goal.add_expression-returns-in-Nil
add_expression-returns-in-Nil t c = grind (arith, adds_both, lemmas.nil_said)

pub add_expression-returns-in-Path : goal.add_expression-returns-in-Path
add_expression-returns-in-Path t c = grind (arith, adds_both, lemmas.path_said)

pub add_expression-returns-in-Arrow : goal.add_expression-returns-in-Arrow
add_expression-returns-in-Arrow t c = grind (arith, adds_both, lemmas.arrow_said)

pub add_expression-returns-in-Borrow : goal.add_expression-returns-in-Borrow
add_expression-returns-in-Borrow t c = grind (arith, adds_both, lemmas.borrow_said)

pub add_expression-returns-in-BorrowPart : goal.add_expression-returns-in-BorrowPart
add_expression-returns-in-BorrowPart t c = grind (arith, adds_both, lemmas.borrow_part_said)

pub add_expression-returns-in_ok-add_note-in-Parenthesized :
    goal.add_expression-returns-in_ok-add_note-in-Parenthesized
add_expression-returns-in_ok-add_note-in-Parenthesized t c =
    grind (arith, adds_both, lemmas.parenthesized_said)

pub add_expression-returns-in_ok-add_note-in-Dereference :
    goal.add_expression-returns-in_ok-add_note-in-Dereference
add_expression-returns-in_ok-add_note-in-Dereference t c =
    grind (arith, adds_both, lemmas.dereference_said)

pub add_expression-returns-in_ok-add_note-in-Not : goal.add_expression-returns-in_ok-add_note-in-Not
add_expression-returns-in_ok-add_note-in-Not t c = grind (arith, adds_both, lemmas.not_said)

pub add_expression-returns-in_ok-add_note-in-Typed : goal.add_expression-returns-in_ok-add_note-in-Typed
add_expression-returns-in_ok-add_note-in-Typed t c = grind (arith, adds_both, lemmas.typed_said)

pub add_expression-returns-in_ok-add_note-in-Call : goal.add_expression-returns-in_ok-add_note-in-Call
add_expression-returns-in_ok-add_note-in-Call t c = grind (arith, adds_both, lemmas.call_said)

pub add_expression-returns-in_ok-add_note-in-NamedCall :
    goal.add_expression-returns-in_ok-add_note-in-NamedCall
add_expression-returns-in_ok-add_note-in-NamedCall t c = grind (arith, adds_both, lemmas.named_call_said)

pub add_expression-returns-in_ok-add_expression-in-Binary :
    goal.add_expression-returns-in_ok-add_expression-in-Binary
add_expression-returns-in_ok-add_expression-in-Binary t c = grind (arith, adds_both, lemmas.binary_said)

pub add_expressions-loop-one-init : goal.add_expressions-loop-one-init
add_expressions-loop-one-init t c = refl

pub add_expressions-loop-one-preserved : goal.add_expressions-loop-one-preserved
add_expressions-loop-one-preserved t c =
    let said = types_noted [] in
    added_more same (expression_all closed) snoc_expressions (expression closed)
    (said_in_all said) (said_in said)
    (expressions_push closed) (expressions_told said) c.args.found.now _ _
    c.deref-one-items.result.now c.loop-one.one-index c.one-item.result c.loop-one.invariant
    c.loop-one-test.true c.one-item.is c.in_ok-add_expression.ensures

pub add_arguments-loop-one-init : goal.add_arguments-loop-one-init
add_arguments-loop-one-init t c = refl

pub add_arguments-loop-one-preserved : goal.add_arguments-loop-one-preserved
add_arguments-loop-one-preserved t c =
    let said = types_noted [] in
    added_more same (argument_all closed) snoc_arguments (one_argument closed) (said_in_arguments said)
    (said_in_arguments said) (arguments_push closed) (arguments_told said)
    c.args.found.now _ _ c.deref-one-items.result.now c.loop-one.one-index
    c.one-item.result c.loop-one.invariant c.loop-one-test.true c.one-item.is
    (added_alone same c.loop-one.found
    (said_in said (expression closed c.one-item.result.value)) _ c.in_ok-add_argument.ensures)

pub add_expression-returns-in_ok-add_expression-in-If-2 :
    goal.add_expression-returns-in_ok-add_expression-in-If-2
add_expression-returns-in_ok-add_expression-in-If-2 t c =
    grind (arith, adds_both, lemmas.if_said)
