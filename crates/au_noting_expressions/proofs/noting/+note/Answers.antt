use Rattle.std.proofs.Common.{◌∙◌, None, Some, arith, sym}
use Rattle.std.proofs.lemmas.Result.{err_from_is_err_and}
use Rattle.au_noting.specs.Modes.{wanted}
use Rattle.au_noting.specs.Scopes.{scope_said}
use Rattle.au_noting_expressions.specs.Arguments.{values}
use Rattle.au_noting_expressions.specs.Passing.{typed_noted}
use Rattle.au_noting_expressions.proofs.ArgumentLemmas.{begun_stops, passes_end, passes_stop}
use Rattle.au_noting_expressions.proofs.FormLemmas.{parenthesized_at, dereference_at, binary_at, negation_at}
use Rattle.au_noting_expressions.proofs.FormLemmas.{typed_at, choice_at}
use Rattle.au_noting_expressions.proofs.Heights.{height_call, height_named_call, item_height}
use Rattle.au_noting_expressions.proofs.PassLemmas.{first_ends, first_turns, second_turns}
use Rattle.au_noting_expressions.proofs.Steps.{gives_at, seen, stops_at, stops_first, then_on}
use Rattle.au_noting_expressions.specs.Made.{dereference_made, negation_made, parenthesized_made, typed_made}
use Rattle.au_noting_expressions.specs.Said.{all_said, call_said}
use Rattle.au_sights.specs.contracts.noted.NotedPhase.TheImpl.{ghosts as noted}
use Rattle.au_syntax.specs.contracts.parsed.ParsedPhase.TheImpl.{ghosts as parsed}
use Rattle.au_sights.specs.Sights.{callable_said}
use Rattle.au_syntax.specs.Views.{expression, node, written}
use Rattle.au_syntax.proofs.ExpressionLemmas.{number_says, negative_says, text_says, bool_says, nil_says}
use Rattle.au_syntax.proofs.ExpressionLemmas.{path_says, arrow_says, call_says, named_call_says, borrow_says}
use Rattle.au_syntax.proofs.ExpressionLemmas.{borrow_part_says, typed_says}
use Rattle.au_types.specs.Types as mean
use Rattle.au_types.specs.Views.{meaning}
use Rattle.au_typing.specs.Lookups.{written_type}
use Rattle.au_typing.specs.Search.{note_expression}
use Rattle.au_noting_expressions.proofs.noting.+note.Goals as goal

pub note-returns-in-Number : goal.note-returns-in-Number
note-returns-in-Number t c =
    gives_at (expression noted) c.note_number.result _ _
    (seen (scope_said c.args.scope.now) (wanted c.args.mode) c.args.e.now _ _ c.in-Number.is
    (number_says parsed c.in-Number.site c.in-Number.literal))
    c.note_number.ensures

pub note-returns-in-Negative : goal.note-returns-in-Negative
note-returns-in-Negative t c =
    gives_at (expression noted) c.note_negative.result _ _
    (seen (scope_said c.args.scope.now) (wanted c.args.mode) c.args.e.now _ _ c.in-Negative.is
    (negative_says parsed c.in-Negative.site c.in-Negative.literal))
    c.note_negative.ensures

pub note-returns-in-Text : goal.note-returns-in-Text
note-returns-in-Text t c =
    gives_at (expression noted) c.note_text.result _ _
    (seen (scope_said c.args.scope.now) (wanted c.args.mode) c.args.e.now _ _ c.in-Text.is
    (text_says parsed c.in-Text.site c.in-Text.text))
    c.note_text.ensures

pub note-returns-in-Bool : goal.note-returns-in-Bool
note-returns-in-Bool t c =
    gives_at (expression noted) c.note_truth.result _ _
    (seen (scope_said c.args.scope.now) (wanted c.args.mode) c.args.e.now _ _ c.in-Bool.is
    (bool_says parsed c.in-Bool.site c.in-Bool.value))
    c.note_truth.ensures

pub note-returns-in-Nil : goal.note-returns-in-Nil
note-returns-in-Nil t c =
    gives_at (expression noted) c.note_nil.result _ _
    (seen (scope_said c.args.scope.now) (wanted c.args.mode) c.args.e.now _ _ c.in-Nil.is
    (nil_says parsed c.in-Nil.site))
    c.note_nil.ensures

pub note-returns-in-Path : goal.note-returns-in-Path
note-returns-in-Path t c =
    gives_at (expression noted) c.note_path.result _ _
    (seen (scope_said c.args.scope.now) (wanted c.args.mode) c.args.e.now _ _ c.in-Path.is
    (path_says parsed c.in-Path.site c.in-Path.name c.in-Path.fields))
    c.note_path.ensures

pub note-returns-in-Arrow : goal.note-returns-in-Arrow
note-returns-in-Arrow t c =
    gives_at (expression noted) c.note_arrow.result _ _
    (seen (scope_said c.args.scope.now) (wanted c.args.mode) c.args.e.now _ _ c.in-Arrow.is
    (arrow_says parsed c.in-Arrow.site c.in-Arrow.name c.in-Arrow.fields))
    c.note_arrow.ensures

pub note-returns-in-Call : goal.note-returns-in-Call
note-returns-in-Call t c =
    gives_at (expression noted) c.note_call.result _ _
    (seen (scope_said c.args.scope.now) (wanted c.args.mode) c.args.e.now _ _ c.in-Call.is
    (call_says parsed c.in-Call.site c.in-Call.name c.in-Call.args _))
    c.note_call.ensures

pub note-returns-in-NamedCall : goal.note-returns-in-NamedCall
note-returns-in-NamedCall t c =
    gives_at (expression noted) c.note_named_call.result _ _
    (seen (scope_said c.args.scope.now) (wanted c.args.mode) c.args.e.now _ _ c.in-NamedCall.is
    (named_call_says parsed c.in-NamedCall.site c.in-NamedCall.name c.in-NamedCall.args _))
    c.note_named_call.ensures

pub note-returns-in-Borrow : goal.note-returns-in-Borrow
note-returns-in-Borrow t c =
    gives_at (expression noted) c.note_borrow.result _ _
    (seen (scope_said c.args.scope.now) (wanted c.args.mode) c.args.e.now _ _ c.in-Borrow.is
    (borrow_says parsed c.in-Borrow.site c.in-Borrow.kind c.in-Borrow.name))
    c.note_borrow.ensures

pub note-returns-in-BorrowPart : goal.note-returns-in-BorrowPart
note-returns-in-BorrowPart t c =
    gives_at (expression noted) c.note_borrow_part.result _ _
    (seen (scope_said c.args.scope.now) (wanted c.args.mode) c.args.e.now _ _ c.in-BorrowPart.is
    (borrow_part_says parsed c.in-BorrowPart.site c.in-BorrowPart.name c.in-BorrowPart.fields))
    c.note_borrow_part.ensures

pub note-returns-in-Binary : goal.note-returns-in-Binary
note-returns-in-Binary t c =
    gives_at (expression noted) c.note_binary.result _ _
    (seen (scope_said c.args.scope.now) (wanted c.args.mode) c.args.e.now _ _ c.in-Binary.is
    (binary_at c.in-Binary.site c.in-Binary.first c.deref-in-Binary.result.now c.deref-in-Binary.ensures
    c.in-Binary.second c.deref-in-Binary-2.result.now c.deref-in-Binary-2.ensures c.in-Binary.op))
    c.note_binary.ensures

pub note-returns-in-If : goal.note-returns-in-If
note-returns-in-If t c =
    gives_at (expression noted) c.note_choice.result _ _
    (seen (scope_said c.args.scope.now) (wanted c.args.mode) c.args.e.now _ _ c.in-If.is
    (choice_at c.in-If.site c.in-If.first c.deref-in-If-2.result.now c.deref-in-If-2.ensures c.in-If.second
    c.deref-in-If-3.result.now c.deref-in-If-3.ensures c.in-If.test c.deref-in-If.result.now
    c.deref-in-If.ensures))
    c.note_choice.ensures

pub note-note_call-requires : goal.note-note_call-requires
note-note_call-requires t c =
    let small = height_call c.args.e.now _ _ c.in-Call.args _ c.in-Call.is in
    (omega (arith, small), tt)

pub note-note_named_call-requires : goal.note-note_named_call-requires
note-note_named_call-requires t c =
    let small = height_named_call c.args.e.now _ _ c.in-NamedCall.args _ c.in-NamedCall.is in
    (omega (arith, small), tt)

pub note-returns-in_err-inner-in-Parenthesized : goal.note-returns-in_err-inner-in-Parenthesized
note-returns-in_err-inner-in-Parenthesized t c =
    let p = err_from_is_err_and c.from_residual.result c.from_residual.ensures.1 in
    let e = c.in_err-inner-in-Parenthesized.field-0.0 in
    rw (p.1, p.2) (stops_at e _ _ (seen (scope_said c.args.scope.now) (wanted c.args.mode) c.args.e.now _ _
    c.in-Parenthesized.is (parenthesized_at c.in-Parenthesized.site c.in-Parenthesized.inner
    c.deref.result.now c.deref.ensures))
    (stops_first e (note_expression (scope_said c.args.scope.now) (expression parsed c.deref.result.now)
    (wanted c.args.mode)) (parenthesized_made (node parsed c.in-Parenthesized.site) (wanted c.args.mode))
    c.in_err-inner-in-Parenthesized.ensures))

pub note-returns-in_ok-inner-in-Parenthesized : goal.note-returns-in_ok-inner-in-Parenthesized
note-returns-in_ok-inner-in-Parenthesized t c =
    gives_at (expression noted) c.make_parenthesized.result _ _
    (then_on (note_expression (scope_said c.args.scope.now) (expression parsed c.deref.result.now)
    (wanted c.args.mode)) (parenthesized_made (node parsed c.in-Parenthesized.site) (wanted c.args.mode)) _
    c.in_ok-inner-in-Parenthesized.ensures
    ∙ (seen (scope_said c.args.scope.now) (wanted c.args.mode) c.args.e.now _ _ c.in-Parenthesized.is
    (parenthesized_at c.in-Parenthesized.site c.in-Parenthesized.inner c.deref.result.now c.deref.ensures)))
    c.make_parenthesized.ensures

pub note-returns-in_err-inner-in-Dereference : goal.note-returns-in_err-inner-in-Dereference
note-returns-in_err-inner-in-Dereference t c =
    let p = err_from_is_err_and c.from_residual-in_err-inner-in-Dereference.result
    c.from_residual-in_err-inner-in-Dereference.ensures.1 in
    let e = c.in_err-inner-in-Dereference.field-0.0 in
    rw (p.1, p.2) (stops_at e _ _ (seen (scope_said c.args.scope.now) (wanted c.args.mode) c.args.e.now _ _
    c.in-Dereference.is (dereference_at c.in-Dereference.site c.in-Dereference.inner
    c.deref-in-Dereference.result.now c.deref-in-Dereference.ensures))
    (stops_first e (note_expression (scope_said c.args.scope.now)
    (expression parsed c.deref-in-Dereference.result.now) None)
    (dereference_made (scope_said c.args.scope.now) (node parsed c.in-Dereference.site)
    (wanted c.args.mode)) c.in_err-inner-in-Dereference.ensures))

pub note-returns-in_ok-inner-in-Dereference : goal.note-returns-in_ok-inner-in-Dereference
note-returns-in_ok-inner-in-Dereference t c =
    gives_at (expression noted) c.make_dereference.result _ _
    (then_on (note_expression (scope_said c.args.scope.now)
    (expression parsed c.deref-in-Dereference.result.now) None)
    (dereference_made (scope_said c.args.scope.now) (node parsed c.in-Dereference.site)
    (wanted c.args.mode)) _ c.in_ok-inner-in-Dereference.ensures
    ∙ (seen (scope_said c.args.scope.now) (wanted c.args.mode) c.args.e.now _ _ c.in-Dereference.is
    (dereference_at c.in-Dereference.site c.in-Dereference.inner c.deref-in-Dereference.result.now
    c.deref-in-Dereference.ensures)))
    c.make_dereference.ensures

pub note-returns-in_err-inner-in-Not : goal.note-returns-in_err-inner-in-Not
note-returns-in_err-inner-in-Not t c =
    let p = err_from_is_err_and c.from_residual-in_err-inner-in-Not.result
    c.from_residual-in_err-inner-in-Not.ensures.1 in
    let e = c.in_err-inner-in-Not.field-0.0 in
    rw (p.1, p.2) (stops_at e _ _ (seen (scope_said c.args.scope.now) (wanted c.args.mode) c.args.e.now _ _
    c.in-Not.is (negation_at c.in-Not.site c.in-Not.inner c.deref-in-Not.result.now c.deref-in-Not.ensures))
    (stops_first e (note_expression (scope_said c.args.scope.now)
    (expression parsed c.deref-in-Not.result.now) (Some mean.truth))
    (negation_made (node parsed c.in-Not.site) (wanted c.args.mode)) c.in_err-inner-in-Not.ensures))

pub note-returns-in_ok-inner-in-Not : goal.note-returns-in_ok-inner-in-Not
note-returns-in_ok-inner-in-Not t c =
    gives_at (expression noted) c.make_negation.result _ _
    (then_on (note_expression (scope_said c.args.scope.now) (expression parsed c.deref-in-Not.result.now)
    (Some mean.truth)) (negation_made (node parsed c.in-Not.site) (wanted c.args.mode)) _
    c.in_ok-inner-in-Not.ensures
    ∙ (seen (scope_said c.args.scope.now) (wanted c.args.mode) c.args.e.now _ _ c.in-Not.is
    (negation_at c.in-Not.site c.in-Not.inner c.deref-in-Not.result.now c.deref-in-Not.ensures)))
    c.make_negation.ensures

pub note-returns-in_err-of-in-Typed : goal.note-returns-in_err-of-in-Typed
note-returns-in_err-of-in-Typed t c =
    let p = err_from_is_err_and c.from_residual-in_err-of-in-Typed.result
    c.from_residual-in_err-of-in-Typed.ensures.1 in
    let e = c.in_err-of-in-Typed.field-0.0 in
    rw (p.1, p.2) (stops_at e _ _ (seen (scope_said c.args.scope.now) (wanted c.args.mode) c.args.e.now _ _
    c.in-Typed.is (typed_says parsed c.in-Typed.site c.in-Typed.inner c.in-Typed.text))
    (stops_first e (written_type (scope_said c.args.scope.now) (written c.in-Typed.text))
    (typed_noted (scope_said c.args.scope.now) (node parsed c.in-Typed.site) (wanted c.args.mode)
    (expression parsed c.in-Typed.inner.value) (written c.in-Typed.text)) c.in_err-of-in-Typed.ensures))

pub note-returns-in_err-inner-in-Typed : goal.note-returns-in_err-inner-in-Typed
note-returns-in_err-inner-in-Typed t c =
    let p = err_from_is_err_and c.from_residual-in_err-inner-in-Typed.result
    c.from_residual-in_err-inner-in-Typed.ensures.1 in
    let e = c.in_err-inner-in-Typed.field-0.0 in
    rw (p.1, p.2) (stops_at e _ _
    (then_on (written_type (scope_said c.args.scope.now) (written c.in-Typed.text))
    (typed_noted (scope_said c.args.scope.now) (node parsed c.in-Typed.site) (wanted c.args.mode)
    (expression parsed c.deref-in-Typed.result.now) (written c.in-Typed.text)) _ c.in_ok-of-in-Typed.ensures
    ∙ (seen (scope_said c.args.scope.now) (wanted c.args.mode) c.args.e.now _ _ c.in-Typed.is
    (typed_at c.in-Typed.site c.in-Typed.inner c.deref-in-Typed.result.now c.deref-in-Typed.ensures
    c.in-Typed.text)))
    (stops_first e (note_expression (scope_said c.args.scope.now)
    (expression parsed c.deref-in-Typed.result.now) (Some (meaning c.in_ok-of-in-Typed.of)))
    (typed_made (node parsed c.in-Typed.site) (wanted c.args.mode) (written c.in-Typed.text)
    (meaning c.in_ok-of-in-Typed.of)) c.in_err-inner-in-Typed.ensures))

pub note-returns-in_ok-inner-in-Typed : goal.note-returns-in_ok-inner-in-Typed
note-returns-in_ok-inner-in-Typed t c =
    gives_at (expression noted) c.make_typed.result _ _
    (then_on (note_expression (scope_said c.args.scope.now) (expression parsed c.deref-in-Typed.result.now)
    (Some (meaning c.in_ok-of-in-Typed.of)))
    (typed_made (node parsed c.in-Typed.site) (wanted c.args.mode) (written c.in-Typed.text)
    (meaning c.in_ok-of-in-Typed.of)) _ c.in_ok-inner-in-Typed.ensures
    ∙ (then_on (written_type (scope_said c.args.scope.now) (written c.in-Typed.text))
    (typed_noted (scope_said c.args.scope.now) (node parsed c.in-Typed.site) (wanted c.args.mode)
    (expression parsed c.deref-in-Typed.result.now) (written c.in-Typed.text)) _ c.in_ok-of-in-Typed.ensures
    ∙ (seen (scope_said c.args.scope.now) (wanted c.args.mode) c.args.e.now _ _ c.in-Typed.is
    (typed_at c.in-Typed.site c.in-Typed.inner c.deref-in-Typed.result.now c.deref-in-Typed.ensures
    c.in-Typed.text))))
    c.make_typed.ensures

pub note_arguments-returns-in_err-one : goal.note_arguments-returns-in_err-one
note_arguments-returns-in_err-one t c =
    let p = err_from_is_err_and c.from_residual.result c.from_residual.ensures.1 in
    rw (p.1, p.2) (begun_stops (scope_said c.args.scope.now) (wanted c.args.mode) c.args.ops.now
    c.args.name.now c.in_err-one.field-0.0 c.in_err-one.ensures.gives)

pub note_arguments-returns-in_err-made : goal.note_arguments-returns-in_err-made
note_arguments-returns-in_err-made t c =
    let p = err_from_is_err_and c.from_residual-in_err-made.result c.from_residual-in_err-made.ensures.1 in
    rw (p.1, p.2) (passes_stop (scope_said c.args.scope.now) (wanted c.args.mode) c.args.ops.now
    c.args.name.now _ c.in_ok-one.types.items c.as_slice.result.now c.in_ok-one.s
    c.in_ok-one.ensures.gives c.as_slice.ensures.value c.in_err-made.field-0.0 c.in_err-made.ensures)

pub note_arguments-returns : goal.note_arguments-returns
note_arguments-returns t c =
    gives_at call_said c.with_arguments.result _ _
    (passes_end (scope_said c.args.scope.now) (wanted c.args.mode) c.args.ops.now c.args.name.now
    (callable_said c.in_ok-one.one) c.in_ok-one.types.items c.as_slice.result.now c.in_ok-one.s
    c.in_ok-one.ensures.gives c.as_slice.ensures.value (all_said c.in_ok-made.made.items) c.in_ok-made.s
    c.in_ok-made.ensures)
    c.with_arguments.ensures

pub first-first_step-requires : goal.first-first_step-requires
first-first_step-requires t c =
    let small = item_height (values c.args.ops.now) c.loop-index.index c.operand_at.result.now (omega arith)
    c.operand_at.ensures in
    (omega (arith, small), tt)

pub first-loop-index-preserved : goal.first-loop-index-preserved
first-loop-index-preserved t c = record {
  count = omega (arith, c.in_ok-put_half.ensures.len, c.loop-index.invariant.count);
  rest =
      sym (first_turns (scope_said c.args.scope.now) (values c.args.ops.now) c.args.types.now
      c.loop-index.index c.operand_at.result.now c.index-types-index.result
      (omega arith) c.operand_at.ensures c.loop-index-test.true c.index-types-index.is
      c.loop-index.halves.items c.put_half.new.halves.items c.in_ok-half.half c.loop-index.s c.in_ok-half.more
      c.in_ok-put_half.ensures.items c.in_ok-half.ensures)
      ∙ c.loop-index.invariant.rest;
}

pub first-returns-clause-gives : goal.first-returns-clause-gives
first-returns-clause-gives t c =
    sym c.loop-index.invariant.rest
    ∙ first_ends (scope_said c.args.scope.now) (values c.args.ops.now) c.args.types.now
    c.loop-index.halves.items c.loop-index.index c.loop-index.s (omega arith) c.loop-index-test.false

pub second-second_step-requires : goal.second-second_step-requires
second-second_step-requires t c =
    let small = item_height (values c.args.ops.now) c.loop-index.index c.operand_at.result.now (omega arith)
    c.operand_at.ensures in
    (omega (arith, small), tt)

pub second-loop-index-preserved : goal.second-loop-index-preserved
second-loop-index-preserved t c = record {
  count = omega (arith, c.next_half-half.ensures.len, c.loop-index.invariant.count);
  rest =
      sym (second_turns (scope_said c.args.scope.now) (values c.args.ops.now) c.args.types.now
      c.loop-index.index c.operand_at.result.now c.index-types-index.result
      (omega arith) c.operand_at.ensures c.loop-index-test.true c.index-types-index.is
      c.loop-index.halves.items c.next_half-half.new.halves.items c.next_half-half.result c.next_half-half.ensures.items
      c.loop-index.made.items c.put_noted.new.made.items c.in_ok-one.one c.loop-index.s c.in_ok-one.more
      c.in_ok-put_noted.ensures c.in_ok-one.ensures)
      ∙ c.loop-index.invariant.rest;
}
