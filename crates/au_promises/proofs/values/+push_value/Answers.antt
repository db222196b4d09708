use Rattle.std.proofs.Common.{◌++◌, take, sym, ap, ◌∙◌, append_assoc, arith}
use Rattle.std.proofs.lemmas.Grind.{common_steps}
use Rattle.std.proofs.lemmas.List.{append-nil}
use Rattle.au_syntax.specs.declared.expressions.Argument.{size-Argument}
use Rattle.au_syntax.proofs.DepthLemmas.{item_falls}
use Rattle.au_promises.specs.Mentions.{named_values_mentions, value_mentions, values_mentions}
use Rattle.au_promises.specs.Said.{arguments_said, expression_said, expressions_said}
use Rattle.au_promises.proofs.ValueLemmas.{number_values, negative_values, text_values, bool_values}
use Rattle.au_promises.proofs.ValueLemmas.{nil_values, path_values, arrow_values, borrow_values}
use Rattle.au_promises.proofs.ValueLemmas.{borrow_part_values, call_values, named_call_values}
use Rattle.au_promises.proofs.ValueLemmas.{parenthesized_values, dereference_values, not_values}
use Rattle.au_promises.proofs.ValueLemmas.{binary_values, typed_values, if_values, no_values, no_named_values}
use Rattle.au_promises.proofs.ValueLemmas.{more_values, more_named_values}
use Rattle.au_promises.proofs.values.+push_value.Goals as goal

pub push_value-returns-in-Number : goal.push_value-returns-in-Number
push_value-returns-in-Number t c = grind (arith, common_steps, number_values)

pub push_value-returns-in-Negative : goal.push_value-returns-in-Negative
push_value-returns-in-Negative t c = grind (arith, common_steps, negative_values)

pub push_value-returns-in-Text : goal.push_value-returns-in-Text
push_value-returns-in-Text t c = grind (arith, common_steps, text_values)

pub push_value-returns-in-Bool : goal.push_value-returns-in-Bool
push_value-returns-in-Bool t c = grind (arith, common_steps, bool_values)

pub push_value-returns-in-Nil : goal.push_value-returns-in-Nil
push_value-returns-in-Nil t c = grind (arith, common_steps, nil_values)

pub push_value-returns-in-Path : goal.push_value-returns-in-Path
push_value-returns-in-Path t c = grind (arith, common_steps, path_values)

pub push_value-returns-in-Arrow : goal.push_value-returns-in-Arrow
push_value-returns-in-Arrow t c = grind (arith, common_steps, arrow_values)

pub push_value-returns-in-Call : goal.push_value-returns-in-Call
push_value-returns-in-Call t c = grind (arith, call_values)

pub push_value-returns-in-NamedCall : goal.push_value-returns-in-NamedCall
push_value-returns-in-NamedCall t c = grind (arith, named_call_values)

pub push_value-returns-in-Parenthesized : goal.push_value-returns-in-Parenthesized
push_value-returns-in-Parenthesized t c = grind (arith, parenthesized_values)

pub push_value-returns-in-Dereference : goal.push_value-returns-in-Dereference
push_value-returns-in-Dereference t c = grind (arith, dereference_values)

pub push_value-returns-in-Borrow : goal.push_value-returns-in-Borrow
push_value-returns-in-Borrow t c = grind (arith, common_steps, borrow_values)

pub push_value-returns-in-BorrowPart : goal.push_value-returns-in-BorrowPart
push_value-returns-in-BorrowPart t c = grind (arith, common_steps, borrow_part_values)

pub push_value-returns-in_ok-push_value-in-Binary : goal.push_value-returns-in_ok-push_value-in-Binary
push_value-returns-in_ok-push_value-in-Binary t c = grind (arith, common_steps, binary_values)

pub push_value-returns-in-Not : goal.push_value-returns-in-Not
push_value-returns-in-Not t c = grind (arith, not_values)

pub push_value-returns-in_ok-push_value-in-Typed : goal.push_value-returns-in_ok-push_value-in-Typed
push_value-returns-in_ok-push_value-in-Typed t c = grind (arith, common_steps, typed_values)

pub push_value-returns-in_ok-push_value-in-If-2 : goal.push_value-returns-in_ok-push_value-in-If-2
push_value-returns-in_ok-push_value-in-If-2 t c = grind (arith, common_steps, if_values)

pub push_values-loop-one-init : goal.push_values-loop-one-init
push_values-loop-one-init t c =
    let start = c.args.list.now.items in
    sym (ap (λ r. start ++ r) no_values ∙ append-nil start)

pub push_values-loop-one-preserved : goal.push_values-loop-one-preserved
push_values-loop-one-preserved t c =
    let start = c.args.list.now.items in
    let items = c.deref-one-items.result.now in
    let i = c.loop-one.one-index in
    let item = c.one-item.result in
    c.in_ok-push_value.ensures
    ∙ ap (λ r. r ++ value_mentions (expression_said item)) c.loop-one.invariant
    ∙ append_assoc start (values_mentions (expressions_said (take i items)))
    (value_mentions (expression_said item))
    ∙ ap (λ r. start ++ r) (sym (more_values items i item c.loop-one-test.true c.one-item.is))

pub push_named_values-loop-one-init : goal.push_named_values-loop-one-init
push_named_values-loop-one-init t c =
    let start = c.args.list.now.items in
    sym (ap (λ r. start ++ r) no_named_values ∙ append-nil start)

pub push_named_values-loop-one-preserved : goal.push_named_values-loop-one-preserved
push_named_values-loop-one-preserved t c =
    let start = c.args.list.now.items in
    let items = c.deref-one-items.result.now in
    let i = c.loop-one.one-index in
    let item = c.one-item.result in
    c.in_ok-push_named_value.ensures
    ∙ ap (λ r. r ++ value_mentions (expression_said item.value)) c.loop-one.invariant
    ∙ append_assoc start (named_values_mentions (arguments_said (take i items)))
    (value_mentions (expression_said item.value))
    ∙ ap (λ r. start ++ r) (sym (more_named_values items i item c.loop-one-test.true c.one-item.is))

pub push_named_values-push_named_value-requires : goal.push_named_values-push_named_value-requires
push_named_values-push_named_value-requires t c = (
  item_falls (size-Argument _ _ _ _) c.deref-one-items.result.now c.args.arguments.now.items
      c.loop-one.one-index c.one-item.result t
      c.decreases c.deref-one-items.ensures.value c.loop-one-test.true c.one-item.is,
  tt,
)
