use Rattle.std.proofs.Common.{◌-◌, ◌+◌, length, drop, map, ap, sym, subst, ◌∙◌, arith}
use Rattle.std.proofs.lemmas.Grind.{common_steps}
use Rattle.std.proofs.lemmas.Result.{err_from_is_err_and}
use Rattle.au_base.specs.declared.tokens.Sign.TheVariants.{Comma}
use Rattle.au_base.specs.declared.tokens.What.TheVariants as what
use Rattle.au_read_expressions.specs.Bounds.{usual}
use Rattle.au_read_expressions.specs.Reading as reading
use Rattle.au_read_expressions.proofs.Steps.{passes_on}
use Rattle.au_read_expressions.proofs.Loops.{with_front, map_pushed, separated_on, separated_fails}
use Rattle.au_read_expressions.proofs.Loops.{separated_ends, separated_over}
use Rattle.au_syntax.proofs.ExpressionLemmas.{not_says, if_says, binary_says, parenthesized_says, dereference_says}
use Rattle.au_syntax.specs.Views.{placed, expression}
use Rattle.au_syntax.specs.contracts.parsed.ParsedPhase.TheImpl.{ghosts as parsed}
use Rattle.au_read_expressions.specs.Arguments.{argument, called_by_name, called_in_order}
use Rattle.au_read_expressions.specs.ExpressionReading.{labelled, expression_at, atom_at, choice_with}
use Rattle.au_read_expressions.proofs.CodeLemmas.{call_called, ordered_says, named_says}
use Rattle.au_read_expressions.proofs.expressions.+expressions.Goals as goal

pub expression_list-returns-in_err-one : goal.expression_list-returns-in_err-one
expression_list-returns-in_err-one t c =
    let p = err_from_is_err_and c.from_residual.result c.from_residual.ensures.1 in
    passes_on (λ x. (map (expression parsed) x.0.items, x.1.now)) c.from_residual.result _ _ _ p c.in_err-one.ensures
    (λ f is. sym c.loop.invariant ∙ separated_fails (what.Sign Comma) (expression_at usual c.args.levels)
    (map (expression parsed) c.loop.exprs.items) f (length c.args.tokens.now - c.loop.counter)
    (length c.args.tokens.now - c.loop.counter - 1) c.loop.rest.now (omega (arith, c.loop-test.true)) is)

pub expression_list-returns-then-not-is_sign : goal.expression_list-returns-then-not-is_sign
expression_list-returns-then-not-is_sign t c =
    sym c.loop.invariant
    ∙ separated_ends (what.Sign Comma) (expression_at usual c.args.levels)
    (map (expression parsed) c.loop.exprs.items) (expression parsed c.in_ok-one.one)
    (length c.args.tokens.now - c.loop.counter) (length c.args.tokens.now - c.loop.counter - 1)
    c.loop.rest.now c.in_ok-one.next.now (omega (arith, c.loop-test.true)) c.in_ok-one.ensures
    (sym c.if-not-is_sign.ensures)
    ∙ ap (λ xs. reading.read_of xs c.in_ok-one.next.now)
    (sym (map_pushed (expression parsed) c.loop.exprs.items c.push.new.self.items c.in_ok-one.one
    c.in_ok-push.ensures.items))

pub expression_list-loop-preserved : goal.expression_list-loop-preserved
expression_list-loop-preserved t c =
    let j = length c.args.tokens.now - (c.loop.counter + 1) in
    let others = reading.separated_at (what.Sign Comma) (expression_at usual c.args.levels) in
    ap (λ r. with_front (map (expression parsed) c.push.new.self.items) (others j r)) c.after-rest.ensures
    ∙ ap (λ xs. with_front xs (others j (drop 1 c.in_ok-one.next.now)))
    (map_pushed (expression parsed) c.loop.exprs.items c.push.new.self.items c.in_ok-one.one
    c.in_ok-push.ensures.items)
    ∙ sym (separated_on (what.Sign Comma) (expression_at usual c.args.levels)
    (map (expression parsed) c.loop.exprs.items) (expression parsed c.in_ok-one.one)
    (length c.args.tokens.now - c.loop.counter) j c.loop.rest.now c.in_ok-one.next.now
    (omega (arith, c.loop-test.true)) c.in_ok-one.ensures (sym c.if-not-is_sign.ensures))
    ∙ c.loop.invariant

pub expression_list-returns : goal.expression_list-returns
expression_list-returns t c =
    let read = reading.listed (expression_at usual c.args.levels) c.args.tokens.now in
    subst (λ e. reading.Stops e read) (sym c.stop_before.ensures)
    (sym c.loop.invariant ∙ separated_over (what.Sign Comma) (expression_at usual c.args.levels)
    (map (expression parsed) c.loop.exprs.items) (length c.args.tokens.now - c.loop.counter) c.loop.rest.now
    (omega (arith, c.loop-test.false)))

pub labelled_list-returns-in_err-one : goal.labelled_list-returns-in_err-one
labelled_list-returns-in_err-one t c =
    let p = err_from_is_err_and c.from_residual.result c.from_residual.ensures.1 in
    passes_on (λ x. (map (argument parsed) x.0.items, x.1.now)) c.from_residual.result _ _ _ p c.in_err-one.ensures
    (λ f is. sym c.loop.invariant ∙ separated_fails (what.Sign Comma)
    (labelled (expression_at usual c.args.levels) (atom_at usual c.args.levels))
    (map (argument parsed) c.loop.arguments.items) f (length c.args.tokens.now - c.loop.counter)
    (length c.args.tokens.now - c.loop.counter - 1) c.loop.rest.now (omega (arith, c.loop-test.true)) is)

pub labelled_list-returns-then-not-is_sign : goal.labelled_list-returns-then-not-is_sign
labelled_list-returns-then-not-is_sign t c =
    sym c.loop.invariant
    ∙ separated_ends (what.Sign Comma)
    (labelled (expression_at usual c.args.levels) (atom_at usual c.args.levels))
    (map (argument parsed) c.loop.arguments.items) (argument parsed c.in_ok-one.one)
    (length c.args.tokens.now - c.loop.counter) (length c.args.tokens.now - c.loop.counter - 1)
    c.loop.rest.now c.in_ok-one.next.now (omega (arith, c.loop-test.true)) c.in_ok-one.ensures
    (sym c.if-not-is_sign.ensures)
    ∙ ap (λ xs. reading.read_of xs c.in_ok-one.next.now)
    (sym (map_pushed (argument parsed) c.loop.arguments.items c.push.new.self.items c.in_ok-one.one
    c.in_ok-push.ensures.items))

pub labelled_list-loop-preserved : goal.labelled_list-loop-preserved
labelled_list-loop-preserved t c =
    let j = length c.args.tokens.now - (c.loop.counter + 1) in
    let others = reading.separated_at (what.Sign Comma)
    (labelled (expression_at usual c.args.levels) (atom_at usual c.args.levels)) in
    ap (λ r. with_front (map (argument parsed) c.push.new.self.items) (others j r)) c.after-rest.ensures
    ∙ ap (λ xs. with_front xs (others j (drop 1 c.in_ok-one.next.now)))
    (map_pushed (argument parsed) c.loop.arguments.items c.push.new.self.items c.in_ok-one.one
    c.in_ok-push.ensures.items)
    ∙ sym (separated_on (what.Sign Comma)
    (labelled (expression_at usual c.args.levels) (atom_at usual c.args.levels))
    (map (argument parsed) c.loop.arguments.items) (argument parsed c.in_ok-one.one)
    (length c.args.tokens.now - c.loop.counter) j c.loop.rest.now c.in_ok-one.next.now
    (omega (arith, c.loop-test.true)) c.in_ok-one.ensures (sym c.if-not-is_sign.ensures))
    ∙ c.loop.invariant

pub labelled_list-returns : goal.labelled_list-returns
labelled_list-returns t c =
    let read = reading.listed (labelled (expression_at usual c.args.levels) (atom_at usual c.args.levels))
    c.args.tokens.now in
    subst (λ e. reading.Stops e read) (sym c.stop_before.ensures)
    (sym c.loop.invariant ∙ separated_over (what.Sign Comma)
    (labelled (expression_at usual c.args.levels) (atom_at usual c.args.levels))
    (map (argument parsed) c.loop.arguments.items) (length c.args.tokens.now - c.loop.counter)
    c.loop.rest.now (omega (arith, c.loop-test.false)))

pub call_within-returns : goal.call_within-returns
call_within-returns t c =
    subst (λ r. reading.Gives (λ x. (expression parsed x.0.value, x.1.now)) c.given.result r)
    (sym (call_called (expression_at usual c.args.levels) (atom_at usual c.args.levels) c.site-at.result.at
    (placed parsed c.in_ok-of.of) c.args.tokens.now c.in_ok-of.rest.now c.in_ok-rest.rest.now
    c.site-at.ensures.place c.in_ok-of.ensures c.in_ok-rest.ensures))
    c.given.ensures

pub negation-returns : goal.negation-returns
negation-returns t c = grind (arith, common_steps, not_says)

pub choice-returns : goal.choice-returns
unfolding choice_with
choice-returns t c = grind (arith, common_steps, if_says)

pub binary-returns : goal.binary-returns
binary-returns t c = grind (arith, common_steps, binary_says)

pub parenthesized-returns : goal.parenthesized-returns
parenthesized-returns t c = grind (arith, common_steps, parenthesized_says)

pub dereference-returns : goal.dereference-returns
dereference-returns t c = grind (arith, common_steps, dereference_says)

pub given_by_name-returns : goal.given_by_name-returns
unfolding called_by_name
given_by_name-returns t c = grind (arith, common_steps, named_says)

pub given_in_order-returns : goal.given_in_order-returns
unfolding called_in_order
given_in_order-returns t c = grind (arith, common_steps, ordered_says)
