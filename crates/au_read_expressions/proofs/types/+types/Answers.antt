use Rattle.std.proofs.Common.{◌-◌, ◌+◌, length, drop, map, ap, sym, ◌∙◌, arith}
use Rattle.std.proofs.lemmas.Result.{err_from_is_err_and}
use Rattle.au_base.specs.declared.tokens.Sign.TheVariants.{Comma}
use Rattle.au_base.specs.declared.tokens.What.TheVariants.{Sign}
use Rattle.au_syntax.specs.Views.{written}
use Rattle.au_read_expressions.specs.Bounds.{usual}
use Rattle.au_read_expressions.specs.Reading as reading
use Rattle.au_read_expressions.proofs.Steps.{passes_on}
use Rattle.au_read_expressions.proofs.Loops.{with_front, map_pushed, separated_on, separated_fails, separated_ends}
use Rattle.au_read_expressions.specs.TypeReading.{type_within}
use Rattle.au_read_expressions.proofs.types.+types.Goals as goal

pub listed-returns-in_err-one : goal.listed-returns-in_err-one
listed-returns-in_err-one t c =
    let p = err_from_is_err_and c.from_residual.result c.from_residual.ensures.1 in
    passes_on (λ x. (map written x.0.items, x.1.now)) c.from_residual.result _ _ _ p c.in_err-one.ensures
    (λ f is. sym c.loop.invariant ∙ separated_fails (Sign Comma) (type_within usual c.args.levels)
    (map written c.loop.args.items) f (length c.args.tokens.now - c.loop.counter)
    (length c.args.tokens.now - c.loop.counter - 1) c.loop.rest.now (omega (arith, c.loop-test.true)) is)

pub listed-returns-then-not-is_sign : goal.listed-returns-then-not-is_sign
listed-returns-then-not-is_sign t c =
    sym c.loop.invariant
    ∙ separated_ends (Sign Comma) (type_within usual c.args.levels) (map written c.loop.args.items)
    (written c.in_ok-one.one) (length c.args.tokens.now - c.loop.counter)
    (length c.args.tokens.now - c.loop.counter - 1) c.loop.rest.now c.in_ok-one.next.now
    (omega (arith, c.loop-test.true)) c.in_ok-one.ensures (sym c.if-not-is_sign.ensures)
    ∙ ap (λ xs. reading.read_of xs c.in_ok-one.next.now)
    (sym (map_pushed written c.loop.args.items c.push.new.self.items c.in_ok-one.one
    c.in_ok-push.ensures.items))

pub listed-loop-preserved : goal.listed-loop-preserved
listed-loop-preserved t c =
    let j = length c.args.tokens.now - (c.loop.counter + 1) in
    let others = reading.separated_at (Sign Comma) (type_within usual c.args.levels) in
    ap (λ r. with_front (map written c.push.new.self.items) (others j r)) c.after-rest.ensures
    ∙ ap (λ xs. with_front xs (others j (drop 1 c.in_ok-one.next.now)))
    (map_pushed written c.loop.args.items c.push.new.self.items c.in_ok-one.one c.in_ok-push.ensures.items)
    ∙ sym (separated_on (Sign Comma) (type_within usual c.args.levels) (map written c.loop.args.items)
    (written c.in_ok-one.one) (length c.args.tokens.now - c.loop.counter) j c.loop.rest.now
    c.in_ok-one.next.now (omega (arith, c.loop-test.true)) c.in_ok-one.ensures
    (sym c.if-not-is_sign.ensures))
    ∙ c.loop.invariant
