use Rattle.std.proofs.Common.{◌-◌, ◌+◌, length, drop, map, ap, sym, subst, ◌∙◌, arith}
use Rattle.std.proofs.lemmas.Result.{err_from_is_err_and}
use Rattle.au_base.specs.declared.tokens.What.TheVariants as what
use Rattle.au_read_expressions.specs.Reading as reading
use Rattle.au_read_expressions.proofs.Steps.{passes_on}
use Rattle.au_read_expressions.proofs.Loops.{with_front, map_pushed, separated_on, separated_fails}
use Rattle.au_read_expressions.proofs.Loops.{separated_ends, separated_over}
use Rattle.au_read_expressions.proofs.lists.separated.Goals as goal

pub returns-in_err-part : goal.returns-in_err-part
returns-in_err-part g c =
    let p = err_from_is_err_and c.from_residual.result c.from_residual.ensures.1 in
    passes_on (λ x. (map g.P.Part.see x.0.items, x.1.now)) c.from_residual.result _ _ _ p c.in_err-part.ensures
    (λ f is. sym c.loop.invariant ∙ separated_fails (what.Sign c.args.between) g.P.Part.read_at
    (map g.P.Part.see c.loop.parts.items) f (length c.args.tokens.now - c.loop.counter)
    (length c.args.tokens.now - c.loop.counter - 1) c.loop.rest.now (omega (arith, c.loop-test.true)) is)

pub returns-then-not-is_sign : goal.returns-then-not-is_sign
returns-then-not-is_sign g c =
    sym c.loop.invariant
    ∙ separated_ends (what.Sign c.args.between) g.P.Part.read_at (map g.P.Part.see c.loop.parts.items)
    (g.P.Part.see c.in_ok-part.part) (length c.args.tokens.now - c.loop.counter)
    (length c.args.tokens.now - c.loop.counter - 1) c.loop.rest.now c.in_ok-part.next.now
    (omega (arith, c.loop-test.true)) c.in_ok-part.ensures (sym c.if-not-is_sign.ensures)
    ∙ ap (λ xs. reading.read_of xs c.in_ok-part.next.now)
    (sym (map_pushed g.P.Part.see c.loop.parts.items c.push.new.self.items c.in_ok-part.part
    c.in_ok-push.ensures.items))

pub loop-preserved : goal.loop-preserved
loop-preserved g c =
    let j = length c.args.tokens.now - (c.loop.counter + 1) in
    let others = reading.separated_at (what.Sign c.args.between) g.P.Part.read_at in
    ap (λ r. with_front (map g.P.Part.see c.push.new.self.items) (others j r)) c.after-rest.ensures
    ∙ ap (λ xs. with_front xs (others j (drop 1 c.in_ok-part.next.now)))
    (map_pushed g.P.Part.see c.loop.parts.items c.push.new.self.items c.in_ok-part.part
    c.in_ok-push.ensures.items)
    ∙ sym (separated_on (what.Sign c.args.between) g.P.Part.read_at (map g.P.Part.see c.loop.parts.items)
    (g.P.Part.see c.in_ok-part.part) (length c.args.tokens.now - c.loop.counter) j c.loop.rest.now
    c.in_ok-part.next.now (omega (arith, c.loop-test.true)) c.in_ok-part.ensures
    (sym c.if-not-is_sign.ensures))
    ∙ c.loop.invariant

pub returns : goal.returns
returns g c =
    let read = reading.separated (what.Sign c.args.between) g.P.Part.read_at c.args.tokens.now in
    subst (λ e. reading.Stops e read) (sym c.stop_before.ensures)
    (sym c.loop.invariant ∙ separated_over (what.Sign c.args.between) g.P.Part.read_at
    (map g.P.Part.see c.loop.parts.items) (length c.args.tokens.now - c.loop.counter) c.loop.rest.now
    (omega (arith, c.loop-test.false)))
