use Rattle.std.proofs.Common.{◌-◌, ◌+◌, length, map, ap, sym, ◌∙◌, arith}
use Rattle.std.proofs.lemmas.Result.{err_from_is_err_and}
use Rattle.au_read_expressions.specs.Reading as reading
use Rattle.au_read_expressions.proofs.Steps.{passes_on}
use Rattle.au_read_expressions.proofs.Loops.{with_front, map_pushed, repeated_on, repeated_fails}
use Rattle.au_read_expressions.proofs.Loops.{repeated_ends, repeated_over}
use Rattle.au_read_expressions.proofs.lists.repeated.Goals as goal

pub returns-then-not-begins : goal.returns-then-not-begins
returns-then-not-begins g c =
    sym c.loop.invariant
    ∙ repeated_ends g.E.Entry.begins_by g.E.Entry.read_at (map g.E.Entry.see c.loop.entries.items)
    (length c.args.tokens.now - c.loop.counter) (length c.args.tokens.now - c.loop.counter - 1)
    c.loop.rest.now (omega (arith, c.loop-test.true)) (sym c.if-not-begins.ensures)

pub returns-in_err-entry : goal.returns-in_err-entry
returns-in_err-entry g c =
    let p = err_from_is_err_and c.from_residual.result c.from_residual.ensures.1 in
    passes_on (λ x. (map g.E.Entry.see x.0.items, x.1.now)) c.from_residual.result _ _ _ p c.in_err-entry.ensures
    (λ f is. sym c.loop.invariant ∙ repeated_fails g.E.Entry.begins_by g.E.Entry.read_at
    (map g.E.Entry.see c.loop.entries.items) f (length c.args.tokens.now - c.loop.counter)
    (length c.args.tokens.now - c.loop.counter - 1) c.loop.rest.now (omega (arith, c.loop-test.true))
    (sym c.if-not-begins.ensures) is)

pub loop-preserved : goal.loop-preserved
loop-preserved g c =
    ap (λ xs. with_front xs (reading.repeated_at g.E.Entry.begins_by g.E.Entry.read_at
    (length c.args.tokens.now - (c.loop.counter + 1)) c.in_ok-entry.next.now))
    (map_pushed g.E.Entry.see c.loop.entries.items c.push.new.self.items c.in_ok-entry.entry
    c.in_ok-push.ensures.items)
    ∙ sym (repeated_on g.E.Entry.begins_by g.E.Entry.read_at (map g.E.Entry.see c.loop.entries.items)
    (g.E.Entry.see c.in_ok-entry.entry) (length c.args.tokens.now - c.loop.counter)
    (length c.args.tokens.now - (c.loop.counter + 1)) c.loop.rest.now c.in_ok-entry.next.now
    (omega (arith, c.loop-test.true)) (sym c.if-not-begins.ensures) c.in_ok-entry.ensures)
    ∙ c.loop.invariant

pub returns : goal.returns
returns g c = sym c.loop.invariant ∙ repeated_over g.E.Entry.begins_by g.E.Entry.read_at
    (map g.E.Entry.see c.loop.entries.items) (length c.args.tokens.now - c.loop.counter) c.loop.rest.now
    (omega (arith, c.loop-test.false))
