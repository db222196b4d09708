-- What was read, before what is still read, is what is read of all tokens.
use Rattle.std.proofs.Common.{◌≡◌, map, ◌-◌, length}
use Rattle.au_read_expressions.specs.Reading.{repeated_at, repeated}
use Rattle.au_read_expressions.proofs.Loops.{with_front}
use Rattle.au_read_expressions.proofs.lists.repeated.Given as goal

abbrev pub invariant-loop : goal.invariant-loop
invariant-loop g l =
    with_front (map g.E.Entry.see l.entries.items)
    (repeated_at g.E.Entry.begins_by g.E.Entry.read_at (length l.tokens - l.counter) l.rest)
    ≡ repeated g.E.Entry.begins_by g.E.Entry.read_at l.tokens
