-- What was read, before what is still read, is what is read of all tokens.
use Rattle.std.proofs.Common.{◌≡◌, map, ◌-◌, length}
use Rattle.au_base.specs.declared.tokens.What.TheVariants as what
use Rattle.au_read_expressions.specs.Reading.{separated_at, separated}
use Rattle.au_read_expressions.proofs.Loops.{with_front}
use Rattle.au_read_expressions.proofs.lists.separated.Given as goal

abbrev pub invariant-loop : goal.invariant-loop
invariant-loop g l =
    with_front (map g.P.Part.see l.parts.items)
    (separated_at (what.Sign l.between) g.P.Part.read_at (length l.tokens - l.counter) l.rest)
    ≡ separated (what.Sign l.between) g.P.Part.read_at l.tokens
