-- Only `within` goes a level down. What was read, before what is still read, is what is read of all tokens.
use Rattle.std.proofs.Common.{◌≡◌, ◌+◌, ◌*◌, ◌-◌, map, length}
use Rattle.au_base.specs.declared.tokens.Sign.TheVariants.{Comma}
use Rattle.au_base.specs.declared.tokens.What.TheVariants.{Sign}
use Rattle.au_syntax.specs.Views.{written}
use Rattle.au_read_expressions.specs.Bounds.{usual}
use Rattle.au_read_expressions.specs.Reading.{separated_at, listed}
use Rattle.au_read_expressions.proofs.Loops.{with_front}
use Rattle.au_read_expressions.specs.TypeReading.{type_within}
use Rattle.au_read_expressions.proofs.types.+types.Given as goal

abbrev pub decreases-within : goal.decreases-within
decreases-within l = 8 * l.levels

abbrev pub decreases-listed : goal.decreases-listed
decreases-listed l = 8 * l.levels + 1

abbrev pub decreases-arguments : goal.decreases-arguments
decreases-arguments l = 8 * l.levels + 2

abbrev pub decreases-named : goal.decreases-named
decreases-named l = 8 * l.levels + 3

abbrev pub decreases-reference : goal.decreases-reference
decreases-reference l = 8 * l.levels + 3

abbrev pub decreases-one_type : goal.decreases-one_type
decreases-one_type l = 8 * l.levels + 4

abbrev pub invariant-listed-loop : goal.invariant-listed-loop
invariant-listed-loop l =
    with_front (map written l.args.items)
    (separated_at (Sign Comma) (type_within usual l.levels) (length l.tokens - l.counter) l.rest)
    ≡ listed (type_within usual l.levels) l.tokens
