-- Where reading stops from here on is where it stops.
use Rattle.std.proofs.Common.{◌≡◌, ◌+◌, [], Some, length, reverse}
use Rattle.au_read_expressions.specs.declared.stops.Awaits.TheVariants as awaits
use Rattle.au_read_expressions.specs.TypeStops.{stops}
use Rattle.au_read_expressions.proofs.stops.tokens_left.Given as goal

abbrev pub invariant-loop : goal.invariant-loop
invariant-loop l = record {
  place : stops (Some (l.awaits, reverse l.within.items)) l.rest ≡ stops (Some (awaits.Type, [])) l.tokens;
  left : length l.rest + l.counter ≡ length l.tokens;
}
