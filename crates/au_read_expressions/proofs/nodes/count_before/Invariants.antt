-- The nodes so far, and those of what is still to count.
use Rattle.std.proofs.Common.{◌≡◌, ◌≤◌, ◌+◌, ◌-◌, length, take}
use Rattle.au_read_expressions.specs.TypeReading.{nodes_in, nodes_before}
use Rattle.au_read_expressions.proofs.nodes.count_before.Given as goal

abbrev pub invariant-loop : goal.invariant-loop
invariant-loop l = record {
  all : l.count + nodes_in (take (length l.tokens - l.left - l.counter) l.rest) ≡ nodes_before l.left l.tokens;
  small : l.count ≤ l.counter;
  left : length l.rest + l.counter ≡ length l.tokens;
}
