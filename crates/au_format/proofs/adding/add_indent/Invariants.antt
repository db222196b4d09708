-- What is added so far and what is left are the whole indent.
use Rattle.std.proofs.Common.{◌≡◌, ◌++◌, ◌-◌}
use Rattle.au_format.specs.Gaps.{indent}
use Rattle.au_format.proofs.adding.add_indent.Given as goal

abbrev pub invariant-loop : goal.invariant-loop
invariant-loop l = l.text.items ++ indent (l.levels - l.counter) ≡ l.fn.text.items ++ indent l.levels
