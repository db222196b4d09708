use Rattle.std.proofs.Common.{◌≡◌}
use Rattle.au_effects.specs.Cases.{fields_behind}
use Rattle.au_cells.specs.Cells.{lows, lent}
use Rattle.au_stores.proofs.cases.fields_behind.Given as goal

-- references to the fields so far
abbrev pub invariant-loop-index : goal.invariant-loop-index
invariant-loop-index l = lows l.fields.items ≡ fields_behind (lent l.one) 0 l.index
