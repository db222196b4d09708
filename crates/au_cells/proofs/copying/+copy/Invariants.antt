use Rattle.std.proofs.Common.{◌≡◌, take}
use Rattle.au_cells.specs.Cells.{lows}
use Rattle.au_cells.proofs.copying.+copy.Given as goal

-- the cells copied so far
abbrev pub invariant-copy_all-loop-cell : goal.invariant-copy_all-loop-cell
invariant-copy_all-loop-cell l = lows l.copies.items ≡ lows (take l.cell-index l.cell-items)
