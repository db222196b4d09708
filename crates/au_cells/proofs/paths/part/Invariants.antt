use Rattle.std.proofs.Common.{◌≡◌, drop}
use Rattle.au_effects.specs.Parts.{part}
use Rattle.au_cells.specs.Cells.{low}
use Rattle.au_cells.proofs.paths.part.Given as goal

-- what is left of the path leads on from here to where the whole path leads
abbrev pub invariant-loop-index : goal.invariant-loop-index
invariant-loop-index l = part l.path (low l.fn.cell) ≡ part (drop l.index-index l.path) (low l.at)
