use Rattle.std.proofs.Common.{◌≡◌, map, take}
use Rattle.au_closed_programs.specs.Views.{rows_said}
use Rattle.au_lowering.specs.Views.{rows_held}
use Rattle.au_lowering.specs.Closed.{row_seen}
use Rattle.au_lowering.proofs.rows.see_rows.Given as goal

-- the rows so far
abbrev pub invariant-loop-one : goal.invariant-loop-one
invariant-loop-one l =
    rows_held l.made.items ≡ map row_seen (rows_said (take l.one-index l.one-items))
