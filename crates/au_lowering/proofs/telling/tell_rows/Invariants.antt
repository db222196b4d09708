use Rattle.std.proofs.Common.{◌≡◌, [], drop}
use Rattle.au_closed_programs.specs.Views.{rows_said}
use Rattle.au_lowering.specs.Rows.{rows_in, rows_told}
use Rattle.au_types.specs.Tables.{with_all}
use Rattle.au_lowering.proofs.telling.tell_rows.Given as goal

-- what is left makes of the table what all makes of one with nothing
abbrev pub invariant-loop-one : goal.invariant-loop-one
invariant-loop-one l =
    with_all (rows_in l.made) (rows_told (rows_said (drop l.one-index l.one-items)))
    ≡ with_all [] (rows_told (rows_said l.one-items))
