use Rattle.std.proofs.Common.{◌≡◌, drop}
use Rattle.au_type_texts.specs.Views.{closed_meaning}
use Rattle.au_closed_meanings.specs.Programs.{row_in}
use Rattle.au_lowering.specs.Views.{rows_held}
use Rattle.au_lowering.proofs.placing.find_from.Given as goal

-- what is found is found among those that are left
abbrev pub invariant-loop-at : goal.invariant-loop-at
invariant-loop-at l =
    row_in (drop l.at (rows_held l.rows.items)) (closed_meaning l.of)
    ≡ row_in (drop l.fn.place (rows_held l.rows.items)) (closed_meaning l.of)
