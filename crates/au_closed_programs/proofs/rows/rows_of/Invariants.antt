use Rattle.std.proofs.Common.{◌≡◌, map, take}
use Rattle.au_type_texts.specs.Views.{closed_meaning}
use Rattle.au_modules.specs.Slots as slots
use Rattle.au_closed_programs.specs.Programs.{row_of}
use Rattle.au_closed_programs.specs.Views.{rows_said}
use Rattle.au_closed_programs.proofs.rows.rows_of.Given as goal

-- the rows so far
abbrev pub invariant-loop-one : goal.invariant-loop-one
invariant-loop-one l =
    rows_said l.rows.items ≡ map (row_of (slots.modules l.program)) (map closed_meaning (take l.one-index l.list))
