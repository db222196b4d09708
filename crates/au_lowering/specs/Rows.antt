-- What rows tell of their types, by keys.
use Rattle.std.specs.Prelude.{ℕ, List, map, Some}
use Rattle.au_type_texts.specs.Keys.{key_of}
use Rattle.au_closed_programs.specs.Programs.{TypeRow}
use Rattle.au_low.specs.declared.code.LowType.{LowType}
use Rattle.au_lowering.specs.Closed.{told_by}
use Rattle.au_lowering.specs.declared.telling.TypeRows.{TypeRows}
use Rattle.au_graphs.specs.Finding.{numbers}
use Rattle.au_types.specs.Tables.{pairs_by}

-- what a table has
abbrev pub rows_in : TypeRows → List (List ℕ × LowType)
rows_in rows = pairs_by rows.entries.entries numbers

-- the keys of rows, and what they tell
abbrev pub rows_told : List TypeRow → List (List ℕ × LowType)
rows_told rows = map (λ (row : TypeRow). (key_of row.of, told_by (Some row))) rows
