-- What the code's rows say.
use Rattle.std.specs.Prelude.{List, map}
use Rattle.au_closed_trees.specs.Views.{case_said}
use Rattle.au_type_texts.specs.Views.{closed_meaning}
use Rattle.au_closed_meanings.specs.Programs.{Case, Row}
use Rattle.au_lowering.specs.Closed.{case_seen}
use Rattle.au_lowering.specs.declared.seen.SeenCase.{SeenCase}
use Rattle.au_lowering.specs.declared.seen.SeenRow.{SeenRow}

-- a case
abbrev pub case_in : SeenCase → Case
case_in one = case_seen (case_said one.case.now)

-- a type
abbrev pub row_held : SeenRow → Row
row_held one = record {
  of = closed_meaning one.of.now;
  linear = one.linear;
  cases = map case_in one.cases.items;
}

-- types in order
abbrev pub rows_held : List SeenRow → List Row
rows_held all = map row_held all
