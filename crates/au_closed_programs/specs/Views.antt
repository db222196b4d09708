-- What the code's closed programs say.
use Rattle.std.specs.Prelude.{List, map}
use Rattle.au_type_texts.specs.Views.{closed_meaning}
use Rattle.au_closed_trees.specs.Views.{cases_said}
use Rattle.au_closed_programs.specs.FunctionViews.{functions_said}
use Rattle.au_closed_programs.specs.declared.programs.ClosedProgram as found
use Rattle.au_closed_programs.specs.declared.rows.TypeRow as found_row
use Rattle.au_closed_programs.specs.Programs.{ClosedProgram, TypeRow}

-- a declared type
abbrev pub row_said : found_row.TypeRow → TypeRow
row_said one = record {
  of = closed_meaning one.of;
  key = one.key.items;
  text = one.text;
  home = one.home;
  linear = one.linear;
  cases = cases_said one.cases.items;
}

-- declared types in order
abbrev pub rows_said : List found_row.TypeRow → List TypeRow
rows_said all = map row_said all

-- a closed program
abbrev pub program_said : found.ClosedProgram → ClosedProgram
program_said c = record {
  functions = functions_said c.functions.items;
  types = rows_said c.types.items;
  root = c.root;
}
