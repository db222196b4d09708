-- The report of a program.
use Rattle.std.specs.Prelude.{◌≡◌, List, [], ◌∷◌, ◌++◌}
use Rattle.au_syntax.specs.Plain.{Bytes}
use Rattle.au_modules.specs.Programs.{ModuleParts}
use Rattle.au_typing.specs.Trees.{NotedParts}
use Rattle.au_caps_text.specs.Lists.{IsListOf}
use Rattle.au_caps_text.specs.declared.reports.Report.{Report}
use Rattle.au_caps_text.specs.declared.reports.Row.{Row}
use Rattle.au_caps.specs.Calls.{module_name}
use Rattle.au_caps_lists.specs.Bodies.{Bodied, all_bodied}
use Rattle.au_caps_lists.specs.Holding.{Holds, Hands}
use Rattle.au_caps.specs.Making.{BodyMakes}

-- the name of a function or method: its module's name, a colon and its own
abbrev pub name_of : List ModuleParts → Bodied → Bytes
name_of program b = module_name program b.place ++ 58 ∷ b.header.name.name

-- A row is that of a function or method: its name, and the lists of what it may make, what its variables can
-- hold, and what it can hand on, each in the order of bytes and each entry once.
pub record IsRowOf (program : List ModuleParts) (noted : List NotedParts) (b : Bodied)
    (row : Row) : Type 0 where
  pub name : row.function ≡ name_of program b
  pub makes : IsListOf (BodyMakes program noted b) row.makes
  pub holds : IsListOf (Holds program b) row.holds
  pub hands : IsListOf (Hands program b) row.hands

-- rows are those of functions and methods, each in its place
pub data AreRowsOf (program : List ModuleParts) (noted : List NotedParts) : List Bodied → List Row
    → Type 0 where
  no_rows : AreRowsOf program noted [] []
  rows : (b : Bodied) (bs : List Bodied) (row : Row) (more : List Row) → IsRowOf program noted b row
      → AreRowsOf program noted bs more → AreRowsOf program noted (b ∷ bs) (row ∷ more)

-- A report is that of a program with notes: it has a row for each function and method, in the order of the
-- text. There is one such report.
abbrev pub IsReportOf : List ModuleParts → List NotedParts → Report → Type 0
IsReportOf program noted report = AreRowsOf program noted (all_bodied noted) report.rows
