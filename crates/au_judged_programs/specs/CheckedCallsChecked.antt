-- Calls in the bodies of checked programs.
use Rattle.std.specs.Prelude.{List}
use Rattle.au_modules.specs.Programs.{ModuleParts}
use Rattle.au_judged_bodies.specs.Trees.{NotedParts}
use Rattle.au_judged_programs.specs.CheckedChecked.{IsChecked}
use Rattle.au_judged_programs.specs.Programs.{ProgramFits}

-- A checked program is as calls in its bodies ask it.
abbrev pub CheckedProgramsFit : Type 0
CheckedProgramsFit =
    (program : List ModuleParts) (trees : List NotedParts) → IsChecked program trees
    → ProgramFits program trees
