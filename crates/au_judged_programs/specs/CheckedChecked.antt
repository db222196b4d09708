-- What is known of an accepted program by rules that speak of its modules and their notes alone.
use Rattle.std.specs.Prelude.{List, map, ◌++◌}
use Rattle.au_classes.specs.Good.{InstancesAreGood}
use Rattle.au_imports.specs.Good.{AllNamesAreGood}
use Rattle.au_modules.specs.Accepted.{IsProgram}
use Rattle.au_modules.specs.Programs.{ModuleParts}
use Rattle.au_program_lives.specs.Good.{AllLivesAreGood}
use Rattle.au_promises.specs.Fulfilled.{AllFulfil}
use Rattle.au_rules.specs.Good.{AllDeclarationsAreGood}
use Rattle.au_judged_bodies.specs.Derivations.{Derives}
use Rattle.au_judged_bodies.specs.Outsides.{outside_of}
use Rattle.au_judged_bodies.specs.Trees.{NotedParts}
use Rattle.au_shipped.specs.Shipped.{shipped_files}
use Rattle.au_closing_laws.specs.Gathered.{IsGathered, entry_of}
use Rattle.au_judged_bodies.specs.Tables.{DefinitionsFit}

-- A program with notes is checked: it is gathered of the shipped files and of parsed ones, which are those
-- of a program; its names are good; each thing that an interface promises is defined in its body as it is
-- declared; its declarations and its instances are good; the rules of typing derive it with these notes;
-- and each variable has a good life.
pub record IsChecked (program : List ModuleParts) (noted : List NotedParts) : Type 0 where
  pub gathered : IsGathered program
  pub files : IsProgram (map entry_of shipped_files ++ gathered.own)
  pub named : AllNamesAreGood program
  pub kept : AllFulfil program
  pub declared : AllDeclarationsAreGood program
  pub instances : InstancesAreGood program
  pub derives : Derives (outside_of program) program noted
  pub lives : AllLivesAreGood program

-- In a checked program the definitions of declared types fit.
abbrev pub CheckedDefinitionsFit : Type 0
CheckedDefinitionsFit =
    (program : List ModuleParts) (noted : List NotedParts) → IsChecked program noted → DefinitionsFit program
