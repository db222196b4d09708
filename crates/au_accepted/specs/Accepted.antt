-- Which files are accepted: those of a program that the written rules derive, and whose variables have good
-- lives.
use Rattle.std.specs.Prelude.{ℕ, ◌≤◌, List, length}
use Rattle.au_base.specs.Outside.{Files}
use Rattle.au_classes.specs.Good.{InstancesAreGood}
use Rattle.au_typing.specs.Trees.{NotedParts}
use Rattle.au_modules.specs.Accepted.{IsProgram}
use Rattle.au_imports.specs.Good.{AllNamesAreGood}
use Rattle.au_noting_programs.specs.Faults.{IsDerived}
use Rattle.au_program_lives.specs.Good.{AllLivesAreGood}
use Rattle.au_promises.specs.Fulfilled.{AllFulfil}
use Rattle.au_rules.specs.Good.{AllDeclarationsAreGood}
use Rattle.au_accepted.specs.Files.{AreFiles, most_files}
use Rattle.au_accepted.specs.Programs.{program_files, program_modules}
use Rattle.au_accepted.specs.Trees.{AreRead, ReadFile}

-- Files of these names are accepted, with these bytes and as these trees: they are as few as they may be.
-- They have these bytes, and none is too large. Each is cut into tokens that are the words of its tree,
-- within the limits. With the shipped ones they are the files of a program. In its modules all names are
-- good, every body fulfils its interface, all declarations are good, and all instances are. The rules of
-- typing derive the modules with some notes, and each variable has a good life.
pub record AreAcceptedAs (files : Files) (names all : List (List ℕ)) (reads : List ReadFile) : Type 0 where
  pub few : length names ≤ most_files
  pub had : AreFiles files names all
  pub read : AreRead 0 all reads
  pub program : IsProgram (program_files reads)
  pub named : AllNamesAreGood (program_modules reads)
  pub kept : AllFulfil (program_modules reads)
  pub declared : AllDeclarationsAreGood (program_modules reads)
  pub instances : InstancesAreGood (program_modules reads)
  pub noted : List NotedParts
  pub derives : IsDerived (program_modules reads) noted
  pub lives : AllLivesAreGood (program_modules reads)

-- The files of these names are accepted.
abbrev pub Accepted : Files → List (List ℕ) → Type 0
Accepted files names = (all : List (List ℕ)) × (reads : List ReadFile) × AreAcceptedAs files names all reads
