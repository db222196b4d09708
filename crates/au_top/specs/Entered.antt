-- Which runs are entered, and which programs are compiled.
use Rattle.std.specs.Prelude.{◌≡◌, ℕ, false, List, Option}
use Rattle.au_base.specs.declared.names.Entry.{Entry}
use Rattle.au_base.specs.Outside.{Files}
use Rattle.au_words.specs.Jobs.{Task}
use Rattle.au_running.specs.Answers.{ClosesWithin}
use Rattle.au_running.specs.Programs.{ClosedProgram}
use Rattle.au_running.specs.Closed.{is_too_long}
use Rattle.au_modules.specs.Programs.{ModuleParts}
use Rattle.au_typing.specs.Trees.{NotedParts}
use Rattle.au_accepted.specs.Accepted.{AreAcceptedAs}
use Rattle.au_accepted.specs.Programs.{program_modules}
use Rattle.au_accepted.specs.Trees.{ReadFile}
use Rattle.au_running.specs.Ran.{HasNoEntry}
use Rattle.au_top.specs.Runs.{Run, entry_for, run_of}

-- A program with notes has the entry of a run, the one that is named or else `main` of the last module, and
-- that has the form of one.
abbrev pub HasEntry : Option Entry → List ModuleParts → List NotedParts → Type 0
HasEntry named program noted =
    HasNoEntry program noted (entry_for named program).«module» (entry_for named program).function → ⊥

-- The files of a task are accepted, and this is the run of their program.
pub record IsToRun (files : Files) (task : Task) (run : Run) : Type 0 where
  -- the bytes of the files
  pub all : List (List ℕ)
  -- the trees of the files
  pub reads : List ReadFile
  -- By these the files are accepted.
  pub accepted : AreAcceptedAs files task.files all reads
  -- It is the run of this program that the task asks for.
  pub is_run : run ≡ run_of task (program_modules reads)

-- The program of a task's files can run: that is said by rules alone.
pub record CanRun (files : Files) (task : Task) : Type 0 where
  -- the bytes of the files
  pub all : List (List ℕ)
  -- the trees of the files
  pub reads : List ReadFile
  -- By these the files are accepted: so the rules of typing derive their program, with some notes.
  pub accepted : AreAcceptedAs files task.files all reads
  -- The program has its entry.
  pub entry : HasEntry task.entry (program_modules reads) accepted.noted

-- The program of a task's files can be compiled: that is said by rules alone.
pub record CanCompile (files : Files) (task : Task) : Type 0 where
  -- the bytes of the files
  pub all : List (List ℕ)
  -- the trees of the files
  pub reads : List ReadFile
  -- By these the files are accepted: so the rules of typing derive their program, with some notes.
  pub accepted : AreAcceptedAs files task.files all reads
  -- what the program closes to from its entry: so it has one
  pub c : ClosedProgram
  -- The instances that are reached from it pass no limit.
  pub closes :
      ClosesWithin (program_modules reads) accepted.noted
      (entry_for task.entry (program_modules reads)).«module»
      (entry_for task.entry (program_modules reads)).function c
  -- Its code isn't too long.
  pub short : is_too_long c ≡ false
