-- That runs of the code of a program show what the program means.
use Rattle.std.specs.Prelude.{◌≡◌, ℕ, false, List, Option, None, Some, IsSomeAnd, codes}
use Rattle.au_shipped.specs.declared.prims.AbortKind.{AbortKind}
use Rattle.au_shipped.specs.declared.prims.AbortKind.TheVariants as kind
use Rattle.au_modules.specs.Programs.{ModuleParts}
use Rattle.au_typing.specs.Trees.{NotedParts}
use Rattle.au_rules.specs.Good.{AllDeclarationsAreGood}
use Rattle.au_lowering.specs.Faults.{IsDerived}
use Rattle.au_lowering.specs.Programs.{ClosedProgram, Closes}
use Rattle.au_low.specs.declared.code.Code.{Code}
use Rattle.au_low.specs.declared.endings.Ending.{Ending}
use Rattle.au_low.specs.declared.endings.Ending.TheVariants as ending
use Rattle.au_low.specs.Instructions.{text_bytes}
use Rattle.au_low.specs.Runs.{low_run}
use Rattle.au_lowering.specs.Closed.{code_of}
use Rattle.au_meaning.specs.Worlds.{Outcome, stuck}
use Rattle.au_running.specs.Meant.{means}
use Rattle.au_running.specs.Shown.{AnswerShows}
use Rattle.au_running.specs.declared.ran.Ran.{Ran}
use Rattle.au_running.specs.declared.ran.Ran.TheVariants as ran
use Rattle.au_syntax.specs.Plain.{Bytes}

-- the words in which an abort of code is told: a called one has the number of its text
abbrev pub kind_words : Code → AbortKind → Bytes
kind_words code kind.Arithmetic = codes "arithmetic"
kind_words code (kind.Called text) = text_bytes code text
kind_words code kind.NotEmpty = codes "buffer not empty"
kind_words code kind.Empty = codes "buffer empty"
kind_words code kind.OutOfRange = codes "out of range"

-- what is answered of a run of code that ended so: nothing of one that is stuck
abbrev pub ran_by : Code → Ending → Option Ran
ran_by code (ending.Exit success) = Some (ran.Exit success)
ran_by code (ending.Abort why) = Some (ran.Abort (kind_words code why))
ran_by code ending.Steps = Some ran.Steps
ran_by code ending.Stuck = None

-- A run of code refines what is meant, on an input and with so many steps: it isn't stuck, and its answer
-- shows that.
abbrev pub RefinesOn : Code → (ℕ → Outcome) → List ℕ → ℕ → Type 0
RefinesOn code meant input limit =
    IsSomeAnd (ran_by code (low_run false code input limit).ending) (λ ran. AnswerShows ran meant limit
    (low_run false code input limit).output (low_run false code input limit).left)

-- Code refines what is meant: every run of it shows that, where it isn't stuck within as many ticks as the
-- run has steps.
abbrev pub Refines : Code → (List ℕ → ℕ → Outcome) → Type 0
Refines code meant =
    (input : List ℕ) (limit : ℕ) → ((meant input limit).ending ≡ stuck → ⊥)
    → RefinesOn code (meant input) input limit

-- What is asked of a program whose runs are spoken of: it is derived, and its declarations are good.
pub record IsRunnable (program : List ModuleParts) (noted : List NotedParts) : Type 0 where
  pub derived : IsDerived program noted
  pub declared : AllDeclarationsAreGood program

-- Every run of the code that a program is lowered to shows what the program means from its entry.
abbrev pub LoweredProgramsRun : Type 0
LoweredProgramsRun =
    (program : List ModuleParts) (noted : List NotedParts) (owner name : Bytes) (c : ClosedProgram)
    → (closes : Closes program noted owner name c) → IsRunnable program noted
    → Refines (code_of c) (means program noted closes.entry)
