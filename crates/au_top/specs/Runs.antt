-- What a call has done that runs a program.
use Rattle.std.specs.Prelude.{◌≡◌, ℕ, ◌-◌, Bool, if◌then◌else◌, List, [], ◌++◌, length}
use Rattle.std.specs.Prelude.{slice_get, codes}
use Rattle.std.specs.Prelude.{Option, None, Some, unwrap_or}
use Rattle.au_base.specs.declared.names.Entry.{Entry}
use Rattle.au_base.specs.declared.statuses.Status.{Status}
use Rattle.au_base.specs.declared.statuses.Status.TheVariants as status
use Rattle.au_syntax.specs.Plain.{Bytes}
use Rattle.au_words.specs.Jobs.{Task}
use Rattle.au_modules.specs.Programs.{ModuleParts}
use Rattle.au_modules.specs.Seen.{name_of}
use Rattle.au_typing.specs.Trees.{NotedParts}
use Rattle.au_outcomes.specs.NotingPrograms.Faults.{IsDerived}
use Rattle.au_outcomes.specs.Lines.{abort_line, limit_line, read_fault_line, refusal_line, steps_line}
use Rattle.au_outcomes.specs.declared.refusals.Refusal.TheVariants as refusal
use Rattle.au_running.specs.Ran.{ProgramEnds, ProgramIsCut}
use Rattle.au_running.specs.declared.ran.Ran.{Ran}
use Rattle.au_running.specs.declared.ran.Ran.TheVariants as how
use Rattle.au_top.specs.Streams.{Gains, HasStayed, Streams}

-- ---- where it begins

-- the name of the last of modules. The shipped ones stand first, and behind them the user's in the order of
-- their body files: so it is the one of the last body file
abbrev pub last_name : List ModuleParts → Bytes
last_name program = unwrap_or (name_of (slice_get program (length program - 1))) (codes "main")

-- `main` of that module
abbrev pub main_of : List ModuleParts → Entry
main_of program = record { «module» = last_name program; function = codes "main" }

-- the entry of a run: the one that is named, or else `main` of the last module
abbrev pub entry_for : Option Entry → List ModuleParts → Entry
entry_for (Some named) program = named
entry_for None program = main_of program

-- what a run is of: the entry that is named if one is, the most steps, whether its events are told, and the
-- program
pub record Run : Type 0 where
  pub named : Option Entry
  pub steps : ℕ
  pub life : Bool
  pub program : List ModuleParts

-- the run that a job asks for, of the program of its files
abbrev pub run_of : Task → List ModuleParts → Run
run_of task program = record {
  named = task.entry;
  steps = task.steps;
  life = task.life;
  program = program;
}

-- the entry at which it begins
abbrev pub entry_of : Run → Entry
entry_of run = entry_for run.named run.program

-- ---- how it ends

-- how a call ends that has run a program
abbrev pub run_status : Ran → Status
run_status how.NoEntry = status.Refused
run_status (how.Limit limit) = status.Limit
run_status (how.Exit success) = if success then status.Success else status.Failure
run_status (how.Abort words) = status.Abort
run_status how.Steps = status.Steps
run_status how.ReadFault = status.ReadFault
run_status how.WriteFault = status.WriteFault

-- the line that it writes to `err`, by the entry and the most steps: none where the program returned, or
-- where what it writes couldn't be written
abbrev pub run_line : Entry → ℕ → Ran → List ℕ
run_line entry steps how.NoEntry = refusal_line [] (refusal.Entry entry)
run_line entry steps (how.Limit limit) = limit_line limit
run_line entry steps (how.Exit success) = []
run_line entry steps (how.Abort words) = abort_line words
run_line entry steps how.Steps = steps_line steps
run_line entry steps how.ReadFault = read_fault_line
run_line entry steps how.WriteFault = []

-- the line of a run
abbrev pub line_of : Run → Ran → List ℕ
line_of run ran = run_line (entry_of run) run.steps ran

-- ---- what it has done

-- The rules of typing derive the program of a run with some notes, and of it with these P holds, from the
-- entry with this module and this name on.
pub record FromEntry (run : Run) (P : List ModuleParts → List NotedParts → (owner name : Bytes) → Type 0)
    : Type 0 where
  pub noted : List NotedParts
  pub derived : IsDerived run.program noted
  pub done : P run.program noted (entry_of run).«module» (entry_of run).function

-- for a run, and the streams of the call
module _ (run : Run) (s : Streams) where
  -- The program ran so as code, with these lines of its events: it took from the input, and wrote to `out`.
  abbrev pub Runs : Ran → Bytes → Type 0
  Runs ran lines =
      FromEntry run (λ program noted owner name. ProgramEnds program noted owner name run.life ran lines
      run.steps s.input.old s.input.new s.out.old s.out.new)

  -- It ran so, and the lines of its events, where they are asked for, and the line that is due stand on
  -- `err`.
  pub record IsTold (ran : Ran) : Type 0 where
    pub lines : Bytes
    pub runs : Runs ran lines
    pub told : Gains s.err (lines ++ line_of run ran)

  -- It ran somehow, that is told, and the call ended by how it did.
  pub record EndsAsRun (ends : Status) : Type 0 where
    pub ran : Ran
    pub status : ends ≡ run_status ran
    pub done : IsTold ran

  -- It was broken off: a front of what its code writes stands on `out`, and `err` is as it was.
  pub record BreaksOff : Type 0 where
    pub front :
        FromEntry run (λ program noted owner name. ProgramIsCut program noted owner name run.steps s.input.old
        s.out.old s.out.new)
    pub err : HasStayed s.err
