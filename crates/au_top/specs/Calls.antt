-- A call, how it ends, and what it leaves on its streams.
use Rattle.std.specs.Prelude.{◌≡◌, ◌⊎◌, ℕ, Bool, true, false, IsTrue, IsSomeAnd, List, ◌++◌, Option, Some}
use Rattle.std.specs.Prelude.{Result, Ok, Err}
use Rattle.au_base.specs.declared.limits.Limit.{Limit}
use Rattle.au_base.specs.declared.outside.Shelf as shelf
use Rattle.au_base.specs.declared.statuses.Status.{Status}
use Rattle.au_base.specs.declared.statuses.Status.TheVariants as status
use Rattle.au_base.specs.Outside.{Files, HasRisen}
use Rattle.au_outcomes.specs.Caps.Lines.{report_text}
use Rattle.au_outcomes.specs.Explain.Lines.{life_text}
use Rattle.au_outcomes.specs.Lives.{Lives}
use Rattle.au_outcomes.specs.Report.{Report}
use Rattle.au_outcomes.specs.Reports.{IsReportOf}
use Rattle.au_modules.specs.declared.modules.Modules.{Modules}
use Rattle.au_modules.specs.Programs.{ModuleParts}
use Rattle.au_modules.specs.Slots as slots
use Rattle.au_typing.specs.Trees.{NotedParts}
use Rattle.au_words.specs.Jobs.{Task, IsJob}
use Rattle.au_outcomes.specs.Outcomes.{Comes, is_behind}
use Rattle.au_outcomes.specs.Halts.{AreTold, StopsIn}
use Rattle.au_top.specs.Dues.{Due, IsCompile, IsRun, Owes, Arises, due_line, due_of, reported_due}
use Rattle.au_top.specs.Runs.{BreaksOff, EndsAsRun, IsTold, Run, Runs, entry_of, line_of, run_of}
use Rattle.au_top.specs.Streams.{Gains, GainsFront, HasFailed, HasStayed, NeverFailed, Streams}
use Rattle.au_top.specs.Texts.{IsCoded, OwesText, coded_due}
use Rattle.au_outcomes.specs.Refusals.{is_refusal}
use Rattle.au_outcomes.specs.Lines.{accepted_line, refusal_line, limit_line, missing_line, read_fault_line}
use Rattle.au_outcomes.specs.declared.refusals.Refusal.{Refusal}
use Rattle.au_low.specs.declared.code.Code.{Code}
use Rattle.au_running.specs.declared.coding.Uncoded.{Uncoded}
use Rattle.au_running.specs.declared.coding.Uncoded.TheVariants as uncoded
use Rattle.au_running.specs.declared.ran.Ran.{Ran}
use Rattle.au_running.specs.declared.ran.Ran.TheVariants as how
use Rattle.au_top.specs.declared.saying.AnswerFault.{AnswerFault}
use Rattle.au_top.specs.declared.saying.AnswerFault.TheVariants as answer
use Rattle.au_outcomes.specs.declared.outcomes.Aim.TheVariants as aims
use Rattle.au_outcomes.specs.declared.outcomes.Outcome.{Outcome}
use Rattle.au_outcomes.specs.declared.outcomes.Outcome.TheVariants as outcome

-- ---- a call

-- what is told of the shelf of a call, before it and behind it: the files, where they are told, how often the
-- shelf has failed, and how often no file had the name
pub record Shelf : Type 0 where
  pub files : Option Files
  pub new_files : Option Files
  pub old_faults : ℕ
  pub new_faults : ℕ
  pub old_misses : ℕ
  pub new_misses : ℕ

-- what a shelf tells
abbrev pub shelf_of : {S : Type 0} → shelf.Ghosts S → (old new : S) → Shelf
shelf_of s old new = record {
  files = s.files old;
  new_files = s.files new;
  old_faults = s.faults old;
  new_faults = s.faults new;
  old_misses = s.misses old;
  new_misses = s.misses new;
}

-- a call: the words of its command line, its shelf and its streams, and the status with which it ended
pub record Call : Type 0 where
  pub words : List (List ℕ)
  pub shelf : Shelf
  pub streams : Streams
  pub status : Status

-- a status that the words and the files decide: nothing failed, and memory was there
abbrev pub is_decided : Status → Bool
is_decided status.ReadFault = false
is_decided status.WriteFault = false
is_decided status.Memory = false
is_decided status.Success = true
is_decided status.Failure = true
is_decided status.Refused = true
is_decided status.Abort = true
is_decided status.Steps = true
is_decided status.Limit = true
is_decided status.Missing = true
is_decided status.Words = true

-- a status with which a run ends that has begun, and met no failure
abbrev pub is_run_end : Status → Bool
is_run_end status.Success = true
is_run_end status.Failure = true
is_run_end status.Abort = true
is_run_end status.Steps = true
is_run_end other = false

-- The shelf of the call tells these files.
abbrev pub Tells : Call → Files → Type 0
Tells call files = call.shelf.files ≡ Some files

-- Words and files decided how the call ended.
abbrev pub IsDecided : Call → Type 0
IsDecided call = IsTrue (is_decided call.status)

-- The call ended as a run does.
abbrev pub IsRunEnd : Call → Type 0
IsRunEnd call = IsTrue (is_run_end call.status)

-- The shelf failed.
abbrev pub ShelfFailed : Call → Type 0
ShelfFailed call = HasRisen call.shelf.old_faults call.shelf.new_faults

-- The shelf didn't fail.
abbrev pub ShelfNeverFailed : Call → Type 0
ShelfNeverFailed call = call.shelf.new_faults ≡ call.shelf.old_faults

-- No file was missing.
abbrev pub ShelfMissedNone : Call → Type 0
ShelfMissedNone call = call.shelf.new_misses ≡ call.shelf.old_misses

-- ---- what is paid

-- The call ended so, with all that is due on both sinks.
pub record Pays (due : Due) (ends : Status) (s : Streams) : Type 0 where
  pub status : ends ≡ due.status
  pub out_bytes : Gains s.out due.out
  pub err_bytes : Gains s.err due.err

-- One sink failed: a front of what is due stands on each, and where `out` failed `err` is as it was.
pub record IsCut (due : Due) (s : Streams) : Type 0 where
  pub out_bytes : GainsFront s.out due.out
  pub err_bytes : GainsFront s.err due.err
  pub risen : (HasFailed s.out × HasStayed s.err) ⊎ (NeverFailed s.out × HasFailed s.err)

-- Nothing was written, and no sink failed.
pub record IsUntouched (s : Streams) : Type 0 where
  pub out : HasStayed s.out
  pub err : HasStayed s.err

-- what a fault of an answer says of both sinks
abbrev pub Fails : AnswerFault → Due → Streams → Type 0
Fails answer.Write due s = IsCut due s
Fails answer.Memory due s = IsUntouched s

-- What a call may owe: what its words and the files that are told owe, for what they come to or, where they
-- come to a program that is to be compiled, for its code; or, where its shelf failed, the line that says so.
abbrev pub MayOwe : Call → Due → Type 0
MayOwe call due =
    ((files : Files) × AreTold call.shelf.files files
    × (Owes call.words files due ⊎ OwesText call.words files due))
    ⊎ (ShelfFailed call × (due ≡ due_line status.ReadFault read_fault_line))

-- The call has paid this.
abbrev pub HasPaid : Call → Due → Type 0
HasPaid call due = Pays due call.status call.streams

-- The call has paid all that it owed.
abbrev pub IsPaid : Call → Type 0
IsPaid call = (due : Due) × MayOwe call due × HasPaid call due

-- ---- what words and files come to

-- The words of the call and files, of those that are told, have come to an outcome of which P holds, by the
-- names of the files.
abbrev pub HasOutcome : Call → (List (List ℕ) → Outcome → Type 0) → Type 0
HasOutcome call P =
    (files : Files) × AreTold call.shelf.files files × (names : List (List ℕ)) × (arisen : Outcome)
    × Arises call.words files names arisen × P names arisen

-- The words are a job, its files are as few as they may be, and those before one of them can be had, of those
-- that are told.
abbrev pub FailsBehind : List (List ℕ) → Option Files → Type 0
FailsBehind words told = (task : Task) × IsJob words task × StopsIn told task.files

-- What the words ask for is refused, and its line stands on `err`.
abbrev pub IsRefusedSo : Streams → List (List ℕ) → Outcome → Type 0
IsRefusedSo s names arisen =
    (refusal : Refusal) × IsTrue (is_refusal refusal) × (arisen ≡ outcome.Refused refusal)
    × Gains s.err (refusal_line names refusal)

-- A limit is passed, and its line stands on `err`.
abbrev pub HasPassed : Streams → List (List ℕ) → Outcome → Type 0
HasPassed s names arisen = (limit : Limit) × (arisen ≡ outcome.Passes limit) × Gains s.err (limit_line limit)

-- A file is missing, and the line that says so stands on `err`.
abbrev pub IsMissingSo : Streams → List (List ℕ) → Outcome → Type 0
IsMissingSo s names arisen =
    (name : List ℕ) × (arisen ≡ outcome.Missing name) × Gains s.err (missing_line name)

-- Files are checked and accepted, and the line that says so stands on `out`.
abbrev pub IsSaidAccepted : Streams → List (List ℕ) → Outcome → Type 0
IsSaidAccepted s names arisen = (arisen ≡ outcome.Accepted) × Gains s.out accepted_line

-- Files are accepted, and the text of the lives of their variables stands on `out`.
abbrev pub IsExplained : Streams → List (List ℕ) → Outcome → Type 0
IsExplained s names arisen =
    (lives : Lives) × (arisen ≡ outcome.Explained lives) × Gains s.out (life_text lives)

-- A file is laid out, and its layout stands on `out`.
abbrev pub IsLaidOut : Streams → List (List ℕ) → Outcome → Type 0
IsLaidOut s names arisen = (text : List ℕ) × (arisen ≡ outcome.Laid text) × Gains s.out text

-- Files are accepted, and the text of the report on what they can do with capabilities stands on `out`.
abbrev pub IsReported : Streams → List (List ℕ) → Outcome → Type 0
IsReported s names arisen =
    (report : Report) × (arisen ≡ outcome.Reported report) × Gains s.out (report_text report)

-- Files are checked and accepted, or explained, or reported on, or laid out.
abbrev pub HasSucceeded : Streams → List (List ℕ) → Outcome → Type 0
HasSucceeded s names arisen =
    IsSaidAccepted s names arisen
    ⊎ (IsExplained s names arisen ⊎ (IsReported s names arisen ⊎ IsLaidOut s names arisen))

-- The steps that judge whether files are accepted have refused nothing, and what came behind them was paid:
-- that they are accepted, or the lives of their variables, or the report on what they can do with
-- capabilities.
abbrev pub HasComeBehind : Call → List (List ℕ) → Outcome → Type 0
HasComeBehind call names arisen = IsTrue (is_behind arisen) × IsSomeAnd (due_of names arisen) (HasPaid call)

-- What is due for the report of a program with these notes was paid. There is one such report.
abbrev pub PaysReport : Call → List ModuleParts → List NotedParts → Type 0
PaysReport call program noted =
    (report : Report) × IsReportOf program noted report × HasPaid call (reported_due report)

-- A file is missing.
abbrev pub MissesFile : Call → Type 0
MissesFile call = HasOutcome call (IsMissingSo call.streams)

-- Files have come to a program that is to run.
abbrev pub HasProgram : Call → Type 0
HasProgram call = HasOutcome call (λ names arisen. (program : Modules) × (arisen ≡ outcome.Runs program))

-- ---- runs

-- The words are a `run`, and its files, of those that are told, have come to a
-- program that is to run. P holds of that run.
pub record ComesToRun (call : Call) (P : Run → Type 0) : Type 0 where
  pub files : Files
  pub are_told : AreTold call.shelf.files files
  pub task : Task
  pub job : IsRun call.words task
  pub program : Modules
  pub comes : Comes aims.Run files task.files (outcome.Runs program)
  pub run : P (run_of task (slots.modules program))

-- The call came to a run, which ended with this answer, and reports that: what is told of the run stands on
-- `err`, the lines of its events, where they are asked for, and the line that is due.
abbrev pub ReportsRun : Call → Ran → Type 0
ReportsRun call ran = ComesToRun call (λ run. IsTold run call.streams ran)

-- The call came to a run and has run its program, whatever was answered, and ended by how that ended.
abbrev pub HasRunItsProgram : Call → Type 0
HasRunItsProgram call = ComesToRun call (λ run. EndsAsRun run call.streams call.status)

-- A sink failed while a program ran or behind it: `out` did, and the run was broken off; or the program ran,
-- and a front of what is told of it stands on `err`.
abbrev pub IsRunCut : Run → Streams → Type 0
IsRunCut run s =
    (BreaksOff run s × HasFailed s.out)
    ⊎ ((ran : Ran) × (lines : List ℕ) × Runs run s ran lines × GainsFront s.err (lines ++ line_of run ran)
    × NeverFailed s.out × HasFailed s.err)

-- ---- C text

-- The words are a `compile`, and its files, of those that are told, have come to a program that is to be
-- compiled. P holds of the run that would be of it.
pub record ComesToText (call : Call) (P : Run → Type 0) : Type 0 where
  pub files : Files
  pub are_told : AreTold call.shelf.files files
  pub task : Task
  pub job : IsCompile call.words task
  pub program : Modules
  pub comes : Comes aims.Compile files task.files (outcome.Compiles program)
  pub text : P (run_of task (slots.modules program))

-- This was answered of the code of the program, and what is due for that was paid.
pub record PaysText (call : Call) (run : Run) (answer : Result Code Uncoded) : Type 0 where
  pub coded : IsCoded run answer
  pub paid : IsSomeAnd (coded_due (entry_of run) answer) (HasPaid call)

-- The call came to a program that is to be compiled, of whose code this was answered, and reports that.
abbrev pub ReportsText : Call → Result Code Uncoded → Type 0
ReportsText call answer = ComesToText call (λ run. PaysText call run answer)

-- The call came to a program that is to be compiled, and paid what is due for what was answered of its code.
abbrev pub HasCompiled : Call → Type 0
HasCompiled call = (answer : Result Code Uncoded) × ReportsText call answer

-- ---- what a status says

-- The call has paid all that it owed, or its program has run and its line stands on `err`.
abbrev pub IsDone : Call → Type 0
IsDone call = IsPaid call ⊎ HasRunItsProgram call

-- Nothing was refused by the steps that judge whether files are accepted: what came behind them was paid, or
-- the program has run, whatever the run came to, or was compiled, whatever was answered of its code.
abbrev pub GoesBehind : Call → Type 0
GoesBehind call = HasOutcome call (HasComeBehind call) ⊎ (HasRunItsProgram call ⊎ HasCompiled call)

-- What the words ask for is refused and the line of it stands on `err`, or their program is to run or to be
-- compiled, and has no such entry.
abbrev pub IsRefused : Call → Type 0
IsRefused call =
    HasOutcome call (IsRefusedSo call.streams)
    ⊎ (ReportsRun call how.NoEntry ⊎ ReportsText call (Err uncoded.NoEntry))

-- The line of a limit stands on `err` that words or files pass, or that their program passes which is to run
-- or to be compiled.
abbrev pub PassesLimit : Call → Type 0
PassesLimit call =
    HasOutcome call (HasPassed call.streams)
    ⊎ ((limit : Limit) × (ReportsRun call (how.Limit limit) ⊎ ReportsText call (Err (uncoded.Limit limit))))

-- Files are accepted or explained or reported on or laid out, or their program ran and returned success, or
-- its C text was written.
abbrev pub Succeeds : Call → Type 0
Succeeds call =
    HasOutcome call (HasSucceeded call.streams)
    ⊎ (ReportsRun call (how.Exit true) ⊎ ((code : Code) × ReportsText call (Ok code)))

-- The program ran and aborted.
abbrev pub Aborts : Call → Type 0
Aborts call = (text : List ℕ) × ReportsRun call (how.Abort text)

-- A sink failed: a front of what is due stands there, or of what the program writes, or of its line.
abbrev pub LosesSink : Call → Type 0
LosesSink call =
    ((due : Due) × MayOwe call due × IsCut due call.streams)
    ⊎ ComesToRun call (λ run. IsRunCut run call.streams)

-- Memory ran out: nothing was written, or a run was broken off.
abbrev pub LacksMemory : Call → Type 0
LacksMemory call =
    IsUntouched call.streams
    ⊎ ComesToRun call (λ run. BreaksOff run call.streams × NeverFailed call.streams.out)

-- The shelf failed, behind files that can be had, or the input did, while a program ran.
abbrev pub LosesSource : Call → Type 0
LosesSource call =
    (FailsBehind call.words call.shelf.files × ShelfFailed call)
    ⊎ (ReportsRun call how.ReadFault × HasFailed call.streams.input)
