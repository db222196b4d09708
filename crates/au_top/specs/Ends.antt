-- The ways in which a call ends.
use Rattle.std.specs.Prelude.{◌≡◌, ◌⊎◌, ℕ, false, List, IsSomeAnd, Option, Result, Ok, Err}
use Rattle.au_base.specs.declared.statuses.Status.{Status}
use Rattle.au_base.specs.declared.statuses.Status.TheVariants as status
use Rattle.au_base.specs.Outside.{Counts, Files}
use Rattle.au_modules.specs.Programs.{ModuleParts}
use Rattle.au_modules.specs.Slots as slots
use Rattle.au_outcomes.specs.Lines.{read_fault_line}
use Rattle.au_runs.specs.Calls.{Rose}
use Rattle.au_running.specs.Ran.{is_read_fault, is_write_fault}
use Rattle.au_running.specs.declared.ran.Ran.{Ran}
use Rattle.au_outcomes.specs.Halts.{AreTold, is_missing}
use Rattle.au_outcomes.specs.declared.halts.CheckFault.{CheckFault}
use Rattle.au_outcomes.specs.declared.halts.CheckFault.TheVariants as fault
use Rattle.au_outcomes.specs.declared.outcomes.Outcome.{Outcome}
use Rattle.au_outcomes.specs.declared.outcomes.Outcome.TheVariants as outcome
use Rattle.au_top.specs.Calls.{Call, ComesToRun, FailsBehind, HasCompiled, HasPaid, IsCut, IsRunCut, Pays}
use Rattle.au_top.specs.Calls.{IsUntouched, MayOwe, ShelfFailed, ShelfMissedNone, ShelfNeverFailed}
use Rattle.au_top.specs.Dues.{Arises, Due, due_line, due_of}
use Rattle.au_low.specs.declared.code.Code.{Code}
use Rattle.au_running.specs.declared.coding.Uncoded.{Uncoded}
use Rattle.au_top.specs.Runs.{BreaksOff, IsTold, Run, entry_of, run_status}
use Rattle.au_top.specs.Streams.{AreQuiet, Gains, GainsFront, HasFailed, HasStayed, NeverFailed}
use Rattle.au_top.specs.Streams.{Stream, Streams}
use Rattle.au_top.specs.Texts.{IsCoded, coded_due}
use Rattle.au_top.specs.declared.saying.AnswerFault.{AnswerFault}
use Rattle.au_top.specs.declared.saying.AnswerFault.TheVariants as answer

-- ---- a run

-- A program ran, and the call ended by how it did: its line stands on `err`, and no sink failed.
pub record IsRunWhole (ends : Status) (s : Streams) (run : Run) : Type 0 where
  pub ran : Ran
  pub status : ends ≡ run_status ran
  pub written : is_write_fault ran ≡ false
  pub done : IsTold run s ran
  pub rose : Rose (is_read_fault ran) s.input.old_faults s.input.new_faults
  pub quiet : AreQuiet s

-- Nothing was written, and no sink failed; or a run was broken off, and none did.
abbrev pub IsRunStopped : Streams → Run → Type 0
IsRunStopped s run = IsUntouched s ⊎ (BreaksOff run s × NeverFailed s.out)

-- what a call that ran a program has done, by what it answered
abbrev pub RunAnswers : Result Status AnswerFault → Streams → Run → Type 0
RunAnswers (Ok ends) s run = IsRunWhole ends s run
RunAnswers (Err answer.Write) s run = IsRunCut run s
RunAnswers (Err answer.Memory) s run = IsRunStopped s run

-- what a status says of a run
abbrev pub RunEnds : Status → Streams → Run → Type 0
RunEnds ends s run =
    IsRunWhole ends s run
    ⊎ (((ends ≡ status.WriteFault) × IsRunCut run s) ⊎ ((ends ≡ status.Memory) × IsRunStopped s run))

-- P holds of the modules of an outcome that is a program to run.
abbrev pub IfRuns : Outcome → (List ModuleParts → Type 0) → Type 0
IfRuns (outcome.Runs program) P = P (slots.modules program)
IfRuns other P = Unit {0}

-- ---- C text

-- what a call has done by what it answered, where this is due: it was paid, or cut, or nothing was written
abbrev pub PaysFor : Result Status AnswerFault → Option Due → Streams → Type 0
PaysFor (Ok ends) due s = IsSomeAnd due (λ one. Pays one ends s) × AreQuiet s
PaysFor (Err answer.Write) due s = IsSomeAnd due (λ one. IsCut one s)
PaysFor (Err answer.Memory) due s = IsUntouched s

-- Something was answered of the code of a program, and what is due for that was paid or cut.
pub record PaysTextSo (answered : Result Status AnswerFault) (s : Streams) (run : Run) : Type 0 where
  pub answer : Result Code Uncoded
  pub coded : IsCoded run answer
  pub pays : PaysFor answered (coded_due (entry_of run) answer) s

-- what a call that compiled a program has done, by what it answered
abbrev pub TextAnswers : Result Status AnswerFault → Streams → Run → Type 0
TextAnswers (Ok ends) s run = PaysTextSo (Ok ends) s run
TextAnswers (Err answer.Write) s run = PaysTextSo (Err answer.Write) s run
TextAnswers (Err answer.Memory) s run = IsUntouched s

-- P holds of the modules of an outcome that is a program to be compiled.
abbrev pub IfCompiles : Outcome → (List ModuleParts → Type 0) → Type 0
IfCompiles (outcome.Compiles program) P = P (slots.modules program)
IfCompiles other P = Unit {0}

-- ---- a call

-- the status with which a call ends that has got this answer
abbrev pub answer_ends : Result Status AnswerFault → Status
answer_ends (Ok ends) = ends
answer_ends (Err answer.Write) = status.WriteFault
answer_ends (Err answer.Memory) = status.Memory

-- How a call ended, and what it did to `err`, where it isn't known what the files come to: the shelf failed,
-- and the line that says so stands there, or `err` failed too; or memory ran out.
abbrev pub FaultEnds : CheckFault → Status → Stream → Type 0
FaultEnds fault.Read ends err =
    ((ends ≡ status.ReadFault) × Gains err read_fault_line × NeverFailed err)
    ⊎ ((ends ≡ status.WriteFault) × GainsFront err read_fault_line × HasFailed err)
FaultEnds fault.Memory ends err = (ends ≡ status.Memory) × HasStayed err

module _ (call : Call) where
  -- What words and files owe was paid.
  pub record HasPaidAll : Type 0 where
    pub files : Files
    pub are_told : AreTold call.shelf.files files
    pub names : List (List ℕ)
    pub arisen : Outcome
    pub arises : Arises call.words files names arisen
    pub pays : IsSomeAnd (due_of names arisen) (HasPaid call)
    pub quiet : AreQuiet call.streams
    pub kept : HasStayed call.streams.input
    pub read : ShelfNeverFailed call
    pub missed : Counts (is_missing arisen) call.shelf.old_misses call.shelf.new_misses

  -- What is owed was cut by a sink that failed.
  pub record HasCut : Type 0 where
    pub ended : call.status ≡ status.WriteFault
    pub due : Due
    pub owed : MayOwe call due
    pub cut : IsCut due call.streams
    pub kept : HasStayed call.streams.input

  -- Memory ran out before anything was written.
  pub record HasNoMemory : Type 0 where
    pub ended : call.status ≡ status.Memory
    pub untouched : IsUntouched call.streams
    pub kept : HasStayed call.streams.input

  -- The shelf failed, behind files that can be had, and the line that says so was paid.
  pub record HasNoFile : Type 0 where
    pub behind : FailsBehind call.words call.shelf.files
    pub risen : ShelfFailed call
    pub pays : HasPaid call (due_line status.ReadFault read_fault_line)
    pub quiet : AreQuiet call.streams
    pub kept : HasStayed call.streams.input

  -- The files came to a program that is to run, and what was done of it ended so.
  pub record HasComeToRun : Type 0 where
    pub runs : ComesToRun call (RunEnds call.status call.streams)
    pub read : ShelfNeverFailed call
    pub missed : ShelfMissedNone call

  -- The files came to a program that is to be compiled, and what is due for its code was paid.
  pub record HasComeToText : Type 0 where
    pub text : HasCompiled call
    pub quiet : AreQuiet call.streams
    pub kept : HasStayed call.streams.input
    pub read : ShelfNeverFailed call
    pub missed : ShelfMissedNone call

  -- how a call ended
  abbrev pub HasEnded : Type 0
  HasEnded = HasPaidAll ⊎ (HasCut ⊎ (HasNoMemory ⊎ (HasNoFile ⊎ (HasComeToRun ⊎ HasComeToText))))
