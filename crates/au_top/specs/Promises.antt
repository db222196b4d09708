-- What is promised of a call: what `austral` ensures.
use Rattle.std.specs.Prelude.{◌≡◌, ◌≢◌, ◌↔◌, ◌⊎◌, ℕ, false, true, List, Result}
use Rattle.au_base.specs.declared.statuses.Status.TheVariants as status
use Rattle.au_base.specs.Outside.{Files, HasRisen}
use Rattle.au_words.specs.Jobs.{IsNoJob, Task}
use Rattle.au_accepted.specs.Accepted.{Accepted, AreAcceptedAs}
use Rattle.au_accepted.specs.Programs.{program_modules}
use Rattle.au_outcomes.specs.Programs.{read_lives}
use Rattle.au_accepted.specs.Trees.{ReadFile}
use Rattle.au_low.specs.declared.code.Code.{Code}
use Rattle.au_running.specs.Closed.{code_of}
use Rattle.au_running.specs.declared.coding.Uncoded.{Uncoded}
use Rattle.au_running.specs.declared.ran.Ran.TheVariants as how
use Rattle.au_top.specs.Calls.{Aborts, Call, GoesBehind, HasPaid, HasProgram, IsDecided, IsDone, IsRefused}
use Rattle.au_top.specs.Calls.{IsRunEnd, LacksMemory, LosesSink, LosesSource, MissesFile, PassesLimit}
use Rattle.au_top.specs.Calls.{PaysReport, PaysText, ReportsRun, ShelfMissedNone, ShelfNeverFailed, Succeeds}
use Rattle.au_top.specs.Calls.{Tells}
use Rattle.au_top.specs.Dues.{AsksForTooMany, Due, IsAcceptedJob, IsCaps, IsCheck, IsCompile, IsExplain}
use Rattle.au_top.specs.Dues.{IsRun, IsUnread, Owes, accepted_due, explained_due, laid_due}
use Rattle.au_top.specs.Formatted.{HasLayoutOf, IsFormat}
use Rattle.au_top.specs.Entered.{CanCompile, CanRun, IsToRun}
use Rattle.au_top.specs.Runs.{EndsAsRun, Run}
use Rattle.au_top.specs.Shown.{HasLives, IsAsMeant, IsInStep}
use Rattle.au_top.specs.Sound.{AllRunsAreSound}
use Rattle.au_top.specs.Streams.{AreQuiet, HasStayed, NeverFailed}
use Rattle.au_top.specs.Texts.{text_due}

-- What is promised of a call whose words are this job, a `run`, over these files.
pub record RunPromises (call : Call) (files : Files) (task : Task) : Type 0 where
  -- Unless a limit is passed or a file is missing, it isn't refused exactly where its program can run:
  -- where the files are accepted, and the program has its entry.
  pub accepts :
      IsDecided call → call.status ≢ status.Limit → call.status ≢ status.Missing
      → CanRun files task ↔ (call.status ≢ status.Refused)
  -- Unless a limit is passed, it ends as a run does, with 0, 1, 3 or 4, exactly where its program can run;
  -- and it ends so only there.
  pub entered : IsDecided call → call.status ≢ status.Limit → CanRun files task ↔ IsRunEnd call
  pub runs_only : IsRunEnd call → CanRun files task
  -- What is seen of the run is what its program means on its input: it ends with 0 or 1 and has written
  -- what that writes, where that has returned within as many ticks as the run may make steps; with 3, where
  -- it has aborted; with 4, where it hasn't ended in an eighth as many ticks, and has written what lies
  -- between.
  pub shown : IsDecided call → (run : Run) → IsToRun files task run → IsAsMeant run call.streams call.status
  -- Where that has ended after t ticks, a run of its code ends after s steps, and t <= s <= 8 t.
  pub bounded : (run : Run) → IsToRun files task run → IsInStep run
  -- Each run of its program is sound, on whatever input and for however many ticks: it isn't stuck; each
  -- linear value is consumed at most once, and exactly once where the run returns; each use of a reference
  -- stands inside its borrow, and each borrow is closed where the run returns; what is born of an opaque type
  -- is born in the module that declares it; and at each tick no two references that are held for one open
  -- write borrow overlap, and none overlaps what an open read borrow sees.
  pub sound : (run : Run) → IsToRun files task run → AllRunsAreSound run.program
  -- With `--life` the lines of the events of the run stand before its line: they are those of what its
  -- program means where the run has ended, and lie between those of that, as its output does, where the
  -- steps were spent.
  pub lives :
      IsDecided call → (run : Run) → IsToRun files task run → run.life ≡ true
      → HasLives run call.streams call.status
  -- It is the code that its program is lowered to that is run: the call ends as the run of that code does,
  -- its output is what that writes, the input is left as that leaves it, the lines of its events stand on
  -- `err`, where they are asked for, and its line tells how the run ended.
  pub runs : IsDecided call → (run : Run) → IsToRun files task run → EndsAsRun run call.streams call.status

-- What is promised of a call whose words are this job, a `compile`, over these files.
pub record CompilePromises (call : Call) (files : Files) (task : Task) : Type 0 where
  -- The code of its files' program from its entry is asked for where they are accepted, and what is due for
  -- what is answered is paid: with 0 its C text on `out`, and nothing on `err`; or with 2 or 8 the line on
  -- `err` that there is no such entry, or that a limit is passed.
  pub answered :
      IsDecided call → (run : Run) → IsToRun files task run
      → (answer : Result Code Uncoded) × PaysText call run answer
  -- Where its program can be compiled that is the C text of the code that it's lowered to.
  pub compiled : IsDecided call → (can : CanCompile files task) → HasPaid call (text_due (code_of can.c))
  -- It ends with 0 only there.
  pub compiled_only : call.status ≡ status.Success → CanCompile files task
  -- Unless a limit is passed it ends with 0 exactly where its program can run, and unless a file is missing
  -- besides it ends with 2 exactly where that can't.
  pub entered :
      IsDecided call → call.status ≢ status.Limit → CanRun files task ↔ (call.status ≡ status.Success)
  pub not_entered :
      IsDecided call → call.status ≢ status.Limit → call.status ≢ status.Missing
      → (CanRun files task → ⊥) ↔ (call.status ≡ status.Refused)

-- What is promised of a call over files that are told.
pub record FilePromises (call : Call) (files : Files) : Type 0 where
  -- What the words and the files owe is what is paid: they owe one thing alone.
  pub only : (due : Due) → Owes call.words files due → IsDecided call → HasPaid call due
  -- A file that has no tree is refused, or a limit is told.
  pub unread :
      IsUnread call.words files → IsDecided call
      → (call.status ≡ status.Refused) ⊎ (call.status ≡ status.Limit)
  -- A job whose files are judged isn't refused by the steps that judge whether they are accepted exactly
  -- where they are: then the call says so, or its program is run or compiled.
  pub accepted : IsDecided call → IsAcceptedJob call.words files ↔ GoesBehind call
  -- A job `check` writes that its files are accepted, and ends with 0, exactly where they are.
  pub checked :
      (task : Task) → IsCheck call.words task → IsDecided call
      → Accepted files task.files ↔ HasPaid call accepted_due
  -- A job `explain` writes the lives of the variables of its files' program, and ends with 0, where the files
  -- are accepted, and it ends with 0 only there.
  pub explained :
      (task : Task) (all : List (List ℕ)) (reads : List ReadFile) → IsExplain call.words task → IsDecided call
      → AreAcceptedAs files task.files all reads → HasPaid call (explained_due (read_lives reads))
  pub explained_only :
      (task : Task) → IsExplain call.words task → call.status ≡ status.Success → Accepted files task.files
  -- A job `caps` writes the report on what the functions of its files' program can do with capabilities, and
  -- ends with 0, where the files are accepted, and it ends with 0 only there.
  pub reported :
      (task : Task) (all : List (List ℕ)) (reads : List ReadFile) → IsCaps call.words task → IsDecided call
      → (accepted : AreAcceptedAs files task.files all reads)
      → PaysReport call (program_modules reads) accepted.noted
  pub reported_only :
      (task : Task) → IsCaps call.words task → call.status ≡ status.Success → Accepted files task.files
  -- A job `format` writes the layout of its file, and ends with 0, where the file can be had and has a tree
  -- within the limits, and it ends with 0 only there.
  pub formatted :
      (name text : List ℕ) → IsFormat call.words name → IsDecided call → HasLayoutOf files name text
      → HasPaid call (laid_due text)
  pub formatted_only :
      (name : List ℕ) → IsFormat call.words name → call.status ≡ status.Success
      → (text : List ℕ) × HasLayoutOf files name text
  -- what is promised of a job `run`
  pub run : (task : Task) → IsRun call.words task → RunPromises call files task
  -- what is promised of a job `compile`
  pub compile : (task : Task) → IsCompile call.words task → CompilePromises call files task

-- What is promised of every call.
pub record Promises (call : Call) : Type 0 where
  -- What is due is paid, whole, unless a sink fails or memory runs out; or the program of the files is run,
  -- and its line is written.
  pub due : call.status ≢ status.WriteFault → call.status ≢ status.Memory → IsDone call
  -- what is promised where files are told
  pub told : (files : Files) → Tells call files → FilePromises call files
  -- 64 comes exactly where the words are no job.
  pub words : call.status ≡ status.Words → IsNoJob call.words
  pub no_job : IsNoJob call.words → IsDecided call → call.status ≡ status.Words
  -- 2 comes with the line of a refusal that the words or the files have, or of a program without such an
  -- entry that is to run or to be compiled.
  pub refused : call.status ≡ status.Refused → IsRefused call
  -- 8 comes with the line of a limit that is passed, and 9 with that of the first file that is missing.
  pub limit : call.status ≡ status.Limit → PassesLimit call
  pub missing_file : call.status ≡ status.Missing → MissesFile call
  -- 0 and 1 come by what the program returns, and 0 where it's checked and accepted, or where the lives of
  -- its variables are told, or what it can do with capabilities, or its C text is written, or its file is
  -- laid out.
  pub success : call.status ≡ status.Success → Succeeds call
  pub failure : call.status ≡ status.Failure → ReportsRun call (how.Exit false)
  -- 3 comes by an abort, whose cause its line tells, and 4 where the steps of the run were spent.
  pub abort : call.status ≡ status.Abort → Aborts call
  pub steps : call.status ≡ status.Steps → ReportsRun call how.Steps
  -- Where a sink failed, a front of what is due stands there, or of what the program writes, or of its line.
  pub write_fault : call.status ≡ status.WriteFault → LosesSink call
  -- Where memory ran out, nothing was written, or a run was broken off.
  pub memory : call.status ≡ status.Memory → LacksMemory call
  -- Where the shelf failed, it failed behind files that can be had; or the input failed while a program ran.
  pub read_fault : call.status ≡ status.ReadFault → LosesSource call × AreQuiet call.streams
  pub missing : call.status ≡ status.Missing → HasRisen call.shelf.old_misses call.shelf.new_misses
  -- A status that the words and the files decide says that no count of faults rose.
  pub quiet : IsDecided call → ShelfNeverFailed call × NeverFailed call.streams.input × AreQuiet call.streams
  pub no_miss : IsDecided call → call.status ≢ status.Missing → ShelfMissedNone call
  -- Where the words are no job, or ask for too many files, the shelf neither fails nor misses one.
  pub idle : IsNoJob call.words → ShelfNeverFailed call × ShelfMissedNone call
  pub crowded : AsksForTooMany call.words → ShelfNeverFailed call × ShelfMissedNone call
  -- The input is as it was, unless the files came to a program that is to run.
  pub input : HasStayed call.streams.input ⊎ HasProgram call
  -- The shelf tells the same files.
  pub files : call.shelf.new_files ≡ call.shelf.files
