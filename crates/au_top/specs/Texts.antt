-- What is due where a program is compiled.
use Rattle.std.specs.Prelude.{◌≡◌, ℕ, false, List, [], Result, Ok, Err, Option, Some, None}
use Rattle.au_base.specs.declared.names.Entry.{Entry}
use Rattle.au_base.specs.declared.statuses.Status.TheVariants as status
use Rattle.au_base.specs.Outside.{Files}
use Rattle.au_running.specs.Answers.{ClosesWithin}
use Rattle.au_running.specs.Programs.{ClosedProgram}
use Rattle.au_cprint.specs.Programs.{c_text}
use Rattle.au_low.specs.declared.code.Code.{Code}
use Rattle.au_running.specs.Closed.{is_too_long}
use Rattle.au_modules.specs.declared.modules.Modules.{Modules}
use Rattle.au_modules.specs.Slots as slots
use Rattle.au_outcomes.specs.NotingPrograms.Faults.{IsDerived}
use Rattle.au_outcomes.specs.Lines.{limit_line, refusal_line}
use Rattle.au_outcomes.specs.Outcomes.{Comes}
use Rattle.au_outcomes.specs.declared.outcomes.Aim.TheVariants as aims
use Rattle.au_outcomes.specs.declared.outcomes.Outcome.TheVariants as outcome
use Rattle.au_outcomes.specs.declared.refusals.Refusal.TheVariants as refusal
use Rattle.au_running.specs.Coded.{IsProgramCode, TellsNoLimit}
use Rattle.au_running.specs.declared.coding.Uncoded.{Uncoded}
use Rattle.au_running.specs.declared.coding.Uncoded.TheVariants as uncoded
use Rattle.au_top.specs.Dues.{Due, IsCompile, due_line}
use Rattle.au_top.specs.Runs.{FromEntry, Run, entry_of, run_of}
use Rattle.au_typing.specs.Trees.{NotedParts}
use Rattle.au_words.specs.Jobs.{Task}

-- what is due for code that is written as C text
abbrev pub text_due : Code → Due
text_due code = record { status = status.Success; out = c_text code; err = [] }

-- what is due where there is no code, by the entry: the line that there is no such entry, or that of the
-- limit; nothing where memory ran out
abbrev pub uncoded_due : Entry → Uncoded → Option Due
uncoded_due entry uncoded.NoEntry = Some (due_line status.Refused (refusal_line [] (refusal.Entry entry)))
uncoded_due entry (uncoded.Limit limit) = Some (due_line status.Limit (limit_line limit))
uncoded_due entry uncoded.Memory = None

-- what is due by what is answered of the code
abbrev pub coded_due : Entry → Result Code Uncoded → Option Due
coded_due entry (Ok code) = Some (text_due code)
coded_due entry (Err why) = uncoded_due entry why

-- This is answered of the code of the program of a run from its entry: the code that a run of it would run;
-- that there is no such entry, or a limit that is passed. No limit is told where none is.
pub record IsCoded (run : Run) (answer : Result Code Uncoded) : Type 0 where
  pub code : FromEntry run (λ program noted owner name. IsProgramCode program noted owner name answer)
  pub exact :
      (noted : List NotedParts) (c : ClosedProgram) → IsDerived run.program noted
      → ClosesWithin run.program noted (entry_of run).«module» (entry_of run).function c
      → is_too_long c ≡ false → TellsNoLimit answer

-- The words are a `compile`, its files come to a program that is to be compiled, and this is due for what is
-- answered of its code.
pub record OwesText (words : List (List ℕ)) (files : Files) (due : Due) : Type 0 where
  pub task : Task
  pub job : IsCompile words task
  pub program : Modules
  pub comes : Comes aims.Compile files task.files (outcome.Compiles program)
  pub answer : Result Code Uncoded
  pub coded : IsCoded (run_of task (slots.modules program)) answer
  pub is_due : coded_due (entry_of (run_of task (slots.modules program))) answer ≡ Some due
