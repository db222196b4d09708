-- What words and files come to, and what is due for it.
use Rattle.std.specs.Prelude.{IsTrue, ◌≡◌, ℕ, ◌<◌, ◌≤◌, List, [], length, slice_get, Option, None, Some}
use Rattle.au_base.specs.declared.statuses.Status.{Status}
use Rattle.au_base.specs.declared.statuses.Status.TheVariants as status
use Rattle.au_base.specs.Outside.{Files}
use Rattle.au_outcomes.specs.Caps.Lines.{report_text}
use Rattle.au_outcomes.specs.Explain.Lines.{life_text}
use Rattle.au_outcomes.specs.Lives.{Lives}
use Rattle.au_outcomes.specs.Report.{Report}
use Rattle.au_words.specs.Jobs.{Task, IsJob, IsNoJob}
use Rattle.au_words.specs.declared.jobs.Command.TheVariants as command
use Rattle.au_outcomes.specs.Lines.{words_line, accepted_line, missing_line, limit_line, refusal_line}
use Rattle.au_accepted.specs.Accepted.{Accepted}
use Rattle.au_outcomes.specs.Outcomes.{Comes, judges}
use Rattle.au_accepted.specs.Files.{AreFiles, most_files}
use Rattle.au_outcomes.specs.Trees.{HasNoTree, HasTokens}
use Rattle.au_outcomes.specs.declared.outcomes.Outcome.{Outcome}
use Rattle.au_outcomes.specs.declared.outcomes.Outcome.TheVariants as outcome
use Rattle.au_top.specs.Jobs.{asked_of}

-- When words and files come to an outcome: the words are no job, or they are a job whose files come to it, by
-- what it asks of them.
abbrev pub Arises : List (List ℕ) → Files → List (List ℕ) → Outcome → Type 0
Arises words files names outcome.NoJob = IsNoJob words
Arises words files names other =
    (task : Task) × IsJob words task × (names ≡ task.files) × Comes (asked_of task) files names other

-- The words ask for more files than a program may have.
abbrev pub AsksForTooMany : List (List ℕ) → Type 0
AsksForTooMany words = (task : Task) × IsJob words task × (most_files < length task.files)

-- what a call owes: how it ends, and what it writes to `out` and to `err`
pub record Due : Type 0 where
  pub status : Status
  pub out : List ℕ
  pub err : List ℕ

-- what is due for a line on `err`
abbrev pub due_line : Status → List ℕ → Due
due_line ends text = record { status = ends; out = []; err = text }

-- what is due for a program that is accepted, where no more is asked
abbrev pub accepted_due : Due
accepted_due = record { status = status.Success; out = accepted_line; err = [] }

-- what is due for a program that is accepted, where the lives of its variables are told
abbrev pub explained_due : Lives → Due
explained_due lives = record { status = status.Success; out = life_text lives; err = [] }

-- what is due for a file that is laid out
abbrev pub laid_due : List ℕ → Due
laid_due text = record { status = status.Success; out = text; err = [] }

-- what is due for a program that is accepted, where it is told what it can do with capabilities
abbrev pub reported_due : Report → Due
reported_due report = record { status = status.Success; out = report_text report; err = [] }

-- what is due for each outcome, but for a program that is to run, which owes what its run does, and for one
-- that is to be compiled, which owes what is due for its code
abbrev pub due_of : List (List ℕ) → Outcome → Option Due
due_of names outcome.NoJob = Some (due_line status.Words words_line)
due_of names (outcome.Missing name) = Some (due_line status.Missing (missing_line name))
due_of names (outcome.Passes limit) = Some (due_line status.Limit (limit_line limit))
due_of names (outcome.Refused refusal) = Some (due_line status.Refused (refusal_line names refusal))
due_of names outcome.Accepted = Some accepted_due
due_of names (outcome.Explained lives) = Some (explained_due lives)
due_of names (outcome.Laid text) = Some (laid_due text)
due_of names (outcome.Reported report) = Some (reported_due report)
due_of names (outcome.Runs program) = None
due_of names (outcome.Compiles program) = None

-- The call with these words, over these files, owes this.
abbrev pub Owes : List (List ℕ) → Files → Due → Type 0
Owes words files due =
    (names : List (List ℕ)) × (arisen : Outcome) × Arises words files names arisen
    × (due_of names arisen ≡ Some due)

-- The words are a job, its files can be had and are few enough, and one of them is cut into tokens within the
-- limits, which have no tree.
abbrev pub IsUnread : List (List ℕ) → Files → Type 0
IsUnread words files =
    (task : Task) × IsJob words task × (length task.files ≤ most_files)
    × (all : List (List ℕ)) × AreFiles files task.files all
    × (file : ℕ) × (bytes : List ℕ) × (slice_get all file ≡ Some bytes) × HasTokens file bytes HasNoTree

-- The words are a job that asks for its files to be judged, and these are accepted.
abbrev pub IsAcceptedJob : List (List ℕ) → Files → Type 0
IsAcceptedJob words files =
    (task : Task) × IsJob words task × Accepted files task.files × IsTrue (judges (asked_of task))

-- The words are this job, a `check`.
abbrev pub IsCheck : List (List ℕ) → Task → Type 0
IsCheck words task = IsJob words task × (task.command ≡ command.Check)

-- The words are this job, an `explain`.
abbrev pub IsExplain : List (List ℕ) → Task → Type 0
IsExplain words task = IsJob words task × (task.command ≡ command.Explain)

-- The words are this job, a `caps`.
abbrev pub IsCaps : List (List ℕ) → Task → Type 0
IsCaps words task = IsJob words task × (task.command ≡ command.Caps)

-- The words are this job, a `run`.
abbrev pub IsRun : List (List ℕ) → Task → Type 0
IsRun words task = IsJob words task × (task.command ≡ command.Run)

-- The words are this job, a `compile`.
abbrev pub IsCompile : List (List ℕ) → Task → Type 0
IsCompile words task = IsJob words task × (task.command ≡ command.Compile)
