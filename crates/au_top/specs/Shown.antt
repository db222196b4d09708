-- What is seen of a run, by what its program means.
use Rattle.std.specs.Prelude.{◌≡◌, true, false, List, [], ◌++◌}
use Rattle.au_base.specs.declared.statuses.Status.{Status}
use Rattle.au_base.specs.declared.statuses.Status.TheVariants as status
use Rattle.au_syntax.specs.Plain.{Bytes}
use Rattle.au_typing.specs.Trees.{NotedParts}
use Rattle.au_outcomes.specs.Lines.{abort_line, steps_line}
use Rattle.au_outcomes.specs.NotingPrograms.Faults.{IsDerived}
use Rattle.au_running.specs.Answers.{ClosesWithin}
use Rattle.au_running.specs.Closed.{code_of}
use Rattle.au_running.specs.Follows.{KeepsStep}
use Rattle.au_running.specs.Meant.{means}
use Rattle.au_running.specs.Programs.{ClosedProgram}
use Rattle.au_running.specs.Ran.{LivesAsMeant, RunsAsMeant}
use Rattle.au_running.specs.declared.ran.Ran.{Ran}
use Rattle.au_running.specs.declared.ran.Ran.TheVariants as how
use Rattle.au_top.specs.Runs.{FromEntry, Run, entry_of}
use Rattle.au_top.specs.Streams.{Gains, Streams}

-- Where what the program of a run means from its entry has ended, on whatever input, after t ticks, a run
-- of the code that the program is lowered to ends after s steps, and t <= s <= 8 t.
abbrev pub IsInStep : Run → Type 0
IsInStep run =
    (noted : List NotedParts) (c : ClosedProgram) → IsDerived run.program noted
    → (closes : ClosesWithin run.program noted (entry_of run).«module» (entry_of run).function c)
    → KeepsStep (code_of c) (means run.program noted closes.closes.entry)

-- for a run, and the streams of the call
module _ (run : Run) (s : Streams) where
  -- This is answered of the run, and shows what its program means from its entry, on the input of the call.
  -- The lines of its events, which are none where they aren't asked for, and this line stand on `err`.
  pub record ShowsMeaning (ran : Ran) (line : Bytes) : Type 0 where
    pub meant :
        FromEntry run (λ program noted owner name. RunsAsMeant program noted owner name ran run.steps
        s.input.old s.input.new s.out.old s.out.new)
    pub lines : Bytes
    pub unasked : run.life ≡ false → lines ≡ []
    pub told : Gains s.err (lines ++ line)

  -- What a status of a call says of the run: it returned success or failure, aborted for the cause that its
  -- line tells, or spent its steps, of which its line tells the number.
  abbrev pub IsAsMeant : Status → Type 0
  IsAsMeant status.Success = ShowsMeaning (how.Exit true) []
  IsAsMeant status.Failure = ShowsMeaning (how.Exit false) []
  IsAsMeant status.Abort = (words : Bytes) × ShowsMeaning (how.Abort words) (abort_line words)
  IsAsMeant status.Steps = ShowsMeaning how.Steps (steps_line run.steps)
  IsAsMeant other = Unit {0}

  -- This is answered of the run, and the lines of its events, which show what the program means, stand on
  -- `err`, and behind them this line.
  pub record ShowsLives (ran : Ran) (line : Bytes) : Type 0 where
    pub lines : Bytes
    pub lives :
        FromEntry run (λ program noted owner name. LivesAsMeant program noted owner name ran lines run.steps
        s.input.old)
    pub told : Gains s.err (lines ++ line)

  -- What a status of a call says of the events of the run, where they are asked for.
  abbrev pub HasLives : Status → Type 0
  HasLives status.Success = ShowsLives (how.Exit true) []
  HasLives status.Failure = ShowsLives (how.Exit false) []
  HasLives status.Abort = (words : Bytes) × ShowsLives (how.Abort words) (abort_line words)
  HasLives status.Steps = ShowsLives how.Steps (steps_line run.steps)
  HasLives other = Unit {0}
