-- What is answered of a run of code.
use Rattle.std.specs.Prelude.{◌≡◌, ◌≢◌, ◌⊎◌, ℕ, Bool, true, false, IsTrue, List, Option, None, Some}
use Rattle.au_effects.specs.Worlds.{Deed}
use Rattle.au_low.specs.declared.code.Code.{Code}
use Rattle.au_low.specs.declared.endings.Ending.{Ending}
use Rattle.au_low.specs.declared.endings.Ending.TheVariants as ending
use Rattle.au_low.specs.Runs.{low_run}
use Rattle.au_runs.specs.Calls.{HasWaited, IsCut, IsMade}
use Rattle.au_runs.specs.declared.ends.End.{End}
use Rattle.au_runs.specs.declared.ends.End.TheVariants as end
use Rattle.au_running.specs.Lines.{told_lines}
use Rattle.au_running.specs.Runs.{kind_words, ran_by}
use Rattle.au_running.specs.declared.ran.Ran.{Ran}
use Rattle.au_running.specs.declared.ran.Ran.TheVariants as ran
use Rattle.au_syntax.specs.Plain.{Bytes}

-- Code is never stuck: whatever input comes, and however many steps its run may make.
abbrev pub IsNeverStuck : Code → Type 0
IsNeverStuck code = (input : List ℕ) (limit : ℕ) → (low_run false code input limit).ending ≢ ending.Stuck

-- what is answered of a run of code, by how the call of the machine ended: nothing where it is stuck
abbrev pub ran_of : Code → End → Option Ran
ran_of code (end.Exit success) = Some (ran.Exit success)
ran_of code (end.Abort why) = Some (ran.Abort (kind_words code why))
ran_of code end.Steps = Some ran.Steps
ran_of code end.Stuck = None
ran_of code end.ReadFault = Some ran.ReadFault
ran_of code end.WriteFault = Some ran.WriteFault

-- whether a call of the machine ended in another way than that its run is stuck
abbrev pub is_unstuck : End → Bool
is_unstuck end.Stuck = false
is_unstuck other = true

-- it ended by an abort
abbrev pub IsAbort : End → Type 0
IsAbort (end.Exit success) = ⊥
IsAbort (end.Abort why) = Unit {0}
IsAbort end.Steps = ⊥
IsAbort end.Stuck = ⊥
IsAbort end.ReadFault = ⊥
IsAbort end.WriteFault = ⊥

-- whether the events of a run are told that ended so, where they are asked for
abbrev pub is_told : Bool → End → Bool
is_told life (end.Exit success) = life
is_told life (end.Abort why) = life
is_told life end.Steps = life
is_told life end.Stuck = life
is_told life end.ReadFault = life
is_told life end.WriteFault = false

-- It takes memory to tell of a run that ended so: of an abort its words, and of events their lines.
abbrev pub NeedsMemory : Bool → End → Type 0
NeedsMemory life ended = IsAbort ended ⊎ IsTrue (is_told life ended)

-- A run of code was completed, for at most so many steps, and this is answered of how it ended: all that it
-- writes stands on the sink, and what it leaves of the input is what is left. These are the lines of its
-- events, where they are asked for.
pub record CodeCompletes (code : Code) (life : Bool) (ran : Ran) (lines : Bytes) (steps : ℕ)
    (told left out out' : Option (List ℕ)) : Type 0 where
  pub ending : Ending
  pub answer : ran_by code ending ≡ Some ran
  pub events : List (Deed ℕ)
  pub made : IsMade ending (low_run life code) steps told left out out' events
  pub tells : lines ≡ told_lines life code events

-- A run of code waits for a byte that couldn't be read, and these are the lines of its events so far, where
-- they are asked for.
pub record CodeWaits (code : Code) (life : Bool) (lines : Bytes) (steps : ℕ)
    (told left out out' : Option (List ℕ)) : Type 0 where
  pub events : List (Deed ℕ)
  pub waits : HasWaited (low_run life code) steps told left out out' events
  pub tells : lines ≡ told_lines life code events

-- A run of code, for at most so many steps, ended with this answer and these lines of its events: the run
-- waits for a byte that couldn't be read; a front of what it writes stands on a sink that failed; or it was
-- completed.
abbrev pub CodeEnds : Code → Bool → Ran → Bytes → ℕ → (told left out out' : Option (List ℕ)) → Type 0
CodeEnds code life ran.ReadFault lines steps told left out out' =
    CodeWaits code life lines steps told left out out'
CodeEnds code life ran.WriteFault lines steps told left out out' =
    IsCut (low_run false code) steps told out out'
CodeEnds code life other lines steps told left out out' =
    CodeCompletes code life other lines steps told left out out'
