-- What runs show of what is meant that were broken off, or that wait for a byte which couldn't be read, and
-- which code is stuck.
use Rattle.std.specs.Prelude.{◌≡◌, ℕ, ◌<◌, Bool, false, List, ◌++◌, Option, IfSome}
use Rattle.std.specs.Option.{option_map}
use Rattle.au_base.specs.Outside.{Adds, AddsFront}
use Rattle.au_lowering.specs.Programs.{ClosedProgram, Closes}
use Rattle.au_typing.specs.Trees.{NotedParts}
use Rattle.au_low.specs.Runs.{low_run}
use Rattle.au_low.specs.declared.code.Code.{Code}
use Rattle.au_low.specs.declared.endings.Ending.TheVariants as ending
use Rattle.au_lowering.specs.Closed.{code_of}
use Rattle.au_meaning.specs.Worlds.{Outcome, stuck}
use Rattle.au_modules.specs.Programs.{ModuleParts}
use Rattle.au_running.specs.Came.{CodeEnds}
use Rattle.au_running.specs.Meant.{means}
use Rattle.au_running.specs.Runs.{IsRunnable}
use Rattle.au_running.specs.Shown.{IsCutOff}
use Rattle.au_running.specs.declared.ran.Ran.{Ran}
use Rattle.au_running.specs.declared.ran.Ran.TheVariants as ran
use Rattle.au_runs.specs.Calls.{IsCut}
use Rattle.au_syntax.specs.Plain.{Bytes}

-- ---- what is shown

-- A front of what is meant on the input within so many ticks was written, unless that is stuck.
pub record WritesFront (meant : List ℕ → ℕ → Outcome) (ticks : ℕ) (told out out' : Option (List ℕ))
    : Type 0 where
  pub input : List ℕ
  pub given : IfSome told (λ bytes. bytes ≡ input)
  pub front :
      ((meant input ticks).ending ≡ stuck → ⊥) → AddsFront out out' (meant input ticks).world.output

-- Bytes were taken in fewer steps than the most, and all that was written is, whatever bytes follow, what is
-- seen of what is meant when just these steps are spent, unless that is stuck within as many ticks.
pub record WaitsAsMeant (meant : List ℕ → ℕ → Outcome) (most : ℕ) (told left out out' : Option (List ℕ))
    : Type 0 where
  pub taken : List ℕ
  pub output : List ℕ
  pub made : ℕ
  pub input : told ≡ option_map (λ bytes. taken ++ bytes) left
  pub written : Adds out out' output
  pub within : made < most
  pub so_far : (rest : List ℕ) → ((meant (taken ++ rest) made).ending ≡ stuck → ⊥)
      → IsCutOff (meant (taken ++ rest)) made output

-- ---- of which programs

-- P holds of the code that a program is lowered to and of what the program means from its entry, where its
-- runs are spoken of: of an `IsLowered`, where the program is derived and its declarations are good.
abbrev pub OfLoweredPrograms : (Code → (List ℕ → ℕ → Outcome) → Type 0) → Type 0
OfLoweredPrograms P =
    (program : List ModuleParts) (noted : List NotedParts) (owner name : Bytes) (c : ClosedProgram)
    → (closes : Closes program noted owner name c) → IsRunnable program noted
    → P (code_of c) (means program noted closes.entry)

-- ---- the laws

-- Whatever is answered of a run, a front of what is meant within as many ticks as it may make steps was
-- written.
abbrev pub RunsWriteFronts : Type 0
RunsWriteFronts = OfLoweredPrograms (λ code meant.
    (life : Bool) (ran : Ran) (lines : Bytes) (steps : ℕ) (told left out out' : Option (List ℕ))
    → CodeEnds code life ran lines steps told left out out' → WritesFront meant steps told out out')

-- So it was where a run was cut off, by a sink that failed or since memory ran out.
abbrev pub CutRunsWriteFronts : Type 0
CutRunsWriteFronts = OfLoweredPrograms (λ code meant.
    (steps : ℕ) (told out out' : Option (List ℕ))
    → IsCut (low_run false code) steps told out out' → WritesFront meant steps told out out')

-- Where a byte couldn't be read, all that a run had written is what is meant so far, whatever bytes follow.
abbrev pub WaitingRunsShow : Type 0
WaitingRunsShow = OfLoweredPrograms (λ code meant.
    (life : Bool) (lines : Bytes) (steps : ℕ) (told left out out' : Option (List ℕ))
    → CodeEnds code life ran.ReadFault lines steps told left out out'
    → WaitsAsMeant meant steps told left out out')

-- A run of code that is stuck is one of a meaning that is stuck within as many ticks as it may make steps.
abbrev pub StuckRunsAreMeant : Type 0
StuckRunsAreMeant = OfLoweredPrograms (λ code meant.
    (input : List ℕ) (limit : ℕ)
    → (low_run false code input limit).ending ≡ ending.Stuck → (meant input limit).ending ≡ stuck)
