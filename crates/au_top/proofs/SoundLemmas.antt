-- Accepted programs are safe to run.
use Rattle.std.proofs.Common.{◌≡◌, ℕ, List, refl, subst, sym}
use Rattle.au_base.specs.Outside.{Files}
use Rattle.au_syntax.specs.Plain.{Bytes}
use Rattle.au_modules.specs.Programs.{ModuleParts}
use Rattle.au_modules.specs.Slots as slots
use Rattle.au_judged_programs.specs.Sound.{AcceptedProgramsAreSound}
use Rattle.au_accepted.specs.Accepted.{AreAcceptedAs}
use Rattle.au_accepted.specs.Programs.{program_modules}
use Rattle.au_accepted.specs.Trees.{ReadFile}
use Rattle.au_outcomes.specs.declared.outcomes.Aim.TheVariants as aims
use Rattle.au_outcomes.specs.declared.outcomes.Outcome.{Outcome}
use Rattle.au_outcomes.specs.declared.outcomes.Outcome.TheVariants as outcome
use Rattle.au_outcomes.proofs.AcceptedLemmas.{behind_accepted}
use Rattle.au_running.specs.Follows.{LoweredProgramsKeepStep}
use Rattle.au_running.specs.Ran.{IsSafeFrom}
use Rattle.au_top.specs.Dues.{Arises}
use Rattle.au_top.specs.Runs.{Run, entry_of}
use Rattle.au_top.specs.Shown.{IsInStep}
use Rattle.au_top.specs.Sound.{AllRunsAreSound, IsSafe, RunsSafely}
use Rattle.au_top.proofs.DueLemmas.{run_modules, runs_run}

-- a program that is safe to run is so from each entry
pub safe_from : (program : List ModuleParts) → IsSafe program → (owner name : Bytes) → IsSafeFrom program owner name
safe_from program safe owner name = record {
  declared = safe.declared;
  unstuck = λ noted derived entry root begins input ticks.
      (safe.sound noted derived owner name entry root begins input ticks).goes_on;
}

-- a program that is safe to run keeps step
pub safe_in_step : LoweredProgramsKeepStep → (run : Run) → IsSafe run.program → IsInStep run
safe_in_step law run safe noted c derived closes =
    law run.program noted _ _ c closes.closes (record { derived = derived; declared = safe.declared })
    ((safe_from run.program safe _ _).unstuck noted derived closes.closes.entry c.root closes.closes.begins_there)

-- where accepted programs are sound
module _ (law : AcceptedProgramsAreSound) where
  -- the program of accepted files is safe to run
  pub accepted_safe : (files : Files) (names all : List (List ℕ)) (reads : List ReadFile)
      → AreAcceptedAs files names all reads → IsSafe (program_modules reads)
  accepted_safe files names all reads good = record {
    declared = good.declared;
    sound = λ noted derived. law files names all reads (record {
      few = good.few;
      had = good.had;
      read = good.read;
      program = good.program;
      named = good.named;
      kept = good.kept;
      declared = good.declared;
      instances = good.instances;
      noted = noted;
      derives = derived;
      lives = good.lives;
    });
  }

  -- and so is one that words and files come to, and that is to run
  pub arises_safe : (words : List (List ℕ)) (files : Files) (names : List (List ℕ)) (arisen : Outcome)
      → Arises words files names arisen → RunsSafely arisen
  arises_safe words files names outcome.NoJob h = tt
  arises_safe words files names (outcome.Missing name) h = tt
  arises_safe words files names (outcome.Passes limit) h = tt
  arises_safe words files names (outcome.Refused refusal) h = tt
  arises_safe words files names outcome.Accepted h = tt
  arises_safe words files names (outcome.Explained lives) h = tt
  arises_safe words files names (outcome.Laid text) h = tt
  arises_safe words files names (outcome.Reported report) h = tt
  arises_safe words files names (outcome.Runs program) h =
      let run = runs_run words files names program h in
      let comes = run.2 in
      let good = behind_accepted aims.Run files run.0.files (outcome.Runs program) comes refl in
      subst IsSafe (sym (run_modules files run.0.files good.0 good.1 program good.2 comes))
      (accepted_safe files run.0.files good.0 good.1 good.2)
  arises_safe words files names (outcome.Compiles program) h = tt
