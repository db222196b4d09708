-- What runs show of what is meant that were broken off, or that wait for a byte, and which code is stuck.
use Rattle.std.proofs.Common.{◌≡◌, ◌⊎◌, inl, inr, ℕ, Bool, false, List, ◌++◌, Option, None, Some, refl, subst}
use Rattle.std.specs.Prelude.{IsSomeAnd}
use Rattle.au_low.specs.Runs as low
use Rattle.au_low.specs.Runs.{low_run}
use Rattle.au_low.specs.declared.code.Code.{Code}
use Rattle.au_low.specs.declared.endings.Ending as low_endings
use Rattle.au_low.specs.declared.endings.Ending.TheVariants as low_ending
use Rattle.au_lowering.specs.Closed.{code_of}
use Rattle.au_meaning.specs.Laws.{Begins}
use Rattle.au_meaning.specs.Worlds.{Ending, Outcome, exit, abort, running, stuck}
use Rattle.au_meaning.proofs.Growing.{begins_refl}
use Rattle.au_runs.specs.Calls.{IsCut}
use Rattle.au_running.specs.Came.{CodeEnds}
use Rattle.au_running.specs.Fronts.{CutRunsWriteFronts, RunsWriteFronts, StuckRunsAreMeant, WaitingRunsShow}
use Rattle.au_running.specs.Fronts.{WaitsAsMeant, WritesFront}
use Rattle.au_running.specs.Meant.{means}
use Rattle.au_running.specs.Runs.{Refines, ran_by}
use Rattle.au_running.specs.Shown.{AnswerShows}
use Rattle.au_running.specs.declared.ran.Ran.{Ran}
use Rattle.au_running.specs.declared.ran.Ran.TheVariants as how
use Rattle.au_running.proofs.AnswerLemmas.{came_cut}
use Rattle.au_running.proofs.FrontLemmas.{front_of_whole}
use Rattle.au_running.proofs.MutedLemmas.{waited_muted}
use Rattle.au_running.proofs.RunLemmas.{runs_shown}
use Rattle.au_syntax.specs.Plain.{Bytes}

-- ---- endings

-- whether an ending is stuck
stuck_or_not : (end : Ending) → (end ≡ stuck) ⊎ (end ≡ stuck → ⊥)
stuck_or_not (exit success) = inr (λ h. cc)
stuck_or_not (abort fault) = inr (λ h. cc)
stuck_or_not running = inr (λ h. cc)
stuck_or_not stuck = inl refl

-- what a run shows was written begins what is meant
shown_begins : (ran : Ran) (meant : ℕ → Outcome) (limit : ℕ) (written left : List ℕ)
    → AnswerShows ran meant limit written left → Begins written (meant limit).world.output
shown_begins how.NoEntry meant limit written left shows = absurd shows
shown_begins (how.Limit passed) meant limit written left shows = absurd shows
shown_begins (how.Exit success) meant limit written left shows =
    subst (λ (all : List ℕ). Begins all (meant limit).world.output) shows.1.output
    (begins_refl (meant limit).world.output)
shown_begins (how.Abort words) meant limit written left shows =
    subst (λ (all : List ℕ). Begins all (meant limit).world.output) shows.1.output
    (begins_refl (meant limit).world.output)
shown_begins how.Steps meant limit written left shows = shows.to
shown_begins how.ReadFault meant limit written left shows = absurd shows
shown_begins how.WriteFault meant limit written left shows = absurd shows

-- so it is of a run of which something is answered
any_begins : (o : Option Ran) (meant : ℕ → Outcome) (limit : ℕ) (written left : List ℕ)
    → IsSomeAnd o (λ ran. AnswerShows ran meant limit written left) → Begins written (meant limit).world.output
any_begins None meant limit written left shows = absurd shows
any_begins (Some ran) meant limit written left shows = shown_begins ran meant limit written left shows

-- ---- of code each run of which shows what is meant

module _ (code : Code) (meant : List ℕ → ℕ → Outcome) (runs : Refines code meant) where
  cut_front : (steps : ℕ) (told out out' : Option (List ℕ)) → IsCut (low_run false code) steps told out out'
      → WritesFront meant steps told out out'
  cut_front steps told out out' cut = record {
    input = cut.input;
    given = cut.given;
    front = λ unstuck.
        let run = low_run false code cut.input steps in
        front_of_whole out out' run.output (meant cut.input steps).world.output
        (any_begins (ran_by code run.ending) (meant cut.input) steps run.output run.left
        (runs cut.input steps unstuck))
        cut.front;
  }

  waiting_shows : (life : Bool) (lines : Bytes) (steps : ℕ) (told left out out' : Option (List ℕ))
      → CodeEnds code life how.ReadFault lines steps told left out out'
      → WaitsAsMeant meant steps told left out out'
  waiting_shows life lines steps told left out out' came =
      let waited = waited_muted life code steps told left out out' came.events came.waits in
      record {
        taken = waited.taken;
        output = waited.output;
        made = waited.made;
        input = waited.input;
        written = waited.written;
        within = waited.within;
        so_far = λ rest unstuck.
            let input = waited.taken ++ rest in
            subst (λ (o : low.Outcome). IsSomeAnd (ran_by code o.ending)
            (λ ran. AnswerShows ran (meant input) waited.made o.output o.left)) (waited.so_far rest)
            (runs input waited.made unstuck);
      }

  stuck_meant : (input : List ℕ) (limit : ℕ) → (low_run false code input limit).ending ≡ low_ending.Stuck
      → (meant input limit).ending ≡ stuck
  stuck_meant input limit is = by (stuck_or_not (meant input limit).ending)
    where
      by : ((meant input limit).ending ≡ stuck) ⊎ ((meant input limit).ending ≡ stuck → ⊥)
          → (meant input limit).ending ≡ stuck
      by (inl so) = so
      by (inr unstuck) =
          let run = low_run false code input limit in
          absurd (subst (λ (end : low_endings.Ending). IsSomeAnd (ran_by code end)
          (λ ran. AnswerShows ran (meant input) limit run.output run.left)) is (runs input limit unstuck))

-- ---- of programs that are lowered

pub cut_runs_write_fronts : CutRunsWriteFronts
cut_runs_write_fronts program noted owner name c closes runnable =
    cut_front (code_of c) (means program noted closes.entry)
    (runs_shown program noted owner name c closes runnable)

pub runs_write_fronts : RunsWriteFronts
runs_write_fronts program noted owner name c closes runnable life ran lines steps told left out out' came =
    cut_runs_write_fronts program noted owner name c closes runnable steps told out out'
    (came_cut (code_of c) life ran lines steps told left out out' came)

pub waiting_runs_show : WaitingRunsShow
waiting_runs_show program noted owner name c closes runnable =
    waiting_shows (code_of c) (means program noted closes.entry)
    (runs_shown program noted owner name c closes runnable)

pub stuck_runs_are_meant : StuckRunsAreMeant
stuck_runs_are_meant program noted owner name c closes runnable =
    stuck_meant (code_of c) (means program noted closes.entry)
    (runs_shown program noted owner name c closes runnable)
