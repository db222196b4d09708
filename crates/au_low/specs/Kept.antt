-- What keeping events changes of a run.
use Rattle.std.specs.Prelude.{◌≡◌, ℕ, true, false, List, []}
use Rattle.au_low.specs.declared.code.Code.{Code}
use Rattle.au_low.specs.Runs.{Outcome, low_run}

-- an outcome without its events
abbrev pub without_events : Outcome → Outcome
without_events outcome = record outcome { events = [] }

-- a run whose events aren't kept is the run whose events are, but for the events
abbrev pub KeepingChangesEventsAlone : Type 0
KeepingChangesEventsAlone = (code : Code) (input : List ℕ) (limit : ℕ)
    → low_run false code input limit ≡ without_events (low_run true code input limit)
