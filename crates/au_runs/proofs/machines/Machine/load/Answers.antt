-- The events are those before the first step.
use Rattle.std.proofs.Common.{ℕ, true, List, ap}
use Rattle.au_effects.specs.Worlds.{Deed}
use Rattle.au_low.specs.Runs.{first}
use Rattle.au_runs.specs.Loaded.{Loaded}
use Rattle.au_runs.proofs.BeginLemmas.{begun_deeds}
use Rattle.au_runs.proofs.machines.Machine.load.Goals as goal

pub returns : goal.returns
returns c =
    let code = c.args.code.now in
    let With : List (Deed ℕ) → Loaded = λ events.
    record { code = code; keeps = c.args.keep; fresh = true; events = events } in
    ap With (begun_deeds code c.in_ok-state.state (first c.args.keep code) c.in_ok-state.ensures)
