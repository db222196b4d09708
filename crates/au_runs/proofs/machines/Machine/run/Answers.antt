-- A fresh machine is in the state in which a run begins.
use Rattle.std.proofs.Common.{Option, IfOk, IsTrue, sym, subst}
use Rattle.au_low.specs.Machines.{Machine}
use Rattle.au_low.specs.Runs.{low_run}
use Rattle.au_runs.specs.Calls.{Says}
use Rattle.au_runs.specs.Loaded.{Loaded, deeds_of}
use Rattle.au_runs.specs.Steps.{runs_of}
use Rattle.au_runs.proofs.machines.Machine.run.Goals as goal

pub returns-clause-says : goal.returns-clause-says
returns-clause-says g c =
    let inside = c.self.inside in
    let result = c.run_state.result in
    let told = g.I.Source.left c.args.input.now in
    let left = g.I.Source.left c.run_state.new.input in
    let out = g.O.Sink.written c.args.out.now in
    let out' = g.O.Sink.written c.run_state.new.out in
    let events = deeds_of c.run_state.new.state in
    let fresh : IsTrue inside.fresh = subst (λ (m : Loaded). IsTrue m.fresh) (sym c.self.view_is) c.requires in
    subst (λ (m : Loaded). IfOk result
    (λ end. Says end (low_run m.keeps m.code) c.args.steps told left out out' events))
    c.self.view_is
    (subst (λ (m : Option Machine).
    IfOk result (λ end. Says end (runs_of inside.code.now m) c.args.steps told left out out' events))
    (c.self.invariant fresh) c.run_state.ensures.says)
