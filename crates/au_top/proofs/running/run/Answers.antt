-- What was done by how the run ended, and by which step memory ran out in.
use Rattle.std.proofs.Common.{refl, sym, ◌∙◌}
use Rattle.std.proofs.lemmas.Result.{err_from_is_err_and}
use Rattle.au_modules.specs.Slots as slots
use Rattle.au_top.specs.Runs.{Run}
use Rattle.au_top.specs.Streams.{Streams, streams}
use Rattle.au_top.proofs.RunLemmas.{has_ran, idle_stopped, run_cut, run_said, run_stopped}
use Rattle.au_top.proofs.SoundLemmas.{safe_from}
use Rattle.au_top.proofs.running.run.Goals as goal

pub returns-in_err-entry : goal.returns-in_err-entry
returns-in_err-entry g c =
    let p = err_from_is_err_and c.from_residual.result c.from_residual.ensures.1 in
    let run : Run = record {
      named = c.args.asked.now.entry;
      steps = c.args.asked.now.steps;
      life = c.args.asked.now.life;
      program = slots.modules c.args.program.now;
    } in
    let s : Streams = streams g.I.Source g.O.Sink g.E.Sink c.args.input.now c.args.input.now c.args.out.now
    c.args.out.now c.args.err.now c.args.err.now in
    rw (p.1, p.2) (idle_stopped run s refl (refl, refl) refl)

pub returns-in_err-report : goal.returns-in_err-report
returns-in_err-report g c =
    let p = err_from_is_err_and c.from_residual-in_err-report.result c.from_residual-in_err-report.ensures.1 in
    let run : Run = record {
      named = c.args.asked.now.entry;
      steps = c.args.asked.now.steps;
      life = c.args.asked.now.life;
      program = slots.modules c.args.program.now;
    } in
    let s : Streams = streams g.I.Source g.O.Sink g.E.Sink c.args.input.now c.run_program.new.input
    c.args.out.now c.run_program.new.out c.args.err.now c.args.err.now in
    rw (p.1, p.2)
    (run_stopped run s c.in_ok-entry.entry c.in_ok-entry.ensures c.in_err-report.ensures.broken (refl, refl)
    c.in_err-report.ensures.still)

pub returns-then-is_cut : goal.returns-then-is_cut
returns-then-is_cut g c =
    let run : Run = record {
      named = c.args.asked.now.entry;
      steps = c.args.asked.now.steps;
      life = c.args.asked.now.life;
      program = slots.modules c.args.program.now;
    } in
    let s : Streams = streams g.I.Source g.O.Sink g.E.Sink c.args.input.now c.run_program.new.input
    c.args.out.now c.run_program.new.out c.args.err.now c.args.err.now in
    run_cut run s c.in_ok-report.report.ran c.in_ok-report.report.events.items (sym c.is_cut.ensures ∙ c.if-is_cut.true)
    (has_ran run s c.in_ok-entry.entry c.in_ok-report.report.ran c.in_ok-report.report.events.items
    c.in_ok-entry.ensures c.in_ok-report.ensures.ran)
    c.in_ok-report.ensures.written (refl, refl)

pub returns : goal.returns
returns g c =
    let run : Run = record {
      named = c.args.asked.now.entry;
      steps = c.args.asked.now.steps;
      life = c.args.asked.now.life;
      program = slots.modules c.args.program.now;
    } in
    let s : Streams = streams g.I.Source g.O.Sink g.E.Sink c.args.input.now c.run_program.new.input
    c.args.out.now c.run_program.new.out c.args.err.now c.say_ran.new.err in
    run_said run s c.say_ran.result c.in_ok-entry.entry c.in_ok-report.report.ran
    c.in_ok-report.report.events.items c.in_ok-entry.ensures
    (sym c.is_cut.ensures ∙ c.if-is_cut.false)
    (has_ran run s c.in_ok-entry.entry c.in_ok-report.report.ran c.in_ok-report.report.events.items
    c.in_ok-entry.ensures c.in_ok-report.ensures.ran)
    c.in_ok-report.ensures.read c.in_ok-report.ensures.written c.say_ran.ensures.ok c.say_ran.ensures.written
    c.say_ran.ensures.quiet c.say_ran.ensures.front c.say_ran.ensures.risen c.say_ran.ensures.memory

-- It is safe to run from its entry.
pub run_program-requires : goal.run_program-requires
run_program-requires g c = safe_from (slots.modules c.args.program.now) c.requires _ _
