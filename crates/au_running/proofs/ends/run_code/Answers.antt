-- The machine is loaded with this code, and keeps its events where they are asked for.
use Rattle.std.proofs.Common.{◌≡◌, ℕ, Bool, false, List, Some, IfOk, subst}
use Rattle.std.proofs.lemmas.Result.{IfOk-weaker, on_err_weaker}
use Rattle.au_base.proofs.OutsideLemmas.{on_err}
use Rattle.au_effects.specs.Worlds.{Deed}
use Rattle.au_low.specs.Runs.{low_run}
use Rattle.au_runs.specs.Calls.{IsCut, Rose, Says}
use Rattle.au_runs.specs.Loaded.{Loaded}
use Rattle.au_running.specs.Came.{is_told, ran_of}
use Rattle.au_running.specs.Lines.{told_lines}
use Rattle.au_running.specs.Ran.{is_read_fault, is_write_fault}
use Rattle.au_running.specs.declared.ran.Report.{Report}
use Rattle.au_running.proofs.AnswerLemmas.{read_told, report_came, said_cut, said_unstuck, told_quiet, told_still}
use Rattle.au_running.proofs.AnswerLemmas.{write_told}
use Rattle.au_running.proofs.FrontLemmas.{unbegun_cut}
use Rattle.au_running.proofs.MutedLemmas.{cut_muted}
use Rattle.au_running.proofs.ends.run_code.Goals as goal

pub returns-in_err-machine-clause-cut : goal.returns-in_err-machine-clause-cut
returns-in_err-machine-clause-cut g c =
    on_err c.from_residual.result
    (unbegun_cut (low_run false c.args.code.now) c.args.steps (g.I.Source.left c.args.input.now)
    (g.O.Sink.written c.args.out.now))

pub returns-in_err-end-clause-cut : goal.returns-in_err-end-clause-cut
returns-in_err-end-clause-cut g c =
    on_err c.from_residual-in_err-end.result
    (cut_muted c.args.life c.args.code.now c.args.steps (g.I.Source.left c.args.input.now)
    (g.O.Sink.written c.args.out.now) (g.O.Sink.written c.run.new.out)
    (subst (λ (m : Loaded). IsCut (low_run m.keeps m.code) c.args.steps (g.I.Source.left c.args.input.now)
    (g.O.Sink.written c.args.out.now) (g.O.Sink.written c.run.new.out)) c.in_ok-machine.ensures
    c.in_err-end.ensures.cut))

pub returns-in_err-end-clause-still : goal.returns-in_err-end-clause-still
returns-in_err-end-clause-still g c =
    on_err c.from_residual-in_err-end.result c.in_err-end.ensures.quiet.1

pub returns-in_err-end-clause-quiet : goal.returns-in_err-end-clause-quiet
returns-in_err-end-clause-quiet g c =
    on_err c.from_residual-in_err-end.result (λ none. c.in_err-end.ensures.quiet.0)

pub report_of-requires : goal.report_of-requires
report_of-requires g c =
    let told = g.I.Source.left c.args.input.now in
    let left = g.I.Source.left c.run.new.input in
    let out = g.O.Sink.written c.args.out.now in
    let out' = g.O.Sink.written c.run.new.out in
    let events = c.run.new.self.events in
    let ended = c.in_ok-end.end in
    said_unstuck c.args.code.now c.args.life ended c.args.steps told left out out' events c.requires
    (subst (λ (m : Loaded). Says ended (low_run m.keeps m.code) c.args.steps told left out out' events)
    c.in_ok-machine.ensures c.in_ok-end.ensures.says)

pub returns-clause-came : goal.returns-clause-came
returns-clause-came g c =
    let code = c.args.code.now in
    let ended = c.in_ok-end.end in
    let told = g.I.Source.left c.args.input.now in
    let left = g.I.Source.left c.run.new.input in
    let out = g.O.Sink.written c.args.out.now in
    let out' = g.O.Sink.written c.run.new.out in
    let events = c.run.new.self.events in
    report_came c.report_of.result code c.args.life ended c.args.steps told left out out' events
    (subst (λ (m : Loaded). Says ended (low_run m.keeps m.code) c.args.steps told left out out' events)
    c.in_ok-machine.ensures c.in_ok-end.ensures.says)
    c.report_of.ensures.ran
    (subst (λ (all : List (Deed ℕ)). IfOk c.report_of.result (λ (report : Report). report.events.items
    ≡ told_lines (is_told c.args.life ended) code all)) c.events.ensures c.report_of.ensures.lines)

pub returns-clause-read : goal.returns-clause-read
returns-clause-read g c =
    let code = c.args.code.now in
    let ended = c.in_ok-end.end in
    let reads = g.I.Source.faults c.args.input.now in
    let reads' = g.I.Source.faults c.run.new.input in
    IfOk-weaker c.report_of.result (λ (report : Report). ran_of code ended ≡ Some report.ran)
    (λ (report : Report). Rose (is_read_fault report.ran) reads reads')
    (λ report is. subst (λ (failed : Bool). Rose failed reads reads') (read_told code ended report.ran is)
    c.in_ok-end.ensures.read)
    c.report_of.ensures.ran

pub returns-clause-written : goal.returns-clause-written
returns-clause-written g c =
    let code = c.args.code.now in
    let ended = c.in_ok-end.end in
    let writes = g.O.Sink.faults c.args.out.now in
    let writes' = g.O.Sink.faults c.run.new.out in
    IfOk-weaker c.report_of.result (λ (report : Report). ran_of code ended ≡ Some report.ran)
    (λ (report : Report). Rose (is_write_fault report.ran) writes writes')
    (λ report is. subst (λ (failed : Bool). Rose failed writes writes') (write_told code ended report.ran is)
    c.in_ok-end.ensures.written)
    c.report_of.ensures.ran

pub returns-clause-cut : goal.returns-clause-cut
returns-clause-cut g c =
    let ended = c.in_ok-end.end in
    let told = g.I.Source.left c.args.input.now in
    let left = g.I.Source.left c.run.new.input in
    let out = g.O.Sink.written c.args.out.now in
    let out' = g.O.Sink.written c.run.new.out in
    let events = c.run.new.self.events in
    on_err_weaker c.report_of.result
    (λ needs. said_cut c.args.code.now c.args.life ended c.args.steps told left out out' events
    (subst (λ (m : Loaded). Says ended (low_run m.keeps m.code) c.args.steps told left out out' events)
    c.in_ok-machine.ensures c.in_ok-end.ensures.says))
    c.report_of.ensures.words

pub returns-clause-still : goal.returns-clause-still
returns-clause-still g c =
    on_err_weaker c.report_of.result
    (told_still c.args.life c.in_ok-end.end (g.O.Sink.faults c.args.out.now)
    (g.O.Sink.faults c.run.new.out) c.in_ok-end.ensures.written)
    c.report_of.ensures.words

pub returns-clause-quiet : goal.returns-clause-quiet
returns-clause-quiet g c =
    on_err_weaker c.report_of.result
    (told_quiet c.args.life c.in_ok-end.end (g.I.Source.faults c.args.input.now)
    (g.I.Source.faults c.run.new.input) c.in_ok-end.ensures.read)
    c.report_of.ensures.words
