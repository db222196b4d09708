-- The line for words that are no job.
use Rattle.std.proofs.Common.{Option, IfErr, IfOk, IfSome, sym, ap, refl, subst, map}
use Rattle.std.specs.String.{string_bytes}
use Rattle.au_base.specs.declared.statuses.Status.TheVariants.{Words}
use Rattle.au_top.specs.Calls.{Pays, Fails}
use Rattle.au_outcomes.specs.Caps.Lines.{report_text}
use Rattle.au_outcomes.specs.Explain.Lines.{life_text}
use Rattle.au_outcomes.specs.Lines.{words_line}
use Rattle.au_top.specs.Dues.{due_of, Due}
use Rattle.au_top.specs.Streams.{Streams, streams}
use Rattle.au_top.proofs.SinkLemmas.{said_pays, said_fails, written_fails, written_pays}
use Rattle.au_top.proofs.answering.answer.Goals as goal

pub returns-in-NoJob-clause-pays : goal.returns-in-NoJob-clause-pays
returns-in-NoJob-clause-pays g c =
    let s : Streams = streams g.I.Source g.O.Sink g.E.Sink c.args.input.now c.args.input.now c.args.out.now
    c.args.out.now c.args.err.now c.say.new.err in
    let said = said_pays c.say.result Words words_line s (refl, refl) c.say.ensures.ok
    c.say.ensures.written in
    subst (λ (o : Option Due). IfSome o (λ due. IfOk c.say.result (λ e. Pays due e s)))
    (sym (ap (due_of (map string_bytes c.args.asked.now.files.items)) c.in-NoJob.is)) said

pub returns-in-NoJob-clause-fails : goal.returns-in-NoJob-clause-fails
returns-in-NoJob-clause-fails g c =
    let s : Streams = streams g.I.Source g.O.Sink g.E.Sink c.args.input.now c.args.input.now c.args.out.now
    c.args.out.now c.args.err.now c.say.new.err in
    let failed = said_fails c.say.result Words words_line s (refl, refl) c.say.ensures.write
    c.say.ensures.front c.say.ensures.risen in
    subst (λ (o : Option Due). IfSome o (λ due. IfErr c.say.result (λ e. Fails e due s)))
    (sym (ap (due_of (map string_bytes c.args.asked.now.files.items)) c.in-NoJob.is)) failed

-- The lives of variables.
pub returns-in-Explained-clause-pays : goal.returns-in-Explained-clause-pays
returns-in-Explained-clause-pays g c =
    let s : Streams = streams g.I.Source g.O.Sink g.E.Sink c.args.input.now c.args.input.now c.args.out.now
    c.put_lives.new.out c.args.err.now c.args.err.now in
    let told = written_pays c.put_lives.result (life_text c.in-Explained.lives) s (refl, refl)
    c.put_lives.ensures.ok c.put_lives.ensures.written in
    subst (λ (o : Option Due). IfSome o (λ due. IfOk c.put_lives.result (λ e. Pays due e s)))
    (sym (ap (due_of (map string_bytes c.args.asked.now.files.items)) c.in-Explained.is)) told

pub returns-in-Explained-clause-fails : goal.returns-in-Explained-clause-fails
returns-in-Explained-clause-fails g c =
    let s : Streams = streams g.I.Source g.O.Sink g.E.Sink c.args.input.now c.args.input.now c.args.out.now
    c.put_lives.new.out c.args.err.now c.args.err.now in
    let failed = written_fails c.put_lives.result (life_text c.in-Explained.lives) s (refl, refl)
    c.put_lives.ensures.front c.put_lives.ensures.risen c.put_lives.ensures.memory in
    subst (λ (o : Option Due). IfSome o (λ due. IfErr c.put_lives.result (λ e. Fails e due s)))
    (sym (ap (due_of (map string_bytes c.args.asked.now.files.items)) c.in-Explained.is)) failed

-- The report on capabilities.
pub returns-in-Reported-clause-pays : goal.returns-in-Reported-clause-pays
returns-in-Reported-clause-pays g c =
    let s : Streams = streams g.I.Source g.O.Sink g.E.Sink c.args.input.now c.args.input.now c.args.out.now
    c.put_report.new.out c.args.err.now c.args.err.now in
    let told = written_pays c.put_report.result (report_text c.in-Reported.report) s (refl, refl)
    c.put_report.ensures.ok c.put_report.ensures.written in
    subst (λ (o : Option Due). IfSome o (λ due. IfOk c.put_report.result (λ e. Pays due e s)))
    (sym (ap (due_of (map string_bytes c.args.asked.now.files.items)) c.in-Reported.is)) told

pub returns-in-Reported-clause-fails : goal.returns-in-Reported-clause-fails
returns-in-Reported-clause-fails g c =
    let s : Streams = streams g.I.Source g.O.Sink g.E.Sink c.args.input.now c.args.input.now c.args.out.now
    c.put_report.new.out c.args.err.now c.args.err.now in
    let failed = written_fails c.put_report.result (report_text c.in-Reported.report) s (refl, refl)
    c.put_report.ensures.front c.put_report.ensures.risen c.put_report.ensures.memory in
    subst (λ (o : Option Due). IfSome o (λ due. IfErr c.put_report.result (λ e. Fails e due s)))
    (sym (ap (due_of (map string_bytes c.args.asked.now.files.items)) c.in-Reported.is)) failed
