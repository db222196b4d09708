-- What was paid by what was answered of the code.
use Rattle.std.proofs.Common.{Ok, Err, refl, subst}
use Rattle.std.proofs.lemmas.Result.{err_from_is_err_and}
use Rattle.au_base.specs.declared.names.Entry.{Entry}
use Rattle.au_modules.specs.Slots as slots
use Rattle.au_top.specs.Ends.{PaysFor}
use Rattle.au_top.specs.Runs.{Run}
use Rattle.au_top.specs.Streams.{Streams, sink_of}
use Rattle.au_top.specs.Texts.{uncoded_due}
use Rattle.au_top.proofs.CompiledLemmas.{is_coded, text_answers}
use Rattle.au_top.proofs.SinkLemmas.{text_pays}
use Rattle.au_top.proofs.compiling.compile.Goals as goal

pub returns-in_err-entry : goal.returns-in_err-entry
returns-in_err-entry g c =
    let p = err_from_is_err_and c.from_residual.result c.from_residual.ensures.1 in
    rw (p.1, p.2) (λ input. record { out = (refl, refl); err = (refl, refl) })

pub returns-in-Ok : goal.returns-in-Ok
returns-in-Ok g c = λ input.
    let run : Run = record {
      named = c.args.asked.now.entry;
      steps = c.args.asked.now.steps;
      life = c.args.asked.now.life;
      program = slots.modules c.args.program.now;
    } in
    let s : Streams = record {
      input = input;
      out = sink_of g.O.Sink c.args.out.now c.put_text.new.out;
      err = sink_of g.E.Sink c.args.err.now c.args.err.now;
    } in
    text_answers run s c.put_text.result (Ok c.in-Ok.code)
    (is_coded run c.in_ok-entry.entry (Ok c.in-Ok.code) c.in_ok-entry.ensures c.in-Ok.ensures.is
    c.in-Ok.ensures.exact)
    (text_pays c.put_text.result c.in-Ok.code s (refl, refl) c.put_text.ensures.ok c.put_text.ensures.written
    c.put_text.ensures.quiet c.put_text.ensures.front c.put_text.ensures.risen c.put_text.ensures.memory)

pub returns-in-Err : goal.returns-in-Err
returns-in-Err g c = λ input.
    let run : Run = record {
      named = c.args.asked.now.entry;
      steps = c.args.asked.now.steps;
      life = c.args.asked.now.life;
      program = slots.modules c.args.program.now;
    } in
    let s : Streams = record {
      input = input;
      out = sink_of g.O.Sink c.args.out.now c.args.out.now;
      err = sink_of g.E.Sink c.args.err.now c.say_uncoded.new.err;
    } in
    text_answers run s c.say_uncoded.result (Err c.in-Err.why)
    (is_coded run c.in_ok-entry.entry (Err c.in-Err.why) c.in_ok-entry.ensures c.in-Err.ensures.is
    c.in-Err.ensures.exact)
    (subst (λ (e : Entry). PaysFor c.say_uncoded.result (uncoded_due e c.in-Err.why) s) c.in_ok-entry.ensures
    (c.say_uncoded.ensures input s.out (refl, refl)))
