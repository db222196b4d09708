-- The line that there is no such entry.
use Rattle.std.proofs.Common.{[], ◌∙◌, refl}
use Rattle.std.proofs.lemmas.Result.{err_from_is_err_and}
use Rattle.au_base.specs.declared.statuses.Status.TheVariants as status
use Rattle.au_outcomes.specs.Lines.{refusal_line}
use Rattle.au_outcomes.specs.declared.refusals.Refusal.TheVariants as refusal
use Rattle.au_top.specs.Streams.{Streams, sink_of}
use Rattle.au_top.proofs.SinkLemmas.{line_pays}
use Rattle.au_top.proofs.compiling.say_no_entry.Goals as goal

pub returns-in_err-line : goal.returns-in_err-line
returns-in_err-line g c =
    let p = err_from_is_err_and c.from_residual.result c.from_residual.ensures.1 in
    rw (p.1, p.2) (λ input out stayed. record { out = stayed; err = (refl, refl) })

pub returns : goal.returns
returns g c = λ input out stayed.
    let s : Streams = record {
      input = input;
      out = out;
      err = sink_of g.E.Sink c.args.err.now c.say.new.err;
    } in
    line_pays c.say.result status.Refused (refusal_line [] (refusal.Entry c.args.entry)) c.as_slice.result.now s stayed
    (c.as_slice.ensures.value ∙ c.in_ok-line.ensures) c.say.ensures.ok c.say.ensures.written
    c.say.ensures.quiet c.say.ensures.write c.say.ensures.front c.say.ensures.risen
