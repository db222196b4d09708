-- The layout that is written is the one that the file has.
use Rattle.std.proofs.Common.{◌∙◌, subst}
use Rattle.au_base.specs.Outside.{Adds, AddsFront}
use Rattle.au_format.proofs.LawLemmas.{one_layout}
use Rattle.au_format.proofs.layouts.layout.Goals as goal

pub returns-in_err-put_all-clause-front : goal.returns-in_err-put_all-clause-front
returns-in_err-put_all-clause-front g c = λ text is _.
    subst (AddsFront (g.O.Sink.written c.args.out.now) (g.O.Sink.written c.put_all.new.sink))
    (c.as_slice.ensures.value ∙ one_layout c.args.bytes.now c.in_ok-text.text.items text c.in_ok-text.ensures is)
    c.in_err-put_all.ensures.front

pub returns-clause-written : goal.returns-clause-written
returns-clause-written g c = λ text is.
    subst (Adds (g.O.Sink.written c.args.out.now) (g.O.Sink.written c.put_all.new.sink))
    (c.as_slice.ensures.value ∙ one_layout c.args.bytes.now c.in_ok-text.text.items text c.in_ok-text.ensures is)
    c.in_ok-put_all.ensures.written
