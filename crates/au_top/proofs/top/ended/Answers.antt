-- What was answered for what was found, or why it wasn't found.
use Rattle.std.proofs.Common.{map, refl}
use Rattle.std.specs.String.{string_bytes}
use Rattle.au_top.specs.Calls.{shelf_of}
use Rattle.au_top.specs.Streams.{streams}
use Rattle.au_top.proofs.AnsweredLemmas.{answered, unanswered}
use Rattle.au_top.proofs.ArisesLemmas.{arises_outcome}
use Rattle.au_top.proofs.SoundLemmas.{arises_safe}
use Rattle.au_top.proofs.top.ended.Goals as goal

pub answer-requires-clause-outcome : goal.answer-requires-clause-outcome
answer-requires-clause-outcome g c =
    let found = c.in-Ok.ensures.arises in
    arises_outcome (map string_bytes c.args.words.now) found.0 (map string_bytes c.in-Ok.asked.files.items)
    c.in-Ok.outcome found.2

pub answer-requires-clause-safe : goal.answer-requires-clause-safe
answer-requires-clause-safe g c =
    let found = c.in-Ok.ensures.arises in
    arises_safe c.accepted_programs_are_sound.ensures (map string_bytes c.args.words.now) found.0
    (map string_bytes c.in-Ok.asked.files.items) c.in-Ok.outcome found.2

pub returns-in-Ok-clause-ends : goal.returns-in-Ok-clause-ends
returns-in-Ok-clause-ends g c =
    answered (map string_bytes c.args.words.now)
    (shelf_of g.S.Shelf c.args.shelf.now c.outcome_of.new.shelf)
    (streams g.I.Source g.O.Sink g.E.Sink c.args.input.now c.answer.new.input c.args.out.now c.answer.new.out
    c.args.err.now c.answer.new.err)
    c.answer.result
    (map string_bytes c.in-Ok.asked.files.items) c.in-Ok.outcome c.in-Ok.asked.entry c.in-Ok.asked.steps c.in-Ok.asked.life
    c.in-Ok.ensures.arises c.in-Ok.ensures.asked c.in-Ok.ensures.faults c.in-Ok.ensures.misses
    c.answer.ensures.pays c.answer.ensures.quiet c.answer.ensures.fails c.answer.ensures.kept
    c.answer.ensures.runs c.answer.ensures.compiles
    c.status_of.result c.status_of.ensures

pub returns-in-Err-clause-ends : goal.returns-in-Err-clause-ends
returns-in-Err-clause-ends g c =
    unanswered (map string_bytes c.args.words.now)
    (shelf_of g.S.Shelf c.args.shelf.now c.outcome_of.new.shelf)
    (streams g.I.Source g.O.Sink g.E.Sink c.args.input.now c.args.input.now c.args.out.now c.args.out.now
    c.args.err.now c.fault_status.new.err)
    c.in-Err.fault c.fault_status.result c.in-Err.ensures.stops c.in-Err.ensures.faults c.fault_status.ensures
    (refl, refl) (refl, refl)
