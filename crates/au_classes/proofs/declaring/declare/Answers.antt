use Rattle.std.proofs.Common.{◌≡◌, [], ap, ◌∙◌}
use Rattle.au_modules.specs.Slots as slots
use Rattle.au_classes.specs.InstanceViews.{texts_said}
use Rattle.au_classes.specs.ClassViews.{known_rows, known_said}
use Rattle.au_classes.proofs.FaultLemmas.{none_refused, rows_known}
use Rattle.au_classes.proofs.GoodLemmas.{instances_good}
use Rattle.au_classes.proofs.declaring.declare.Goals as goal

pub returns-clause-instances : goal.returns-clause-instances
returns-clause-instances c =
    let known = c.admit_all.new.known in
    let start = known_said c.new-known.result in
    let none : start ≡ [] = ap (λ places. known_rows places c.new-known.result.rows) c.new-known.ensures.places in
    c.in_ok-classes_of-in-None.ensures.instances
    ∙ rows_known (slots.modules c.args.program.now) known.places.items known.rows start
    (texts_said c.in_ok-texts.texts.items) known.many none c.in_ok-texts.ensures
    (c.in_ok-fault.ensures.known c.in-None.is)

pub returns-clause-good : goal.returns-clause-good
returns-clause-good c =
    let start = known_said c.new-known.result in
    let none : start ≡ [] = ap (λ places. known_rows places c.new-known.result.rows) c.new-known.ensures.places in
    instances_good (slots.modules c.args.program.now)
    (none_refused (slots.modules c.args.program.now) start (texts_said c.in_ok-texts.texts.items)
    c.in_ok-fault.field-0 none c.in_ok-texts.ensures c.in_ok-fault.ensures.fault c.in-None.is)
