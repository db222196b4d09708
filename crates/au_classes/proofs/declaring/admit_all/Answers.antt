use Rattle.au_modules.specs.Slots as slots
use Rattle.au_classes.specs.ClassViews.{known_said}
use Rattle.au_classes.proofs.FaultLemmas.{admitted_all, admitted_next, admitted_none, refused_here}
use Rattle.au_classes.proofs.declaring.admit_all.Goals as goal

pub loop-text-init : goal.loop-text-init
loop-text-init c = admitted_none (slots.modules c.args.program.now) (known_said c.args.known.now)
    c.deref-text-items.result.now

pub loop-text-preserved : goal.loop-text-preserved
loop-text-preserved c =
    admitted_next (slots.modules c.args.program.now) (known_said c.args.known.now) c.args.texts.now.items
    c.deref-text-items.result.now c.loop-text.text-index (known_said c.loop-text.known)
    c.text-item.result c.in_ok-found.field-0 (known_said c.admit_text.new.known) c.loop-text.invariant
    c.loop-text-test.true c.text-item.is c.in_ok-found.ensures.fault c.in_default.is
    (c.in_ok-found.ensures.known c.in_default.is)

pub returns-in-Some-clause-fault : goal.returns-in-Some-clause-fault
returns-in-Some-clause-fault c =
    refused_here (slots.modules c.args.program.now) (known_said c.args.known.now) c.args.texts.now.items
    c.deref-text-items.result.now c.loop-text.text-index (known_said c.loop-text.known)
    c.text-item.result c.in_ok-found.field-0 c.in-Some.found c.loop-text.invariant
    c.deref-text-items.ensures.value c.loop-text-test.true c.text-item.is c.in_ok-found.ensures.fault
    c.in-Some.is

pub returns : goal.returns
returns c =
    let all = admitted_all (slots.modules c.args.program.now) (known_said c.args.known.now)
    c.args.texts.now.items c.deref-text-items.result.now c.loop-text.text-index
    (known_said c.loop-text.known)
    c.loop-text.invariant c.deref-text-items.ensures.value c.loop-text-test.false in
    record { fault = all.0; known = λ none. all.1 }
