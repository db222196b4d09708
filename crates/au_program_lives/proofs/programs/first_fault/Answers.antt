use Rattle.std.proofs.Common.{ap, ◌∙◌}
use Rattle.au_formed.specs.Said.{spot_said, spots_said}
use Rattle.au_formed.specs.Text.{text}
use Rattle.au_formed.proofs.TextLemmas.{said_among, spot_within}
use Rattle.au_modules.specs.Slots as slots
use Rattle.au_imports.specs.Choices.{first_of}
use Rattle.au_imports.proofs.DeclaringLemmas.{first_more, first_none, found_here, not_here, nowhere}
use Rattle.au_program_lives.specs.LinearFaults.{declaration_fault}
use Rattle.au_program_lives.proofs.programs.first_fault.Goals as goal

pub spot_fault-requires : goal.spot_fault-requires
spot_fault-requires c =
    let program = slots.modules c.args.resolved.now in
    let one = c.one-item.result in
    spot_within program (spot_said one)
    (said_among spot_said c.deref-one-items.result.now (text program) c.loop-one.one-index one
    (ap spots_said c.deref-one-items.ensures.value ∙ c.requires) c.loop-one-test.true c.one-item.is)

pub returns-in-Some : goal.returns-in-Some
returns-in-Some c =
    let f = declaration_fault (slots.modules c.args.resolved.now) in
    let items = c.deref-one-items.result.now in
    found_here (λ ss. first_of f (spots_said ss)) (λ s. f (spot_said s))
    (λ s ss. first_more f (spot_said s) (spots_said ss))
    items c.loop-one.one-index c.one-item.result c.in_ok-fault.field-0 c.in-Some.fault (first_of f (spots_said items))
    c.loop-one-test.true c.one-item.is c.loop-one.invariant c.in_ok-fault.ensures c.in-Some.is
    ∙ ap (first_of f) (ap spots_said c.deref-one-items.ensures.value ∙ c.requires)

pub loop-one-preserved : goal.loop-one-preserved
loop-one-preserved c =
    let f = declaration_fault (slots.modules c.args.resolved.now) in
    let items = c.deref-one-items.result.now in
    not_here (λ ss. first_of f (spots_said ss)) (λ s. f (spot_said s))
    (λ s ss. first_more f (spot_said s) (spots_said ss))
    items c.loop-one.one-index c.one-item.result c.in_ok-fault.field-0 (first_of f (spots_said items))
    c.loop-one-test.true c.one-item.is c.loop-one.invariant c.in_ok-fault.ensures c.in-None.is

pub returns : goal.returns
returns c =
    let f = declaration_fault (slots.modules c.args.resolved.now) in
    let items = c.deref-one-items.result.now in
    nowhere (λ ss. first_of f (spots_said ss)) (first_none f) items c.loop-one.one-index (first_of f (spots_said items))
    c.loop-one-test.false c.loop-one.invariant
    ∙ ap (first_of f) (ap spots_said c.deref-one-items.ensures.value ∙ c.requires)
