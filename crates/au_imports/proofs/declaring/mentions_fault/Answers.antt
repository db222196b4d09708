use Rattle.std.proofs.Common.{ap, ◌∙◌}
use Rattle.au_imports.specs.Choices.{first_of}
use Rattle.au_imports.specs.Declaring.{mention_fault_at}
use Rattle.au_imports.proofs.DeclaringLemmas.{first_more, first_none, found_here, not_here, nowhere}
use Rattle.au_imports.proofs.declaring.mentions_fault.Goals as goal

pub returns-in-Some : goal.returns-in-Some
returns-in-Some c =
    let f = mention_fault_at c.args.site.now c.args.params.now in
    let items = c.deref-one-items.result.now in
    found_here (first_of f) f (first_more f) items c.loop-one.one-index c.one-item.result
    c.in_ok-fault.field-0 c.in-Some.fault (first_of f items)
    c.loop-one-test.true c.one-item.is c.loop-one.invariant c.in_ok-fault.ensures c.in-Some.is
    ∙ ap (first_of f) c.deref-one-items.ensures.value

pub loop-one-preserved : goal.loop-one-preserved
loop-one-preserved c =
    let f = mention_fault_at c.args.site.now c.args.params.now in
    let items = c.deref-one-items.result.now in
    not_here (first_of f) f (first_more f) items c.loop-one.one-index c.one-item.result c.in_ok-fault.field-0
    (first_of f items)
    c.loop-one-test.true c.one-item.is c.loop-one.invariant c.in_ok-fault.ensures c.in-None.is

pub returns : goal.returns
returns c =
    let f = mention_fault_at c.args.site.now c.args.params.now in
    let items = c.deref-one-items.result.now in
    nowhere (first_of f) (first_none f) items c.loop-one.one-index
    (first_of f items) c.loop-one-test.false c.loop-one.invariant
    ∙ ap (first_of f) c.deref-one-items.ensures.value
