use Rattle.std.proofs.Common.{ap, ◌∙◌}
use Rattle.au_imports.specs.Choices.{first_of}
use Rattle.au_imports.specs.Importers.{item_fault_in}
use Rattle.au_imports.specs.Written.{item_of, items_of}
use Rattle.au_imports.proofs.DeclaringLemmas.{first_more, first_none, found_here, not_here, nowhere}
use Rattle.au_imports.proofs.importing.items_fault.Goals as goal

pub returns-in-Some-clause-items : goal.returns-in-Some-clause-items
returns-in-Some-clause-items c = λ m other this here.
    let f = item_fault_in c.args.importer.now m c.args.from other in
    let items = c.deref-item-items.result.now in
    found_here (λ xs. first_of f (items_of xs)) (λ x. f (item_of x))
    (λ x xs. first_more f (item_of x) (items_of xs)) items c.loop-item.item-index c.item-item.result _
    c.in-Some.fault (first_of f (items_of items)) c.loop-item-test.true c.item-item.is
    (c.loop-item.invariant.left m other this here) (c.in_ok-fault.ensures.item m other this here) c.in-Some.is
    ∙ ap (λ xs. first_of f (items_of xs)) c.deref-item-items.ensures.value

pub loop-item-preserved : goal.loop-item-preserved
loop-item-preserved c = record {
  left = λ m other this here.
      let f = item_fault_in c.args.importer.now m c.args.from other in
      let items = c.deref-item-items.result.now in
      not_here (λ xs. first_of f (items_of xs)) (λ x. f (item_of x))
      (λ x xs. first_more f (item_of x) (items_of xs)) items c.loop-item.item-index c.item-item.result _
      (first_of f (items_of items)) c.loop-item-test.true c.item-item.is
      (c.loop-item.invariant.left m other this here) (c.in_ok-fault.ensures.item m other this here)
      c.in_default.is;
  passed = c.in_ok-fault.ensures.passed c.in_default.is;
}

pub returns-clause-items : goal.returns-clause-items
returns-clause-items c = λ m other this here.
    let f = item_fault_in c.args.importer.now m c.args.from other in
    let items = c.deref-item-items.result.now in
    nowhere (λ xs. first_of f (items_of xs)) (first_none f) items c.loop-item.item-index
    (first_of f (items_of items)) c.loop-item-test.false (c.loop-item.invariant.left m other this here)
    ∙ ap (λ xs. first_of f (items_of xs)) c.deref-item-items.ensures.value
