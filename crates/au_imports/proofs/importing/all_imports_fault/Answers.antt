use Rattle.std.proofs.Common.{refl, ap, ◌∙◌}
use Rattle.au_imports.specs.Choices.{first_of}
use Rattle.au_imports.specs.Importers.{import_fault_in}
use Rattle.au_imports.specs.Written.{import_of, imports_of}
use Rattle.au_imports.proofs.DeclaringLemmas.{first_more, first_none, found_here, not_here, nowhere}
use Rattle.au_imports.proofs.NamingLemmas.{import_named}
use Rattle.au_imports.proofs.PassLemmas.{pass_none}
use Rattle.au_imports.proofs.importing.all_imports_fault.Goals as goal

pub returns-in-Some : goal.returns-in-Some
returns-in-Some c = λ m this.
    let f = import_fault_in c.args.importer.now m in
    let items = c.deref-import-items.result.now in
    found_here (λ xs. first_of f (imports_of xs)) (λ x. f (import_of x))
    (λ x xs. first_more f (import_of x) (imports_of xs)) items c.loop-import.import-index
    c.import-item.result _ c.in-Some.fault (first_of f (imports_of items)) c.loop-import-test.true
    c.import-item.is (c.loop-import.invariant.left m this) (c.in_ok-fault.ensures.import m this) c.in-Some.is
    ∙ ap (λ xs. first_of f (imports_of xs)) c.deref-import-items.ensures.value

pub loop-import-init : goal.loop-import-init
loop-import-init c = record {
  left = λ m this. refl;
  passed = pass_none c.args.importer.now c.new-passed.result c.new-passed.ensures;
}

pub loop-import-preserved : goal.loop-import-preserved
loop-import-preserved c = record {
  left = λ m this.
      let f = import_fault_in c.args.importer.now m in
      let items = c.deref-import-items.result.now in
      not_here (λ xs. first_of f (imports_of xs)) (λ x. f (import_of x))
      (λ x xs. first_more f (import_of x) (imports_of xs)) items c.loop-import.import-index
      c.import-item.result _ (first_of f (imports_of items)) c.loop-import-test.true c.import-item.is
      (c.loop-import.invariant.left m this) (c.in_ok-fault.ensures.import m this) c.in_default.is;
  passed = c.in_ok-fault.ensures.passed c.in_default.is;
}

pub returns : goal.returns
returns c = λ m this.
    let f = import_fault_in c.args.importer.now m in
    let items = c.deref-import-items.result.now in
    nowhere (λ xs. first_of f (imports_of xs)) (first_none f) items c.loop-import.import-index
    (first_of f (imports_of items)) c.loop-import-test.false (c.loop-import.invariant.left m this)
    ∙ ap (λ xs. first_of f (imports_of xs)) c.deref-import-items.ensures.value

pub import_fault-requires-clause-named : goal.import_fault-requires-clause-named
import_fault-requires-clause-named c =
    import_named c.args.imports.now.items c.deref-import-items.result.now c.loop-import.import-index
    c.import-item.result
    c.deref-import-items.ensures.value c.loop-import-test.true c.import-item.is c.requires.named
