use Rattle.std.proofs.Common.{ap, ◌∙◌}
use Rattle.au_promises.specs.Said.{methods_said}
use Rattle.au_imports.specs.Choices.{first_of}
use Rattle.au_imports.proofs.DeclaringLemmas.{first_more, first_none, found_here, not_here, nowhere}
use Rattle.au_program_lives.specs.LinearFaults.{method_fault}
use Rattle.au_program_lives.specs.ProgramSaid.{method_said, scope_of}
use Rattle.au_program_lives.proofs.functions.methods_fault.Goals as goal

pub returns-in-Some : goal.returns-in-Some
returns-in-Some c =
    let f = method_fault (scope_of c.args.params.now c.args.visible.now) in
    let items = c.deref-one-items.result.now in
    found_here (λ ms. first_of f (methods_said ms)) (λ m. f (method_said m))
    (λ m ms. first_more f (method_said m) (methods_said ms))
    items c.loop-one.one-index c.one-item.result c.in_ok-fault.field-0 c.in-Some.fault (first_of f (methods_said items))
    c.loop-one-test.true c.one-item.is c.loop-one.invariant c.in_ok-fault.ensures c.in-Some.is
    ∙ ap (λ ms. first_of f (methods_said ms)) c.deref-one-items.ensures.value

pub loop-one-preserved : goal.loop-one-preserved
loop-one-preserved c =
    let f = method_fault (scope_of c.args.params.now c.args.visible.now) in
    let items = c.deref-one-items.result.now in
    not_here (λ ms. first_of f (methods_said ms)) (λ m. f (method_said m))
    (λ m ms. first_more f (method_said m) (methods_said ms))
    items c.loop-one.one-index c.one-item.result c.in_ok-fault.field-0 (first_of f (methods_said items))
    c.loop-one-test.true c.one-item.is c.loop-one.invariant c.in_ok-fault.ensures c.in-None.is

pub returns : goal.returns
returns c =
    let f = method_fault (scope_of c.args.params.now c.args.visible.now) in
    let items = c.deref-one-items.result.now in
    nowhere (λ ms. first_of f (methods_said ms)) (first_none f) items c.loop-one.one-index
    (first_of f (methods_said items))
    c.loop-one-test.false c.loop-one.invariant
    ∙ ap (λ ms. first_of f (methods_said ms)) c.deref-one-items.ensures.value
