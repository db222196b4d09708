use Rattle.std.proofs.Common.{◌+◌, drop, is_some, ap, sym, ◌∙◌}
use Rattle.au_base.proofs.OptionLemmas.{or_there}
use Rattle.au_syntax.specs.contracts.parsed.ParsedPhase.TheImpl.{ghosts as parsed}
use Rattle.au_syntax.specs.Plain.{plain_declaration}
use Rattle.au_syntax.specs.Views.{declaration}
use Rattle.au_promises.specs.Promises as spec
use Rattle.au_promises.specs.Promises.{promise_fault_of}
use Rattle.au_promises.specs.Written.{declarations_of, declared_of, sight_in}
use Rattle.au_promises.proofs.DefinitionLemmas.{or_behind}
use Rattle.au_promises.proofs.PromiseLemmas.{unkept_next, unkept_end}
use Rattle.au_promises.proofs.finding.unkept.Goals as goal

pub returns-then-is_some : goal.returns-then-is_some
returns-then-is_some c =
    let sight = sight_in c.args.sight.now in
    let body = declarations_of c.args.decls.now.items in
    let items = c.deref-promise-items.result.now in
    let i = c.loop-promise.promise-index in
    let rest = spec.unkept sight body (declarations_of (drop (i + 1) items)) in
    c.in_ok-fault.ensures
    ∙ sym
    (c.loop-promise.invariant
    ∙ unkept_next sight body (plain_declaration parsed.name_bytes)
    (declaration parsed) items i c.promise-item.result c.loop-promise-test.true c.promise-item.is
    ∙ or_there (promise_fault_of sight body (declared_of c.promise-item.result)) rest
    (ap is_some (sym c.in_ok-fault.ensures) ∙ sym c.is_some.ensures ∙ c.if-is_some.true))
    ∙ ap (λ r. spec.unkept sight body (declarations_of r)) c.deref-promise-items.ensures.value

pub loop-promise-preserved : goal.loop-promise-preserved
loop-promise-preserved c =
    let sight = sight_in c.args.sight.now in
    let body = declarations_of c.args.decls.now.items in
    let items = c.deref-promise-items.result.now in
    let i = c.loop-promise.promise-index in
    let rest = spec.unkept sight body (declarations_of (drop (i + 1) items)) in
    c.loop-promise.invariant
    ∙ unkept_next sight body (plain_declaration parsed.name_bytes)
    (declaration parsed) items i c.promise-item.result c.loop-promise-test.true c.promise-item.is
    ∙ or_behind (promise_fault_of sight body (declared_of c.promise-item.result)) rest
    (ap is_some (sym c.in_ok-fault.ensures) ∙ sym c.is_some.ensures ∙ c.if-is_some.false)

pub returns : goal.returns
returns c =
    let sight = sight_in c.args.sight.now in
    let body = declarations_of c.args.decls.now.items in
    sym
    (ap (λ r. spec.unkept sight body (declarations_of r)) (sym c.deref-promise-items.ensures.value)
    ∙ c.loop-promise.invariant
    ∙ unkept_end sight body (plain_declaration parsed.name_bytes)
    (declaration parsed) c.deref-promise-items.result.now c.loop-promise.promise-index
    c.loop-promise-test.false)
