use Rattle.std.proofs.Common.{◌<◌, ◌≤◌, ◌+◌, drop, length, ap, sym, ◌∙◌, arith}
use Rattle.au_base.proofs.OptionLemmas.{or_there}
use Rattle.au_modules.specs.Slots as slots
use Rattle.au_promises.specs.Promises.{faults_from}
use Rattle.au_promises.proofs.DefinitionLemmas.{or_behind}
use Rattle.au_promises.proofs.PromiseLemmas.{faults_next, faults_end}
use Rattle.au_promises.proofs.finding.promise_fault.Goals as goal

pub returns-then-is_some : goal.returns-then-is_some
returns-then-is_some c =
    let program = slots.modules c.args.resolved.now in
    let place = c.loop-place.place in
    let many = c.len-place-end.ensures ∙ ap (λ m. length (slots.modules m)) c.modules.ensures in
    let within : place < length program = omega (arith, many, c.loop-place-test.true) in
    let rest = faults_from program (place + 1) (drop (place + 1) program) in
    sym
    (c.loop-place.invariant
    ∙ faults_next program place c.in_ok-fault.fault within c.in_ok-fault.ensures
    ∙ or_there c.in_ok-fault.fault rest (sym c.is_some.ensures ∙ c.if-is_some.true))

pub loop-place-preserved : goal.loop-place-preserved
loop-place-preserved c =
    let program = slots.modules c.args.resolved.now in
    let place = c.loop-place.place in
    let many = c.len-place-end.ensures ∙ ap (λ m. length (slots.modules m)) c.modules.ensures in
    let within : place < length program = omega (arith, many, c.loop-place-test.true) in
    let rest = faults_from program (place + 1) (drop (place + 1) program) in
    c.loop-place.invariant
    ∙ faults_next program place c.in_ok-fault.fault within c.in_ok-fault.ensures
    ∙ or_behind c.in_ok-fault.fault rest (sym c.is_some.ensures ∙ c.if-is_some.false)

pub returns : goal.returns
returns c =
    let program = slots.modules c.args.resolved.now in
    let place = c.loop-place.place in
    let many = c.len-place-end.ensures ∙ ap (λ m. length (slots.modules m)) c.modules.ensures in
    let past : length program ≤ place = omega (arith, many, c.loop-place-test.false) in
    sym (c.loop-place.invariant ∙ faults_end program place past)
