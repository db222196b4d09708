use Rattle.std.proofs.Common.{◌<◌, ◌≤◌, length, sym, ap, ◌∙◌, arith}
use Rattle.au_modules.specs.Slots as slots
use Rattle.au_imports.specs.NameFaults.{faults_from}
use Rattle.au_imports.proofs.FindingLemmas.{faults_step, faults_found, faults_end}
use Rattle.au_imports.proofs.OfferLemmas.{module_there}
use Rattle.au_imports.proofs.finding.name_fault.Goals as goal

pub returns-in-Some : goal.returns-in-Some
returns-in-Some c =
    let program = slots.modules c.args.resolved.now in
    let place = c.loop-place.place in
    let within : place < length program = omega (
      arith,
      c.loop-place-test.true,
      c.len-place-end.ensures,
      ap (λ r. length (slots.modules r)) c.modules-2.ensures,
    ) in
    let there = module_there program place within in
    faults_found program (faults_from program 0 program) place there.0 c.in-Some.fault there.1
    (sym c.in-Some.is ∙ c.in_ok-fault.ensures there.0 there.1) c.loop-place.invariant

pub loop-place-preserved : goal.loop-place-preserved
loop-place-preserved c =
    let program = slots.modules c.args.resolved.now in
    let place = c.loop-place.place in
    let within : place < length program = omega (
      arith,
      c.loop-place-test.true,
      c.len-place-end.ensures,
      ap (λ r. length (slots.modules r)) c.modules-2.ensures,
    ) in
    let there = module_there program place within in
    faults_step program (faults_from program 0 program) place there.0 there.1
    (sym c.in_default.is ∙ c.in_ok-fault.ensures there.0 there.1) c.loop-place.invariant

pub returns : goal.returns
returns c =
    let program = slots.modules c.args.resolved.now in
    let past : length program ≤ c.loop-place.place =
    omega (
      arith,
      c.loop-place-test.false,
      c.len-place-end.ensures,
      ap (λ r. length (slots.modules r)) c.modules-2.ensures,
    ) in
    faults_end program (faults_from program 0 program) c.loop-place.place past c.loop-place.invariant
