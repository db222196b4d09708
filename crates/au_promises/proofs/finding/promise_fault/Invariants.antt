use Rattle.std.proofs.Common.{◌≡◌, drop}
use Rattle.au_modules.specs.Slots as slots
use Rattle.au_promises.specs.Promises.{faults_from}
use Rattle.au_promises.proofs.finding.promise_fault.Given as goal

-- nothing is refused so far, so the modules that are left decide
abbrev pub invariant-loop-place : goal.invariant-loop-place
invariant-loop-place l = faults_from (slots.modules l.resolved) 0 (slots.modules l.resolved)
    ≡ faults_from (slots.modules l.resolved) l.place (drop l.place (slots.modules l.resolved))
