use Rattle.std.proofs.Common.{◌≡◌, drop}
use Rattle.au_modules.specs.Slots as slots
use Rattle.au_imports.specs.NameFaults.{faults_from}
use Rattle.au_imports.proofs.finding.name_fault.Given as goal

-- what is left decides
abbrev pub invariant-loop-place : goal.invariant-loop-place
invariant-loop-place l = faults_from (slots.modules l.resolved) l.place
    (drop l.place (slots.modules l.resolved)) ≡ faults_from (slots.modules l.resolved) 0
    (slots.modules l.resolved)
