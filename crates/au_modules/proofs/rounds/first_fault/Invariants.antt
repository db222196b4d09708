use Rattle.std.proofs.Common.{◌≡◌, drop, map}
use Rattle.au_modules.specs.Programs as spec
use Rattle.au_modules.proofs.rounds.first_fault.Given as goal

-- what is left decides
abbrev pub invariant-loop-one : goal.invariant-loop-one
invariant-loop-one l = spec.first_fault (map spec.entry (drop l.one-index l.one-items))
    ≡ spec.first_fault (map spec.entry l.one-items)
