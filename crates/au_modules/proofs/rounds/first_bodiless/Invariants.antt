use Rattle.std.proofs.Common.{◌≡◌, drop, find}
use Rattle.au_modules.specs.Programs as spec
use Rattle.au_modules.proofs.rounds.first_bodiless.Given as goal

-- what is left decides
abbrev pub invariant-loop-one : goal.invariant-loop-one
invariant-loop-one l = find (spec.lacks_body l.givens.items) (drop l.one-index l.one-items)
    ≡ find (spec.lacks_body l.givens.items) l.givens.items
