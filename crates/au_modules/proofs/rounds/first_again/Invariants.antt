use Rattle.std.proofs.Common.{◌≡◌, [], drop, take}
use Rattle.au_modules.specs.Programs as spec
use Rattle.au_modules.proofs.rounds.first_again.Given as goal

-- what is left decides, behind what was visited
abbrev pub invariant-loop-index : goal.invariant-loop-index
invariant-loop-index l = spec.first_again (take l.index l.givens.items) (drop l.index l.givens.items)
    ≡ spec.first_again [] l.givens.items
