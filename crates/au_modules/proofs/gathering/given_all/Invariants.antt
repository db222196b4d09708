use Rattle.std.proofs.Common.{◌≡◌, take, map}
use Rattle.au_modules.specs.Programs as spec
use Rattle.au_modules.proofs.gathering.given_all.Given as goal

-- what was visited
abbrev pub invariant-loop-one : goal.invariant-loop-one
invariant-loop-one l = l.givens.items ≡ map spec.given (map spec.entry (take l.one-index l.one-items))
