use Rattle.std.proofs.Common.{◌≡◌, drop}
use Rattle.au_typing.specs.Calls.{first_unfixed}
use Rattle.au_noting.proofs.called.first_unfixed.Given as goal

-- each type parameter so far is fixed, so the others decide
abbrev pub invariant-loop-index : goal.invariant-loop-index
invariant-loop-index l = first_unfixed l.s l.params ≡ first_unfixed l.s (drop l.index l.params)
