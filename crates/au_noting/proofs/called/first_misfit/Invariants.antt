use Rattle.std.proofs.Common.{◌≡◌, drop}
use Rattle.au_typing.specs.Calls.{first_misfit}
use Rattle.au_noting.specs.Scopes.{scope_said}
use Rattle.au_noting.proofs.called.first_misfit.Given as goal

-- each value so far fits, so those that are left decide
abbrev pub invariant-loop-index : goal.invariant-loop-index
invariant-loop-index l = first_misfit (scope_said l.scope) l.s l.params ≡ first_misfit (scope_said l.scope)
    l.s (drop l.index l.params)
