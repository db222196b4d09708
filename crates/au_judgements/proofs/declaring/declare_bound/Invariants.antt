use Rattle.std.proofs.Common.{◌≡◌, drop}
use Rattle.au_typing.specs.InScope.{with_bound}
use Rattle.au_judgements.specs.Said.{binds_said}
use Rattle.au_noting.specs.Scopes.{scope_said}
use Rattle.au_judgements.proofs.declaring.declare_bound.Given as goal

-- the fields so far are declared, before those that are left
abbrev pub invariant-loop-bind : goal.invariant-loop-bind
invariant-loop-bind l =
    with_bound (binds_said (drop l.bind-index l.binds)) (scope_said l.scope) ≡ with_bound (binds_said l.binds)
    (scope_said l.fn.scope)
