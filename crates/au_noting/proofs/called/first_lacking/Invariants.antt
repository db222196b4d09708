use Rattle.std.proofs.Common.{◌≡◌, drop}
use Rattle.au_typing.specs.Calls.{first_lacking}
use Rattle.au_noting.specs.Scopes.{scope_said}
use Rattle.au_noting.proofs.called.first_lacking.Given as goal

-- nothing so far lacks, so those that are left decide
abbrev pub invariant-loop-one : goal.invariant-loop-one
invariant-loop-one l = first_lacking (scope_said l.scope) l.s l.pairs ≡ first_lacking (scope_said l.scope) l.s
    (drop l.one-index l.pairs)
