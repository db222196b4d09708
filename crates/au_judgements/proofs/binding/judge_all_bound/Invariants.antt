use Rattle.std.proofs.Common.{◌≡◌, drop}
use Rattle.au_typing.specs.DerivationSearch.{judge_all_bound}
use Rattle.au_judgements.specs.Said.{binds_said}
use Rattle.au_noting.specs.Said.{all_typed}
use Rattle.au_noting.specs.Scopes.{scope_said}
use Rattle.au_judgements.proofs.binding.judge_all_bound.Given as goal

-- each field that is bound is well bound so far, so those that are left decide
abbrev pub invariant-loop-bind : goal.invariant-loop-bind
invariant-loop-bind l =
    judge_all_bound (scope_said l.scope) (all_typed l.fields) (binds_said l.binds)
    ≡ judge_all_bound (scope_said l.scope) (all_typed l.fields) (binds_said (drop l.bind-index l.binds))
