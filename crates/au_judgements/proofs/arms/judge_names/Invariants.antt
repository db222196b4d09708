use Rattle.std.proofs.Common.{◌≡◌, drop}
use Rattle.au_typing.specs.DerivationSearch.{judge_names}
use Rattle.au_judgements.specs.Said.{heads_said}
use Rattle.au_noting.specs.Scopes.{scope_said}
use Rattle.au_judgements.proofs.arms.judge_names.Given as goal

-- each name so far means something, so those that are left decide
abbrev pub invariant-loop-arm : goal.invariant-loop-arm
invariant-loop-arm l =
    judge_names (scope_said l.scope) (heads_said l.arms) ≡ judge_names (scope_said l.scope)
    (heads_said (drop l.arm-index l.arms))
