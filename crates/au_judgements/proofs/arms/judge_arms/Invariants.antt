use Rattle.std.proofs.Common.{◌≡◌, drop}
use Rattle.au_typing.specs.DerivationSearch.{judge_arms}
use Rattle.au_judgements.specs.Said.{cases_said, heads_said}
use Rattle.au_noting.specs.Scopes.{scope_said}
use Rattle.au_judgements.proofs.arms.judge_arms.Given as goal

-- each arm so far is for a case and binds its fields, so those that are left decide
abbrev pub invariant-loop-arm : goal.invariant-loop-arm
invariant-loop-arm l =
    judge_arms (scope_said l.scope) (cases_said l.all) (heads_said l.arms)
    ≡ judge_arms (scope_said l.scope) (cases_said l.all) (heads_said (drop l.arm-index l.arms))
