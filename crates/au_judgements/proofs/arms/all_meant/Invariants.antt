use Rattle.std.proofs.Common.{◌≡◌, ◌++◌, drop, map}
use Rattle.std.specs.Option.{option_copied}
use Rattle.au_judgements.specs.Said.{heads_said}
use Rattle.au_judgements.specs.Steps.{all_meant}
use Rattle.au_noting.specs.Scopes.{scope_said}
use Rattle.au_judgements.proofs.arms.all_meant.Given as goal

-- what the names so far mean, and then what the others mean, is what all mean
abbrev pub invariant-loop-arm : goal.invariant-loop-arm
invariant-loop-arm l =
    map option_copied l.all.items ++ all_meant (scope_said l.scope) (heads_said (drop l.arm-index l.arms))
    ≡ all_meant (scope_said l.scope) (heads_said l.arms)
