use Rattle.std.proofs.Common.{◌≡◌, drop, map}
use Rattle.std.specs.Option.{option_copied}
use Rattle.au_judgements.specs.Said.{cases_said}
use Rattle.au_judgements.specs.Steps.{each_has_one_arm}
use Rattle.au_judgements.proofs.arms.each_has_one_arm.Given as goal

-- each case so far has one arm, so those that are left decide
abbrev pub invariant-loop-one : goal.invariant-loop-one
invariant-loop-one l =
    each_has_one_arm (map option_copied l.all_meant) (cases_said l.all)
    ≡ each_has_one_arm (map option_copied l.all_meant) (cases_said (drop l.one-index l.all))
