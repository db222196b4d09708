use Rattle.std.proofs.Common.{◌≡◌, drop, map}
use Rattle.std.specs.Option.{option_copied}
use Rattle.au_judgements.specs.Said.{cases_said}
use Rattle.au_judgements.specs.Steps.{each_is_for_one}
use Rattle.au_judgements.proofs.arms.each_is_for_one.Given as goal

-- each name so far is that of one of the cases, so those that are left decide
abbrev pub invariant-loop-meant : goal.invariant-loop-meant
invariant-loop-meant l =
    each_is_for_one (cases_said l.all) (map option_copied l.all_meant)
    ≡ each_is_for_one (cases_said l.all) (map option_copied (drop l.meant-index l.all_meant))
