use Rattle.std.proofs.Common.{◌≡◌, drop}
use Rattle.au_judgements.specs.Said.{cases_said}
use Rattle.au_judgements.specs.Steps.{case_of_target}
use Rattle.au_judgements.proofs.arms.case_of_target.Given as goal

-- no case so far is the one, so those that are left decide
abbrev pub invariant-loop-one : goal.invariant-loop-one
invariant-loop-one l = case_of_target (cases_said l.all) l.meant
    ≡ case_of_target (cases_said (drop l.one-index l.all)) l.meant
