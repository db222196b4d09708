use Rattle.std.proofs.Common.{◌≡◌, drop, max}
use Rattle.au_lowered.specs.Statements.{count_of_cases}
use Rattle.au_lowering_statements.specs.Views.{starts_said}
use Rattle.au_lowering_statements.proofs.arms.count_of_cases.Given as goal

-- the number so far, and that of the arms that are left, are that of all
abbrev pub invariant-loop-one : goal.invariant-loop-one
invariant-loop-one l =
    max l.count (count_of_cases (starts_said (drop l.one-index l.one-items)))
    ≡ count_of_cases (starts_said l.one-items)
