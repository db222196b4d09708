use Rattle.std.proofs.Common.{◌≡◌, drop, map}
use Rattle.au_closed_meanings.specs.Programs.{case_from}
use Rattle.au_lowering.specs.Views.{case_in}
use Rattle.au_lowering.proofs.rows.find_case.Given as goal

-- what is found is found among those that are left
abbrev pub invariant-loop-at : goal.invariant-loop-at
invariant-loop-at l =
    case_from l.at l.name (map case_in (drop l.at l.one-items))
    ≡ case_from 0 l.name (map case_in l.one-items)
