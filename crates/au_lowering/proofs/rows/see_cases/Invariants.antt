use Rattle.std.proofs.Common.{◌≡◌, map, take}
use Rattle.au_closed_trees.specs.Views.{cases_said}
use Rattle.au_lowering.specs.Views.{case_in}
use Rattle.au_lowering.specs.Closed.{case_seen}
use Rattle.au_lowering.proofs.rows.see_cases.Given as goal

-- the cases so far
abbrev pub invariant-loop-one : goal.invariant-loop-one
invariant-loop-one l =
    map case_in l.made.items ≡ map case_seen (cases_said (take l.one-index l.one-items))
