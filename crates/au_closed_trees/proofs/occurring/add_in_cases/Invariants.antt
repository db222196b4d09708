use Rattle.std.proofs.Common.{◌≡◌, ◌++◌, drop, false, map}
use Rattle.au_type_texts.specs.Views.{closed_meaning}
use Rattle.au_closed_trees.specs.Occurring.{counts_in, occurring_in_cases}
use Rattle.au_closed_trees.specs.Views.{cases_said}
use Rattle.au_closed_trees.proofs.occurring.add_in_cases.Given as goal

-- what is found so far, before what is left
abbrev pub invariant-loop-one : goal.invariant-loop-one
invariant-loop-one l =
    map closed_meaning l.found.items
    ++ occurring_in_cases (counts_in false l.heads) (cases_said (drop l.one-index l.one-items))
    ≡ map closed_meaning l.fn.found.items ++ occurring_in_cases (counts_in false l.heads) (cases_said l.one-items)
