use Rattle.std.proofs.Common.{◌≡◌, ◌++◌, drop}
use Rattle.au_type_texts.specs.GivenViews.{given_said}
use Rattle.au_closed_trees.specs.TypeNames.{type_names}
use Rattle.au_closing.specs.Instances as spec
use Rattle.au_closing.proofs.rows.picked.Given as goal

-- what is picked so far, before what is left
abbrev pub invariant-loop-index : goal.invariant-loop-index
invariant-loop-index l =
    given_said l.made.items ++ spec.picked (given_said l.pairs) (type_names (drop l.index l.params))
    ≡ spec.picked (given_said l.pairs) (type_names l.params)
