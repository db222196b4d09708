use Rattle.std.proofs.Common.{◌≡◌, ◌++◌, drop, map}
use Rattle.au_type_texts.specs.Views.{closed_meaning}
use Rattle.au_type_texts.specs.GivenViews.{given_said}
use Rattle.au_closed_trees.specs.TypeNames as spec
use Rattle.au_closed_trees.proofs.type_names.given_over.Given as goal

-- what is given so far, before what is left
abbrev pub invariant-loop-index : goal.invariant-loop-index
invariant-loop-index l =
    given_said l.made.items
    ++ spec.given_over (spec.type_names (drop l.index l.params)) (map closed_meaning (drop l.at l.args))
    ≡ spec.given_over (spec.type_names l.params) (map closed_meaning l.args)
