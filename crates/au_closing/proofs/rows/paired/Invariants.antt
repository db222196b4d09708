use Rattle.std.proofs.Common.{◌≡◌, ◌++◌, drop, map}
use Rattle.au_types.specs.Views.{argument_all}
use Rattle.au_type_texts.specs.Views.{closed_meaning}
use Rattle.au_instances.specs.ClosedInstances.{types_in}
use Rattle.au_type_texts.specs.GivenViews.{given_said}
use Rattle.au_closing.specs.Instances as spec
use Rattle.au_closing.proofs.rows.paired.Given as goal

-- the pairs so far, before those of the arguments and the closed types that are left
abbrev pub invariant-loop-one : goal.invariant-loop-one
invariant-loop-one l =
    given_said l.made.items
    ++ spec.paired (types_in (argument_all (drop l.one-index l.args))) (map closed_meaning (drop l.at l.list))
    ≡ spec.paired (types_in (argument_all l.args)) (map closed_meaning l.list)
