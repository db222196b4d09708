use Rattle.std.proofs.Common.{◌≡◌, take}
use Rattle.au_closed_trees.specs.contracts.phase.ClosedTreesPhase.TheImpl.{ghosts as closed}
use Rattle.au_lowered.specs.Expressions.{by_labels}
use Rattle.au_meaning.specs.Expressions.{labels}
use Rattle.au_syntax.specs.Views.{argument_all}
use Rattle.au_lowering_expressions.proofs.orders.by_labels.Given as goal

-- the order of the parameters so far
abbrev pub invariant-loop-one : goal.invariant-loop-one
invariant-loop-one l =
    l.order.items ≡ by_labels (labels (argument_all closed l.labels.items)) (take l.one-index l.one-items)
