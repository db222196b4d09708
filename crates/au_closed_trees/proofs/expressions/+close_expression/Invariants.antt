use Rattle.std.proofs.Common.{◌≡◌, take}
use Rattle.au_sights.specs.contracts.noted.NotedPhase.TheImpl.{ghosts as noted}
use Rattle.au_syntax.specs.Views.{argument_all, expression_all}
use Rattle.au_closed_trees.specs.contracts.phase.ClosedTreesPhase.TheImpl.{ghosts as closed}
use Rattle.au_closed_trees.specs.Renoted.{arguments_renoted, expressions_renoted}
use Rattle.au_closed_trees.proofs.expressions.+close_expression.Given as goal

-- the expressions made so far
abbrev pub invariant-close_expressions-loop-one : goal.invariant-close_expressions-loop-one
invariant-close_expressions-loop-one g l =
    expression_all closed l.made.items
    ≡ expressions_renoted (g.R.Closer.change l.closer) (expression_all noted (take l.one-index l.one-items))

-- the named arguments made so far
abbrev pub invariant-close_arguments-loop-one : goal.invariant-close_arguments-loop-one
invariant-close_arguments-loop-one g l =
    argument_all closed l.made.items
    ≡ arguments_renoted (g.R.Closer.change l.closer) (argument_all noted (take l.one-index l.one-items))
