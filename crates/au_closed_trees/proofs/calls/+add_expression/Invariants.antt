use Rattle.std.proofs.Common.{◌≡◌, ◌++◌, map, take}
use Rattle.au_sights.specs.contracts.noted.NotedPhase.TheImpl.{ghosts as noted}
use Rattle.au_syntax.specs.Views.{argument_all, expression_all}
use Rattle.au_closed_trees.specs.Calls.{calls_in_all, calls_in_arguments}
use Rattle.au_closed_trees.proofs.calls.+add_expression.Given as goal

-- what is found at the expressions so far
abbrev pub invariant-add_expressions-loop-one : goal.invariant-add_expressions-loop-one
invariant-add_expressions-loop-one g l =
    map g.R.Finder.see l.found.items
    ≡ map g.R.Finder.see l.fn.found.items
    ++ calls_in_all (g.R.Finder.leads l.finder) (expression_all noted (take l.one-index l.one-items))

-- what is found at the named arguments so far
abbrev pub invariant-add_arguments-loop-one : goal.invariant-add_arguments-loop-one
invariant-add_arguments-loop-one g l =
    map g.R.Finder.see l.found.items
    ≡ map g.R.Finder.see l.fn.found.items
    ++ calls_in_arguments (g.R.Finder.leads l.finder) (argument_all noted (take l.one-index l.one-items))
