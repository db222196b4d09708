use Rattle.std.proofs.Common.{◌≡◌, [], take}
use Rattle.au_closed_trees.specs.contracts.phase.ClosedTreesPhase.TheImpl.{ghosts as closed}
use Rattle.au_graphs.specs.Reached.{adds}
use Rattle.au_type_texts.specs.Same.{same}
use Rattle.au_closed_trees.specs.Types.{types_noted}
use Rattle.au_syntax.specs.Views.{argument_all, expression_all}
use Rattle.au_closed_trees.specs.Notes.{said_in_all, said_in_arguments}
use Rattle.au_closed_trees.proofs.trees.+add_expression.Given as goal

-- what is found at the expressions so far
abbrev pub invariant-add_expressions-loop-one : goal.invariant-add_expressions-loop-one
invariant-add_expressions-loop-one l =
    l.found
    ≡ adds same l.fn.found
    (said_in_all (types_noted []) (expression_all closed (take l.one-index l.one-items)))

-- what is found at the named arguments so far
abbrev pub invariant-add_arguments-loop-one : goal.invariant-add_arguments-loop-one
invariant-add_arguments-loop-one l =
    l.found
    ≡ adds same l.fn.found
    (said_in_arguments (types_noted []) (argument_all closed (take l.one-index l.one-items)))
