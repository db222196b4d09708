use Rattle.std.proofs.Common.{◌≡◌, drop}
use Rattle.au_closed_trees.specs.contracts.phase.ClosedTreesPhase.TheImpl.{ghosts as closed}
use Rattle.au_lowered.specs.Expressions.{one_opens, one_opens_named}
use Rattle.au_syntax.specs.Views.{argument_all, expression_all}
use Rattle.au_lowering_expressions.proofs.opening.+opens.Given as goal

-- none so far opens a borrow, so those that are left decide
abbrev pub invariant-one_opens-loop-one : goal.invariant-one_opens-loop-one
invariant-one_opens-loop-one l =
    one_opens (expression_all closed (drop l.one-index l.one-items)) ≡ one_opens
    (expression_all closed l.one-items)

abbrev pub invariant-one_opens_named-loop-one : goal.invariant-one_opens_named-loop-one
invariant-one_opens_named-loop-one l =
    one_opens_named (argument_all closed (drop l.one-index l.one-items))
    ≡ one_opens_named (argument_all closed l.one-items)
