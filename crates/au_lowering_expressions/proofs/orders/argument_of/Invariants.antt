use Rattle.std.proofs.Common.{◌≡◌, ◌+◌, drop}
use Rattle.std.specs.List.{position_or_len}
use Rattle.std.specs.Str.{bytes_eq}
use Rattle.au_closed_trees.specs.contracts.phase.ClosedTreesPhase.TheImpl.{ghosts as closed}
use Rattle.au_meaning.specs.Expressions.{labels}
use Rattle.au_syntax.specs.Views.{argument_all}
use Rattle.au_lowering_expressions.proofs.orders.argument_of.Given as goal

-- no label so far is the name
abbrev pub invariant-loop-one : goal.invariant-loop-one
invariant-loop-one l =
    (l.number ≡ l.one-index)
    × (l.number
    + position_or_len (λ label. bytes_eq label l.name)
    (labels (argument_all closed (drop l.one-index l.one-items)))
    ≡ position_or_len (λ label. bytes_eq label l.name) (labels (argument_all closed l.one-items)))
