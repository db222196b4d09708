use Rattle.std.proofs.Common.{◌≡◌, ◌++◌, drop, map}
use Rattle.au_sights.specs.contracts.noted.NotedPhase.TheImpl.{ghosts as noted}
use Rattle.au_syntax.specs.Views.{placed}
use Rattle.au_closed_trees.specs.contracts.phase.ClosedTreesPhase.TheImpl.{ghosts as closed}
use Rattle.au_closed_trees.proofs.names.copy_names.Given as goal

-- the copies so far, before the others
abbrev pub invariant-loop-one : goal.invariant-loop-one
invariant-loop-one l =
    map (placed closed) l.copies.items ++ map (placed noted) (drop l.one-index l.one-items)
    ≡ map (placed noted) l.all.items
