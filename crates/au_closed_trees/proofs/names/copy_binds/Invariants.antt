use Rattle.std.proofs.Common.{◌≡◌, ◌++◌, drop, map}
use Rattle.au_sights.specs.contracts.noted.NotedPhase.TheImpl.{ghosts as noted}
use Rattle.au_syntax.specs.Views.{bound}
use Rattle.au_closed_trees.specs.contracts.phase.ClosedTreesPhase.TheImpl.{ghosts as closed}
use Rattle.au_closed_trees.proofs.names.copy_binds.Given as goal

-- the copies so far, before the others
abbrev pub invariant-loop-one : goal.invariant-loop-one
invariant-loop-one l =
    map (bound closed) l.copies.items ++ map (bound noted) (drop l.one-index l.one-items)
    ≡ map (bound noted) l.all.items
