use Rattle.std.proofs.Common.{◌≡◌, ◌++◌, drop, map}
use Rattle.au_sights.specs.contracts.noted.NotedPhase.TheImpl.{ghosts as noted}
use Rattle.au_syntax.specs.contracts.parsed.ParsedPhase.TheImpl.{ghosts as parsed}
use Rattle.au_syntax.specs.Views.{placed}
use Rattle.au_sights.proofs.names.copy_names.Given as goal

-- the names copied so far, before the others
abbrev pub invariant-loop-one : goal.invariant-loop-one
invariant-loop-one l =
    map (placed noted) l.copies.items ++ map (placed parsed) (drop l.one-index l.one-items)
    ≡ map (placed parsed) l.all.items
