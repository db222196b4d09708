use Rattle.std.proofs.Common.{◌≡◌, ◌++◌, drop, map}
use Rattle.au_sights.specs.contracts.noted.NotedPhase.TheImpl.{ghosts as noted}
use Rattle.au_syntax.specs.contracts.parsed.ParsedPhase.TheImpl.{ghosts as parsed}
use Rattle.au_syntax.specs.Views.{bound}
use Rattle.au_sights.proofs.bindings.copy_binds.Given as goal

-- the fields copied so far, before the others
abbrev pub invariant-loop-one : goal.invariant-loop-one
invariant-loop-one l =
    map (bound noted) l.copies.items ++ map (bound parsed) (drop l.one-index l.one-items)
    ≡ map (bound parsed) l.all.items
