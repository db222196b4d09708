use Rattle.std.proofs.Common.{◌≡◌, ◌++◌, map, take}
use Rattle.au_sights.specs.contracts.noted.NotedPhase.TheImpl.{ghosts as noted}
use Rattle.au_syntax.specs.Views.{placed}
use Rattle.au_types.specs.WrittenViews.{sense_in}
use Rattle.au_caps.specs.Making.{classes_named}
use Rattle.au_caps.proofs.edges.push_classes.Given as goal

-- the classes so far
abbrev pub invariant-loop-one : goal.invariant-loop-one
invariant-loop-one l = l.made.items
    ≡ l.fn.made.items ++ classes_named (sense_in l.scope) (map (placed noted) (take l.one-index l.one-items))
