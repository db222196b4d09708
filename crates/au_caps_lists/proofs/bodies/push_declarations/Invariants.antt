use Rattle.std.proofs.Common.{◌≡◌, ◌++◌, map, take}
use Rattle.std.specs.List.{flat_map}
use Rattle.au_sights.specs.contracts.noted.NotedPhase.TheImpl.{ghosts as noted}
use Rattle.au_syntax.specs.Views.{declaration}
use Rattle.au_caps_lists.specs.Bodies.{bodied_in}
use Rattle.au_caps_lists.specs.Views.{bodies_said}
use Rattle.au_caps_lists.proofs.bodies.push_declarations.Given as goal

-- those of the declarations so far
abbrev pub invariant-loop-one : goal.invariant-loop-one
invariant-loop-one l =
    bodies_said l.made.items
    ≡ bodies_said l.fn.made.items
    ++ flat_map (bodied_in l.place) (map (declaration noted) (take l.one-index l.one-items))
