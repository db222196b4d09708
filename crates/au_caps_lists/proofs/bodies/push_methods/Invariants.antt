use Rattle.std.proofs.Common.{◌≡◌, ◌++◌, map, take}
use Rattle.au_sights.specs.contracts.noted.NotedPhase.TheImpl.{ghosts as noted}
use Rattle.au_syntax.specs.Views.{constrained, method_body}
use Rattle.au_caps_lists.specs.Bodies.{method_bodied}
use Rattle.au_caps_lists.specs.Views.{bodies_said, home_said}
use Rattle.au_caps_lists.proofs.bodies.push_methods.Given as goal

-- the methods so far
abbrev pub invariant-loop-one : goal.invariant-loop-one
invariant-loop-one l =
    bodies_said l.made.items
    ≡ bodies_said l.fn.made.items
    ++ map (method_bodied l.place (home_said l.home) (map (constrained noted) l.generics.items))
    (map (method_body noted) (take l.one-index l.one-items))
