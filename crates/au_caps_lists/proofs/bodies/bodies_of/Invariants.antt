use Rattle.std.proofs.Common.{◌≡◌, take}
use Rattle.au_noting_programs.specs.Said.{modules_said}
use Rattle.au_caps_lists.specs.Bodies.{all_bodied_from}
use Rattle.au_caps_lists.specs.Views.{bodies_said}
use Rattle.au_caps_lists.proofs.bodies.bodies_of.Given as goal

-- those of the modules that are visited
abbrev pub invariant-loop-place : goal.invariant-loop-place
invariant-loop-place l = bodies_said l.made.items ≡ all_bodied_from 0 (modules_said (take l.place l.modules))
