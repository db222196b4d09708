use Rattle.std.proofs.Common.{◌≡◌, Some, map, take}
use Rattle.au_closing.specs.Closes as closes
use Rattle.au_closing.specs.ClosingViews.{instances_said}
use Rattle.au_modules.specs.Slots as slots
use Rattle.au_noting_programs.specs.Said.{modules_said}
use Rattle.au_closed_programs.specs.FunctionViews.{functions_said}
use Rattle.au_closed_programs.proofs.listing.closed_functions.Given as goal

-- the functions so far
abbrev pub invariant-loop-one : goal.invariant-loop-one
invariant-loop-one l =
    map Some (functions_said l.made.items)
    ≡ map (closes.instance_closed (slots.modules l.bodies.program.now) (modules_said l.bodies.modules.now) l.reached)
    (instances_said (take l.one-index l.one-items))
