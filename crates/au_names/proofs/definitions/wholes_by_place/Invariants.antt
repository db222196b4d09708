use Rattle.std.proofs.Common.{◌≡◌, ◌++◌, map, drop}
use Rattle.au_modules.specs.Slots as slots
use Rattle.au_names.specs.Defining.{wholes_of}
use Rattle.au_names.proofs.definitions.wholes_by_place.Given as goal

-- what is there, and what is left, are all
abbrev pub invariant-loop-place : goal.invariant-loop-place
invariant-loop-place l =
    l.wholes.items ++ map wholes_of (drop l.place (slots.modules l.modules))
    ≡ map wholes_of (slots.modules l.modules)
