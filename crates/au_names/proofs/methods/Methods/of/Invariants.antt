use Rattle.std.proofs.Common.{◌≡◌, ◌++◌, map, drop}
use Rattle.au_modules.specs.Slots as slots
use Rattle.au_names.specs.Methods.{held, methods_by_number}
use Rattle.au_names.proofs.methods.Methods.of.Given as goal

-- what is there, and what is left, are all
abbrev pub invariant-loop-place : goal.invariant-loop-place
invariant-loop-place l =
    map held l.by_place.items ++ map methods_by_number (drop l.place (slots.modules l.modules))
    ≡ map methods_by_number (slots.modules l.modules)
