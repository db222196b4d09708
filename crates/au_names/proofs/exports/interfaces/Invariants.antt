use Rattle.std.proofs.Common.{◌≡◌, ◌++◌, map, drop}
use Rattle.au_modules.specs.Slots as slots
use Rattle.au_names.specs.Exporting.{offers}
use Rattle.au_names.proofs.exports.interfaces.Given as goal

-- what is there, and what is left, are all
abbrev pub invariant-loop-place : goal.invariant-loop-place
invariant-loop-place l =
    l.interfaces.items ++ map offers (drop l.place (slots.modules l.modules))
    ≡ map offers (slots.modules l.modules)
