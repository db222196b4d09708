use Rattle.std.proofs.Common.{◌≡◌, ◌++◌, map, drop}
use Rattle.au_modules.specs.Slots as slots
use Rattle.au_imports.specs.Gathered.{last_offers}
use Rattle.au_imports.proofs.offers.all_lasts.Given as goal

-- what is there, and what is left, are all
abbrev pub invariant-loop-place : goal.invariant-loop-place
invariant-loop-place l = l.lasts.items ++ map last_offers (drop l.place (slots.modules l.modules))
    ≡ map last_offers (slots.modules l.modules)
