use Rattle.au_modules.specs.Slots as slots
use Rattle.au_rules.proofs.PlaceLemmas.{AreDoublesBelow}
use Rattle.au_rules.proofs.doubles.Doubles.of.Given as goal

-- the doubles of the modules below the place are there
abbrev pub invariant-loop-place : goal.invariant-loop-place
invariant-loop-place l = AreDoublesBelow (slots.modules l.resolved) l.place l.by_place.items
