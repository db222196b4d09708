use Rattle.au_modules.specs.Slots as slots
use Rattle.au_names.proofs.NameLemmas.{AreBelow}
use Rattle.au_names.proofs.module_names.names_by_place.Given as goal

-- the names of the modules below the place are there
abbrev pub invariant-loop-place : goal.invariant-loop-place
invariant-loop-place l = AreBelow (slots.modules l.modules) l.place l.all.items
