use Rattle.std.proofs.Common.{◌≡◌, take}
use Rattle.au_formed.specs.Said.{spots_said}
use Rattle.au_formed.specs.Text.{text_from}
use Rattle.au_modules.specs.Slots as slots
use Rattle.au_formed.proofs.texts.all_declarations.Given as goal

-- those of the modules that are visited
abbrev pub invariant-loop-place : goal.invariant-loop-place
invariant-loop-place l = spots_said l.list.items ≡ text_from 0 (take l.place (slots.modules l.modules))
