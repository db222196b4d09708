use Rattle.std.specs.Str.{bytes_eq}
use Rattle.au_modules.specs.Programs.{ModuleParts}
use Rattle.au_modules.specs.Slots as slots
use Rattle.au_closing.proofs.PlaceLemmas.{NoneBefore}
use Rattle.au_closing.proofs.finding.place_of.Given as goal

-- no module so far has the name
abbrev pub invariant-loop-place : goal.invariant-loop-place
invariant-loop-place l =
    NoneBefore (λ (m : ModuleParts). bytes_eq l.name m.name) (slots.modules l.program) l.place
