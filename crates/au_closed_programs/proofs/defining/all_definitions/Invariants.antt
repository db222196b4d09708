use Rattle.std.proofs.Common.{◌≡◌, ℕ, length}
use Rattle.std.specs.Prelude.{Some, slice_get}
use Rattle.au_modules.specs.Slots as slots
use Rattle.au_promises.specs.declared.definitions.Definitions.{Definitions}
use Rattle.au_closed_programs.specs.Defined.{AreDefined}
use Rattle.au_closed_programs.proofs.defining.all_definitions.Given as goal

-- those of the modules so far
abbrev pub invariant-loop-place : goal.invariant-loop-place
invariant-loop-place l = (length l.all.items ≡ l.place)
    × ((k : ℕ) (one : Definitions) → slice_get l.all.items k ≡ Some one
    → AreDefined (slots.modules l.program) k one)
