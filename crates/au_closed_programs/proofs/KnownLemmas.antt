-- What is known of each module is known at its place, and what is made of what is found.
use Rattle.std.proofs.Common.{◌≡◌, ℕ, ◌<◌, List, length, ap, sym, ◌∙◌}
use Rattle.std.specs.Prelude.{Option, Some, IfOk, Result, Ok, Err, slice_get}
use Rattle.au_modules.specs.Programs.{ModuleParts}
use Rattle.au_closed_programs.proofs.FindingLemmas.{there}

pub known_at : {A : Type 0} (program : List ModuleParts) (place : ℕ) (found : A) (of : Option ModuleParts → A)
    → place < length program
    → ((m : ModuleParts) → slice_get program place ≡ Some m → found ≡ of (Some m))
    → found ≡ of (slice_get program place)
known_at program place found of less each =
    let m = there program place less in
    each m.0 m.1 ∙ ap of (sym m.1)

-- what is made says what is looked for
pub some_said : {X E Y : Type 0} (say : X → Y) (z : Y) (r : Result X E) → IfOk r (λ made. say made ≡ z)
    → IfOk r (λ made. Some z ≡ Some (say made))
some_said say z (Ok made) e = ap Some (sym e)
some_said say z (Err fault) e = e
