-- What is known of each module is known at its place.
use Rattle.std.proofs.Common.{◌≡◌, ℕ, ◌<◌, List, Option, Some, length, get_or, ap, sym, ◌∙◌}
use Rattle.std.specs.Prelude.{None, [], slice_get}
use Rattle.std.proofs.lemmas.Option.{slice_get-get_or}
use Rattle.au_modules.specs.Programs.{ModuleParts}

nothing : ModuleParts
nothing = record { name = []; interface = None; body = None }

pub known_at : {A : Type 0} (program : List ModuleParts) (place : ℕ) (found : A) (of : Option ModuleParts → A)
    → place < length program → ((m : ModuleParts) → slice_get program place ≡ Some m → found ≡ of (Some m))
    → found ≡ of (slice_get program place)
known_at program place found of less each =
    let there = slice_get-get_or program place nothing less in
    each (get_or program place nothing) there ∙ ap of (sym there)
