-- What is kept of births, by their numbers.
use Rattle.std.specs.Prelude.{◌≡◌, ℕ, zero, suc, ◌≤◌, nat_eq, List, [], ◌∷◌, ◌++◌, Option, Some, None}
use Rattle.std.specs.Prelude.{slice_get}
use Rattle.std.specs.Prelude.{if◌then◌else◌}
use Rattle.indexmap.specs.IndexMap.{IndexMap, get}
use Rattle.au_stores.specs.declared.worlds.Held.{Held}
use Rattle.au_stores.specs.declared.worlds.Held.TheVariants.{Nothing}

-- what there is where this is kept: nothing where nothing is
abbrev pub or_nothing : Option Held → Held
or_nothing None = Nothing
or_nothing (Some one) = one

-- what there is of the first so many births, where this is kept of them
abbrev pub listed : ℕ → (ℕ → Option Held) → List Held
listed zero kept = []
listed (suc n) kept = listed n kept ++ or_nothing (kept n) ∷ []

-- of births that weren't yet nothing is kept
abbrev pub IsOfBirths : ℕ → (ℕ → Option Held) → Type 0
IsOfBirths count kept = (id : ℕ) → count ≤ id → kept id ≡ None

-- what is kept after that of one birth became another
abbrev pub kept_with : ℕ → Option Held → (ℕ → Option Held) → ℕ → Option Held
kept_with id one kept other = if nat_eq id other then one else kept other

-- what there is of a birth
abbrev pub there : List Held → ℕ → Held
there births id = or_nothing (slice_get births id)

-- this is kept of a birth, at a place
abbrev pub StandsAt : {S : Type 0} → IndexMap ℕ Held S → ℕ → ℕ → Type 0
StandsAt kept id place = (one : Held) × (slice_get kept.entries place ≡ Some (id, one))
    × (get nat_eq kept id ≡ Some one)
