-- The regions in scope besides `Static`: their names in the order in which they were entered.
use Rattle.std.specs.Prelude.{◌≡◌, ◌⊎◌, ◌||◌, ◌++◌, ◌-◌, ℕ, Bool, List, [], ◌∷◌, Contains, codes, length}
use Rattle.std.specs.Prelude.{take}
use Rattle.std.specs.List.{list_any}
use Rattle.std.specs.Str.{bytes_eq}

-- the regions with one more, the newest
abbrev pub entered : List (List ℕ) → List ℕ → List (List ℕ)
entered scope name = scope ++ name ∷ []

-- all but the newest
abbrev pub left : List (List ℕ) → List (List ℕ)
left scope = take (length scope - 1) scope

-- a region in scope has this name: it's `Static`, or one that was entered and not left
abbrev pub Knows : List (List ℕ) → List ℕ → Type 0
Knows scope name = (name ≡ codes "Static") ⊎ Contains scope name

-- the test of it
abbrev pub knows : List (List ℕ) → List ℕ → Bool
knows scope name = bytes_eq name (codes "Static") || list_any (bytes_eq name) scope
