-- The types of arguments in the order of parameters, and those of fields in the order in which they are
-- bound: by names.
use Rattle.std.specs.Prelude.{◌≡◌, ◌⊎◌, List, [], ◌∷◌}
use Rattle.au_types.specs.Types.{Meaning}
use Rattle.au_syntax.specs.Plain.{Bytes}

-- Of types under names, this is the one under this name, which is the first that has it.
abbrev pub IsTypeUnder : Bytes → List Bytes → List Meaning → Meaning → Type 0
IsTypeUnder name [] kinds t = ⊥
IsTypeUnder name (n ∷ names) [] t = ⊥
IsTypeUnder name (n ∷ names) (kind ∷ kinds) t =
    ((name ≡ n) × (t ≡ kind)) ⊎ ((name ≡ n → ⊥) × IsTypeUnder name names kinds t)

-- the same of several names
abbrev pub AreTypesUnder : List Bytes → List Bytes → List Meaning → List Meaning → Type 0
AreTypesUnder [] names kinds [] = Unit {0}
AreTypesUnder [] names kinds (t ∷ ts) = ⊥
AreTypesUnder (name ∷ wanted) names kinds [] = ⊥
AreTypesUnder (name ∷ wanted) names kinds (t ∷ ts) =
    IsTypeUnder name names kinds t × AreTypesUnder wanted names kinds ts
