-- Lists in another order, and what is found by names.
use Rattle.std.specs.Prelude.{◌≡◌, List, [], ◌∷◌, ◌++◌}
use Rattle.au_syntax.specs.Plain.{Bytes}

-- A list has the items of another, in whatever order: its first item stands somewhere there, and so it is of
-- the others and what is left there.
abbrev pub IsReordered : {A : Type 0} → List A → List A → Type 0
IsReordered [] from = from ≡ []
IsReordered {A} (x ∷ xs) from =
    (before : List A) × (after : List A) × (from ≡ before ++ x ∷ after) × IsReordered xs (before ++ after)

-- no name stands twice in a list
abbrev pub IsNone : Bytes → List Bytes → Type 0
IsNone name [] = Unit {0}
IsNone name (other ∷ rest) = (name ≡ other → ⊥) × IsNone name rest

abbrev pub AreApart : List Bytes → Type 0
AreApart [] = Unit {0}
AreApart (name ∷ rest) = IsNone name rest × AreApart rest
