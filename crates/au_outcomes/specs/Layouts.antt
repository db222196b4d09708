-- What files come to that are laid out.
use Rattle.std.specs.Prelude.{◌≡◌, ℕ, List, [], ◌∷◌, ◌++◌}
use Rattle.au_format.specs.Layout.{IsLayout}
use Rattle.au_accepted.specs.Trees.{AreRead, IsRead, ReadFile}
use Rattle.au_outcomes.specs.declared.outcomes.Outcome.{Outcome}
use Rattle.au_outcomes.specs.declared.outcomes.Outcome.TheVariants as outcome

-- The layouts of files of these bytes, one behind another, are this text.
abbrev pub AreLaid : List (List ℕ) → List ℕ → Type 0
AreLaid [] text = text ≡ []
AreLaid (bytes ∷ others) text =
    (one : List ℕ) × (rest : List ℕ) × IsLayout bytes one × AreLaid others rest × (text ≡ one ++ rest)

-- What files of these bytes come to that were read and are to be laid out.
abbrev pub LaidCome : List (List ℕ) → Outcome → Type 0
LaidCome all (outcome.Laid text) = AreLaid all text
LaidCome all other = ⊥

-- The file of a number, with these bytes, is read, and this is its layout.
abbrev pub IsLaidOut : ℕ → List ℕ → List ℕ → Type 0
IsLaidOut file bytes text = ((one : ReadFile) × IsRead file bytes one) × IsLayout bytes text

-- Files in order, the first of this number, are read, and their layouts are this text.
abbrev pub AreLaidOut : ℕ → List (List ℕ) → List ℕ → Type 0
AreLaidOut file all text = ((reads : List ReadFile) × AreRead file all reads) × AreLaid all text
