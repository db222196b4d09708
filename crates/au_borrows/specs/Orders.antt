-- Tokens that are active, and the order in which borrows lie open.
use Rattle.std.specs.Prelude.{◌≡◌, ◌⊎◌, ℕ, ◌<◌, ◌≤◌, ◌==◌, Bool, true, false, if◌then◌else◌, List, [], ◌∷◌}
use Rattle.std.specs.Prelude.{◌++◌}
use Rattle.au_borrows.specs.Told.{Open, times}

-- borrows that lie open, the newest first
abbrev pub Lying : Type 0
Lying = List Open

-- A token that is active, and the borrows that lay open when it began, the newest first.
pub record Act : Type 0 where
  pub token : ℕ
  pub base : List Open

-- whether a token is among those that are active, the newest first
abbrev pub is_active : List Act → ℕ → Bool
is_active [] z = false
is_active (a ∷ rest) z = if a.token == z then true else is_active rest z

-- each token is newer than those that began before it
abbrev pub AreSorted : List Act → Type 0
AreSorted [] = Unit {0}
AreSorted (a ∷ rest) = ((z : ℕ) → is_active rest z ≡ true → z < a.token) × AreSorted rest

-- Some borrows lie open below others.
pub record LieBelow (base lying : List Open) : Type 0 where
  pub newer : List Open
  pub is : lying ≡ newer ++ base

-- The borrows lie in the order of the tokens: what lay open when a token began lies below what was opened
-- since.
abbrev pub AreStacked : List Act → List Open → Type 0
AreStacked [] lying = Unit {0}
AreStacked (a ∷ rest) lying = LieBelow a.base lying × AreStacked rest a.base

-- A borrow lies open above others.
pub record IsAbove (b : ℕ) (base lying : List Open) : Type 0 where
  pub newer : List Open
  pub is : lying ≡ newer ++ base
  pub there : 1 ≤ times b newer

-- A borrow of a token lies above what lay open when that token began, and below what lay open when the next
-- one did.
abbrev pub Lies : List Act → List Open → ℕ → ℕ → Type 0
Lies [] lying z b = ⊥
Lies (a ∷ rest) lying z b =
    ((z ≡ a.token) × IsAbove b a.base lying) ⊎ ((z ≡ a.token → ⊥) × Lies rest a.base z b)
