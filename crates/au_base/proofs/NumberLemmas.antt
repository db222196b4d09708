-- Natural numbers, by arithmetic alone.
use Rattle.std.proofs.Common.{◌≡◌, ℕ, suc, ◌+◌, ◌==◌, max, Bool, true, false, refl, arith}
use Rattle.std.proofs.lemmas.Bool.{eqb-true}

-- the greatest of some numbers and one more
pub max_last : (a r x : ℕ) → max a (max r x) ≡ max (max a r) x
max_last a r x = omega arith

-- the greatest of a number and none
pub max_none : (a : ℕ) → max a 0 ≡ max 0 a
max_none a = omega arith

-- the sum of some numbers and one more
pub plus_last : (a r x : ℕ) → a + (r + x) ≡ (a + r) + x
plus_last a r x = omega arith

-- the sum of a number and none
pub plus_none : (a : ℕ) → a + 0 ≡ 0 + a
plus_none a = omega arith

-- a sum of none
pub sum_none : (m n : ℕ) → m ≡ 0 → n ≡ 0 → m + n ≡ 0
sum_none m n g h = omega (arith, g, h)

-- a number that is one or more isn't found to be none
pub not_none : (n : ℕ) (b : Bool) → (suc n == 0) ≡ b → b ≡ false
not_none n true h = let e : suc n ≡ 0 = eqb-true (suc n) 0 h in absurd (omega (arith, e))
not_none n false h = refl
