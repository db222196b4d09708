-- The quotient towards zero.
use Rattle.std.proofs.Common.{◌≡◌, ◌≢◌, ℕ, zero, suc, ◌+◌, ◌-◌, ◌*◌, ◌/◌, ◌<◌, ◌≤◌, ap, sym, ◌∙◌, arith, ℤ}
use Rattle.std.proofs.Common.{pos, negsuc, ◌+ℤ◌, ◌-ℤ◌, ◌*ℤ◌, neg_ℤ, int_div, int_rem, unsigned_abs}
use Rattle.std.proofs.lemmas.Int.{ints, quot-rem, rem_below, unsigned_abs-mul}
use Rattle.std.proofs.lemmas.Nat.{div-add-mod', div-mul-add}
use borrow.Author.Differences.{up, down, product_is}
use Rattle.au_ints.specs.Operations.{IsQuotient}

-- a divisor that is not 0 has a size
sized : (b : ℤ) → b ≢ pos 0 → 0 < unsigned_abs b
sized (pos zero) some = absurd (some (ap pos (omega arith)))
sized (pos (suc n)) some = omega arith
sized (negsuc n) some = omega arith

-- the size of a quotient is the quotient of the sizes
abs_opposite : (n : ℕ) → unsigned_abs (neg_ℤ (pos n)) ≡ n
abs_opposite zero = omega arith
abs_opposite (suc n) = omega arith

abs_quotient : (a b : ℤ) → unsigned_abs (int_div a b) ≡ unsigned_abs a / unsigned_abs b
abs_quotient (pos a) (pos b) = omega arith
abs_quotient (pos a) (negsuc b) = abs_opposite (a / suc b)
abs_quotient (negsuc a) (pos b) = abs_opposite (suc a / b)
abs_quotient (negsuc a) (negsuc b) = omega arith

-- what a quotient leaves is the remainder
rest_is : (a p r : ℤ) → p +ℤ r ≡ a → a -ℤ p ≡ r
rest_is a p r e = omega (arith, ints)

pub quotient_is : (a b : ℤ) → b ≢ pos 0 → IsQuotient a b (int_div a b)
quotient_is a b some =
    let size = sized b some in
    let left : a -ℤ (int_div a b *ℤ b) ≡ int_rem a b = rest_is a (int_div a b *ℤ b) (int_rem a b) (quot-rem a b) in
    let small = rem_below a b size in
    let multiple : unsigned_abs (int_div a b *ℤ b) ≡ unsigned_abs a / unsigned_abs b * unsigned_abs b =
    unsigned_abs-mul (int_div a b) b ∙ ap (λ n. n * unsigned_abs b) (abs_quotient a b) in
    record {
      rest = omega (arith, ap unsigned_abs left, small);
      towards_zero = omega (arith, multiple, div-add-mod' (unsigned_abs a) (unsigned_abs b));
    }

-- the quotient of two naturals
natural : (n d k : ℕ) → k * d ≤ n → n < k * d + d → n / d ≡ k
natural n d k low high = let split : k * d + (n - k * d) ≡ n = omega arith in ap (λ m. m / d) (sym split)
    ∙ div-mul-add k d (n - k * d) (omega arith)

-- two numbers that lie near each other
near : (a x : ℤ) (d : ℕ) → unsigned_abs (a -ℤ x) < d → (up a + down x < up x + down a + d)
    × (up x + down a < up a + down x + d)
near a x d h = omega (arith, ints)

size_of : (z : ℤ) → unsigned_abs z ≡ up z + down z
size_of (pos n) = omega arith
size_of (negsuc n) = omega arith

pub quotient_once : (a b q : ℤ) → b ≢ pos 0 → IsQuotient a b q → q ≡ int_div a b
quotient_once a b q some h = by a b q (sized b some) (near a (q *ℤ b) (unsigned_abs b) h.rest)
    (omega (arith, size_of (q *ℤ b), h.towards_zero)) (product_is q b)
  where
    by : (a b q : ℤ) → 0 < unsigned_abs b → (up a + down (q *ℤ b) < up (q *ℤ b) + down a + unsigned_abs b)
        × (up (q *ℤ b) + down a < up a + down (q *ℤ b) + unsigned_abs b) → up (q *ℤ b) + down (q *ℤ b)
        ≤ unsigned_abs a → (up (q *ℤ b) ≡ up q * up b + down q * down b)
        × (down (q *ℤ b) ≡ up q * down b + down q * up b) → q ≡ int_div a b
    by (pos a) (pos b) (pos k) size close low parts = ap pos (sym (natural a b k (omega arith) (omega arith)))
    by (pos a) (pos b) (negsuc k) size close low parts = absurd (omega arith)
    by (negsuc a) (negsuc b) (pos k) size close low parts =
        ap pos (sym (natural (suc a) (suc b) k (omega arith) (omega arith)))
    by (negsuc a) (negsuc b) (negsuc k) size close low parts = absurd (omega arith)
    by (pos a) (negsuc b) (pos zero) size close low parts =
        sym (ap (λ n. neg_ℤ (pos n)) (natural a (suc b) 0 (omega arith) (omega arith)))
    by (pos a) (negsuc b) (pos (suc k)) size close low parts = absurd (omega arith)
    by (pos a) (negsuc b) (negsuc k) size close low parts =
        sym (ap (λ n. neg_ℤ (pos n)) (natural a (suc b) (suc k) (omega arith) (omega arith)))
    by (negsuc a) (pos b) (pos zero) size close low parts =
        sym (ap (λ n. neg_ℤ (pos n)) (natural (suc a) b 0 (omega arith) (omega arith)))
    by (negsuc a) (pos b) (pos (suc k)) size close low parts = absurd (omega arith)
    by (negsuc a) (pos b) (negsuc k) size close low parts =
        sym (ap (λ n. neg_ℤ (pos n)) (natural (suc a) b (suc k) (omega arith) (omega arith)))
