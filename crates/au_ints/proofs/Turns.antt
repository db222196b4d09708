-- The one number of a range that differs from a given one by a multiple of the range's size.
use Rattle.std.proofs.Common.{◌≡◌, ℕ, zero, suc, ◌+◌, ◌-◌, ◌*◌, ◌^◌, ◌<◌, ◌≤◌, ap, refl, sym, ◌∙◌, arith}
use Rattle.std.proofs.Common.{mul-le-mul, pow-suc, ℤ, pos, negsuc, ◌+ℤ◌, ◌-ℤ◌, ◌*ℤ◌, ◌≤ℤ◌, ◌<ℤ◌, neg_ℤ}
use Rattle.std.proofs.Common.{FitsSigned}
use Rattle.std.proofs.lemmas.Int.{ints, by_lt_z}
use Rattle.std.proofs.lemmas.Nat.{pow_pos, mod_below, mul-lt}
use Rattle.std.proofs.Math.Nat.{pow-le-pow_right}
use Rattle.std.specs.Int.{int_rem_euclid, w128}
use borrow.Author.Differences.{up, down, product_is}
use Rattle.au_base.specs.declared.kinds.IntKind.{IntKind}
use Rattle.au_base.specs.declared.kinds.IntKind.TheVariants.{Nat8, Nat16, Nat32, Nat64, Int8, Int16, Int32}
use Rattle.au_base.specs.declared.kinds.IntKind.TheVariants.{Int64, Index}
use Rattle.au_ints.specs.Operations.{IsCongruent, IsTurned, IsWrapped, wrapped}
use Rattle.au_ints.specs.Ranges.{IsShape, IsWithin, least_number, greatest_number, bits_of, sign_of}
use Rattle.au_ints.proofs.Congruences.{congruent_same, congruent_sum, congruent_residue, congruent_then}

-- a range that reaches as far below 0 as its size leaves
size_is : (low high size : ℕ) → 0 < high → high + low ≡ size → pos (high - 1) +ℤ pos 1 ≡ neg_ℤ (pos low) +ℤ pos size
size_is low high size some e = omega (arith, ints)

-- a range has 2 ^ bits numbers
pub range_size : (bits sign : ℕ) → IsShape bits sign → greatest_number bits sign +ℤ pos 1 ≡ least_number bits
    sign +ℤ pos (2 ^ bits)
range_size zero sign shape = absurd (omega (arith, shape.some_bits))
range_size (suc n) zero shape = size_is (0 * 2 ^ (suc n - 1)) (2 ^ (suc n - 0)) (2 ^ suc n)
    (pow_pos (suc n - 0)) (omega (arith, ap (λ k. 2 ^ k) (let e : suc n - 0 ≡ suc n = omega arith in e)))
range_size (suc n) (suc zero) shape = size_is (1 * 2 ^ (suc n - 1)) (2 ^ (suc n - 1)) (2 ^ suc n)
    (pow_pos (suc n - 1)) (omega (
      arith,
      pow-suc 2 n,
      ap (λ k. 2 ^ k) (let e : suc n - 1 ≡ n = omega arith in e),
    ))
range_size (suc n) (suc (suc k)) shape = absurd (omega (arith, shape.one_sign))

-- an `i128` holds what lies within 2 ^ 64 of 0
fits_near : (low high : ℕ) (z : ℤ) → low ≤ 2 ^ 64 → high ≤ 2 ^ 64 → neg_ℤ (pos low) ≤ℤ z →
    z ≤ℤ pos (high - 1) → FitsSigned w128 z
fits_near low high z p q r s = omega (arith, ints)

-- no power of a range passes 2 ^ 64
pub power_small : (bits : ℕ) → bits ≤ 64 → 2 ^ bits ≤ 2 ^ 64
power_small bits h = let two : 0 < 2 = omega arith in pow-le-pow_right two h

sign_small : (sign n : ℕ) → sign ≤ 1 → n ≤ 2 ^ 64 → sign * n ≤ 2 ^ 64
sign_small zero n p q = omega arith
sign_small (suc zero) n p q = omega arith
sign_small (suc (suc k)) n p q = absurd (omega arith)

-- an `i128` holds each number of a range
pub within_fits : (bits sign : ℕ) (z : ℤ) → IsShape bits sign → IsWithin bits sign z → FitsSigned w128 z
within_fits bits sign z shape inside =
    fits_near (sign * 2 ^ (bits - 1)) (2 ^ (bits - sign)) z
    (sign_small sign (2 ^ (bits - 1)) shape.one_sign
    (power_small (bits - 1) (omega (arith, shape.most_bits))))
    (power_small (bits - sign) (omega (arith, shape.most_bits))) inside.at_least inside.at_most

-- a residue in the range
pub turned_low : (bits sign n : ℕ) → IsShape bits sign → pos n ≤ℤ greatest_number bits sign →
    IsTurned bits sign (pos n) (pos n)
turned_low bits sign n shape low = record {
  within = record { at_least = omega (arith, ints); at_most = low };
  congruent = congruent_same (2 ^ bits) _ _ refl;
}

-- and one above it
pub turned_high : (bits sign n : ℕ) → IsShape bits sign → n < 2 ^ bits → greatest_number bits sign <ℤ pos n →
    IsTurned bits sign (pos n) (pos n -ℤ pos (2 ^ bits))
turned_high bits sign n shape small high = record {
  within = record { at_least = omega (arith, ints, range_size bits sign shape); at_most = omega (arith, ints) };
  congruent = record { turns = negsuc 0; differs = omega (arith, ints) };
}

-- the product of two residues is no wider than 128 bits
pub product_small : (bits m n : ℕ) → bits ≤ 64 → m < 2 ^ bits → n < 2 ^ bits → m * n < 2 ^ 128
product_small bits m n h p q = let most : 2 ^ bits ≤ 2 ^ 64 = power_small bits h
    in mul-lt m n (2 ^ 64) (2 ^ 64) (omega arith) (omega arith)

-- to differ by a multiple first changes nothing
pub turned_then : (bits sign : ℕ) (a b r : ℤ) → IsCongruent (2 ^ bits) a b → IsTurned bits sign b r →
    IsTurned bits sign a r
turned_then bits sign a b r p q =
    record { within = q.within; congruent = congruent_then (2 ^ bits) a b r p q.congruent }

-- of two numbers of a range that differ by multiples from one number, neither has more turns
not_more : (bits sign : ℕ) (z r s : ℤ) → IsShape bits sign →
    (p : IsTurned bits sign z r) (q : IsTurned bits sign z s) → p.congruent.turns <ℤ q.congruent.turns → r ≡ s
not_more bits sign z r s shape p q less =
    let k = p.congruent.turns in
    let l = q.congruent.turns in
    let m = 2 ^ bits in
    let fewer : up k + 1 + down l ≤ up l + down k = omega (arith, ints) in
    let apart : (up k + 1 + down l) * m ≤ (up l + down k) * m = mul-le-mul fewer (omega arith) in
    let first = product_is k (pos m) in
    let second = product_is l (pos m) in
    absurd (omega (
      arith,
      ints,
      range_size bits sign shape,
      p.congruent.differs,
      q.congruent.differs,
      p.within.at_least,
      p.within.at_most,
      q.within.at_least,
      q.within.at_most,
      first.0,
      first.1,
      second.0,
      second.1,
      apart,
    ))

-- the number is one
pub turned_once : (bits sign : ℕ) (z r s : ℤ) → IsShape bits sign → IsTurned bits sign z r →
    IsTurned bits sign z s → r ≡ s
turned_once bits sign z r s shape p q =
    by_lt_z p.congruent.turns q.congruent.turns
    (not_more bits sign z r s shape p q)
    (λ most. by_lt_z q.congruent.turns p.congruent.turns
    (λ less. sym (not_more bits sign z s r shape q p less))
    (λ least. let same : p.congruent.turns ≡ q.congruent.turns = omega (arith, ints) in
    p.congruent.differs ∙ ap (λ t. z +ℤ (t *ℤ pos (2 ^ bits))) same ∙ sym q.congruent.differs))

-- the remainder lies from 0 to the divisor
residue_small : (m : ℕ) (z : ℤ) → 0 < m → (pos 0 ≤ℤ int_rem_euclid z (pos m)) × (int_rem_euclid z (pos m) <ℤ pos m)
residue_small m (pos n) some = (omega (arith, ints), omega (arith, ints, mod_below n m some))
residue_small m (negsuc n) some = (omega (arith, ints), omega (arith, ints, mod_below n m some))

-- counted from the least number, the remainder is that number
turned_from_least : (bits sign : ℕ) (z : ℤ) → IsShape bits sign →
    IsTurned bits sign z (int_rem_euclid (z -ℤ least_number bits sign) (pos (2 ^ bits)) +ℤ least_number bits
    sign)
turned_from_least bits sign z shape =
    let least = least_number bits sign in
    let m = 2 ^ bits in
    let some : 0 < m = pow_pos bits in
    let rest = int_rem_euclid (z -ℤ least) (pos m) in
    let small = residue_small m (z -ℤ least) some in
    let low = small.0 in
    let high = small.1 in
    let back : z ≡ (z -ℤ least) +ℤ least = omega (arith, ints) in
    record {
      within = record { at_least = omega (arith, ints); at_most = omega (arith, ints, range_size bits sign shape) };
      congruent = congruent_then m z ((z -ℤ least) +ℤ least) (rest +ℤ least) (congruent_same m _ _ back)
          (congruent_sum m (z -ℤ least) least rest least (congruent_residue m (z -ℤ least) some)
          (congruent_same m least least refl));
    }

-- the shape of each kind
pub kind_shape : (kind : IntKind) → IsShape (bits_of kind) (sign_of kind)
kind_shape Nat8 = record { some_bits = omega arith; most_bits = omega arith; one_sign = omega arith }
kind_shape Nat16 = record { some_bits = omega arith; most_bits = omega arith; one_sign = omega arith }
kind_shape Nat32 = record { some_bits = omega arith; most_bits = omega arith; one_sign = omega arith }
kind_shape Nat64 = record { some_bits = omega arith; most_bits = omega arith; one_sign = omega arith }
kind_shape Int8 = record { some_bits = omega arith; most_bits = omega arith; one_sign = omega arith }
kind_shape Int16 = record { some_bits = omega arith; most_bits = omega arith; one_sign = omega arith }
kind_shape Int32 = record { some_bits = omega arith; most_bits = omega arith; one_sign = omega arith }
kind_shape Int64 = record { some_bits = omega arith; most_bits = omega arith; one_sign = omega arith }
kind_shape Index = record { some_bits = omega arith; most_bits = omega arith; one_sign = omega arith }

-- the wrapped number is of the kind, and differs by a multiple
pub wrapped_turned : (kind : IntKind) (z : ℤ) → IsWrapped kind z (wrapped kind z)
unfolding wrapped
wrapped_turned kind z = turned_from_least (bits_of kind) (sign_of kind) z (kind_shape kind)

-- and there is no other
pub wrapped_is : (kind : IntKind) (z r : ℤ) → IsWrapped kind z r → r ≡ wrapped kind z
wrapped_is kind z r p = turned_once (bits_of kind) (sign_of kind) z r (wrapped kind z) (kind_shape kind) p
    (wrapped_turned kind z)
