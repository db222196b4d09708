-- The kinds of integers, and the range of each.
use Rattle.std.specs.Prelude.{ℕ, ◌-◌, ◌*◌, ◌^◌, ◌≤◌, Bool, ◌&&◌, ℤ, pos, neg_ℤ, ◌≤ℤ◌, int_le}
use Rattle.au_base.specs.declared.kinds.IntKind.{IntKind}
use Rattle.au_base.specs.declared.kinds.IntKind.TheVariants.{Nat8, Nat16, Nat32, Nat64, Int8, Int16, Int32}
use Rattle.au_base.specs.declared.kinds.IntKind.TheVariants.{Int64, Index}

-- how many bits a kind has
abbrev pub bits_of : IntKind → ℕ
bits_of Nat8 = 8
bits_of Nat16 = 16
bits_of Nat32 = 32
bits_of Nat64 = 64
bits_of Int8 = 8
bits_of Int16 = 16
bits_of Int32 = 32
bits_of Int64 = 64
bits_of Index = 64

-- 1 for a kind with a sign, and 0 for one without
abbrev pub sign_of : IntKind → ℕ
sign_of Nat8 = 0
sign_of Nat16 = 0
sign_of Nat32 = 0
sign_of Nat64 = 0
sign_of Int8 = 1
sign_of Int16 = 1
sign_of Int32 = 1
sign_of Int64 = 1
sign_of Index = 0

-- the bits and the sign of some kind: one bit at least and 64 at most, and a sign or none
pub record IsShape (bits sign : ℕ) : Type 0 where
  pub some_bits : 1 ≤ bits
  pub most_bits : bits ≤ 64
  pub one_sign : sign ≤ 1

-- the least number of so many bits, with a sign where `sign` is 1
abbrev pub least_number : ℕ → ℕ → ℤ
least_number bits sign = neg_ℤ (pos (sign * 2 ^ (bits - 1)))

-- the greatest number of so many bits, with a sign where `sign` is 1
abbrev pub greatest_number : ℕ → ℕ → ℤ
greatest_number bits sign = pos (2 ^ (bits - sign) - 1)

-- a number of so many bits, with a sign where `sign` is 1
pub record IsWithin (bits sign : ℕ) (z : ℤ) : Type 0 where
  pub at_least : least_number bits sign ≤ℤ z
  pub at_most : z ≤ℤ greatest_number bits sign

-- the same as a test
abbrev pub is_within : ℕ → ℕ → ℤ → Bool
is_within bits sign z = int_le (least_number bits sign) z && int_le z (greatest_number bits sign)

-- the least number of a kind
abbrev pub least_of : IntKind → ℤ
least_of kind = least_number (bits_of kind) (sign_of kind)

-- the greatest number of a kind
abbrev pub greatest_of : IntKind → ℤ
greatest_of kind = greatest_number (bits_of kind) (sign_of kind)

-- a number of a kind: it lies in the kind's range
abbrev pub IsOfKind : IntKind → ℤ → Type 0
IsOfKind kind z = IsWithin (bits_of kind) (sign_of kind) z

-- the same as a test
abbrev pub is_of_kind : IntKind → ℤ → Bool
is_of_kind kind z = is_within (bits_of kind) (sign_of kind) z
