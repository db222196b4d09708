-- What each operation gives: the exact result, and what becomes of a result outside the range.
use Rattle.std.specs.Prelude.{◌≡◌, ◌≢◌, ℕ, ◌^◌, ◌<◌, ◌≤◌, Bool, true, not, ◌&&◌, ◌==◌, ⊤, if◌then◌else◌}
use Rattle.std.specs.Prelude.{Option, Some, None, ℤ, pos, ◌+ℤ◌, ◌-ℤ◌, ◌*ℤ◌, int_div, unsigned_abs}
use Rattle.std.specs.Int.{int_rem_euclid}
use Rattle.au_base.specs.declared.kinds.IntKind.{IntKind}
use Rattle.au_ints.specs.declared.operations.IntOp.{IntOp}
use Rattle.au_ints.specs.declared.operations.IntOp.TheVariants as int_op
use Rattle.au_ints.specs.declared.operations.WrapOp.{WrapOp}
use Rattle.au_ints.specs.declared.operations.WrapOp.TheVariants as wrap_op
use Rattle.au_ints.specs.Ranges.{IsWithin, is_of_kind, bits_of, sign_of, least_of}

-- the exact result of an operation, where it has one; division goes towards zero
abbrev pub exact : IntOp → ℤ → ℤ → ℤ
exact int_op.Add a b = a +ℤ b
exact int_op.Subtract a b = a -ℤ b
exact int_op.Multiply a b = a *ℤ b
exact int_op.Divide a b = int_div a b

-- an operation has a result: its divisor, if it has one, is not 0
abbrev pub HasResult : IntOp → ℤ → Type 0
HasResult int_op.Add b = ⊤
HasResult int_op.Subtract b = ⊤
HasResult int_op.Multiply b = ⊤
HasResult int_op.Divide b = b ≢ pos 0

-- the same as a test
abbrev pub has_result : IntOp → ℤ → Bool
has_result int_op.Add b = true
has_result int_op.Subtract b = true
has_result int_op.Multiply b = true
has_result int_op.Divide b = not (unsigned_abs b == 0)

-- q is a divided by b, towards zero: what is left is smaller than b, and the multiple q * b lies no further
-- from 0 than a
pub record IsQuotient (a b q : ℤ) : Type 0 where
  pub rest : unsigned_abs (a -ℤ (q *ℤ b)) < unsigned_abs b
  pub towards_zero : unsigned_abs (q *ℤ b) ≤ unsigned_abs a

-- the result of an operation that traps: the exact one, or none where there is none or it isn't of the kind
unfoldable pub trapped : IntOp → IntKind → ℤ → ℤ → Option ℤ
trapped op kind a b = if has_result op b && is_of_kind kind (exact op a b) then Some (exact op a b) else None

-- the operation whose exact result a wrapping operation turns into the range
abbrev pub unwrapped : WrapOp → IntOp
unwrapped wrap_op.Add = int_op.Add
unwrapped wrap_op.Subtract = int_op.Subtract
unwrapped wrap_op.Multiply = int_op.Multiply

-- r differs from z by a multiple of m
pub record IsCongruent (m : ℕ) (z r : ℤ) : Type 0 where
  pub turns : ℤ
  pub differs : r ≡ z +ℤ (turns *ℤ pos m)

-- r is the number of so many bits, with a sign where `sign` is 1, that differs from z by a multiple of 2 ^
-- bits
pub record IsTurned (bits sign : ℕ) (z r : ℤ) : Type 0 where
  pub within : IsWithin bits sign r
  pub congruent : IsCongruent (2 ^ bits) z r

-- r is the number of a kind that differs from z by a multiple of 2 to the kind's bits
abbrev pub IsWrapped : IntKind → ℤ → ℤ → Type 0
IsWrapped kind z r = IsTurned (bits_of kind) (sign_of kind) z r

-- that number, counted from the least one of the kind
unfoldable pub wrapped : IntKind → ℤ → ℤ
wrapped kind z = int_rem_euclid (z -ℤ least_of kind) (pos (2 ^ bits_of kind)) +ℤ least_of kind

-- a number at another kind: the same one, or none where it isn't of that kind
unfoldable pub converted : IntKind → ℤ → Option ℤ
converted to z = if is_of_kind to z then Some z else None
