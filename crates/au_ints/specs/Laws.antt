-- What holds of the definitions, for those who stand on them.
use Rattle.std.specs.Prelude.{◌≡◌, ◌≢◌, ◌↔◌, IsTrue, SomeIff, Result, Ok, ℤ, pos, neg_ℤ}
use Rattle.std.specs.Fmt.{signed_decimal}
use Rattle.std.specs.Int.{w128}
use Rattle.std.specs.Str.Parse.{ParsesSigned}
use Rattle.std.specs.declared.num.ParseIntError.{ParseIntError}
use Rattle.au_base.specs.declared.kinds.IntKind.{IntKind}
use Rattle.au_base.specs.declared.kinds.IntKind.TheVariants.{Nat8, Nat16, Nat32, Nat64, Int8, Int16, Int32}
use Rattle.au_base.specs.declared.kinds.IntKind.TheVariants.{Int64, Index}
use Rattle.au_ints.specs.declared.operations.IntOp.{IntOp}
use Rattle.au_ints.specs.declared.operations.IntOp.TheVariants as int_op
use Rattle.au_ints.specs.declared.operations.Order.{Order}
use Rattle.au_ints.specs.Decimals.{MeansNumber}
use Rattle.au_ints.specs.Operations.{exact, HasResult, IsQuotient, IsWrapped, trapped, wrapped, converted}
use Rattle.au_ints.specs.Orders.{Holds, truth_of}
use Rattle.au_ints.specs.Ranges.{IsOfKind, least_of, greatest_of}

-- the least number of each kind, as a numeral
abbrev pub least_numeral : IntKind → ℤ
least_numeral Nat8 = pos 0
least_numeral Nat16 = pos 0
least_numeral Nat32 = pos 0
least_numeral Nat64 = pos 0
least_numeral Int8 = neg_ℤ (pos 128)
least_numeral Int16 = neg_ℤ (pos 32768)
least_numeral Int32 = neg_ℤ (pos 2147483648)
least_numeral Int64 = neg_ℤ (pos 9223372036854775808)
least_numeral Index = pos 0

-- the greatest number of each kind, as a numeral
abbrev pub greatest_numeral : IntKind → ℤ
greatest_numeral Nat8 = pos 255
greatest_numeral Nat16 = pos 65535
greatest_numeral Nat32 = pos 4294967295
greatest_numeral Nat64 = pos 18446744073709551615
greatest_numeral Int8 = pos 127
greatest_numeral Int16 = pos 32767
greatest_numeral Int32 = pos 2147483647
greatest_numeral Int64 = pos 9223372036854775807
greatest_numeral Index = pos 18446744073709551615

-- the bounds of each kind are these numerals
abbrev pub BoundsAreNumerals : Type 0
BoundsAreNumerals =
    (kind : IntKind) → (least_of kind ≡ least_numeral kind) × (greatest_of kind ≡ greatest_numeral kind)

-- the exact result of a division is the one number that is the quotient towards zero
abbrev pub DivisionGoesTowardsZero : Type 0
DivisionGoesTowardsZero =
    (a b : ℤ) → b ≢ pos 0 → IsQuotient a b (exact int_op.Divide a b)
    × ((q : ℤ) → IsQuotient a b q → q ≡ exact int_op.Divide a b)

-- an operation that traps gives the exact result exactly where there is one and it is of the kind
abbrev pub TrappedIsExact : Type 0
TrappedIsExact =
    (op : IntOp) (kind : IntKind) (a b : ℤ)
    → SomeIff (trapped op kind a b) (HasResult op b × IsOfKind kind (exact op a b)) (exact op a b)

-- the wrapped number is the one number of the kind that differs by a multiple of 2 to the kind's bits
abbrev pub WrappedIsUnique : Type 0
WrappedIsUnique =
    (kind : IntKind) (z : ℤ) → IsWrapped kind z (wrapped kind z)
    × ((r : ℤ) → IsWrapped kind z r → r ≡ wrapped kind z)

-- a number goes to another kind exactly where it is of that kind, and stays the same
abbrev pub ConvertedIsSame : Type 0
ConvertedIsSame = (to : IntKind) (z : ℤ) → SomeIff (converted to z) (IsOfKind to z) z

-- the truth value of an order says whether it holds
abbrev pub TruthIsExact : Type 0
TruthIsExact = (order : Order) (a b : ℤ) → IsTrue (truth_of order a b) ↔ Holds order a b

-- the decimal that is printed for a number of a kind means this number, and no reading of it as an `i128`
-- gives anything else
abbrev pub DecimalsReadBack : Type 0
DecimalsReadBack =
    (kind : IntKind) (z : ℤ) → IsOfKind kind z
    → MeansNumber (signed_decimal z) z × ((read : Result ℤ ParseIntError)
    → ParsesSigned w128 10 (signed_decimal z) read → read ≡ Ok z)
