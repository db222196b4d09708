-- Numbers written as decimals.
use Rattle.std.specs.Prelude.{◌≡◌, ℕ, List, ℤ}
use Rattle.std.specs.Str.Parse.{IsNumeral, without_leading_sign, signed_digits_value}

-- `text` is a decimal that means z: digits, behind a sign or none, with this value
pub record MeansNumber (text : List ℕ) (z : ℤ) : Type 0 where
  pub numeral : IsNumeral 10 (without_leading_sign text)
  pub value : signed_digits_value 10 text ≡ z
