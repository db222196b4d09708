-- What is printed for a number is read back.
use Rattle.std.proofs.Common.{◌≡◌, ℕ, suc, List, false, cond, ap, subst, sym, ◌∙◌, arith, drop, FitsSigned, ℤ}
use Rattle.std.proofs.Common.{pos, negsuc, neg_ℤ, Result, Ok, decimal}
use Rattle.std.proofs.lemmas.Bool.Decides.{nat_tests}
use Rattle.std.proofs.lemmas.Fmt.{decimal_is_IsNumeral_wide}
use Rattle.std.proofs.lemmas.Result.{Ok-from_Ok_iff}
use Rattle.std.proofs.lemmas.Str.Parse.{digit_at, without_leading_plus_none}
use Rattle.std.specs.Fmt.{signed_decimal}
use Rattle.std.specs.Int.{w128}
use Rattle.std.specs.Str.Parse.{IsNumeral, ParsesSigned, digits_value, starts_with_minus}
use Rattle.std.specs.Str.Parse.{without_leading_sign, without_leading_plus}
use Rattle.au_ints.specs.Decimals.{MeansNumber}

-- digits with no sign in front
unsigned : (bs : List ℕ) → IsNumeral 10 bs → (starts_with_minus bs ≡ false) × (without_leading_plus bs ≡ bs)
unsigned bs numeral =
    let first = digit_at bs 0 numeral.1 numeral.0 in
    (grind (arith, nat_tests), without_leading_plus_none bs (λ e. omega arith))

pub means_number : (z : ℤ) → FitsSigned w128 z → MeansNumber (signed_decimal z) z
means_number (pos n) fits =
    let known = decimal_is_IsNumeral_wide n (omega (arith, fits.sfits)) in
    let bare = unsigned (decimal n) known.0 in
    let alone : without_leading_sign (decimal n) ≡ decimal n =
    ap (λ t. cond t (drop 1 (decimal n)) (without_leading_plus (decimal n))) bare.0 ∙ bare.1 in
    record {
      numeral = subst (IsNumeral 10) (sym alone) known.0;
      value = ap (λ t. cond t (neg_ℤ (pos (digits_value 10 (without_leading_sign (decimal n)))))
          (pos (digits_value 10 (without_leading_sign (decimal n))))) bare.0
          ∙ ap (λ bs. pos (digits_value 10 bs)) alone ∙ ap pos known.1;
    }
means_number (negsuc n) fits =
    let known = decimal_is_IsNumeral_wide (suc n) (omega (arith, fits.sfits)) in
    record {
      numeral = known.0;
      value = ap (λ m. neg_ℤ (pos m)) known.1;
    }

-- so a reading as an `i128` gives the number
pub read_back : {E : Type 0} (z : ℤ) (read : Result ℤ E) → FitsSigned w128 z →
    ParsesSigned w128 10 (signed_decimal z) read → read ≡ Ok z
read_back z read fits parsed =
    let means = means_number z fits in
    Ok-from_Ok_iff read _ _ parsed (means.numeral, subst (FitsSigned w128) (sym means.value) fits) ∙ ap Ok means.value
