-- Numbers of steps.
use Rattle.std.proofs.Common.{◌≡◌, ◌≢◌, ℕ, ◌<◌, ◌≤◌, ◌^◌, true, not, ◌&&◌, nat_le, nat_eq, List, [], ◌∷◌}
use Rattle.std.proofs.Common.{length, get_or, Some, None, codes, ap, ◌∙◌, refl, subst, arith, decimal, inl}
use Rattle.std.proofs.Common.{inr, le-leb, leb-true, eq-eqb, eqb-true}
use Rattle.std.specs.List.{list_all, starts_with}
use Rattle.std.specs.Str.Parse.{AllDigits, digits_value}
use Rattle.std.proofs.lemmas.Bool.{and_parts, and_from, cases_Bool, cond-true}
use Rattle.std.proofs.lemmas.Fmt.{decimal_is_IsNumeral, first_decimal, length-decimal-le, decimal-digits_value}
use Rattle.std.proofs.lemmas.Int.Digits.{digits_value-lt}
use Rattle.std.proofs.lemmas.Str.Parse.{numerals_by_value, tells_digits, digit_from_value}
use Rattle.std.proofs.Math.Nat.{pow-le-pow_right}
use Rattle.au_base.proofs.BoolLemmas.{cond_cases}
use Rattle.au_lexer.specs.Bytes.{is_digit}
use Rattle.au_lexer.proofs.NumberLemmas.{all_digits}
use Rattle.au_words.specs.Jobs.{AreSteps, most_steps}
use Rattle.au_words.specs.Reading.{are_digits, steps_at}

digits_all : (digits : List ℕ) → AllDigits 10 digits → list_all is_digit digits ≡ true
digits_all [] h = refl
digits_all (byte ∷ digits) h =
    let range = digit_from_value byte h.0 in
    and_from (is_digit byte) (list_all is_digit digits)
    (and_from (nat_le 48 byte) (nat_le byte 57) (le-leb 48 byte range.0) (le-leb byte 57 range.1))
    (digits_all digits h.1)

-- a number of at most 13 digits is small
pub few_digits : (digits : List ℕ) → list_all is_digit digits ≡ true → length digits ≤ 13 →
    digits_value 10 digits < 2 ^ 64
few_digits digits h few =
    let bound = digits_value-lt 10 digits (all_digits digits h) in
    let most : 10 ^ length digits ≤ 10 ^ 13 = pow-le-pow_right (let ten : 0 < 10 = omega arith in ten) few in
    omega arith

no_zero : (bytes : List ℕ) → not (starts_with nat_eq bytes (codes "0")) ≡ true → get_or bytes 0 0 ≢ 48
no_zero [] h e = omega arith
no_zero (byte ∷ bytes) h e = let is = eq-eqb byte 48 e in cc

-- the steps that bytes spell
pub steps_found : (bytes : List ℕ) (steps : ℕ) → steps_at bytes ≡ Some steps → AreSteps steps × (decimal steps ≡ bytes)
unfolding steps_at
steps_found bytes steps h =
    let value : ℕ = digits_value 10 bytes in
    elim (cond_cases (are_digits bytes && nat_le 1 value && nat_le value most_steps) (Some value) None
    (Some steps) h) [
      | inl w ↦ let same : value ≡ steps = (let e = w.1 in cc) in
          let outer = and_parts (are_digits bytes && nat_le 1 value) (nat_le value most_steps) w.0 in
          let inner = and_parts (are_digits bytes) (nat_le 1 value) outer.0 in
          let kinds = and_parts (nat_le (length bytes) 13 && list_all is_digit bytes)
          (not (starts_with nat_eq bytes (codes "0"))) inner.0 in
          let digits = and_parts (nat_le (length bytes) 13) (list_all is_digit bytes) kinds.0 in
          let low : 1 ≤ value = leb-true 1 value inner.1 in
          let high : value ≤ most_steps = leb-true value most_steps outer.1 in
          let some : 0 < length bytes = some_digits bytes low in
          let first : get_or bytes 0 0 ≡ 48 → length bytes ≡ 1 = λ e. absurd (no_zero bytes kinds.1 e) in
          subst (λ n. AreSteps n × (decimal n ≡ bytes)) same (
            (low, high),
            decimal-digits_value (numerals_by_value _ tells_digits) bytes
                (all_digits bytes digits.1) some first
                (few_digits bytes digits.1 (leb-true (length bytes) 13 digits.0)),
          )
      | inr w ↦ absurd (let e = w.1 in cc)
    ]
  where
    some_digits : (bytes : List ℕ) → 1 ≤ digits_value 10 bytes → 0 < length bytes
    some_digits [] h = omega arith
    some_digits (byte ∷ bytes) h = omega arith

zero_no : (bytes : List ℕ) → 48 < get_or bytes 0 0 → not (starts_with nat_eq bytes (codes "0")) ≡ true
zero_no [] h = refl
zero_no (byte ∷ bytes) h =
    elim (cases_Bool (nat_eq 48 byte)) [
      | inl is ↦ let e = eqb-true 48 byte is in absurd (omega arith)
      | inr not_one ↦ ap (λ b. not b) (ap (λ b. b && true) not_one)
    ]

pub steps_again : (steps : ℕ) → AreSteps steps → steps_at (decimal steps) ≡ Some steps
unfolding steps_at
steps_again steps are =
    let small : steps < 2 ^ 64 = omega (arith, are.1) in
    let numeral = decimal_is_IsNumeral steps small in
    let bytes : List ℕ = decimal steps in
    let value : digits_value 10 bytes ≡ steps = numeral.1 in
    let below : steps < 10 ^ 13 = omega (arith, are.1) in
    let length_small : length bytes ≤ 13 = length-decimal-le 13 steps (omega arith) below small in
    let kinds : are_digits bytes ≡ true =
    and_from (nat_le (length bytes) 13 && list_all is_digit bytes) (not (starts_with nat_eq bytes (codes "0")))
    (and_from (nat_le (length bytes) 13) (list_all is_digit bytes) (le-leb (length bytes) 13 length_small)
    (digits_all bytes numeral.0.1))
    (zero_no bytes (first_decimal steps (omega (arith, are.0)) small)) in
    let low : nat_le 1 (digits_value 10 bytes) ≡ true =
    le-leb 1 (digits_value 10 bytes) (omega (arith, value, are.0)) in
    let high : nat_le (digits_value 10 bytes) most_steps ≡ true = le-leb (digits_value 10 bytes) most_steps
    (omega (arith, value, are.1)) in
    cond-true (are_digits bytes && nat_le 1 (digits_value 10 bytes) && nat_le (digits_value 10 bytes)
    most_steps) (Some (digits_value 10 bytes)) None (and_from _ _ (and_from _ _ kinds low) high)
    ∙ ap (λ n. Some n) value
