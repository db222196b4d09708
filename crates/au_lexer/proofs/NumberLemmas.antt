-- Numbers.
use Rattle.std.proofs.Common.{◌≡◌, ℕ, ◌+◌, ◌-◌, ◌*◌, ◌^◌, ◌<◌, ◌≤◌, suc, true, nat_lt, nat_le, List, [], ◌∷◌}
use Rattle.std.proofs.Common.{length, drop, get_or, ap, ◌∙◌, sym, arith, drop-cons, inl, inr}
use Rattle.std.specs.Char.{digit_value}
use Rattle.std.specs.List.{list_all}
use Rattle.std.specs.Str.Parse.{AllDigits, digits_value, digits_value_after}
use Rattle.std.proofs.lemmas.Bool.{and_parts, leb-true, lt-ltb, le-ltb, cases_Bool, both_ways, cond-true}
use Rattle.std.proofs.lemmas.Bool.{cond-false}
use Rattle.std.proofs.lemmas.Int.Digits.{digits_value-lt}
use Rattle.std.proofs.Math.Nat.{pow-le-pow_right}
use Rattle.std.proofs.lemmas.List.Folds.{list_all_at}
use Rattle.au_lexer.specs.Bytes.{is_digit}

-- what a digit is worth
pub digit_worth : (byte : ℕ) → is_digit byte ≡ true → digit_value byte ≡ byte - 48
digit_worth byte h =
    let parts = and_parts (nat_le 48 byte) (nat_le byte 57) h in
    let low : 48 ≤ byte = leb-true 48 byte parts.0 in
    let high : byte < 58 = omega (arith, leb-true byte 57 parts.1) in
    cond-false (nat_lt byte 48) _ _ (le-ltb byte 48 low)
    ∙ cond-true (nat_lt byte 58) _ _ (lt-ltb byte 58 high)

digit_below : (byte : ℕ) → is_digit byte ≡ true → digit_value byte < 10
digit_below byte h =
    let parts = and_parts (nat_le 48 byte) (nat_le byte 57) h in
    omega (arith, digit_worth byte h, leb-true byte 57 parts.1, leb-true 48 byte parts.0)

pub all_digits : (digits : List ℕ) → list_all is_digit digits ≡ true → AllDigits 10 digits
all_digits [] h = tt
all_digits (byte ∷ digits) h =
    let parts = and_parts (is_digit byte) (list_all is_digit digits) h in
    (digit_below byte parts.0, all_digits digits parts.1)

-- a number of at most 38 digits is small
pub value_fits : (digits : List ℕ) → list_all is_digit digits ≡ true → length digits ≤ 38 →
    digits_value 10 digits < 2 ^ 127
value_fits digits h few =
    let bound = digits_value-lt 10 digits (all_digits digits h) in
    let most : 10 ^ length digits ≤ 10 ^ 38 = pow-le-pow_right (let ten : 0 < 10 = omega arith in ten) few in
    omega arith

-- more digits make no number smaller
grows : (value : ℕ) (digits : List ℕ) → value ≤ digits_value_after 10 value digits
grows value [] = omega arith
grows value (byte ∷ digits) = omega (arith, grows (value * 10 + digit_value byte) digits)

-- the value with one digit more
pub one_more : (value index whole : ℕ) (digits : List ℕ) → list_all is_digit digits ≡ true →
    index < length digits → digits_value_after 10 value (drop index digits) ≡ whole →
    (value * 10 + (get_or digits index 0 - 48) ≤ whole)
    × (digits_value_after 10 (value * 10 + (get_or digits index 0 - 48)) (drop (suc index) digits) ≡ whole)
one_more value index whole digits h within e =
    let byte : ℕ = get_or digits index 0 in
    let split : drop index digits ≡ byte ∷ drop (suc index) digits = drop-cons digits index 0 within in
    let digit : is_digit byte ≡ true =
    elim (cases_Bool (is_digit byte)) [
      | inl is ↦ is
      | inr not_one ↦ absurd
          (both_ways _ (list_all_at is_digit digits index 0 within not_one) h)
    ] in
    let same : digits_value_after 10 (value * 10 + (byte - 48)) (drop (suc index) digits) ≡ whole =
    ap (λ d. digits_value_after 10 (value * 10 + d) (drop (suc index) digits)) (sym (digit_worth byte digit))
    ∙ ap (digits_value_after 10 value) (sym split) ∙ e in
    (omega (arith, same, grows (value * 10 + (byte - 48)) (drop (suc index) digits)), same)
