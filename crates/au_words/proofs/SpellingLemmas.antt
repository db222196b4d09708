-- An option's word, by its name and its value.
use Rattle.std.proofs.Common.{◌≡◌, ℕ, ◌+◌, ◌==◌, suc, Bool, true, false, List, [], ◌∷◌, ◌++◌, take, drop}
use Rattle.std.proofs.Common.{Option, Some, None, ap, ap₂, ◌∙◌, sym, refl, inl, inr, arith, eqb-true, codes}
use Rattle.std.specs.List.{after_first, before_first, position_or_len}
use Rattle.std.proofs.lemmas.Bool.{cases_Bool, cond-true, cond-false}
use Rattle.clap.specs.Lexer.{has_byte, long_of, name_and_value}

abbrev is_equals : ℕ → Bool
is_equals byte = byte == 61

-- a name, and behind `=` its value if there is one
abbrev pub written : List ℕ → Option (List ℕ) → List ℕ
written name None = name
written name (Some value) = name ++ 61 ∷ value

before_step : (byte : ℕ) (rest : List ℕ) → (byte == 61) ≡ false → before_first is_equals (byte ∷ rest)
    ≡ byte ∷ before_first is_equals rest
before_step byte rest h =
    let more : 1 + position_or_len is_equals rest ≡ suc (position_or_len is_equals rest) = omega arith in
    rw h (ap (λ k. take k (byte ∷ rest)) more)

after_step : (byte : ℕ) (rest : List ℕ) → (byte == 61) ≡ false → after_first is_equals (byte ∷ rest)
    ≡ after_first is_equals rest
after_step byte rest h =
    let more : 1 + position_or_len is_equals rest + 1 ≡ suc (position_or_len is_equals rest + 1) = omega arith in
    rw h (ap (λ k. drop k (byte ∷ rest)) more)

-- what stands before the first `=`, and what stands behind it
pub parted : (text : List ℕ) → has_byte 61 text ≡ true → text ≡ before_first is_equals text
    ++ 61 ∷ after_first is_equals text
parted [] h = cc
parted (byte ∷ rest) h = elim (cases_Bool (byte == 61)) [
  | inl e ↦ let same : byte ≡ 61 = eqb-true byte 61 e in rw e (ap (λ b. b ∷ rest) same)
  | inr e ↦
      let left : has_byte 61 rest ≡ true = rw e at h in
      ap (λ l. byte ∷ l) (parted rest left)
      ∙ ap₂ (λ a b. a ++ 61 ∷ b) (sym (before_step byte rest e)) (sym (after_step byte rest e))
]

pub whole : (text : List ℕ) → has_byte 61 text ≡ false → text ≡ before_first is_equals text
whole [] h = refl
whole (byte ∷ rest) h = elim (cases_Bool (byte == 61)) [
  | inl e ↦ absurd (let bad = rw e at h in cc)
  | inr e ↦
      let left : has_byte 61 rest ≡ false = rw e at h in
      ap (λ l. byte ∷ l) (whole rest left) ∙ sym (before_step byte rest e)
]

-- text by its name and its value
name_back : (text name : List ℕ) (value : Option (List ℕ)) → name_and_value text ≡ (name, value) →
    text ≡ written name value
name_back text name value h = elim (cases_Bool (has_byte 61 text)) [
  | inl e ↦
      let valued : Some (after_first is_equals text) ≡ value =
      sym (cond-true (has_byte 61 text) (Some (after_first is_equals text)) None e) ∙ ap (λ p. p.1) h in
      parted text e ∙ ap₂ written (ap (λ p. p.0) h) valued
  | inr e ↦
      let valued : None ≡ value = sym
      (cond-false (has_byte 61 text) (Some (after_first is_equals text)) None e) ∙ ap (λ p. p.1) h in
      whole text e ∙ ap₂ written (ap (λ p. p.0) h) valued
]

-- a word that is read as an option is written as it
pub option_back : (first : ℕ) (rest name : List ℕ) (value : Option (List ℕ)) →
    long_of (45 ∷ 45 ∷ first ∷ rest) ≡ Some (name, value)
    → 45 ∷ 45 ∷ first ∷ rest ≡ 45 ∷ 45 ∷ written name value
option_back first rest name value h =
    let pair : name_and_value (first ∷ rest) ≡ (name, value) = (let e = h in cc) in
    ap (λ l. 45 ∷ 45 ∷ l) (name_back (first ∷ rest) name value pair)

-- options as they are written
pub entry_word : (value : List ℕ) → long_of (codes "--entry" ++ 61 ∷ value) ≡ Some (codes "entry", Some value)
entry_word value = refl

pub steps_word : (value : List ℕ) → long_of (codes "--steps" ++ 61 ∷ value) ≡ Some (codes "steps", Some value)
steps_word value = refl

pub entry_alone : long_of (codes "--entry") ≡ Some (codes "entry", None)
entry_alone = refl

pub steps_alone : long_of (codes "--steps") ≡ Some (codes "steps", None)
steps_alone = refl

pub life_alone : long_of (codes "--life") ≡ Some (codes "life", None)
life_alone = refl
