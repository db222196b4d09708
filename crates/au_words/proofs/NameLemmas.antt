-- Names, and what stands between signs.
use Rattle.std.proofs.Common.{◌≡◌, ◌≢◌, ℕ, ◌<◌, Bool, true, false, not, ◌&&◌, ◌==◌, List, [], ◌∷◌, ◌++◌}
use Rattle.std.proofs.Common.{length, drop, get_or, flat_map, ap, ◌∙◌, sym, refl, subst, arith, eqb-true}
use Rattle.std.proofs.Common.{eq-eqb, append-nil, inl, inr, Some, None}
use Rattle.std.specs.List.{list_all, list_any, onto_first}
use Rattle.std.proofs.lemmas.Bool.{and_parts, and_from, cases_Bool, cond-false, not-true}
use Rattle.std.proofs.lemmas.List.Splits.{length-slice_split, slice_split-cons_no, slice_split-cons_yes}
use Rattle.au_base.proofs.BoolLemmas.{cond_cases}
use Rattle.au_lexer.specs.Bytes.{is_letter, is_name_byte}
use Rattle.au_words.specs.Jobs.{is_spelled_as_name, is_other, is_file_name, joined, IsPart}
use Rattle.au_words.specs.Reading.{between, is_empty, is_home, is_function, part_at}

-- a name by its first byte and the others
pub spelled : (bytes : List ℕ) → is_spelled_as_name bytes
    ≡ (is_letter (get_or bytes 0 0) && list_all is_name_byte (drop 1 bytes))
spelled [] = refl
spelled (first ∷ rest) = refl

-- a name has a byte
pub function_some : (bytes : List ℕ) → is_function bytes ≡ true → 0 < length bytes
function_some [] h = cc
function_some (byte ∷ bytes) h = omega arith

pub home_some : (bytes : List ℕ) → is_home bytes ≡ true → 0 < length bytes
home_some [] h = cc
home_some (byte ∷ bytes) h = omega arith

-- all that pass one test pass another
pub all_pass : {X : Type 0} (p q : X → Bool) → ((x : X) → p x ≡ true → q x ≡ true) → (xs : List X) →
    list_all p xs ≡ true → list_all q xs ≡ true
all_pass p q more [] h = refl
all_pass p q more (x ∷ xs) h =
    let parts = and_parts (p x) (list_all p xs) h in
    and_from (q x) (list_all q xs) (more x parts.0) (all_pass p q more xs parts.1)

module _ (sign : ℕ) where
  abbrev is_sign : ℕ → Bool
  is_sign byte = byte == sign

  -- there is something between signs
  pub some_cut : (bytes : List ℕ) → between sign bytes ≢ []
  some_cut bytes none = let e = ap length none in omega (arith, length-slice_split is_sign bytes)

  flat_joined : (names : List (List ℕ)) → names ≢ [] → flat_map (λ other. sign ∷ other) names ≡ sign ∷ joined sign names
  flat_joined [] some = absurd (some refl)
  flat_joined (name ∷ names) some = refl

  onto_joined : (byte : ℕ) (names : List (List ℕ)) → names ≢ [] → joined sign (onto_first byte names)
      ≡ byte ∷ joined sign names
  onto_joined byte [] some = absurd (some refl)
  onto_joined byte (name ∷ names) some = refl

  -- what stands between signs is joined again
  pub joined_cut : (bytes : List ℕ) → joined sign (between sign bytes) ≡ bytes
  joined_cut [] = refl
  joined_cut (byte ∷ bytes) =
      elim (cases_Bool (byte == sign)) [
        | inl is ↦
            ap (joined sign) (slice_split-cons_yes is_sign byte bytes is)
            ∙ flat_joined (between sign bytes) (some_cut bytes)
            ∙ ap (λ l. sign ∷ l) (joined_cut bytes)
            ∙ ap (λ b. b ∷ bytes) (sym (eqb-true byte sign is))
        | inr not_one ↦
            ap (joined sign) (slice_split-cons_no is_sign byte bytes not_one)
            ∙ onto_joined byte (between sign bytes) (some_cut bytes)
            ∙ ap (λ l. byte ∷ l) (joined_cut bytes)
      ]

  onto_other : (byte : ℕ) (names : List (List ℕ)) → is_other sign byte ≡ true →
      list_all (list_all (is_other sign)) names ≡ true →
      list_all (list_all (is_other sign)) (onto_first byte names) ≡ true
  onto_other byte [] other free = and_from (is_other sign byte && true) true
      (and_from (is_other sign byte) true other refl) refl
  onto_other byte (name ∷ names) other free =
      let parts = and_parts (list_all (is_other sign) name) (list_all (list_all (is_other sign)) names) free in
      and_from (is_other sign byte && list_all (is_other sign) name)
      (list_all (list_all (is_other sign)) names)
      (and_from (is_other sign byte) (list_all (is_other sign) name) other parts.0) parts.1

  -- no sign stands between signs
  pub cut_other : (bytes : List ℕ) → list_all (list_all (is_other sign)) (between sign bytes) ≡ true
  cut_other [] = refl
  cut_other (byte ∷ bytes) =
      elim (cases_Bool (byte == sign)) [
        | inl is ↦ ap (list_all (list_all (is_other sign))) (slice_split-cons_yes is_sign byte bytes is)
            ∙ cut_other bytes
        | inr not_one ↦
            ap (list_all (list_all (is_other sign))) (slice_split-cons_no is_sign byte bytes not_one)
            ∙ onto_other byte (between sign bytes) (ap not not_one) (cut_other bytes)
      ]

  -- bytes that are no sign stay together
  cut_alone : (bytes : List ℕ) → list_all (is_other sign) bytes ≡ true → between sign bytes ≡ bytes ∷ []
  cut_alone [] h = refl
  cut_alone (byte ∷ bytes) h =
      let parts = and_parts (is_other sign byte) (list_all (is_other sign) bytes) h in
      slice_split-cons_no is_sign byte bytes (not-true (byte == sign) parts.0)
      ∙ ap (onto_first byte) (cut_alone bytes parts.1)

  cut_first : (bytes rest : List ℕ) → list_all (is_other sign) bytes ≡ true →
      between sign (bytes ++ sign ∷ rest) ≡ bytes ∷ between sign rest
  cut_first [] rest h = slice_split-cons_yes is_sign sign rest (eq-eqb sign sign refl)
  cut_first (byte ∷ bytes) rest h =
      let parts = and_parts (is_other sign byte) (list_all (is_other sign) bytes) h in
      slice_split-cons_no is_sign byte (bytes ++ sign ∷ rest) (not-true (byte == sign) parts.0)
      ∙ ap (onto_first byte) (cut_first bytes rest parts.1)

  cut_flat : (name : List ℕ) (names : List (List ℕ)) → list_all (is_other sign) name ≡ true →
      list_all (list_all (is_other sign)) names ≡ true
      → between sign (name ++ flat_map (λ other. sign ∷ other) names) ≡ name ∷ names
  cut_flat name [] h more = ap (between sign) (append-nil name) ∙ cut_alone name h
  cut_flat name (other ∷ others) h more =
      let parts = and_parts (list_all (is_other sign) other) (list_all (list_all (is_other sign)) others) more in
      cut_first name (other ++ flat_map (λ l. sign ∷ l) others) h
      ∙ ap (λ l. name ∷ l) (cut_flat other others parts.0 parts.1)

  -- names that are joined are cut again
  pub cut_joined : (names : List (List ℕ)) → names ≢ [] → list_all (list_all (is_other sign)) names ≡ true →
      between sign (joined sign names) ≡ names
  cut_joined [] some h = absurd (some refl)
  cut_joined (name ∷ names) some h =
      let parts = and_parts (list_all (is_other sign) name) (list_all (list_all (is_other sign)) names) h in
      cut_flat name names parts.0 parts.1

-- names without commas of which none is empty can name files
files_from : (names : List (List ℕ)) → list_any is_empty names ≡ false →
    list_all (list_all (is_other 44)) names ≡ true → list_all is_file_name names ≡ true
files_from [] some free = refl
files_from (name ∷ names) some free =
    let parts = and_parts (list_all (is_other 44) name) (list_all (list_all (is_other 44)) names) free in
    elim (cases_Bool (is_empty name)) [
      | inl e ↦ absurd (let bad = rw e at some in cc)
      | inr e ↦ and_from (is_file_name name) (list_all is_file_name names)
          (and_from (not (is_empty name)) (list_all (is_other 44) name) (ap not e) parts.0)
          (files_from names (rw e at some) parts.1)
    ]

none_empty : (names : List (List ℕ)) → list_all is_file_name names ≡ true → list_any is_empty names ≡ false
none_empty [] h = refl
none_empty (name ∷ names) h =
    let parts = and_parts (is_file_name name) (list_all is_file_name names) h in
    rw (not-true (is_empty name) (and_parts (not (is_empty name)) (list_all (is_other 44) name) parts.0).0)
    (none_empty names parts.1)

-- a part is read as it is
pub part_found : (word : List ℕ) (names : List (List ℕ)) → part_at word ≡ Some names → IsPart names word
unfolding part_at
part_found word names h =
    elim (cond_cases (list_any is_empty (between 44 word)) None (Some (between 44 word)) (Some names) h) [
      | inl w ↦ absurd (let e = w.1 in cc)
      | inr w ↦ let same : between 44 word ≡ names = (let e = w.1 in cc) in
          subst (λ l. IsPart l word) same
          (some_cut 44 word, files_from (between 44 word) w.0 (cut_other 44 word), sym (joined_cut 44 word))
    ]

pub part_again : (word : List ℕ) (names : List (List ℕ)) → IsPart names word → part_at word ≡ Some names
unfolding part_at
part_again word names is =
    let free : list_all (list_all (is_other 44)) names ≡ true =
    all_pass is_file_name (list_all (is_other 44))
    (λ name h. (and_parts (not (length name == 0)) (list_all (is_other 44) name) h).1) names is.1 in
    let same : between 44 word ≡ names = ap (between 44) is.2 ∙ cut_joined 44 names is.0 free in
    cond-false (list_any is_empty (between 44 word)) None (Some (between 44 word))
    (ap (list_any is_empty) same ∙ none_empty names is.1) ∙ ap (λ l. Some l) same
