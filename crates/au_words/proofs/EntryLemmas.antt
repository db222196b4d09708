-- Entries, which are cut at their colon.
use Rattle.std.proofs.Common.{◌≡◌, ◌≢◌, ℕ, ◌+◌, ◌<◌, ◌≤◌, suc, Bool, true, false, not, ◌&&◌, ◌||◌, ◌==◌}
use Rattle.std.proofs.Common.{nat_le, List, [], ◌∷◌, ◌++◌, length, take, drop, get_or, Some, flat_map, ap}
use Rattle.std.proofs.Common.{◌∙◌, sym, refl, subst, arith, inl, inr, le-leb, leb-true, eqb-true, eq-eqb}
use Rattle.std.proofs.Common.{ne_eqb, take-append-drop, drop-cons, length-append, add-one}
use Rattle.std.specs.List.{list_all}
use Rattle.std.proofs.lemmas.Bool.{and_parts, and_from, cases_Bool, cond-true, cond-false}
use Rattle.std.proofs.lemmas.List.Folds.{list_all-append}
use Rattle.std.proofs.lemmas.List.Sums.{prefix_len_stops, prefix_len-le-length}
use Rattle.au_base.specs.Limits.{most_name_bytes}
use Rattle.au_lexer.specs.Bytes.{is_letter, is_digit, is_name_byte}
use Rattle.au_lexer.proofs.RunLemmas.{prefix_pass}
use Rattle.au_words.specs.Jobs.{is_spelled_as_name, is_other, is_name, is_keyword, joined, IsModuleName}
use Rattle.au_words.specs.Jobs.{IsEntry, entry_spelling}
use Rattle.au_words.specs.Reading.{between, home_size, home_at, function_at, is_home, is_function, entry_at}
use Rattle.au_base.specs.declared.names.Entry.{Entry}
use Rattle.au_base.proofs.BoolLemmas.{cond_cases}
use Rattle.au_words.proofs.NameLemmas.{all_pass, cut_joined, joined_cut, some_cut}

-- a byte that may stand in a name is no sign
other_than : (sign byte : ℕ) → is_name_byte sign ≡ false → is_name_byte byte ≡ true → is_other sign byte ≡ true
other_than sign byte outside inside =
    elim (cases_Bool (byte == sign)) [
      | inl is ↦ absurd (let e = eqb-true byte sign is in cc)
      | inr not_one ↦ ap not not_one
    ]

letter_in_name : (byte : ℕ) → is_letter byte ≡ true → is_name_byte byte ≡ true
letter_in_name byte h = ap (λ b. (b || is_digit byte) || byte == 95) h

name_bytes : (name : List ℕ) → is_name name ≡ true → list_all is_name_byte name ≡ true
name_bytes [] h = refl
name_bytes (first ∷ rest) h =
    let spelled = (and_parts (is_spelled_as_name (first ∷ rest)) (not (is_keyword (first ∷ rest))) h).0 in
    let parts = and_parts (is_letter first) (list_all is_name_byte rest) spelled in
    and_from (is_name_byte first) (list_all is_name_byte rest) (letter_in_name first parts.0) parts.1

name_without : (sign : ℕ) → is_name_byte sign ≡ false → (name : List ℕ) → is_name name ≡ true →
    list_all (is_other sign) name ≡ true
name_without sign outside name h = all_pass is_name_byte (is_other sign)
    (λ byte. other_than sign byte outside) name (name_bytes name h)

-- names with dots between have no colon
flat_without : (names : List (List ℕ)) → list_all is_name names ≡ true →
    list_all (is_other 58) (flat_map (λ other. 46 ∷ other) names) ≡ true
flat_without [] h = refl
flat_without (name ∷ names) h =
    let parts = and_parts (is_name name) (list_all is_name names) h in
    list_all-append (is_other 58) (46 ∷ name) (flat_map (λ other. 46 ∷ other) names)
    ∙ and_from (list_all (is_other 58) name) _ (name_without 58 refl name parts.0) (flat_without names parts.1)

joined_without : (names : List (List ℕ)) → list_all is_name names ≡ true →
    list_all (is_other 58) (joined 46 names) ≡ true
joined_without [] h = refl
joined_without (name ∷ names) h =
    let parts = and_parts (is_name name) (list_all is_name names) h in
    list_all-append (is_other 58) name (flat_map (λ other. 46 ∷ other) names)
    ∙ and_from (list_all (is_other 58) name) _ (name_without 58 refl name parts.0) (flat_without names parts.1)

-- bytes with a colon are what stands before it, it, and what stands behind it
at_colon : (bytes : List ℕ) → home_size bytes ≢ length bytes → home_at bytes ++ 58 ∷ function_at bytes ≡ bytes
at_colon bytes has =
    let size : ℕ = home_size bytes in
    let most : size ≤ length bytes = prefix_len-le-length (is_other 58) bytes in
    let within : size < length bytes = omega arith in
    let stops : not (get_or bytes size 0 == 58) ≡ false = prefix_len_stops (is_other 58) bytes 0 within in
    let colon : get_or bytes size 0 ≡ 58 = eqb-true _ 58 (not_false _ stops) in
    let behind : drop size bytes ≡ get_or bytes size 0 ∷ drop (suc size) bytes = drop-cons bytes size 0 within in
    let same : 58 ∷ function_at bytes ≡ drop size bytes = ap (λ n. 58 ∷ drop n bytes) (add-one size)
    ∙ ap (λ b. b ∷ drop (suc size) bytes) (sym colon) ∙ sym behind in
    ap (λ l. take size bytes ++ l) same ∙ take-append-drop size bytes
  where
    not_false : (b : Bool) → not b ≡ false → b ≡ true
    not_false true h = refl
    not_false false h = cc

-- a module's name of at most 64 bytes
home_found : (bytes : List ℕ) → is_home bytes ≡ true → IsModuleName bytes × (length bytes ≤ most_name_bytes)
home_found bytes h =
    let parts = and_parts (nat_le (length bytes) most_name_bytes) (list_all is_name (between 46 bytes)) h in (
      (between 46 bytes, some_cut 46 bytes, parts.1, sym (joined_cut 46 bytes)),
      leb-true (length bytes) most_name_bytes parts.0,
    )

home_again : (bytes : List ℕ) → IsModuleName bytes → length bytes ≤ most_name_bytes → is_home bytes ≡ true
home_again bytes named few =
    let free : list_all (list_all (is_other 46)) named.0 ≡ true = all_pass is_name (list_all (is_other 46))
    (name_without 46 refl) named.0 named.2 in
    let same : between 46 bytes ≡ named.0 = ap (between 46) named.3 ∙ cut_joined 46 named.0 named.1 free in
    and_from (nat_le (length bytes) most_name_bytes) (list_all is_name (between 46 bytes))
    (le-leb (length bytes) most_name_bytes few) (ap (list_all is_name) same ∙ named.2)

-- the entry that bytes spell
pub entry_found : (bytes : List ℕ) (entry : Entry) → entry_at bytes ≡ Some entry → IsEntry entry
    × (entry_spelling entry ≡ bytes)
unfolding entry_at
entry_found bytes entry h =
    elim (cond_cases (home_size bytes == length bytes) _ _ (Some entry) h) [
      | inl w ↦ absurd (let e = w.1 in cc)
      | inr w ↦ elim (cond_cases (is_home (home_at bytes) && is_function (function_at bytes)) _ _ (Some entry)
          w.1) [
            | inl v ↦
                let found : Entry = record { «module» = home_at bytes; function = function_at bytes } in
                let same : found ≡ entry = (let e = v.1 in cc) in
                let parts = and_parts (is_home (home_at bytes)) (is_function (function_at bytes)) v.0 in
                let home = home_found (home_at bytes) parts.0 in
                let function = and_parts (nat_le (length (function_at bytes)) most_name_bytes)
                (is_name (function_at bytes)) parts.1 in
                let has : home_size bytes ≢ length bytes =
                λ e. absurd (let t = eq-eqb (home_size bytes) (length bytes) e in let f = w.0 in cc) in
                subst (λ n. IsEntry n × (entry_spelling n ≡ bytes)) same (
                  (
                    home.0,
                    home.1,
                    function.1,
                    leb-true (length (function_at bytes)) most_name_bytes function.0,
                  ),
                  at_colon bytes has,
                )
            | inr v ↦ absurd (let e = v.1 in cc)
          ]
    ]

take_whole : (xs ys : List ℕ) → take (length xs) (xs ++ ys) ≡ xs
take_whole [] ys = refl
take_whole (x ∷ xs) ys = ap (λ l. x ∷ l) (take_whole xs ys)

drop_whole : (xs : List ℕ) (y : ℕ) (ys : List ℕ) → drop (suc (length xs)) (xs ++ y ∷ ys) ≡ ys
drop_whole [] y ys = refl
drop_whole (x ∷ xs) y ys = drop_whole xs y ys

abbrev entry_of : List ℕ → List ℕ → Entry
entry_of home function = record { «module» = home; function = function }

pub entry_again : (entry : Entry) → IsEntry entry → entry_at (entry_spelling entry) ≡ Some entry
unfolding entry_at
entry_again entry is =
    let home : List ℕ = entry.«module» in
    let function : List ℕ = entry.function in
    let bytes : List ℕ = home ++ 58 ∷ function in
    let free : list_all (is_other 58) home ≡ true = ap (list_all (is_other 58)) is.0.3 ∙ joined_without is.0.0 is.0.2 in
    let size : home_size bytes ≡ length home =
    (let e = prefix_pass (is_other 58) home (58 ∷ function) free in let r : home_size bytes ≡ length home =
    omega (arith, e) in r) in
    let before : home_at bytes ≡ home = ap (λ n. take n bytes) size ∙ take_whole home (58 ∷ function) in
    let behind : function_at bytes ≡ function = ap (λ n. drop (n + 1) bytes) size
    ∙ ap (λ n. drop n bytes) (add-one (length home)) ∙ drop_whole home 58 function in
    let short : length bytes ≡ length home + length (58 ∷ function) = length-append home (58 ∷ function) in
    let other : home_size bytes ≢ length bytes = λ e. omega (arith, e, size, short) in
    let test : (is_home (home_at bytes) && is_function (function_at bytes)) ≡ true =
    and_from (is_home (home_at bytes)) (is_function (function_at bytes))
    (ap is_home before ∙ home_again home is.0 is.1)
    (ap is_function behind ∙ and_from (nat_le (length function) most_name_bytes) (is_name function)
    (le-leb (length function) most_name_bytes is.3) is.2) in
    cond-false (home_size bytes == length bytes) _ _ (ne_eqb (home_size bytes) (length bytes) other)
    ∙ cond-true (is_home (home_at bytes) && is_function (function_at bytes)) _ _ test
    ∙ ap (λ l. Some (entry_of l (function_at bytes))) before
    ∙ ap (λ l. Some (entry_of home l)) behind
