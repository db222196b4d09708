-- Bytes without the blanks at their end.
use Rattle.std.proofs.Common.{◌≡◌, ℕ, ◌+◌, ◌<◌, Bool, true, false, ◌&&◌, ◌==◌, cond, List, [], ◌∷◌, ◌++◌, length}
use Rattle.std.proofs.Common.{take, get_or, ap, ◌∙◌, sym, refl, inl, inr, arith, length-append}
use Rattle.std.specs.List.{list_all}
use Rattle.std.proofs.lemmas.List.{take_more}
use Rattle.std.proofs.lemmas.Bool.{cases_Bool, cond-true, cond-false, and_parts, and_from, ne_eqb}
use Rattle.au_base.proofs.BoolLemmas.{and_true, and_false}
use Rattle.au_format.specs.Layout.{is_trailing, trimmed, trimmed_before}

-- bytes with one at their end are some
none_not : (bytes : List ℕ) (byte : ℕ) → (length (bytes ++ byte ∷ []) == 0) ≡ false
none_not bytes byte = ne_eqb (length (bytes ++ byte ∷ [])) 0
    (λ (e : length (bytes ++ byte ∷ []) ≡ 0). omega (arith, e, length-append bytes (byte ∷ [])))

-- one byte more at the end
trimmed_more : (bytes : List ℕ) (byte : ℕ) → trimmed (bytes ++ byte ∷ [])
    ≡ cond (is_trailing byte) (trimmed bytes) (bytes ++ byte ∷ [])
trimmed_more [] byte = ap (λ b. cond b [] (byte ∷ [])) (and_true (is_trailing byte))
trimmed_more (first ∷ bytes) byte =
    let more = ap (trimmed_before first) (trimmed_more bytes byte) in
    elim (cases_Bool (is_trailing byte)) [
      | inl e ↦ more ∙ ap (trimmed_before first) (cond-true _ _ _ e) ∙ sym (cond-true _ _ _ e)
      | inr e ↦
          more ∙ ap (trimmed_before first) (cond-false _ _ _ e)
          ∙ cond-false _ _ _ (ap (λ b. is_trailing first && b) (none_not bytes byte) ∙ and_false (is_trailing first))
          ∙ sym (cond-false _ _ _ e)
    ]

-- a blank more
pub trim_keeps : (bytes : List ℕ) (i size : ℕ) → i < length bytes → is_trailing (get_or bytes i 0) ≡ true →
    trimmed (take i bytes) ≡ take size bytes → trimmed (take (i + 1) bytes) ≡ take size bytes
trim_keeps bytes i size h e so_far =
    ap trimmed (take_more bytes i 0 h) ∙ trimmed_more (take i bytes) (get_or bytes i 0) ∙ cond-true _ _ _ e ∙ so_far

-- another byte more
pub trim_grows : (bytes : List ℕ) (i : ℕ) → i < length bytes → is_trailing (get_or bytes i 0) ≡ false →
    trimmed (take (i + 1) bytes) ≡ take (i + 1) bytes
trim_grows bytes i h e =
    ap trimmed (take_more bytes i 0 h) ∙ trimmed_more (take i bytes) (get_or bytes i 0) ∙ cond-false _ _ _ e
    ∙ sym (take_more bytes i 0 h)

-- bytes without blanks at their end stay so
pub trimmed_again : (bytes : List ℕ) → trimmed (trimmed bytes) ≡ trimmed bytes
trimmed_again [] = refl
trimmed_again (byte ∷ bytes) =
    let test : Bool = is_trailing byte && (length (trimmed bytes) == 0) in
    elim (cases_Bool test) [
      | inl e ↦ ap trimmed (cond-true _ _ _ e) ∙ sym (cond-true _ _ _ e)
      | inr e ↦ ap trimmed (cond-false _ _ _ e) ∙ ap (trimmed_before byte) (trimmed_again bytes)
    ]

-- what holds of all bytes holds of those
pub trimmed_all : (p : ℕ → Bool) (bytes : List ℕ) → list_all p bytes ≡ true → list_all p (trimmed bytes) ≡ true
trimmed_all p [] h = refl
trimmed_all p (byte ∷ bytes) h =
    let parts = and_parts (p byte) (list_all p bytes) h in
    let test : Bool = is_trailing byte && (length (trimmed bytes) == 0) in
    elim (cases_Bool test) [
      | inl e ↦ ap (list_all p) (cond-true _ _ _ e)
      | inr e ↦ ap (list_all p) (cond-false _ _ _ e) ∙ and_from (p byte) _ parts.0 (trimmed_all p bytes parts.1)
    ]
