-- What is looked up in lists of which one item is set, or that have one more.
use Rattle.std.proofs.Common.{◌≡◌, ◌⊎◌, inl, inr, ℕ, zero, suc, ◌+◌, ◌<◌, ◌≤◌, ◌==◌, Bool, true, false, List, [], ◌∷◌}
use Rattle.std.proofs.Common.{◌++◌, length, Option, Some, None, refl, sym, ap, subst, ◌∙◌, slice_get, arith}
use Rattle.std.proofs.Common.{if◌then◌else◌}
use Rattle.std.specs.Prelude.{slice_set}
use Rattle.std.proofs.lemmas.Bool.{eq-eqb, eqb-true}
use Rattle.au_effects.specs.Parts.{along}

-- numbers whose test fails differ
not_same : (i j : ℕ) → (i == j) ≡ false → i ≡ j → ⊥
not_same i j e same = let wrong : false ≡ true = sym e ∙ eq-eqb i j same in absurd cc

module _ {A : Type 0} where
  get_self : (xs : List A) (i : ℕ) (x : A) → i < length xs → slice_get (slice_set xs i x) i ≡ Some x
  get_self [] i x less = absurd (omega arith)
  get_self (y ∷ ys) zero x less = refl
  get_self (y ∷ ys) (suc i) x less = get_self ys i x (omega arith)

  get_other : (xs : List A) (i j : ℕ) (x : A) → (i ≡ j → ⊥) → slice_get (slice_set xs i x) j ≡ slice_get xs j
  get_other [] i j x differ = refl
  get_other (y ∷ ys) zero zero x differ = absurd (differ refl)
  get_other (y ∷ ys) zero (suc j) x differ = refl
  get_other (y ∷ ys) (suc i) zero x differ = refl
  get_other (y ∷ ys) (suc i) (suc j) x differ = get_other ys i j x (λ same. differ (ap suc same))

  get_last : (xs : List A) (x : A) → slice_get (xs ++ x ∷ []) (length xs) ≡ Some x
  get_last [] x = refl
  get_last (y ∷ ys) x = get_last ys x

  get_before : (xs : List A) (j : ℕ) (x : A) → (length xs ≡ j → ⊥) → slice_get (xs ++ x ∷ []) j ≡ slice_get xs j
  get_before [] zero x differ = absurd (differ refl)
  get_before [] (suc j) x differ = refl
  get_before (y ∷ ys) zero x differ = refl
  get_before (y ∷ ys) (suc j) x differ = get_before ys j x (λ same. differ (ap suc same))

  pub length_more : (xs : List A) (x : A) → length (xs ++ x ∷ []) ≡ suc (length xs)
  length_more [] x = refl
  length_more (y ∷ ys) x = ap suc (length_more ys x)

  pub get_none : (xs : List A) → slice_get xs (length xs) ≡ None
  get_none [] = refl
  get_none (y ∷ ys) = get_none ys

  pub get_within : (xs : List A) (i : ℕ) (x : A) → slice_get xs i ≡ Some x → i < length xs
  get_within [] i x h = absurd cc
  get_within (y ∷ ys) zero x h = omega arith
  get_within (y ∷ ys) (suc i) x h = let less = get_within ys i x h in omega arith

module _ {A C : Type 0} (go : A → Option C) where
  pub along_set : (xs : List A) (i j : ℕ) (x : A) → i < length xs
      → along (slice_get (slice_set xs i x) j) go ≡ (if i == j then go x else along (slice_get xs j) go)
  along_set xs i j x less = by (i == j) refl
    where
      by : (b : Bool) → (i == j) ≡ b
          → along (slice_get (slice_set xs i x) j) go ≡ (if b then go x else along (slice_get xs j) go)
      by true e =
          ap (λ o. along o go)
          (subst (λ k. slice_get (slice_set xs i x) k ≡ Some x) (eqb-true i j e) (get_self xs i x less))
      by false e = ap (λ o. along o go) (get_other xs i j x (not_same i j e))

  pub along_more : (xs : List A) (j : ℕ) (x : A)
      → along (slice_get (xs ++ x ∷ []) j) go ≡ (if length xs == j then go x else along (slice_get xs j) go)
  along_more xs j x = by (length xs == j) refl
    where
      by : (b : Bool) → (length xs == j) ≡ b
          → along (slice_get (xs ++ x ∷ []) j) go ≡ (if b then go x else along (slice_get xs j) go)
      by true e =
          ap (λ o. along o go)
          (subst (λ k. slice_get (xs ++ x ∷ []) k ≡ Some x) (eqb-true (length xs) j e) (get_last xs x))
      by false e = ap (λ o. along o go) (get_before xs j x (not_same (length xs) j e))

-- what is there already may as well be put there
pub put_same : {A : Type 0} (i j : ℕ) (f : ℕ → A) (a : A) → f i ≡ a → (if i == j then a else f j) ≡ f j
put_same i j f a is = by (i == j) refl
  where
    by : (b : Bool) → (i == j) ≡ b → (if b then a else f j) ≡ f j
    by true e = sym is ∙ ap f (eqb-true i j e)
    by false e = refl
