-- What is found first, and lists with one more item.
use Rattle.std.proofs.Common.{◌≡◌, ℕ, ◌+◌, ◌<◌, ◌≤◌, Bool, true, false, cond, List, [], ◌∷◌, ◌++◌, length}
use Rattle.std.proofs.Common.{map, drop, get_or, find, suc, zero, refl, sym, ap, ◌∙◌, ◌⊎◌, inl, inr, arith}
use Rattle.std.specs.Prelude.{None, Some, position, slice_get}
use Rattle.std.specs.List.{position_from}
use Rattle.std.proofs.lemmas.Iterator.Adapters.{position_from-zero}
use Rattle.std.proofs.lemmas.List.{drop_all, drop_more}
use Rattle.std.proofs.lemmas.Option.{same_Some}

-- ---- what is found first

module _ {A B : Type 0} (v : A → B) (t : B → Bool) where
  -- nothing is found so far
  abbrev pub NoneYet : List A → ℕ → Type 0
  NoneYet items i = find t (map v items) ≡ find t (map v (drop i items))

  module _ (items : List A) (i : ℕ) (x : A) (less : i < length items) (here : x ≡ get_or items i x)
      (none : NoneYet items i) where
    step : (b : Bool) → t (v x) ≡ b
        → find t (map v items) ≡ cond b (Some (v x)) (find t (map v (drop (i + 1) items)))
    step b is =
        none
        ∙ ap (λ r. find t (map v r)) (drop_more items i x less ∙ ap (λ y. y ∷ drop (i + 1) items) (sym here))
        ∙ ap (λ c. cond c (Some (v x)) (find t (map v (drop (i + 1) items)))) is

    pub found_here : (whole : List A) → items ≡ whole → t (v x) ≡ true → Some (v x) ≡ find t (map v whole)
    found_here whole same is = sym (step true is) ∙ ap (λ r. find t (map v r)) same

    pub not_here : t (v x) ≡ false → NoneYet items (i + 1)
    not_here is = step false is

  pub found_nowhere : (whole items : List A) (i : ℕ) → items ≡ whole → length items ≤ i → NoneYet items i
      → None ≡ find t (map v whole)
  found_nowhere whole items i same past none =
      sym (none ∙ ap (λ r. find t (map v r)) (drop_all i items past)) ∙ ap (λ r. find t (map v r)) same

-- a test that always fails finds no place
nothing_from : {A : Type 0} (n : ℕ) (xs : List A) → position_from (λ x. false) n xs ≡ None
nothing_from n [] = refl
nothing_from n (x ∷ xs) = nothing_from (n + 1) xs

pub nothing_placed : {A : Type 0} (xs : List A) → position (λ x. false) xs ≡ None
nothing_placed xs = position_from-zero (λ x. false) xs ∙ nothing_from 0 xs

-- ---- one more item

pub pushed : {A : Type 0} (xs : List A) (y x : A) (k : ℕ) → slice_get (xs ++ y ∷ []) k ≡ Some x
    → (slice_get xs k ≡ Some x) ⊎ ((k ≡ length xs) × (x ≡ y))
pushed [] y x zero e = inr (refl, sym (same_Some y x e))
pushed [] y x (suc k) e = absurd cc
pushed (z ∷ xs) y x zero e = inl e
pushed {A} (z ∷ xs) y x (suc k) e = by (pushed xs y x k e)
  where
    by : (slice_get xs k ≡ Some x) ⊎ ((k ≡ length xs) × (x ≡ y))
        → (slice_get (z ∷ xs) (suc k) ≡ Some x) ⊎ ((suc k ≡ length (z ∷ xs)) × (x ≡ y))
    by (inl before) = inl before
    by (inr last) = inr (ap suc last.0, last.1)

-- what stands at a place within a list
pub there : {A : Type 0} (xs : List A) (i : ℕ) → i < length xs → (x : A) × (slice_get xs i ≡ Some x)
there [] i less = absurd (omega arith)
there (x ∷ xs) zero less = (x, refl)
there (x ∷ xs) (suc i) less = there xs i (omega arith)
