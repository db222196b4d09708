-- Plain texts, and lists of which something holds of each item.
use Rattle.std.proofs.Common.{◌≡◌, inl, inr, ℕ, zero, suc, Bool, true, false, cond, List, [], ◌∷◌, ◌++◌}
use Rattle.std.proofs.Common.{map, find, Some, refl, ◌∙◌, subst}
use Rattle.std.specs.Prelude.{filter, slice_get}
use Rattle.std.specs.List.{AllByRecursion, flat_map, list_all}
use Rattle.std.proofs.lemmas.Bool.{and_from}
use Rattle.std.proofs.lemmas.List.Folds.{list_all-append}
use Rattle.std.proofs.lemmas.Option.{none-some, same_Some}
use Rattle.au_names.proofs.AmongLemmas.{Among}
use Rattle.au_told.specs.Names.{IsPlain, is_plain}

-- ---- lists

module _ {A : Type 0} (P : A → Type 0) where
  pub all_both : (xs ys : List A) → AllByRecursion P xs → AllByRecursion P ys → AllByRecursion P (xs ++ ys)
  all_both [] ys h k = k
  all_both (x ∷ xs) ys h k = (h.0, all_both xs ys h.1 k)

  pub all_front : (xs ys : List A) → AllByRecursion P (xs ++ ys) → AllByRecursion P xs
  all_front [] ys h = tt
  all_front (x ∷ xs) ys h = (h.0, all_front xs ys h.1)

  pub all_back : (xs ys : List A) → AllByRecursion P (xs ++ ys) → AllByRecursion P ys
  all_back [] ys h = h
  all_back (x ∷ xs) ys h = all_back xs ys h.1

  pub all_filtered : (t : A → Bool) (xs : List A) → AllByRecursion P xs → AllByRecursion P (filter t xs)
  all_filtered t [] h = tt
  all_filtered t (x ∷ xs) h = by (t x) (all_filtered t xs h.1)
    where
      by : (b : Bool) → AllByRecursion P (filter t xs) → AllByRecursion P
          (cond b (x ∷ filter t xs) (filter t xs))
      by true k = (h.0, k)
      by false k = k

  pub all_each : ((x : A) → P x) → (xs : List A) → AllByRecursion P xs
  all_each each [] = tt
  all_each each (x ∷ xs) = (each x, all_each each xs)

  -- one that is found, and one at a place
  pub all_found : (t : A → Bool) (xs : List A) → AllByRecursion P xs → (x : A) → find t xs ≡ Some x → P x
  all_found t [] h x e = absurd (none-some x e)
  all_found t (y ∷ ys) h x e = by (t y) e (all_found t ys h.1 x)
    where
      by : (b : Bool) → cond b (Some y) (find t ys) ≡ Some x → (find t ys ≡ Some x → P x) → P x
      by true e later = subst P (same_Some y x e) h.0
      by false e later = later e

  pub all_got : (xs : List A) → AllByRecursion P xs → (i : ℕ) (x : A) → slice_get xs i ≡ Some x → P x
  all_got [] h i x e = absurd (none-some x e)
  all_got (y ∷ ys) h zero x e = subst P (same_Some y x e) h.0
  all_got (y ∷ ys) h (suc i) x e = all_got ys h.1 i x e

  pub all_at : (xs : List A) → AllByRecursion P xs → (x : A) → Among x xs → P x
  all_at [] h x m = absurd m
  all_at (y ∷ ys) h x (inl here) = subst P here h.0
  all_at (y ∷ ys) h x (inr later) = all_at ys h.1 x later

  pub all_among : (xs : List A) → ((x : A) → Among x xs → P x) → AllByRecursion P xs
  all_among [] each = tt
  all_among (x ∷ xs) each = (each x (inl refl), all_among xs (λ y m. each y (inr m)))

module _ {A B : Type 0} (P : B → Type 0) (f : A → B) where
  pub all_mapped : (xs : List A) → AllByRecursion (λ x. P (f x)) xs → AllByRecursion P (map f xs)
  all_mapped [] h = tt
  all_mapped (x ∷ xs) h = (h.0, all_mapped xs h.1)

  pub all_before : (xs : List A) → AllByRecursion P (map f xs) → AllByRecursion (λ x. P (f x)) xs
  all_before [] h = tt
  all_before (x ∷ xs) h = (h.0, all_before xs h.1)

module _ {A B : Type 0} (P : B → Type 0) (f : A → List B) where
  pub all_from_each : (xs : List A) → AllByRecursion (λ x. AllByRecursion P (f x)) xs
      → AllByRecursion P (flat_map f xs)
  all_from_each [] h = tt
  all_from_each (x ∷ xs) h = all_both P (f x) (flat_map f xs) h.0 (all_from_each xs h.1)

  -- what holds of all that items come to holds of what each does
  pub all_of_each : (xs : List A) → AllByRecursion P (flat_map f xs)
      → AllByRecursion (λ x. AllByRecursion P (f x)) xs
  all_of_each [] h = tt
  all_of_each (x ∷ xs) h =
      (all_front P (f x) (flat_map f xs) h, all_of_each xs (all_back P (f x) (flat_map f xs) h))

-- ---- plain texts

pub plain_both : (a b : List ℕ) → IsPlain a → IsPlain b → IsPlain (a ++ b)
plain_both a b h k =
    list_all-append is_plain a b ∙ and_from (list_all is_plain a) (list_all is_plain b) h k
