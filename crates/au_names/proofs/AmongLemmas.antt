-- What is among the items of a list, and where nothing is found.
use Rattle.std.proofs.Common.{◌≡◌, ℕ, zero, suc, ◌+◌, ◌<◌, ◌⊎◌, inl, inr, List, [], ◌∷◌, ◌++◌, length, get_or}
use Rattle.std.proofs.Common.{Option, Some, None, refl, ap, sym, ◌∙◌, subst, Contains, slice_get, arith}
use Rattle.std.proofs.Common.{zero-add, Bool, true, true≢false}
use Rattle.std.specs.List.{flat_map, list_any}
use Rattle.std.specs.Option.{option_or}
use Rattle.std.proofs.lemmas.Option.{none-some, same_Some}
use Rattle.std.proofs.lemmas.Bool.{or_cases, or_left, or_right}
use Rattle.au_base.proofs.OptionLemmas.{or_first, or_second, or_neither}

-- ---- one of a list

-- this is one of the items
abbrev pub Among : {A : Type 0} → A → List A → Type 0
Among x [] = ⊥
Among x (y ∷ ys) = (y ≡ x) ⊎ Among x ys

pub among : {A : Type 0} (xs : List A) (x : A) → Contains xs x → Among x xs
among [] x c = omega (arith, c.1)
among (y ∷ ys) x c = by c.0 c.1 c.2 (among ys x)
  where
    by : (k : ℕ) → k < length (y ∷ ys) → get_or (y ∷ ys) k x ≡ x → (Contains ys x → Among x ys)
        → Among x (y ∷ ys)
    by zero within here rest = inl here
    by (suc k) within here rest = inr (rest (k, omega arith, here))

pub contains : {A : Type 0} (xs : List A) (x : A) → Among x xs → Contains xs x
contains [] x m = absurd m
contains (y ∷ ys) x (inl here) = (0, omega arith, here)
contains (y ∷ ys) x (inr later) =
    let there : Contains ys x = contains ys x later in
    (suc there.0, omega (arith, there.1), there.2)

pub among-append_left : {A : Type 0} (xs ys : List A) (x : A) → Among x xs → Among x (xs ++ ys)
among-append_left [] ys x m = absurd m
among-append_left (y ∷ xs) ys x (inl here) = inl here
among-append_left (y ∷ xs) ys x (inr later) = inr (among-append_left xs ys x later)

pub among-append_right : {A : Type 0} (xs ys : List A) (x : A) → Among x ys → Among x (xs ++ ys)
among-append_right [] ys x m = m
among-append_right (y ∷ xs) ys x m = inr (among-append_right xs ys x m)

pub among-append : {A : Type 0} (xs ys : List A) (x : A) → Among x (xs ++ ys) → Among x xs ⊎ Among x ys
among-append [] ys x m = inr m
among-append (y ∷ xs) ys x (inl here) = inl (inl here)
among-append (y ∷ xs) ys x (inr later) = by (among-append xs ys x later)
  where
    by : Among x xs ⊎ Among x ys → Among x (y ∷ xs) ⊎ Among x ys
    by (inl m) = inl (inr m)
    by (inr m) = inr m

pub among-flat_map : {A B : Type 0} (f : A → List B) (xs : List A) (y : B)
    → Among y (flat_map f xs) → (x : A) × Among x xs × Among y (f x)
among-flat_map f [] y m = absurd m
among-flat_map f (x ∷ xs) y m = by (among-append (f x) (flat_map f xs) y m) (among-flat_map f xs y)
  where
    by : Among y (f x) ⊎ Among y (flat_map f xs)
        → (Among y (flat_map f xs) → (z : _) × Among z xs × Among y (f z))
        → (z : _) × Among z (x ∷ xs) × Among y (f z)
    by (inl here) rest = (x, inl refl, here)
    by (inr later) rest = ((rest later).0, inr (rest later).1, (rest later).2)

pub among-flat_map_from : {A B : Type 0} (f : A → List B) (xs : List A) (x : A) (y : B)
    → Among x xs → Among y (f x) → Among y (flat_map f xs)
among-flat_map_from f [] x y m n = absurd m
among-flat_map_from f (z ∷ xs) x y (inl here) n = among-append_left (f z)
    (flat_map f xs) y (subst (λ w. Among y (f w)) (sym here) n)
among-flat_map_from f (z ∷ xs) x y (inr later) n = among-append_right (f z)
    (flat_map f xs) y (among-flat_map_from f xs x y later n)

-- ---- the first of what the items of a list have, each at its place

module _ {A B : Type 0} (one : ℕ → A → Option B) (all : ℕ → List A → Option B)
    (none : (start : ℕ) → all start [] ≡ None)
    (more : (start : ℕ) (x : A) (xs : List A) → all start (x ∷ xs)
    ≡ option_or (one start x) (all (start + 1) xs)) where
  nothing_from : (start : ℕ) (rest : List A) → all start rest ≡ None
      → (i : ℕ) (x : A) → slice_get rest i ≡ Some x → one (start + i) x ≡ None
  nothing_from start [] h i x here = absurd (none-some x here)
  nothing_from start (y ∷ ys) h zero x here =
      let same : start + 0 ≡ start = omega arith in
      ap (λ place. one place x) same
      ∙ ap (one start) (sym (same_Some y x here))
      ∙ or_first (one start y) (all (start + 1) ys) (sym (more start y ys) ∙ h)
  nothing_from start (y ∷ ys) h (suc i) x here =
      let same : start + suc i ≡ start + 1 + i = omega arith in
      ap (λ place. one place x) same
      ∙ nothing_from (start + 1) ys (or_second (one start y) (all (start + 1) ys)
      (sym (more start y ys) ∙ h)) i x here

  nothing_to : (start : ℕ) (rest : List A)
      → ((i : ℕ) (x : A) → slice_get rest i ≡ Some x → one (start + i) x ≡ None)
      → all start rest ≡ None
  nothing_to start [] h = none start
  nothing_to start (y ∷ ys) h =
      let first : start ≡ start + 0 = omega arith in
      more start y ys
      ∙ or_neither (one start y) (all (start + 1) ys)
      (ap (λ place. one place y) first ∙ h 0 y refl)
      (nothing_to (start + 1) ys
      (λ i x here.
      let next : start + 1 + i ≡ start + suc i = omega arith in
      ap (λ place. one place x) next ∙ h (suc i) x here))

  -- where nothing is found, no item has anything
  pub nothing_at : (xs : List A) → all 0 xs ≡ None → (i : ℕ) (x : A) → slice_get xs i ≡ Some x
      → one i x ≡ None
  nothing_at xs h i x here = ap (λ place. one place x) (sym (zero-add i)) ∙ nothing_from 0 xs h i x here

  -- and where no item has anything, nothing is found
  pub nothing_all : (xs : List A) → ((i : ℕ) (x : A) → slice_get xs i ≡ Some x → one i x ≡ None)
      → all 0 xs ≡ None
  nothing_all xs h = nothing_to 0 xs (λ i x here. ap (λ place. one place x) (zero-add i) ∙ h i x here)

-- ---- tests of lists

-- where one passes a test, one among them does
pub any_found : {A : Type 0} (p : A → Bool) (xs : List A) → list_any p xs ≡ true
    → (x : A) × Among x xs × (p x ≡ true)
any_found p [] h = absurd (true≢false (sym h))
any_found p (y ∷ ys) h = by (or_cases (p y) (list_any p ys) h) (any_found p ys)
  where
    by : (p y ≡ true) ⊎ (list_any p ys ≡ true) → (list_any p ys ≡ true → (x : _) × Among x ys × (p x ≡ true))
        → (x : _) × Among x (y ∷ ys) × (p x ≡ true)
    by (inl here) on = (y, inl refl, here)
    by (inr later) on = let rest = on later in (rest.0, inr rest.1, rest.2)

-- where one among them passes a test, one passes
pub any_there : {A : Type 0} (p : A → Bool) (xs : List A) (x : A) → Among x xs → p x ≡ true
    → list_any p xs ≡ true
any_there p [] x m h = absurd m
any_there p (y ∷ ys) x (inl here) h = or_left (p y) (list_any p ys) (ap p here ∙ h)
any_there p (y ∷ ys) x (inr later) h = or_right (p y) (list_any p ys) (any_there p ys x later h)
