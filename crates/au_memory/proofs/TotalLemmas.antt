-- What roots count together.
use Rattle.std.proofs.Common.{◌≡◌, ◌⊎◌, inl, inr, ℕ, zero, suc, ◌+◌, ◌≤◌, ◌<◌, refl, ap, subst, arith}
use Rattle.std.specs.Prelude.{Option, None}
use Rattle.std.proofs.lemmas.Bool.{cases_eq, eq-eqb, ne_eqb}
use Rattle.au_places.specs.Places.{Id}
use Rattle.au_memory.specs.Forests.{Held, Forest, with_root, in_root, in_forest}

-- ---- one root

pub root_self : (g : ℕ) (o : Option Held) (f : Forest) → with_root g o f g ≡ o
root_self g o f = rw (eq-eqb g g refl)

pub root_other : (g k : ℕ) (o : Option Held) (f : Forest) → (g ≡ k → ⊥) → with_root g o f k ≡ f k
root_other g k o f differ = rw (ne_eqb g k differ)

-- ---- the sum

pub total_out : (id : Id) (n k : ℕ) (o : Option Held) (f : Forest) → n ≤ k
    → in_forest id n (with_root k o f) ≡ in_forest id n f
total_out id zero k o f h = refl
total_out id (suc n) k o f h =
    let rest = total_out id n k o f (omega arith) in
    let own = ap (in_root id) (root_other k n o f (λ e. omega arith)) in
    omega arith

put_step : (id : Id) (n k : ℕ) (o : Option Held) (f : Forest) → k < suc n
    → (k < n → in_forest id n (with_root k o f) + in_root id (f k) ≡ in_forest id n f + in_root id o)
    → (k ≡ n) ⊎ (k ≡ n → ⊥)
    → in_forest id (suc n) (with_root k o f) + in_root id (f k) ≡ in_forest id (suc n) f + in_root id o
put_step id n k o f h more (inl same) =
    let rest = total_out id n k o f (omega arith) in
    let own = ap (in_root id) (subst (λ j. with_root k o f j ≡ o) same (root_self k o f)) in
    let there = ap (λ j. in_root id (f j)) same in
    omega arith
put_step id n k o f h more (inr differ) =
    let rest = more (below n k h differ) in
    let own = ap (in_root id) (root_other k n o f differ) in
    omega arith
  where
    below : (n k : ℕ) → k < suc n → (k ≡ n → ⊥) → k < n
    below n k h differ = omega arith

-- a root that changes moves the sum by the difference
pub total_put : (id : Id) (n k : ℕ) (o : Option Held) (f : Forest) → k < n
    → in_forest id n (with_root k o f) + in_root id (f k) ≡ in_forest id n f + in_root id o
total_put id zero k o f h = absurd (omega arith)
total_put id (suc n) k o f h = put_step id n k o f h (λ below. total_put id n k o f below) (cases_eq k n)

pub total_has : (id : Id) (n k : ℕ) (f : Forest) → k < n → in_root id (f k) ≤ in_forest id n f
total_has id n k f h = let put = total_put id n k None f h in omega arith

-- two roots count at most the sum
pub total_two : (id : Id) (n j k : ℕ) (f : Forest) → (k ≡ j → ⊥) → j < n → k < n
    → in_root id (f j) + in_root id (f k) ≤ in_forest id n f
total_two id n j k f differ h i =
    let put = total_put id n k None f i in
    let has = total_has id n j (with_root k None f) h in
    let same = ap (in_root id) (root_other k j None f differ) in
    omega arith

-- roots that are alike count alike
pub total_same : (id : Id) (n : ℕ) (f e : Forest) → ((k : ℕ) → k < n → f k ≡ e k)
    → in_forest id n f ≡ in_forest id n e
total_same id zero f e h = refl
total_same id (suc n) f e h =
    let rest = total_same id n f e (λ k below. h k (omega arith)) in
    let own = ap (in_root id) (h n (omega arith)) in
    omega arith
