-- The first of several things that may be there, and what is found by a name.
use Rattle.std.proofs.Common.{
  ◌≡◌,
  ℕ,
  ◌⊎◌,
  inl,
  inr,
  Bool,
  true,
  false,
  true≢false,
  cond,
  List,
  [],
  ◌∷◌,
  ◌++◌,
  Option,
  Some,
  None,
  is_some,
  refl,
  ap,
  sym,
  ◌∙◌,
  subst,
}
use Rattle.std.specs.Str.{bytes_eq}
use Rattle.std.proofs.lemmas.Option.{none-some, same_Some}
use Rattle.std.proofs.lemmas.Slice.Eq.{bytes_eq-Decides}
use Rattle.au_base.proofs.OptionLemmas.{some_of, or_first, or_second, or_neither}
use Rattle.au_types.specs.Tables.{find, has_name}
use Rattle.au_names.proofs.AmongLemmas.{Among, among-append}
use Rattle.au_imports.specs.Choices.{first_of, where_so}

-- ---- nothing is the first

pub first_from : {A B : Type 0} (f : A → Option B) (xs : List A) → first_of f xs ≡ None
    → (x : A) → Among x xs → f x ≡ None
unfolding first_of
first_from f [] h x m = absurd m
first_from f (y ∷ ys) h x (inl here) = ap f (sym here) ∙ or_first (f y) (first_of f ys) h
first_from f (y ∷ ys) h x (inr later) = first_from f ys (or_second (f y) (first_of f ys) h) x later

pub first_to : {A B : Type 0} (f : A → Option B) (xs : List A) → ((x : A) → Among x xs → f x ≡ None)
    → first_of f xs ≡ None
unfolding first_of
first_to f [] h = refl
first_to f (y ∷ ys) h = or_neither (f y) (first_of f ys) (h y (inl refl)) (first_to f ys (λ x m. h x (inr m)))

pub so_from : {A : Type 0} (b : Bool) (x : A) → where_so b x ≡ None → b ≡ false
so_from true x h = cc
so_from false x h = refl

pub so_to : {A : Type 0} (b : Bool) (x : A) → b ≡ false → where_so b x ≡ None
so_to b x h = ap (λ c. where_so c x) h

-- ---- what is found

module _ {V : Type 0} (name : List ℕ) where
  pub found_among : (pairs : List (List ℕ × V)) (v : V) → find name pairs ≡ Some v → Among (name, v) pairs
  found_among [] v h = absurd (none-some v h)
  found_among (p ∷ ps) v h = by (bytes_eq name p.0) refl (found_among ps v)
    where
      by : (b : Bool) → bytes_eq name p.0 ≡ b → (find name ps ≡ Some v → Among (name, v) ps)
          → Among (name, v) (p ∷ ps)
      by true e rest =
          let value : p.1 ≡ v = same_Some p.1 v (sym (ap (λ c. cond c (Some p.1) (find name ps)) e) ∙ h) in
          let key : p.0 ≡ name = sym ((bytes_eq-Decides name p.0).0 e) in
          inl (λ i. (key i, value i))
      by false e rest = inr (rest (sym (ap (λ c. cond c (Some p.1) (find name ps)) e) ∙ h))

  -- a pair of another name
  apart : (p : List ℕ × V) (v : V) → bytes_eq name p.0 ≡ false → p ≡ (name, v) → ⊥
  apart p v other here = true≢false (sym ((bytes_eq-Decides name p.0).1 (sym (ap (λ q. q.0) here))) ∙ other)

  pub among_found : (pairs : List (List ℕ × V)) (v : V) → Among (name, v) pairs
      → (w : V) × (find name pairs ≡ Some w)
  among_found [] v m = absurd m
  among_found (p ∷ ps) v m = by (bytes_eq name p.0) refl m (among_found ps v)
    where
      by : (b : Bool) → bytes_eq name p.0 ≡ b → Among (name, v) (p ∷ ps)
          → (Among (name, v) ps → (w : V) × (find name ps ≡ Some w))
          → (w : V) × (find name (p ∷ ps) ≡ Some w)
      by true e n rest = (p.1, ap (λ c. cond c (Some p.1) (find name ps)) e)
      by false e (inl here) rest = absurd (apart p v e here)
      by false e (inr later) rest = (
        (rest later).0,
        ap (λ c. cond c (Some p.1) (find name ps)) e
            ∙ (rest later).1,
      )

  pub among_has : (pairs : List (List ℕ × V)) (v : V) → Among (name, v) pairs → has_name name pairs ≡ true
  among_has pairs v m = ap is_some (among_found pairs v m).1

  pub has_among : (pairs : List (List ℕ × V)) → has_name name pairs ≡ true → (v : V) × Among (name, v) pairs
  has_among pairs h =
      let some = some_of (find name pairs) h in
      (some.0, found_among pairs some.0 some.1)

-- ---- pairs whose values keep an order

module _ (R : ℕ → ℕ → Type 0) where
  -- each value stands in the relation to all behind it
  abbrev pub Ordered : List (List ℕ × ℕ) → Type 0
  Ordered [] = Unit {0}
  Ordered (p ∷ ps) = ((q : List ℕ × ℕ) → Among q ps → R p.1 q.1) × Ordered ps

  pub ordered-append : (xs ys : List (List ℕ × ℕ)) → Ordered xs → Ordered ys
      → ((p q : List ℕ × ℕ) → Among p xs → Among q ys → R p.1 q.1) → Ordered (xs ++ ys)
  ordered-append [] ys h k across = k
  ordered-append (x ∷ xs) ys h k across =
      ((λ q m. by q (among-append xs ys q m)), ordered-append xs ys h.1 k (λ p q a b. across p q (inr a) b))
    where
      by : (q : List ℕ × ℕ) → Among q xs ⊎ Among q ys → R x.1 q.1
      by q (inl m) = h.0 q m
      by q (inr m) = across x q (inl refl) m

  -- the first of a name stands in the relation to all of this name
  pub first_bounds : ((k : ℕ) → R k k) → (name : List ℕ) (a x : ℕ) (pairs : List (List ℕ × ℕ)) → Ordered pairs
      → find name pairs ≡ Some a → Among (name, x) pairs → R a x
  first_bounds self name a x [] h found m = absurd m
  first_bounds self name a x (p ∷ ps) h found m = by (bytes_eq name p.0) refl m
      (first_bounds self name a x ps h.1)
    where
      by : (b : Bool) → bytes_eq name p.0 ≡ b → Among (name, x) (p ∷ ps)
          → (find name ps ≡ Some a → Among (name, x) ps → R a x) → R a x
      by true e n rest = on n
        where
          first : p.1 ≡ a
          first = same_Some p.1 a (sym (ap (λ c. cond c (Some p.1) (find name ps)) e) ∙ found)

          on : Among (name, x) (p ∷ ps) → R a x
          on (inl here) = subst (λ k. R k x) first (subst (R p.1) (ap (λ q. q.1) here) (self p.1))
          on (inr later) = subst (λ k. R k x) first (h.0 (name, x) later)
      by false e (inl here) rest = absurd (apart name p x e here)
      by false e (inr later) rest = rest (sym (ap (λ c. cond c (Some p.1) (find name ps)) e) ∙ found) later
