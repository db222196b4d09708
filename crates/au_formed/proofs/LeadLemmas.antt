-- A type leads to another exactly where it does so by way of at most as many others as there are records and
-- unions: the types that lead to it by way of at most so many are more with each one more, until no more are.
use Rattle.std.proofs.Common.{◌≡◌, ℕ, zero, suc, ◌+◌, ◌≤◌, ◌<◌, ◌⊎◌, inl, inr, Bool, true, false, ◌||◌, cond}
use Rattle.std.proofs.Common.{List, [], ◌∷◌, length, map, refl, sym, ap, subst, ◌∙◌, Contains, arith}
use Rattle.std.proofs.Common.{true≢false}
use Rattle.std.specs.List.{list_any}
use Rattle.std.proofs.lemmas.Bool.{cases_Bool, or_cases, or_left, or_right}
use Rattle.std.proofs.lemmas.List.{length-map}
use Rattle.au_types.specs.declared.types.DeclAt.{DeclAt}
use Rattle.au_types.specs.Rows.{same_place}
use Rattle.au_types.proofs.SameLemmas.{place_is, place_self}
use Rattle.au_names.proofs.AmongLemmas.{Among, among, contains, any_found, any_there}
use Rattle.au_formed.specs.declared.namings.Naming.{Naming}
use Rattle.au_formed.specs.Infinite.{Leads, directly, onward, Names, is_infinite, leads_by, names_of}
use Rattle.au_formed.specs.Infinite.{types_declared}

-- ---- some item passes

any_more : {A : Type 0} (p q : A → Bool) → ((x : A) → p x ≡ true → q x ≡ true) → (xs : List A)
    → list_any p xs ≡ true → list_any q xs ≡ true
any_more p q more xs h = let found = any_found p xs h in any_there q xs found.0 found.1 (more found.0 found.2)

-- ---- how many pass

count : {A : Type 0} → (A → Bool) → List A → ℕ
count p [] = 0
count p (x ∷ xs) = cond (p x) 1 0 + count p xs

count_most : {A : Type 0} (p : A → Bool) (xs : List A) → count p xs ≤ length xs
unfolding count
count_most p [] = omega arith
count_most p (x ∷ xs) = by (p x) (count_most p xs)
  where
    by : (b : Bool) → count p xs ≤ length xs → cond b 1 0 + count p xs ≤ suc (length xs)
    by true h = omega arith
    by false h = omega arith

-- all pass where as many do as there are
count_all : {A : Type 0} (p : A → Bool) (xs : List A) → length xs ≤ count p xs → (x : A) → Among x xs
    → p x ≡ true
unfolding count
count_all p [] h x m = absurd m
count_all p (y ∷ ys) h x m = by (p y) refl h m (count_most p ys) (λ all later. count_all p ys all x later)
  where
    by : (b : Bool) → p y ≡ b → suc (length ys) ≤ cond b 1 0 + count p ys → Among x (y ∷ ys)
        → count p ys ≤ length ys
        → (length ys ≤ count p ys → Among x ys → p x ≡ true) → p x ≡ true
    by true e all (inl here) most on = ap p (sym here) ∙ e
    by true e all (inr later) most on = on (omega arith) later
    by false e all n most on = absurd (omega arith)

-- where what passes goes on passing, no more pass, or more do
module _ {A : Type 0} (p q : A → Bool) (more : (x : A) → p x ≡ true → q x ≡ true) where
  abbrev Same : List A → Type 0
  Same xs = (x : A) → Among x xs → q x ≡ true → p x ≡ true

  count_grows : (xs : List A) → count p xs ≤ count q xs
  unfolding count
  count_grows [] = omega arith
  count_grows (x ∷ xs) = by (p x) (q x) refl refl (count_grows xs)
    where
      by : (b c : Bool) → p x ≡ b → q x ≡ c → count p xs ≤ count q xs
          → cond b 1 0 + count p xs ≤ cond c 1 0 + count q xs
      by true true e f h = omega arith
      by true false e f h = absurd (true≢false (sym (more x e) ∙ f))
      by false true e f h = omega arith
      by false false e f h = omega arith

  no_more : (xs : List A) → Same xs ⊎ (count p xs < count q xs)
  unfolding count
  no_more [] = inl (λ x m h. absurd m)
  no_more (x ∷ xs) = by (p x) (q x) refl refl (no_more xs) (count_grows xs)
    where
      both : (p x ≡ q x) → Same xs → Same (x ∷ xs)
      both same rest y (inl here) h = subst (λ z. p z ≡ true) here
          (same ∙ subst (λ z. q z ≡ true) (sym here) h)
      both same rest y (inr later) h = rest y later h

      by : (b c : Bool) → p x ≡ b → q x ≡ c → Same xs ⊎ (count p xs < count q xs) → count p xs ≤ count q xs
          → Same (x ∷ xs) ⊎ (cond b 1 0 + count p xs < cond c 1 0 + count q xs)
      by true true e f (inl rest) h = inl (both (e ∙ sym f) rest)
      by true true e f (inr rest) h = inr (omega arith)
      by true false e f rest h = absurd (true≢false (sym (more x e) ∙ f))
      by false true e f rest h = inr (omega arith)
      by false false e f (inl rest) h = inl (both (e ∙ sym f) rest)
      by false false e f (inr rest) h = inr (omega arith)

-- ---- what is named

-- what names something is declared
pub named_declared : (all : List Naming) (a b : DeclAt) → Among b (names_of all a)
    → Among a (types_declared all)
named_declared [] a b m = absurd m
named_declared (n ∷ ns) a b m = by (same_place a n.of) refl m (named_declared ns a b)
  where
    by : (c : Bool) → same_place a n.of ≡ c → Among b (cond c n.names (names_of ns a))
        → (Among b (names_of ns a) → Among a (types_declared ns)) → Among a (n.of ∷ types_declared ns)
    by true e here on = inl (sym (place_is a n.of e))
    by false e later on = inr (on later)

module _ (all : List Naming) (b : DeclAt) where
  -- a type leads to this one by way of at most so many others
  abbrev within : ℕ → DeclAt → Bool
  within n a = leads_by all n a b

  within_none : (a : DeclAt) → within 0 a ≡ list_any (same_place b) (names_of all a)
  unfolding leads_by
  within_none a = refl

  within_more : (n : ℕ) (a : DeclAt)
      → within (suc n) a ≡ list_any (λ c. same_place b c || within n c) (names_of all a)
  unfolding leads_by
  within_more n a = refl

  -- what leads names something
  within_names : (n : ℕ) (a : DeclAt) → within n a ≡ true → Among a (types_declared all)
  within_names zero a h =
      let found = any_found (same_place b) (names_of all a)
      (sym (within_none a) ∙ h) in named_declared all a found.0 found.1
  within_names (suc n) a h =
      let found = any_found (λ c. same_place b c || within n c) (names_of all a)
      (sym (within_more n a) ∙ h) in
      named_declared all a found.0 found.1

  -- ---- what a test finds is so

  pub within_leads : (n : ℕ) (a : DeclAt) → within n a ≡ true → Leads all a b
  within_leads zero a h = by (any_found (same_place b) (names_of all a) (sym (within_none a) ∙ h))
    where
      by : (c : DeclAt) × Among c (names_of all a) × (same_place b c ≡ true) → Leads all a b
      by (c, m, e) = directly a b
          (subst (λ d. Names all a d) (sym (place_is b c e)) (contains (names_of all a) c m))
  within_leads (suc n) a h = by (within_leads n)
      (any_found (λ c. same_place b c || within n c) (names_of all a) (sym (within_more n a) ∙ h))
    where
      on : ((c : DeclAt) → within n c ≡ true → Leads all c b) → (c : DeclAt) → Among c (names_of all a)
          → (same_place b c ≡ true) ⊎ (within n c ≡ true) → Leads all a b
      on rest c m (inl e) = directly a b
          (subst (λ d. Names all a d) (sym (place_is b c e)) (contains (names_of all a) c m))
      on rest c m (inr e) = onward a c b (contains (names_of all a) c m) (rest c e)

      by : ((c : DeclAt) → within n c ≡ true → Leads all c b)
          → (c : DeclAt) × Among c (names_of all a) × ((same_place b c || within n c) ≡ true) → Leads all a b
      by rest (c, m, e) = on rest c m (or_cases (same_place b c) (within n c) e)

  -- ---- by way of more

  next : (n : ℕ) (a : DeclAt) → within n a ≡ true → within (suc n) a ≡ true
  next zero a h =
      within_more 0 a
      ∙ any_more (same_place b) (λ c. same_place b c || within 0 c)
      (λ c e. or_left (same_place b c) (within 0 c) e) (names_of all a)
      (sym (within_none a) ∙ h)
  next (suc n) a h =
      within_more (suc n) a
      ∙ any_more (λ c. same_place b c || within n c) (λ c. same_place b c || within (suc n) c) (step (next n))
      (names_of all a) (sym (within_more n a) ∙ h)
    where
      on : ((c : DeclAt) → within n c ≡ true → within (suc n) c ≡ true) → (c : DeclAt)
          → (same_place b c ≡ true) ⊎ (within n c ≡ true) → (same_place b c || within (suc n) c) ≡ true
      on rest c (inl e) = or_left (same_place b c) (within (suc n) c) e
      on rest c (inr e) = or_right (same_place b c) (within (suc n) c) (rest c e)

      step : ((c : DeclAt) → within n c ≡ true → within (suc n) c ≡ true) → (c : DeclAt)
          → (same_place b c || within n c) ≡ true → (same_place b c || within (suc n) c) ≡ true
      step rest c e = on rest c (or_cases (same_place b c) (within n c) e)

  further : (k n : ℕ) (a : DeclAt) → within n a ≡ true → within (k + n) a ≡ true
  further zero n a h = let same : n ≡ 0 + n = omega arith in subst (λ m. within m a ≡ true) same h
  further (suc k) n a h =
      let same : suc (k + n) ≡ suc k + n = omega arith in
      subst (λ m. within m a ≡ true) same (next (k + n) a (further k n a h))

  -- no more lead by way of one more
  abbrev Stays : ℕ → Type 0
  Stays n = (a : DeclAt) → within (suc n) a ≡ true → within n a ≡ true

  stays_on : (n : ℕ) → Stays n → Stays (suc n)
  stays_on n stays a h =
      within_more n a
      ∙ any_more (λ c. same_place b c || within (suc n) c) (λ c. same_place b c || within n c) step
      (names_of all a) (sym (within_more (suc n) a) ∙ h)
    where
      on : (c : DeclAt) → (same_place b c ≡ true) ⊎ (within (suc n) c ≡ true)
          → (same_place b c || within n c) ≡ true
      on c (inl e) = or_left (same_place b c) (within n c) e
      on c (inr e) = or_right (same_place b c) (within n c) (stays c e)

      step : (c : DeclAt) → (same_place b c || within (suc n) c) ≡ true
          → (same_place b c || within n c) ≡ true
      step c e = on c (or_cases (same_place b c) (within (suc n) c) e)

  -- so none lead by way of any more
  back : (k n : ℕ) → Stays n → (a : DeclAt) → within (k + n) a ≡ true → within n a ≡ true
  back zero n stays a h = let same : 0 + n ≡ n = omega arith in subst (λ m. within m a ≡ true) same h
  back (suc k) n stays a h =
      let same : suc k + n ≡ k + suc n = omega arith in
      stays a (back k (suc n) (stays_on n stays) a (subst (λ m. within m a ≡ true) same h))

  -- no more lead, or as many do
  grows : (n : ℕ) → Stays n ⊎ (n ≤ count (within n) (types_declared all))
  grows zero = inr (omega arith)
  grows (suc n) = by (grows n) (no_more (within n) (within (suc n)) (next n) (types_declared all))
    where
      by : Stays n ⊎ (n ≤ count (within n) (types_declared all))
          → Same (within n) (within (suc n)) (next n) (types_declared all)
          ⊎ (count (within n) (types_declared all) < count (within (suc n)) (types_declared all))
          → Stays (suc n) ⊎ (suc n ≤ count (within (suc n)) (types_declared all))
      by (inl stays) other = inl (stays_on n stays)
      by (inr many) (inl same) = inl (stays_on n (λ a h. same a (within_names (suc n) a h) h))
      by (inr many) (inr more) = inr (omega arith)

  -- ---- what is so is found

  some_way : (a c : DeclAt) → Leads all a c → c ≡ b → (n : ℕ) × (within n a ≡ true)
  some_way a c (directly x y names) is = (
    0,
    within_none x ∙ any_there (same_place b) (names_of all x) y (among (names_of all x) y names)
        (ap (same_place b) is ∙ place_self b),
  )
  some_way a c (onward x m y names rest) is =
      let found = some_way m y rest is in (
        suc found.0,
        within_more found.0 x
            ∙ any_there (λ d. same_place b d || within found.0 d) (names_of all x) m
            (among (names_of all x) m names)
            (or_right (same_place b m) (within found.0 m) found.1),
      )

  pub leads_within : (a : DeclAt) → Leads all a b → within (length all) a ≡ true
  leads_within a leads = by (some_way a b leads refl) (grows (length all))
    where
      by : (n : ℕ) × (within n a ≡ true)
          → Stays (length all) ⊎ (length all ≤ count (within (length all)) (types_declared all))
          → within (length all) a ≡ true
      by (n, h) (inl stays) =
          let same : length all + n ≡ n + length all = omega arith in
          back n (length all) stays a (subst (λ m. within m a ≡ true) same (further (length all) n a h))
      by (n, h) (inr many) =
          count_all (within (length all)) (types_declared all)
          (subst (λ m. m ≤ count (within (length all)) (types_declared all))
          (sym (length-map all (λ (x : Naming). x.of))) many)
          a (within_names n a h)

-- a type is found to be infinite exactly where it is
pub infinite_from : (all : List Naming) (a : DeclAt) → is_infinite all a ≡ true → Leads all a a
infinite_from all a h = within_leads all a (length all) a h

pub infinite_to : (all : List Naming) (a : DeclAt) → Leads all a a → is_infinite all a ≡ true
infinite_to all a h = leads_within all a a h
