-- The numbers of declarations rise along a file, so that the first and the last declaration of a name have
-- one number exactly where all declarations of the name have it.
use Rattle.std.proofs.Common.{◌≡◌, ℕ, ◌+◌, ◌≤◌, ◌⊎◌, inl, inr, false, not, ◌==◌, List, [], ◌∷◌, ◌++◌, reverse}
use Rattle.std.proofs.Common.{Option, Some, None, refl, ap, sym, ◌∙◌, subst, arith, eqb-true, eq-eqb}
use Rattle.std.proofs.lemmas.Bool.{not-false, not_from_true}
use mathlib.Core.List.{reverse-cons}
use Rattle.au_syntax.specs.Plain.{Bytes, PlainDeclaration}
use Rattle.au_types.specs.declared.spaces.Space.{Space}
use Rattle.au_types.specs.DeclaredNames.{declared_names, given, names_in, numbered}
use Rattle.au_types.specs.Tables.{find}
use Rattle.au_imports.specs.NameFaults.{is_apart}
use Rattle.au_names.proofs.AmongLemmas.{Among, among-append, among-append_left, among-append_right}
use Rattle.au_names.proofs.SeenLemmas.{names_in-append}
use Rattle.au_imports.proofs.ChoiceLemmas.{found_among, among_found, Ordered, ordered-append, first_bounds}

-- ---- the names of one declaration

pub among-given : (number : ℕ) (names : List Bytes) (q : Bytes × ℕ) → Among q (given number names)
    → (number ≡ q.1) × Among q.0 names
among-given number [] q m = absurd m
among-given number (y ∷ ys) q (inl here) = (ap (λ p. p.1) here, inl (ap (λ p. p.0) here))
among-given number (y ∷ ys) q (inr later) =
    let found = among-given number ys q later in
    (found.0, inr found.1)

pub among-given_from : (number : ℕ) (names : List Bytes) (name : Bytes)
    → Among name names → Among (name, number) (given number names)
among-given_from number [] name m = absurd m
among-given_from number (y ∷ ys) name (inl here) = inl (ap (λ n. (n, number)) here)
among-given_from number (y ∷ ys) name (inr later) = inr (among-given_from number ys name later)

-- ---- the names of declarations

pub among-names_in : (space : Space) (es : List (ℕ × PlainDeclaration)) (q : Bytes × ℕ)
    → Among q (names_in space es)
    → (e : ℕ × PlainDeclaration) × Among e es × (e.0 ≡ q.1) × Among q.0 (declared_names space e.1)
unfolding names_in
among-names_in space [] q m = absurd m
among-names_in space (e ∷ es) q m =
    by (among-append (given e.0 (declared_names space e.1)) (names_in space es) q m)
    (among-names_in space es q)
  where
    by : Among q (given e.0 (declared_names space e.1)) ⊎ Among q (names_in space es)
        → (Among q (names_in space es) → (f : ℕ × PlainDeclaration) × Among f es
        × (f.0 ≡ q.1) × Among q.0 (declared_names space f.1))
        → (f : ℕ × PlainDeclaration) × Among f (e ∷ es) × (f.0 ≡ q.1) × Among q.0 (declared_names space f.1)
    by (inl here) rest =
        let found = among-given e.0 (declared_names space e.1) q here in
        (e, inl refl, found.0, found.1)
    by (inr later) rest = ((rest later).0, inr (rest later).1, (rest later).2, (rest later).3)

pub among-names_in_from : (space : Space) (es : List (ℕ × PlainDeclaration))
    (e : ℕ × PlainDeclaration) (name : Bytes)
    → Among e es → Among name (declared_names space e.1) → Among (name, e.0) (names_in space es)
unfolding names_in
among-names_in_from space [] e name m n = absurd m
among-names_in_from space (f ∷ es) e name (inl here) n =
    let own : Among (name, e.0) (given f.0 (declared_names space f.1)) =
    subst (λ g. Among (name, e.0) (given g.0 (declared_names space g.1))) (sym here)
    (among-given_from e.0 (declared_names space e.1) name n) in
    among-append_left (given f.0 (declared_names space f.1)) (names_in space es) (name, e.0) own
among-names_in_from space (f ∷ es) e name (inr later) n =
    among-append_right (given f.0 (declared_names space f.1)) (names_in space es)
    (name, e.0) (among-names_in_from space es e name later n)

-- ---- numbers

pub among-numbered : (first : ℕ) (ds : List PlainDeclaration) (e : ℕ × PlainDeclaration)
    → Among e (numbered first ds) → (first ≤ e.0) × Among e.1 ds
unfolding numbered
among-numbered first [] e m = absurd m
among-numbered first (d ∷ ds) e (inl here) =
    let same : first ≡ e.0 = ap (λ f. f.0) here in
    (omega (arith, same), inl (ap (λ f. f.1) here))
among-numbered first (d ∷ ds) e (inr later) =
    let found = among-numbered (first + 1) ds e later in
    (omega (arith, found.0), inr found.1)

pub among-numbered_from : (first : ℕ) (ds : List PlainDeclaration) (d : PlainDeclaration)
    → Among d ds → (number : ℕ) × Among (number, d) (numbered first ds)
unfolding numbered
among-numbered_from first [] d m = absurd m
among-numbered_from first (c ∷ ds) d (inl here) = (first, inl (ap (λ e. (first, e)) here))
among-numbered_from first (c ∷ ds) d (inr later) =
    let found = among-numbered_from (first + 1) ds d later in
    (found.0, inr found.1)

-- ---- in the other order

among-reverse : {A : Type 0} (xs : List A) (x : A) → Among x (reverse xs) → Among x xs
among-reverse [] x m = m
among-reverse (y ∷ ys) x m = by (among-append (reverse ys) (y ∷ []) x (subst (Among x) (reverse-cons y ys) m))
    (among-reverse ys x)
  where
    by : Among x (reverse ys) ⊎ Among x (y ∷ []) → (Among x (reverse ys) → Among x ys) → Among x (y ∷ ys)
    by (inl early) rest = inr (rest early)
    by (inr (inl here)) rest = inl here
    by (inr (inr none)) rest = absurd none

reverse-among : {A : Type 0} (xs : List A) (x : A) → Among x xs → Among x (reverse xs)
reverse-among [] x m = m
reverse-among (y ∷ ys) x (inl here) = subst (Among x) (sym (reverse-cons y ys))
    (among-append_right (reverse ys) (y ∷ []) x (inl here))
reverse-among (y ∷ ys) x (inr later) = subst (Among x) (sym (reverse-cons y ys))
    (among-append_left (reverse ys) (y ∷ []) x (reverse-among ys x later))

pub names_in-reverse : (space : Space) (es : List (ℕ × PlainDeclaration)) (q : Bytes × ℕ)
    → Among q (names_in space (reverse es)) → Among q (names_in space es)
names_in-reverse space es q m =
    let found = among-names_in space (reverse es) q m in
    let there : Among (q.0, found.0.0) (names_in space es) = among-names_in_from space es found.0 q.0
    (among-reverse es found.0 found.1) found.3 in
    subst (λ k. Among (q.0, k) (names_in space es)) found.2 there

reverse-names_in : (space : Space) (es : List (ℕ × PlainDeclaration)) (q : Bytes × ℕ)
    → Among q (names_in space es) → Among q (names_in space (reverse es))
reverse-names_in space es q m =
    let found = among-names_in space es q m in
    let there : Among (q.0, found.0.0) (names_in space (reverse es)) =
    among-names_in_from space (reverse es) found.0 q.0 (reverse-among es found.0 found.1) found.3 in
    subst (λ k. Among (q.0, k) (names_in space (reverse es))) found.2 there

-- ---- order

ordered-given : (R : ℕ → ℕ → Type 0) → ((k : ℕ) → R k k) → (number : ℕ) (names : List Bytes)
    → Ordered R (given number names)
ordered-given R self number [] = tt
ordered-given R self number (y ∷ ys) =
    ((λ q m. subst (R number) (among-given number ys q m).0 (self number)), ordered-given R self number ys)

-- the number of a name of declarations that are numbered from here on
number_from : (space : Space) (first : ℕ) (ds : List PlainDeclaration) (q : Bytes × ℕ)
    → Among q (names_in space (numbered first ds)) → first ≤ q.1
number_from space first ds q m =
    let found = among-names_in space (numbered first ds) q m in
    let bound : first ≤ found.0.0 = (among-numbered first ds found.0 found.1).0 in
    subst (λ k. first ≤ k) found.2 bound

abbrev Up : ℕ → ℕ → Type 0
Up a b = a ≤ b

abbrev Down : ℕ → ℕ → Type 0
Down a b = b ≤ a

same_le : (k : ℕ) → k ≤ k
same_le k = omega arith

rising : (space : Space) (first : ℕ) (ds : List PlainDeclaration)
    → Ordered Up (names_in space (numbered first ds))
unfolding names_in numbered
rising space first [] = tt
rising space first (d ∷ ds) =
    ordered-append Up (given first (declared_names space d)) (names_in space (numbered (first + 1) ds))
    (ordered-given Up same_le first (declared_names space d)) (rising space (first + 1) ds)
    (λ p q m n.
    let one : first ≡ p.1 = (among-given first (declared_names space d) p m).0 in
    let other : first + 1 ≤ q.1 = number_from space (first + 1) ds q n in
    omega (arith, one, other))

one_names : (space : Space) (e : ℕ × PlainDeclaration) (q : Bytes × ℕ)
    → Among q (names_in space (e ∷ [])) → e.0 ≡ q.1
one_names space e q m = by (among-names_in space (e ∷ []) q m)
  where
    by : (f : ℕ × PlainDeclaration) × Among f (e ∷ []) × (f.0 ≡ q.1) × Among q.0 (declared_names space f.1)
        → e.0 ≡ q.1
    by (f, inl here, number, declared) = ap (λ g. g.0) here ∙ number
    by (f, inr none, number, declared) = absurd none

one_ordered : (space : Space) (e : ℕ × PlainDeclaration) → Ordered Down (names_in space (e ∷ []))
unfolding names_in
one_ordered space e =
    ordered-append Down (given e.0 (declared_names space e.1)) []
    (ordered-given Down same_le e.0 (declared_names space e.1)) tt (λ p q m n. absurd n)

none_ordered : (space : Space) → Ordered Down (names_in space [])
unfolding names_in
none_ordered space = tt

falling : (space : Space) (first : ℕ) (ds : List PlainDeclaration)
    → Ordered Down (names_in space (reverse (numbered first ds)))
unfolding numbered
falling space first [] = none_ordered space
falling space first (d ∷ ds) =
    let rest = numbered (first + 1) ds in
    let split : names_in space (reverse ((first, d) ∷ rest)) ≡ names_in space
    (reverse rest) ++ names_in space ((first, d) ∷ []) =
    ap (names_in space) (reverse-cons (first, d) rest)
    ∙ names_in-append space (reverse rest) ((first, d) ∷ []) in
    subst (Ordered Down) (sym split)
    (ordered-append Down (names_in space (reverse rest)) (names_in space ((first, d) ∷ []))
    (falling space (first + 1) ds) (one_ordered space (first, d))
    (λ p q m n.
    let one : first + 1 ≤ p.1 = number_from space (first + 1) ds p (names_in-reverse space rest p m) in
    let other : first ≡ q.1 = one_names space (first, d) q n in
    omega (arith, one, other)))

-- ---- two numbers

-- all declarations of a name have the number of the first, where that is the number of the last
pub one_number : (space : Space) (ds : List PlainDeclaration) (name : Bytes) (x : ℕ)
    → is_apart (find name (names_in space (numbered 0 ds)))
    (find name (names_in space (reverse (numbered 0 ds)))) ≡ false
    → Among (name, x) (names_in space (numbered 0 ds)) → find name (names_in space (numbered 0 ds)) ≡ Some x
one_number space ds name x near m =
    let pairs = names_in space (numbered 0 ds) in
    let others = names_in space (reverse (numbered 0 ds)) in
    let turned : Among (name, x) others = reverse-names_in space (numbered 0 ds) (name, x) m in
    let first : (a : ℕ) × (find name pairs ≡ Some a) = among_found name pairs x m in
    let last : (b : ℕ) × (find name others ≡ Some b) = among_found name others x turned in
    let equal : not (first.0 == last.0) ≡ false = sym (ap (λ o. is_apart o (find name others)) first.1
    ∙ ap (is_apart (Some first.0)) last.1) ∙ near in
    let same : first.0 ≡ last.0 = eqb-true first.0 last.0 (not-false (first.0 == last.0) equal) in
    let below : first.0 ≤ x = first_bounds Up same_le name first.0 x pairs (rising space 0 ds) first.1 m in
    let above : x ≤ last.0 = first_bounds Down same_le name last.0 x others
    (falling space 0 ds) last.1 turned in
    let here : first.0 ≡ x = omega (arith, same, below, above) in
    first.1 ∙ ap (λ a. Some a) here

-- no two numbers stand apart
near_to : (o p : Option ℕ) → ((a b : ℕ) → o ≡ Some a → p ≡ Some b → a ≡ b) → is_apart o p ≡ false
near_to None None h = refl
near_to None (Some b) h = refl
near_to (Some a) None h = refl
near_to (Some a) (Some b) h = not_from_true (a == b) (eq-eqb a b (h a b refl refl))

pub one_number_to : (space : Space) (ds : List PlainDeclaration) (name : Bytes)
    → ((a b : ℕ) → Among (name, a) (names_in space (numbered 0 ds))
    → Among (name, b) (names_in space (numbered 0 ds)) → a ≡ b)
    → is_apart (find name (names_in space (numbered 0 ds)))
    (find name (names_in space (reverse (numbered 0 ds)))) ≡ false
one_number_to space ds name h =
    let pairs = names_in space (numbered 0 ds) in
    let others = names_in space (reverse (numbered 0 ds)) in
    near_to (find name pairs) (find name others)
    (λ a b first last. h a b (found_among name pairs a first)
    (names_in-reverse space (numbered 0 ds) (name, b) (found_among name others b last)))
