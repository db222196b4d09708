-- How places count.
use Rattle.std.proofs.Common.{◌≡◌, ℕ, suc, ◌+◌, ◌≤◌, ◌==◌, Bool, true, false}
use Rattle.std.proofs.Common.{List, [], ◌∷◌, ◌++◌, if◌then◌else◌, nat_le, refl, ap, subst, ◌∙◌, arith}
use Rattle.std.proofs.lemmas.Bool.{and_from, and_parts, eq-eqb, eqb-true, eqb-false, leb-true, leb-false}
use Rattle.std.proofs.lemmas.Bool.{le-leb, lt-leb}
use Rattle.au_effects.specs.Values.{Base, Place, name_of, content_of}
use Rattle.au_places.specs.Places.{Id, birth, cell, writer, cell_of, one_if, same_base, covers, in_node}
use Rattle.au_places.specs.Places.{in_place, part_at}

-- ---- bases

pub self_base : (base : Base) → same_base base base ≡ true
self_base (name_of frame x) = and_from (frame == frame) (x == x) (eq-eqb frame frame refl) (eq-eqb x x refl)
self_base (content_of i) = eq-eqb i i refl

pub base_is : (a b : Base) → same_base a b ≡ true → a ≡ b
base_is (name_of frame x) (name_of other y) e =
    let both = and_parts (frame == other) (x == y) e in
    ap (λ f. name_of f x) (eqb-true frame other both.0) ∙ ap (name_of other) (eqb-true x y both.1)
base_is (name_of frame x) (content_of j) e = absurd cc
base_is (content_of i) (name_of other y) e = absurd cc
base_is (content_of i) (content_of j) e = ap content_of (eqb-true i j e)

-- two bases that differ aren't the same the other way round
pub base_turned : (a b : Base) → same_base a b ≡ false → same_base b a ≡ false
base_turned a b e = by (same_base b a) refl
  where
    by : (t : Bool) → same_base b a ≡ t → t ≡ false
    by false h = refl
    by true h =
        let same : same_base a b ≡ true = subst (λ c. same_base c b ≡ true) (base_is b a h) (self_base b) in
        absurd cc

pub one_most : (b : Bool) → one_if b ≤ 1
one_most true = omega arith
one_most false = omega arith

-- ---- paths

pub covers_self : (n : ℕ) (q : List ℕ) → covers n q q ≡ 1
covers_self n [] = refl
covers_self n (i ∷ q) = rw (eq-eqb i i refl) (covers_self n q)

if_most : (b : Bool) (n : ℕ) → n ≤ 1 → (if b then n else 0) ≤ 1
if_most true n h = h
if_most false n h = omega arith

pub covers_most : (n : ℕ) (q p : List ℕ) → covers n q p ≤ 1
covers_most n [] [] = omega arith
covers_most n [] (j ∷ p) = one_most (nat_le n j)
covers_most n (i ∷ q) [] = omega arith
covers_most n (i ∷ q) (j ∷ p) = if_most (i == j) (covers n q p) (covers_most n q p)

-- the parts from a number on are that part and those behind it
next_part : (n j : ℕ) (p : List ℕ)
    → one_if (nat_le n j) ≡ one_if (nat_le (suc n) j) + (if n == j then covers 0 [] p else 0)
next_part n j p = by (n == j) refl
  where
    all : covers 0 [] p ≡ 1
    all = none_left p
      where
        none_left : (l : List ℕ) → covers 0 [] l ≡ 1
        none_left [] = refl
        none_left (k ∷ l) = ap one_if (le-leb 0 k (omega arith))

    by_order : (n == j) ≡ false → (t : Bool) → nat_le n j ≡ t
        → one_if t ≡ one_if (nat_le (suc n) j) + 0
    by_order apart true e =
        let differ = eqb-false n j apart in
        let below = leb-true n j e in
        let over : suc n ≤ j = omega arith in
        rw (le-leb (suc n) j over) (omega arith)
    by_order apart false e =
        let above = leb-false n j e in
        rw (lt-leb (suc n) j (omega arith)) (omega arith)

    by : (t : Bool) → (n == j) ≡ t
        → one_if (nat_le n j) ≡ one_if (nat_le (suc n) j) + (if t then covers 0 [] p else 0)
    by true e =
        let same = eqb-true n j e in
        rw (le-leb n j (omega arith), lt-leb (suc n) j (omega arith), all) (omega arith)
    by false e = by_order e (nat_le n j) refl

if_split : (b : Bool) (x y z : ℕ) → x ≡ y + z
    → (if b then x else 0) ≡ (if b then y else 0) + (if b then z else 0)
if_split true x y z e = e
if_split false x y z e = omega arith

pub covers_split : (n : ℕ) (q p : List ℕ) → covers n q p ≡ covers (suc n) q p + covers 0 (q ++ n ∷ []) p
covers_split n [] [] = omega arith
covers_split n [] (j ∷ p) = next_part n j p
covers_split n (i ∷ q) [] = omega arith
covers_split n (i ∷ q) (j ∷ p) =
    if_split (i == j) (covers n q p) (covers (suc n) q p) (covers 0 (q ++ n ∷ []) p) (covers_split n q p)

-- ---- places

pub node_self : (to : Place) (n : ℕ) → in_node n (cell_of to) to ≡ 1
node_self to n = rw (self_base to.base) (covers_self n to.path)

pub node_most : (id : Id) (to : Place) (n : ℕ) → in_node n id to ≤ 1
node_most (birth i) to n = omega arith
node_most (cell base path) to n =
    if_most (same_base to.base base) (covers n to.path path) (covers_most n to.path path)
node_most (writer g) to n = omega arith

pub split_place : (id : Id) (to : Place) (n : ℕ)
    → in_node n id to ≡ in_node (suc n) id to + in_place id (part_at n to)
split_place (birth i) to n = omega arith
split_place (cell base path) to n =
    if_split (same_base to.base base) (covers n to.path path) (covers (suc n) to.path path)
    (covers 0 (to.path ++ n ∷ []) path) (covers_split n to.path path)
split_place (writer g) to n = omega arith
