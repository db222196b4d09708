-- Lists: what `lemmas.List` of std and the pages below it don't have.
use Rattle.std.proofs.Common.{◌≡◌, ◌⊎◌, inl, inr, ℕ, zero, suc, ◌+◌, ◌<◌, Bool, true, false, cond, List, []}
use Rattle.std.proofs.Common.{◌∷◌, ◌++◌, length, map, take, drop, get_or, slice_get, slice_set, Contains}
use Rattle.std.proofs.Common.{Some, None, refl, sym, ap, subst, ◌∙◌, arith, add-zero, append_assoc}
use Rattle.std.proofs.Common.{append-nil}
use Rattle.std.specs.List.{list_all, position_from}
use Rattle.std.specs.Option.{option_or}
use Rattle.std.proofs.lemmas.Bool.{and_parts, and_from}
use Rattle.std.proofs.lemmas.List.{at_drop_more, drop_more, map-append, take_more}
use Rattle.std.proofs.lemmas.List.Elements.{Contains-append_cases, Contains-append_right, Contains-get_or}
use Rattle.std.proofs.lemmas.Option.{get_or_from_slice_get, slice_get_within}

-- ---- what a list has

-- nothing stands in the empty list
pub nothing_there : {A : Type 0} (x : A) → Contains [] x → ⊥
nothing_there x c = omega arith

-- the first item stands in the list
pub Contains-first : {A : Type 0} (x : A) (xs : List A) → Contains (x ∷ xs) x
Contains-first x xs = Contains-get_or (x ∷ xs) 0 x (omega arith)

-- so does each of the others
pub Contains-rest : {A : Type 0} (x : A) (xs : List A) (y : A) → Contains xs y → Contains (x ∷ xs) y
Contains-rest x xs y c = Contains-append_right (x ∷ []) xs y c

-- what stands in a list of one item is that one
pub only_item : {A : Type 0} (x y : A) → Contains (x ∷ []) y → x ≡ y
only_item x y (k, within, is) = by k within is
  where
    by : (k : ℕ) → k < 1 → get_or (x ∷ []) k y ≡ y → x ≡ y
    by k within is = let zero_is : k ≡ 0 = omega arith in sym (ap (λ i. get_or (x ∷ []) i y) zero_is) ∙ is

-- what stands in a list is its first item or one of the others
pub Contains-cases : {A : Type 0} (x : A) (xs : List A) (y : A) → Contains (x ∷ xs) y
    → (x ≡ y) ⊎ Contains xs y
Contains-cases x xs y c = by (Contains-append_cases (x ∷ []) xs y c)
  where
    by : Contains (x ∷ []) y ⊎ Contains xs y → (x ≡ y) ⊎ Contains xs y
    by (inl h) = inl (only_item x y h)
    by (inr h) = inr h

-- where all pass, each does
pub each_passes : {A : Type 0} (test : A → Bool) (xs : List A) (x : A) → Contains xs x
    → list_all test xs ≡ true → test x ≡ true
each_passes test [] x c all = absurd (nothing_there x c)
each_passes test (y ∷ ys) x c all =
    let both = and_parts (test y) (list_all test ys) all in
    by both.0 (λ h. each_passes test ys x h both.1) (Contains-cases y ys x c)
  where
    by : test y ≡ true → (Contains ys x → test x ≡ true) → (y ≡ x) ⊎ Contains ys x → test x ≡ true
    by mine others (inl is) = subst (λ k. test k ≡ true) is mine
    by mine others (inr h) = others h

-- where each passes, all do
pub all_pass : {A : Type 0} (test : A → Bool) (xs : List A) → ((x : A) → Contains xs x → test x ≡ true)
    → list_all test xs ≡ true
all_pass test [] each = refl
all_pass test (y ∷ ys) each =
    and_from (test y) (list_all test ys) (each y (Contains-first y ys))
    (all_pass test ys (λ x c. each x (Contains-rest y ys x c)))

-- all pass a test that nothing fails
pub all_good : {A : Type 0} (xs : List A) → list_all (λ (x : A). true) xs ≡ true
all_good [] = refl
all_good (x ∷ xs) = all_good xs

-- ---- an item and those behind it

-- what is left from an item on begins with that item
pub next_item : {A : Type 0} (xs : List A) (i : ℕ) (x : A) → x ≡ get_or xs i x → i < length xs
    → drop i xs ≡ x ∷ drop (i + 1) xs
next_item xs i x is within = drop_more xs i x within ∙ ap (λ y. y ∷ drop (i + 1) xs) (sym is)

-- the same by what stands at a place
pub drop_at : {A : Type 0} (xs : List A) (i : ℕ) (x : A) → slice_get xs i ≡ Some x
    → drop i xs ≡ x ∷ drop (i + 1) xs
drop_at xs i x h =
    drop_more xs i x (slice_get_within xs i x h)
    ∙ ap (λ y. y ∷ drop (i + 1) xs) (get_or_from_slice_get xs i x x h)

-- what is left from an item on, of a list that is seen through two views
pub seen_left : {A B C : Type 0} (p : B → C) (v : A → B) (xs : List A) (i : ℕ) (x : A) → i < length xs
    → x ≡ get_or xs i x
    → map p (map v (drop i xs)) ≡ p (v x) ∷ map p (map v (drop (i + 1) xs))
seen_left p v xs i x within is = ap (λ r. map p (map v r)) (next_item xs i x is within)

-- what is seen so far through two views, and one more
pub seen_more : {A B C : Type 0} (p : B → C) (v : A → B) (xs : List A) (i : ℕ) (x : A) → i < length xs
    → x ≡ get_or xs i x
    → map p (map v (take (i + 1) xs)) ≡ map p (map v (take i xs)) ++ p (v x) ∷ []
seen_more p v xs i x within is =
    ap (λ r. map p (map v r)) (take_more xs i x within)
    ∙ ap (λ y. map p (map v (take i xs ++ y ∷ []))) (sym is)
    ∙ ap (map p) (map-append v (take i xs) (x ∷ []))
    ∙ map-append p (map v (take i xs)) (v x ∷ [])

-- ---- lists behind one another

-- two lists that are equal to two others
pub both_appended : {A : Type 0} (a b c d : List A) → a ≡ c → b ≡ d → a ++ b ≡ c ++ d
both_appended a b c d p q = ap (λ l. l ++ b) p ∙ ap (λ l. c ++ l) q

-- nothing is added
pub nothing_added : {A : Type 0} (old all : List A) → all ≡ [] → old ≡ old ++ all
nothing_added old all e = sym (ap (λ l. old ++ l) e ∙ append-nil old)

-- where nothing is cut in two, there is nothing in front
pub nothing_front : {A : Type 0} (front back : List A) → [] ≡ front ++ back → front ≡ []
nothing_front [] back e = refl
nothing_front (x ∷ xs) back e = absurd cc

-- what stands behind others, before more
pub added_behind : {A : Type 0} (first others last whole : List A) → whole ≡ others ++ last
    → first ++ whole ≡ (first ++ others) ++ last
added_behind first others last whole is = ap (λ r. first ++ r) is ∙ sym (append_assoc first others last)

-- an item of the front stands in the whole
pub get_front : {A : Type 0} (xs ys : List A) (i : ℕ) (x : A) → slice_get xs i ≡ Some x
    → slice_get (xs ++ ys) i ≡ Some x
get_front [] ys i x e = absurd cc
get_front (z ∷ xs) ys zero x e = e
get_front (z ∷ xs) ys (suc i) x e = get_front xs ys i x e

-- what stands at a place of the front
pub get_left : {A : Type 0} (xs ys : List A) (i : ℕ) → i < length xs → slice_get (xs ++ ys) i ≡ slice_get xs i
get_left [] ys i h = absurd (omega (arith, h))
get_left (x ∷ xs) ys zero h = refl
get_left (x ∷ xs) ys (suc i) h = get_left xs ys i (omega (arith, h))

-- what stands at a place behind the front
pub get_right : {A : Type 0} (xs ys : List A) (j : ℕ) → slice_get (xs ++ ys) (length xs + j) ≡ slice_get ys j
get_right [] ys j = let same : 0 + j ≡ j = omega arith in ap (slice_get ys) same
get_right (x ∷ xs) ys j =
    let next : suc (length xs) + j ≡ suc (length xs + j) = omega arith in
    ap (slice_get (x ∷ xs ++ ys)) next ∙ get_right xs ys j

-- the last item, right behind the front
pub got_last : {A : Type 0} (xs : List A) (y : A) (k : ℕ) → k ≡ length xs
    → slice_get (xs ++ y ∷ []) k ≡ Some y
got_last [] y zero h = refl
got_last [] y (suc k) h = absurd (omega arith)
got_last (x ∷ xs) y zero h = absurd (omega arith)
got_last (x ∷ xs) y (suc k) h = got_last xs y k (omega arith)

-- what stands in one list before another stands in the one or the other
pub in_either : {A : Type 0} (xs ys : List A) (k : ℕ) (x : A) → slice_get (xs ++ ys) k ≡ Some x
    → (slice_get xs k ≡ Some x) ⊎ ((j : ℕ) × (k ≡ length xs + j) × (slice_get ys j ≡ Some x))
in_either [] ys k x h = let same : k ≡ 0 + k = omega arith in inr (k, same, h)
in_either (y ∷ xs) ys zero x h = inl h
in_either (y ∷ xs) ys (suc k) x h = on (in_either xs ys k x h)
  where
    on : (slice_get xs k ≡ Some x) ⊎ ((j : ℕ) × (k ≡ length xs + j) × (slice_get ys j ≡ Some x))
        → (slice_get (y ∷ xs) (suc k) ≡ Some x)
        ⊎ ((j : ℕ) × (suc k ≡ length (y ∷ xs) + j) × (slice_get ys j ≡ Some x))
    on (inl e) = inl e
    on (inr r) = let next : suc k ≡ suc (length xs) + r.0 = omega (arith, r.1) in inr (r.0, next, r.2)

-- the first place where a test holds, in a list with one more item
pub position_push : {A : Type 0} (t : A → Bool) (i : ℕ) (xs : List A) (x : A)
    → position_from t i (xs ++ x ∷ [])
    ≡ option_or (position_from t i xs) (cond (t x) (Some (i + length xs)) None)
position_push t i [] x = ap (λ n. cond (t x) (Some n) None) (sym (add-zero i))
position_push t i (y ∷ ys) x = by (t y) (position_push t (i + 1) ys x)
  where
    by : (b : Bool) → position_from t (i + 1) (ys ++ x ∷ []) ≡ option_or (position_from t (i + 1) ys)
        (cond (t x) (Some (i + 1 + length ys)) None)
        → cond b (Some i) (position_from t (i + 1) (ys ++ x ∷ []))
        ≡ option_or (cond b (Some i) (position_from t (i + 1) ys))
        (cond (t x) (Some (i + length (y ∷ ys))) None)
    by true rest = refl
    by false rest =
        let same : i + 1 + length ys ≡ i + suc (length ys) = omega arith in
        rest ∙ ap (λ n. option_or (position_from t (i + 1) ys) (cond (t x) (Some n) None)) same

-- ---- lists that are changed

-- a map that leaves each item as it is
pub map_same : {A : Type 0} (f : A → A) → ((x : A) → f x ≡ x) → (xs : List A) → map f xs ≡ xs
map_same f h [] = refl
map_same f h (x ∷ xs) = λ i. h x i ∷ map_same f h xs i

-- an item that is set twice
pub set_twice : {A : Type 0} (xs : List A) (i : ℕ) (x y : A)
    → slice_set (slice_set xs i x) i y ≡ slice_set xs i y
set_twice [] i x y = refl
set_twice (z ∷ xs) zero x y = refl
set_twice (z ∷ xs) (suc i) x y = ap (λ (ys : List _). z ∷ ys) (set_twice xs i x y)

-- one more item is copied, before what is said of those that are left
pub copied_before : {A B C : Type 0} (see : A → C) (say : B → C) (made pushed : List A) (xs : List B) (i : ℕ)
    (x : B) (copy : A) (whole : List C)
    → map see made ++ map say (drop i xs) ≡ whole → i < length xs → x ≡ get_or xs i x
    → pushed ≡ made ++ copy ∷ [] → see copy ≡ say x
    → map see pushed ++ map say (drop (i + 1) xs) ≡ whole
copied_before see say made pushed xs i x copy whole so_far inside is grows same =
    ap (λ l. map see l ++ map say (drop (i + 1) xs)) grows
    ∙ ap (λ l. l ++ map say (drop (i + 1) xs)) (map-append see made (copy ∷ []))
    ∙ append_assoc (map see made) (see copy ∷ []) (map say (drop (i + 1) xs))
    ∙ ap (λ c. map see made ++ (c ∷ map say (drop (i + 1) xs))) (same ∙ ap say is)
    ∙ ap (λ l. map see made ++ l) (sym (at_drop_more (map say) xs i x inside))
    ∙ so_far

-- one turn: a mark and an item are added, and the rest is left
pub turn : {A : Type 0} (x y z mark one rest left whole : List A) → y ≡ x ++ mark → z ≡ y ++ one
    → left ≡ mark ++ one ++ rest → x ++ left ≡ whole → z ++ rest ≡ whole
turn x y z mark one rest left whole marked added is all =
    ap (λ k. k ++ rest) (added ∙ ap (λ k. k ++ one) marked)
    ∙ (let e : ((x ++ mark) ++ one) ++ rest ≡ x ++ ((mark ++ one) ++ rest) = simp append_assoc in e)
    ∙ ap (λ k. x ++ k) (sym is)
    ∙ all
