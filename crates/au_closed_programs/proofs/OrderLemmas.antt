-- Lists in an order that have the same elements are one list.
use Rattle.std.proofs.Common.{◌≡◌, ℕ, suc, ◌+◌, ◌<◌, Bool, true, false, cond, List, [], ◌∷◌, length, map}
use Rattle.std.proofs.Common.{get_or, sum_by, IsPermutation, IsSorted, Ordering, Less, Equal, Greater, is_lt}
use Rattle.std.proofs.Common.{is_eq, nat_cmp, refl, sym, ap, ◌∙◌, arith}
use Rattle.std.specs.Cmp.{IsTotalOrder, Equal-is, tied_itself, unsigned_ties}
use Rattle.std.specs.Cmp.Lexicographic.{bytes_decides, lists_ties, slice_cmp}
use Rattle.std.specs.List.{AllByRecursion}
use Rattle.std.specs.Ordering.{ordering_reverse, ordering_then}
use Rattle.std.proofs.lemmas.List.{get_or-map, length-map}
use Rattle.std.proofs.lemmas.List.Sorted.{ranks_by, sorted_far, sum_by-IsPermutation}
use Rattle.std.proofs.lemmas.List.Sums.{sum_by-cons}

-- neither way less
level : (r s : Ordering) → r ≡ ordering_reverse s → is_lt r ≡ false → is_lt s ≡ false → r ≡ Equal
level Less s e one other = absurd cc
level Equal s e one other = refl
level Greater Less e one other = absurd cc
level Greater Equal e one other = absurd cc
level Greater Greater e one other = absurd cc

module _ {X : Type 0} (R : X → X → Ordering) (o : IsTotalOrder R) where
  -- none of a list is less than an element
  abbrev NoneLess : X → List X → Type 0
  NoneLess y [] = Unit {0}
  NoneLess y (z ∷ zs) = (is_lt (R z y) ≡ false) × NoneLess y zs

  none_less : (y : X) (zs : List X)
      → ((k : ℕ) (d : X) → k < length zs → is_lt (R (get_or zs k d) y) ≡ false)
      → NoneLess y zs
  none_less y [] h = tt
  none_less y (z ∷ zs) h = (h 0 z (omega arith), none_less y zs (λ k d p. h (suc k) d (omega arith)))

  -- the first of a list that is in order
  first_least : (y : X) (ys : List X) → IsSorted R (y ∷ ys) → NoneLess y (y ∷ ys)
  first_least y ys up =
      none_less y (y ∷ ys)
      (λ k d p. sorted_far (λ a b. is_lt (R a b)) (ranks_by o (λ a. a)) (y ∷ ys) up 0 k d (omega arith) p)

  rest_sorted : (y : X) (ys : List X) → IsSorted R (y ∷ ys) → IsSorted R ys
  rest_sorted y ys up k d from inside =
      let next : suc k + 1 ≡ suc (k + 1) = omega arith in
      ap (λ n. is_lt (R (get_or (y ∷ ys) n d) (get_or ys k d))) (sym next)
      ∙ up (suc k) d (omega arith) (omega arith)

  -- how often a list has what stands level with an element
  abbrev tie : X → X → ℕ
  tie x z = cond (is_eq (R z x)) 1 0

  -- what stands level with one of a list isn't less than what none of the list is less than
  not_less : (x y : X) (zs : List X) → NoneLess y zs → 0 < sum_by (tie x) zs → is_lt (R x y) ≡ false
  not_less x y [] none some = absurd (omega arith)
  not_less x y (z ∷ zs) none some = by (is_eq (R z x)) refl (not_less x y zs none.1)
    where
      by : (b : Bool) → is_eq (R z x) ≡ b → (0 < sum_by (tie x) zs → is_lt (R x y) ≡ false)
          → is_lt (R x y) ≡ false
      by true e rest = ap is_lt (sym (o.congr z x y ((Equal-is (R z x)).0 e))) ∙ none.0
      by false e rest = rest (omega (arith, sum_by-cons (tie x) z zs, ap {B = ℕ} (λ b. cond b 1 0) e))

  -- an element is level with itself
  counted : (x : X) (xs : List X) → 0 < sum_by (tie x) (x ∷ xs)
  counted x xs = omega (arith, sum_by-cons (tie x) x xs, ap {B = ℕ} (λ r. cond (is_eq r) 1 0) (tied_itself o x))

  module _ (P : X → Type 0) (tells : (x y : X) → P x → P y → R x y ≡ Equal → x ≡ y) where
    same_sums : (xs ys : List X) → AllByRecursion P xs → AllByRecursion P ys
        → ((f : X → ℕ) → sum_by f xs ≡ sum_by f ys)
        → IsSorted R xs → IsSorted R ys → xs ≡ ys
    same_sums [] [] these those sums up others = refl
    same_sums [] (y ∷ ys) these those sums up others =
        absurd (omega (arith, sums (λ _. 1), sum_by-cons (λ _. 1) y ys))
    same_sums (x ∷ xs) [] these those sums up others =
        absurd (omega (arith, sums (λ _. 1), sum_by-cons (λ _. 1) x xs))
    same_sums (x ∷ xs) (y ∷ ys) these those sums up others =
        let one = not_less x y (y ∷ ys) (first_least y ys others) (omega (arith, counted x xs, sums (tie x))) in
        let other = not_less y x (x ∷ xs) (first_least x xs up) (omega (arith, counted y ys, sums (tie y))) in
        let first : x ≡ y = tells x y these.0 those.0 (level (R x y) (R y x) (o.antisymm x y) one other) in
        let rest = same_sums xs ys these.1 those.1
        (λ f. omega (arith, sums f, sum_by-cons f x xs, sum_by-cons f y ys, ap f first))
        (rest_sorted x xs up) (rest_sorted y ys others) in
        λ i. first i ∷ rest i

    -- two lists in order with the elements of one list
    pub one_order : (xs ys : List X) → AllByRecursion P xs → AllByRecursion P ys → IsPermutation xs ys
        → IsSorted R xs → IsSorted R ys → xs ≡ ys
    one_order xs ys these those moved up others =
        same_sums xs ys these those (λ f. sym (sum_by-IsPermutation f xs ys moved)) up others

-- ---- lists of numbers

pub same_numbers : (xs ys : List ℕ) → slice_cmp nat_cmp xs ys ≡ Equal → xs ≡ ys
same_numbers xs ys e = (bytes_decides xs ys).0 (lists_ties nat_cmp unsigned_ties xs ys ∙ ap is_eq e)

pub second_level : (a b : Ordering) → ordering_then a b ≡ Equal → b ≡ Equal
second_level Less b e = absurd cc
second_level Equal b e = e
second_level Greater b e = absurd cc

-- ---- what is sorted by what it says

pub sorted_said : {A B : Type 0} (say : A → B) (R : B → B → Ordering) (xs : List A)
    → IsSorted (λ a b. R (say a) (say b)) xs → IsSorted R (map say xs)
sorted_said say R [] up k d from inside = absurd (omega arith)
sorted_said say R (x ∷ xs) up k d from inside =
    let size = length-map (x ∷ xs) say in
    let next = get_or-map say (x ∷ xs) (k + 1) x d (omega (arith, size)) in
    let here = get_or-map say (x ∷ xs) k x d (omega (arith, size)) in
    (λ i. is_lt (R (next i) (here i))) ∙ up k x from (omega (arith, size))
