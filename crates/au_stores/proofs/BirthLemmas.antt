-- What is kept of births, by their numbers.
use Rattle.std.proofs.Common.{◌≡◌, ℕ, zero, suc, ◌+◌, ◌≤◌, ◌<◌, Bool, true, false, List, [], ◌∷◌, ◌++◌, length}
use Rattle.std.proofs.Common.{map, Option, Some, None, is_some, slice_get, slice_set, nat_eq, nat_lt, if◌then◌else◌}
use Rattle.std.proofs.Common.{refl, sym, ap, ◌∙◌, arith, true≢false, ◌≢◌}
use Rattle.std.specs.Option.{option_map}
use Rattle.std.proofs.lemmas.List.{length-append, length-map, map-set, set_past}
use Rattle.std.proofs.lemmas.Option.{slice_get-map, slice_get_past}
use Rattle.std.proofs.lemmas.Bool.{ltb-true, ltb-false}
use Rattle.std.proofs.lemmas.Bool.Decides.{Decides-eqb}
use Rattle.std.proofs.Math.Dec.{eqb-suc-zero, eqb-zero-suc, eqb-suc-suc}
use Rattle.au_effects.specs.Parts.{along}
use Rattle.au_effects.specs.Worlds as effect
use Rattle.au_effects.specs.Places.{content_in}
use Rattle.au_effects.specs.Calls.{elements_in}
use Rattle.au_low.specs.Machines.{Low}
use Rattle.au_stores.specs.declared.worlds.Held.{Held}
use Rattle.au_stores.specs.declared.worlds.Held.TheVariants.{Nothing}
use Rattle.au_stores.specs.Births.{or_nothing, listed, IsOfBirths, kept_with, there}
use Rattle.au_stores.specs.Stores.{held_of, content_of_birth}

-- what is kept of births
abbrev pub Kept : Type 0
Kept = ℕ → Option Held

-- how many there are
pub listed_length : (n : ℕ) (kept : Kept) → length (listed n kept) ≡ n
listed_length zero kept = refl
listed_length (suc n) kept =
    let front = listed_length n kept in
    length-append (listed n kept) (or_nothing (kept n) ∷ []) ∙ omega (arith, front)

-- what is kept of others isn't in the list
pub listed_same : (n : ℕ) (kept other : Kept) → ((id : ℕ) → id < n → other id ≡ kept id)
    → listed n other ≡ listed n kept
listed_same zero kept other same = refl
listed_same (suc n) kept other same =
    ap (λ (front : List Held). front ++ or_nothing (other n) ∷ []) (listed_same n kept other (λ id h. same id
    (omega (arith, h))))
    ∙ ap (λ (one : Option Held). listed n kept ++ or_nothing one ∷ []) (same n (omega arith))

-- an item of a list with one more
end_get : {X : Type 0} (xs : List X) (x : X) (i : ℕ) → i < length xs → slice_get (xs ++ x ∷ []) i ≡ slice_get xs i
end_get [] x i h = absurd (omega (arith, h))
end_get (y ∷ xs) x zero h = refl
end_get (y ∷ xs) x (suc i) h = end_get xs x i (omega (arith, h))

last_got : {X : Type 0} (xs : List X) (x : X) → slice_get (xs ++ x ∷ []) (length xs) ≡ Some x
last_got [] x = refl
last_got (y ∷ xs) x = last_got xs x

-- what the list has of a birth
listed_get : (n i : ℕ) (kept : Kept) → i < n → slice_get (listed n kept) i ≡ Some (or_nothing (kept i))
listed_get zero i kept h = absurd (omega (arith, h))
listed_get (suc n) i kept h = by (nat_eq i n) refl (λ low. listed_get n i kept low)
  where
    by : (b : Bool) → nat_eq i n ≡ b → (i < n → slice_get (listed n kept) i ≡ Some (or_nothing (kept i)))
        → slice_get (listed (suc n) kept) i ≡ Some (or_nothing (kept i))
    by true e before =
        let same : i ≡ n = (Decides-eqb i n).0 e in
        ap (slice_get (listed (suc n) kept)) (same ∙ sym (listed_length n kept))
        ∙ last_got (listed n kept) (or_nothing (kept n))
        ∙ ap (λ k. Some (or_nothing (kept k))) (sym same)
    by false e before =
        let apart : i ≢ n = λ same. true≢false (sym ((Decides-eqb i n).1 same) ∙ e) in
        let low : i < n = omega (arith, h, apart) in
        end_get (listed n kept) (or_nothing (kept n)) i (omega (arith, listed_length n kept, low))
        ∙ before low

pub listed_there : (n i : ℕ) (kept : Kept) → IsOfBirths n kept → there (listed n kept) i ≡ or_nothing (kept i)
listed_there n i kept none = by (nat_lt i n) refl
  where
    by : (b : Bool) → nat_lt i n ≡ b → there (listed n kept) i ≡ or_nothing (kept i)
    by true e = ap or_nothing (listed_get n i kept (ltb-true i n e))
    by false e =
        let past = ltb-false i n e in
        ap or_nothing (slice_get_past (listed n kept) i (omega (arith, listed_length n kept, past)))
        ∙ ap or_nothing (sym (none i past))

-- what is kept of one birth is another
set_end : {X : Type 0} (xs : List X) (x y : X) (i : ℕ)
    → slice_set (xs ++ x ∷ []) i y ≡ slice_set xs i y ++ (if nat_eq i (length xs) then y else x) ∷ []
set_end [] x y zero = refl
set_end {X} [] x y (suc i) = ap (λ b. (if b then y else x) ∷ []) (sym (eqb-suc-zero i))
set_end {X} (z ∷ xs) x y zero = ap (λ b. y ∷ xs ++ (if b then y else x) ∷ []) (sym (eqb-zero-suc (length xs)))
set_end {X} (z ∷ xs) x y (suc i) =
    ap (λ (more : List X). z ∷ more) (set_end xs x y i)
    ∙ ap (λ b. z ∷ slice_set xs i y ++ (if b then y else x) ∷ []) (sym (eqb-suc-suc i (length xs)))

pub listed_with : (n id : ℕ) (one : Option Held) (kept other : Kept)
    → ((q : ℕ) → other q ≡ kept_with id one kept q)
    → listed n other ≡ slice_set (listed n kept) id (or_nothing one)
listed_with zero id one kept other is = refl
listed_with (suc n) id one kept other is =
    ap (λ (front : List Held). front ++ or_nothing (other n) ∷ []) (listed_with n id one kept other is)
    ∙ ap (λ (last : Held). slice_set (listed n kept) id (or_nothing one) ++ last ∷ [])
    (ap or_nothing (is n) ∙ or_nothing_if (nat_eq id n) one (kept n)
    ∙ ap (λ k. if nat_eq id k then or_nothing one else or_nothing (kept n)) (sym (listed_length n kept)))
    ∙ sym (set_end (listed n kept) (or_nothing (kept n)) (or_nothing one) id)
  where
    or_nothing_if : (b : Bool) (one other : Option Held)
        → or_nothing (if b then one else other) ≡ (if b then or_nothing one else or_nothing other)
    or_nothing_if true one other = refl
    or_nothing_if false one other = refl

-- where nothing is kept of a birth, nothing else is
pub kept_none : (id : ℕ) (kept other : Kept) → None ≡ kept id
    → ((q : ℕ) → other q ≡ kept_with id None kept q) → (q : ℕ) → other q ≡ kept q
kept_none id kept other none is q = is q ∙ by (nat_eq id q) refl
  where
    by : (b : Bool) → nat_eq id q ≡ b → (if b then None else kept q) ≡ kept q
    by true e = none ∙ ap kept ((Decides-eqb id q).0 e)
    by false e = refl

-- what is kept of one birth is another, and then a third
pub kept_twice : (id : ℕ) (one two : Held) (kept mid other : Kept) (found : Option Held)
    → ((q : ℕ) → mid q ≡ kept_with id (Some one) kept q) → found ≡ mid id
    → ((q : ℕ) → other q ≡ kept_with id (option_map (λ (old : Held). two) found) mid q)
    → (q : ℕ) → other q ≡ kept_with id (Some two) kept q
kept_twice id one two kept mid other found first is second q =
    second q ∙ ap (λ o. kept_with id (option_map (λ (old : Held). two) o) mid q) at_id ∙ by (nat_eq id q) refl
  where
    at_id : found ≡ Some one
    at_id = is ∙ first id ∙ ap (λ b. if b then Some one else kept id) ((Decides-eqb id id).1 refl)

    by : (b : Bool) → nat_eq id q ≡ b → (if b then Some two else mid q) ≡ (if b then Some two else kept q)
    by true e = refl
    by false e = first q ∙ ap (λ b. if b then Some one else kept q) e

-- what is kept of one birth is put back
pub kept_back : (id : ℕ) (old : Held) (kept other : Kept) → Some old ≡ kept id
    → ((q : ℕ) → other q ≡ kept_with id (Some old) kept q) → (q : ℕ) → other q ≡ kept q
kept_back id old kept other there is q = is q ∙ by (nat_eq id q) refl
  where
    by : (b : Bool) → nat_eq id q ≡ b → (if b then Some old else kept q) ≡ kept q
    by true e = there ∙ ap kept ((Decides-eqb id q).0 e)
    by false e = refl

-- what there is of births, as the definitions have it
pub held_with : (n id : ℕ) (one : Option Held) (kept other : Kept) (births : List Held)
    → listed n kept ≡ births → ((q : ℕ) → other q ≡ kept_with id one kept q)
    → map held_of (listed n other) ≡ slice_set (map held_of births) id (held_of (or_nothing one))
held_with n id one kept other births view is =
    ap (map held_of) (listed_with n id one kept other is)
    ∙ map-set held_of (listed n kept) id (or_nothing one)
    ∙ ap (λ (ones : List Held). slice_set (map held_of ones) id (held_of (or_nothing one))) view

pub held_same : (n : ℕ) (kept other : Kept) (births : List Held) → listed n kept ≡ births
    → ((q : ℕ) → other q ≡ kept q) → map held_of (listed n other) ≡ map held_of births
held_same n kept other births view is =
    ap (map held_of) (listed_same n kept other (λ q h. is q) ∙ view)

-- of a birth that wasn't yet there is nothing to change
pub held_past : (n id : ℕ) (one : effect.Held ℕ) (kept : Kept) (births : List Held)
    → listed n kept ≡ births → n ≤ id → map held_of births ≡ slice_set (map held_of births) id one
held_past n id one kept births view h =
    sym (set_past (map held_of births) id one (omega (
      arith,
      length-map births held_of,
      ap length view,
      listed_length n kept,
      h,
    )))

-- one more birth
pub listed_more : (n more : ℕ) (one : Held) (kept other : Kept) (births : List Held) → more ≡ n + 1
    → listed n kept ≡ births → ((q : ℕ) → other q ≡ kept_with n (Some one) kept q)
    → listed more other ≡ births ++ one ∷ []
listed_more n more one kept other births next view is =
    let step : more ≡ suc n = omega (arith, next) in
    ap (λ m. listed m other) step
    ∙ ap (λ (front : List Held). front ++ or_nothing (other n) ∷ [])
    (listed_same n kept other (λ q h. is q ∙ ap (λ b. if b then Some one else kept q) (apart q h)) ∙ view)
    ∙ ap (λ (o : Option Held). births ++ or_nothing o ∷ []) (is n
    ∙ ap (λ b. if b then Some one else kept n) ((Decides-eqb n n).1 refl))
  where
    apart : (q : ℕ) → q < n → nat_eq n q ≡ false
    apart q h = by (nat_eq n q) refl
      where
        by : (b : Bool) → nat_eq n q ≡ b → b ≡ false
        by true e = let same = (Decides-eqb n q).0 e in absurd (omega (arith, same, h))
        by false e = refl

-- what there is of a birth
module _ (n id : ℕ) (kept : Kept) (births : List Held) (view : listed n kept ≡ births) (none : IsOfBirths n kept)
    (found : Option Held) (is : found ≡ kept id) where
  pub there_kept : there births id ≡ or_nothing found
  there_kept = ap (λ (ones : List Held). there ones id) (sym view) ∙ listed_there n id kept none
      ∙ ap or_nothing (sym is)

  pub content_there : content_of_birth id (map held_of births) ≡ content_in (held_of (or_nothing found))
  content_there =
      ap (λ (one : Option (effect.Held ℕ)). along one content_in) (slice_get-map held_of births id)
      ∙ by (slice_get births id) ∙ ap (λ (one : Held). content_in (held_of one)) there_kept
    where
      by : (one : Option Held)
          → along (option_map held_of one) content_in ≡ content_in (held_of (or_nothing one))
      by None = refl
      by (Some one) = refl

  pub elements_there : along (slice_get (map held_of births) id) elements_in ≡ elements_in (held_of (or_nothing found))
  elements_there =
      ap (λ (one : Option (effect.Held ℕ)). along one elements_in) (slice_get-map held_of births id)
      ∙ by (slice_get births id) ∙ ap (λ (one : Held). elements_in (held_of one)) there_kept
    where
      by : (one : Option Held)
          → along (option_map held_of one) elements_in ≡ elements_in (held_of (or_nothing one))
      by None = refl
      by (Some one) = refl
