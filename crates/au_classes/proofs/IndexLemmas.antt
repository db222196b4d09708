-- Where the first of some items stands that passes a test, and tables that find it by a key.
use Rattle.std.proofs.Common.{◌≡◌, ℕ, ◌+◌, ◌<◌, ◌≤◌, zero, suc, Bool, true, false, cond, List, [], ◌∷◌, ◌++◌}
use Rattle.std.proofs.Common.{length, map, take, drop, get_or, find, Option, None, Some, refl, sym}
use Rattle.std.proofs.Common.{ap, ◌∙◌, add-zero, zero-add, arith}
use Rattle.std.specs.Prelude.{slice_get}
use Rattle.std.specs.List.{position_from}
use Rattle.std.specs.Option.{option_or}
use Rattle.std.specs.Str.{bytes_eq}
use Rattle.std.proofs.lemmas.List.{drop_all, take_all, length-map, length-take-le}
use Rattle.std.proofs.lemmas.Option.{none-some, same_Some}
use Rattle.au_base.proofs.ListLemmas.{position_push, seen_left, seen_more}
use Rattle.au_base.proofs.OptionLemmas.{or_none}
use Rattle.au_syntax.specs.Plain.{Bytes}
use Rattle.au_types.specs.Tables as tables
use Rattle.au_promises.specs.Promises.{is_name}
use Rattle.au_promises.proofs.DefinitionLemmas.{find_put}
use Rattle.au_classes.specs.Indices.{at_index, first_index, has_key, with_key, FindsFirst}

-- ---- the first index

-- none passes a test where none passes a weaker one
pub none_weaker : {A : Type 0} (p q : A → Bool) → ((x : A) → q x ≡ false → p x ≡ false) → (i : ℕ) (xs : List A)
    → position_from q i xs ≡ None → position_from p i xs ≡ None
none_weaker p q weaker i [] none = refl
none_weaker p q weaker i (x ∷ xs) none = by (q x) refl (λ rest. none_weaker p q weaker (i + 1) xs rest)
  where
    by : (b : Bool) → q x ≡ b → (position_from q (i + 1) xs ≡ None → position_from p (i + 1) xs ≡ None) →
        position_from p i (x ∷ xs) ≡ None
    by true e others = absurd (none-some i
        (sym (sym (ap (λ c. cond c (Some i) (position_from q (i + 1) xs)) e) ∙ none)))
    by false e others =
        ap (λ c. cond c (Some i) (position_from p (i + 1) xs)) (weaker x e)
        ∙ others (sym (ap (λ c. cond c (Some i) (position_from q (i + 1) xs)) e) ∙ none)

-- the first that passes a weaker test is the first that passes a test, if it does
pub first_weaker : {A : Type 0} (p q : A → Bool) → ((x : A) → q x ≡ false → p x ≡ false) → (i k : ℕ) (xs : List A)
    → position_from q i xs ≡ Some (i + k) → at_index p xs k ≡ true → position_from p i xs ≡ Some (i + k)
first_weaker p q weaker i k [] found passes = absurd (none-some (i + k) found)
first_weaker p q weaker i zero (x ∷ xs) found passes =
    ap (λ b. cond b (Some i) (position_from p (i + 1) xs)) passes ∙ ap Some (sym (add-zero i))
first_weaker p q weaker i (suc k) (x ∷ xs) found passes =
    by (q x) refl (λ rest. first_weaker p q weaker (i + 1) k xs rest passes)
  where
    by : (b : Bool) → q x ≡ b → (position_from q (i + 1) xs ≡ Some (i + 1 + k) → position_from p (i + 1) xs
        ≡ Some (i + 1 + k)) → position_from p i (x ∷ xs) ≡ Some (i + suc k)
    by true e others =
        let here : i ≡ i + suc k = same_Some i (i + suc k)
        (sym (ap (λ c. cond c (Some i) (position_from q (i + 1) xs)) e) ∙ found) in
        absurd (omega (arith, here))
    by false e others =
        let same : i + 1 + k ≡ i + suc k = omega arith in
        let later : position_from q (i + 1) xs ≡ Some (i + suc k) =
        sym (ap (λ c. cond c (Some i) (position_from q (i + 1) xs)) e) ∙ found in
        ap (λ c. cond c (Some i) (position_from p (i + 1) xs)) (weaker x e)
        ∙ others (later ∙ ap Some (sym same))
        ∙ ap Some same

-- no item passes where no index is found
pub found_none : {A : Type 0} (t : A → Bool) (i : ℕ) (xs : List A) → position_from t i xs ≡ None → find t xs ≡ None
found_none t i [] none = refl
found_none t i (x ∷ xs) none = by (t x) refl (λ rest. found_none t (i + 1) xs rest)
  where
    by : (b : Bool) → t x ≡ b → (position_from t (i + 1) xs ≡ None → find t xs ≡ None) → find t (x ∷ xs) ≡ None
    by true e others = absurd (none-some i
        (sym (sym (ap (λ c. cond c (Some i) (position_from t (i + 1) xs)) e) ∙ none)))
    by false e others =
        ap (λ c. cond c (Some x) (find t xs)) e
        ∙ others (sym (ap (λ c. cond c (Some i) (position_from t (i + 1) xs)) e) ∙ none)

-- no index is found before the one at which the search begins
pub index_past : {A : Type 0} (t : A → Bool) (i k : ℕ) (xs : List A) → position_from t i xs ≡ Some k → i ≤ k
index_past t i k [] found = absurd (none-some k found)
index_past t i k (x ∷ xs) found = by (t x) (λ rest. index_past t (i + 1) k xs rest) found
  where
    by : (b : Bool) → (position_from t (i + 1) xs ≡ Some k → i + 1 ≤ k) →
        cond b (Some i) (position_from t (i + 1) xs) ≡ Some k → i ≤ k
    by true later is = let here : i ≡ k = same_Some i k is in omega (arith, here)
    by false later is = omega (arith, later is)

-- the item of the index that is found is the first that passes
pub found_there : {A : Type 0} (t : A → Bool) (i k : ℕ) (xs : List A) → position_from t i xs ≡ Some (i + k) →
    slice_get xs k ≡ find t xs
found_there t i k [] found = absurd (none-some (i + k) found)
found_there t i zero (x ∷ xs) found = by (t x) refl
  where
    by : (b : Bool) → t x ≡ b → Some x ≡ find t (x ∷ xs)
    by true e = sym (ap (λ c. cond c (Some x) (find t xs)) e)
    by false e =
        let later : position_from t (i + 1) xs ≡ Some (i + 0) =
        sym (ap (λ c. cond c (Some i) (position_from t (i + 1) xs)) e) ∙ found in
        let past : i + 1 ≤ i + 0 = index_past t (i + 1) (i + 0) xs later in
        absurd (omega (arith, past))
found_there t i (suc k) (x ∷ xs) found = by (t x) refl (λ rest. found_there t (i + 1) k xs rest)
  where
    by : (b : Bool) → t x ≡ b → (position_from t (i + 1) xs ≡ Some (i + 1 + k) → slice_get xs k ≡ find t xs) →
        slice_get xs k ≡ find t (x ∷ xs)
    by true e others =
        let here : i ≡ i + suc k = same_Some i (i + suc k)
        (sym (ap (λ c. cond c (Some i) (position_from t (i + 1) xs)) e) ∙ found) in
        absurd (omega (arith, here))
    by false e others =
        let same : i + 1 + k ≡ i + suc k = omega arith in
        let later : position_from t (i + 1) xs ≡ Some (i + suc k) =
        sym (ap (λ c. cond c (Some i) (position_from t (i + 1) xs)) e) ∙ found in
        others (later ∙ ap Some (sym same))
        ∙ sym (ap (λ c. cond c (Some x) (find t xs)) e)

-- ---- tables

-- a table finds the first item of each key, with one more item
module _ {A : Type 0} (key_of : A → Option Bytes) (items : List A) (x : A) (table : List (Bytes × ℕ))
    (old : FindsFirst key_of items table) where
  put_found : (name : Bytes) (key : Option Bytes)
      → tables.find name (with_key table key (length items))
      ≡ option_or (first_index (has_key key_of name) items)
      (cond (is_name name key) (Some (length items)) None)
  put_found name None = old name ∙ sym (or_none (first_index (has_key key_of name) items))
  put_found name (Some other) =
      find_put name table other (length items)
      ∙ ap (λ o. option_or o (cond (bytes_eq name other) (Some (length items)) None)) (old name)

  first_more : FindsFirst key_of (items ++ x ∷ []) (with_key table (key_of x) (length items))
  first_more name =
      put_found name (key_of x)
      ∙ sym
      (position_push (has_key key_of name) 0 items x
      ∙ ap (λ n. option_or (first_index (has_key key_of name) items)
      (cond (has_key key_of name x) (Some n) None)) (zero-add (length items)))

module _ {A B C : Type 0} (p : B → C) (v : A → B) where
  seen_count : (xs : List A) (i : ℕ) → i < length xs → length (map p (map v (take i xs))) ≡ i
  seen_count xs i h =
      let within : i ≤ length xs = omega (arith, h) in
      length-map (map v (take i xs)) p ∙ length-map (take i xs) v ∙ length-take-le i xs within

  -- the item at an index is visited, as it is seen through two views
  pub first_next : (key_of : C → Option Bytes) (before after : List (Bytes × ℕ)) (xs : List A) (i : ℕ)
      (x : A) → i < length xs → x ≡ get_or xs i x
      → FindsFirst key_of (map p (map v (take i xs))) before → after ≡ with_key before (key_of (p (v x))) i
      → FindsFirst key_of (map p (map v (take (i + 1) xs))) after
  first_next key_of before after xs i x h here old new name =
      let some = map p (map v (take i xs)) in
      ap (tables.find name) (new ∙ ap (λ n. with_key before (key_of (p (v x))) n) (sym (seen_count xs i h)))
      ∙ first_more key_of some (p (v x)) before old name
      ∙ ap (λ r. first_index (has_key key_of name) r) (sym (seen_more p v xs i x h here))

  -- all are visited
  pub first_all : (key_of : C → Option Bytes) (table : List (Bytes × ℕ)) (xs : List A) (i : ℕ) → length xs ≤ i
      → FindsFirst key_of (map p (map v (take i xs))) table → FindsFirst key_of (map p (map v xs)) table
  first_all key_of table xs i past old name = old name
      ∙ ap (λ r. first_index (has_key key_of name) (map p (map v r))) (take_all i xs past)

-- no item is visited
pub first_none : {A : Type 0} (key_of : A → Option Bytes) (table : List (Bytes × ℕ)) → table ≡ [] →
    FindsFirst key_of [] table
first_none key_of table none name = ap (tables.find name) none

-- ---- a walk that looks for the first, over items that are seen through two views

module _ {A B C : Type 0} (p : B → C) (v : A → B) (t : C → Bool) (xs : List A) (i : ℕ) where
  left_at : (x : A) → i < length xs → x ≡ get_or xs i x → first_index t (map p (map v xs)) ≡ position_from t i
      (map p (map v (drop i xs)))
      → first_index t (map p (map v xs)) ≡ cond (t (p (v x))) (Some i)
      (position_from t (i + 1) (map p (map v (drop (i + 1) xs))))
  left_at x h here so_far = so_far ∙ ap (position_from t i) (seen_left p v xs i x h here)

  -- the next item is the first
  pub among_here : (x : A) (is : Bool) → i < length xs → x ≡ get_or xs i x → first_index t (map p (map v xs))
      ≡ position_from t i (map p (map v (drop i xs)))
      → is ≡ t (p (v x)) → is ≡ true → Some i ≡ first_index t (map p (map v xs))
  among_here x is h here so_far tested true_ =
      sym (left_at x h here so_far ∙ ap
      (λ b. cond b (Some i) (position_from t (i + 1) (map p (map v (drop (i + 1) xs)))))
      (sym tested ∙ true_))

  -- it isn't
  pub among_next : (x : A) (is : Bool) → i < length xs → x ≡ get_or xs i x → first_index t (map p (map v xs))
      ≡ position_from t i (map p (map v (drop i xs)))
      → is ≡ t (p (v x)) → is ≡ false → first_index t (map p (map v xs)) ≡ position_from t (i + 1)
      (map p (map v (drop (i + 1) xs)))
  among_next x is h here so_far tested false_ =
      left_at x h here so_far ∙ ap (λ b. cond b (Some i)
      (position_from t (i + 1) (map p (map v (drop (i + 1) xs))))) (sym tested ∙ false_)

  -- no item is left
  pub among_end : length xs ≤ i → first_index t (map p (map v xs)) ≡ position_from t i
      (map p (map v (drop i xs))) → None ≡ first_index t (map p (map v xs))
  among_end past so_far = sym (so_far ∙ ap (λ r. position_from t i (map p (map v r))) (drop_all i xs past))
