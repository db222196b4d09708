-- Where the definitions of a body stand, and which is found.
use Rattle.std.proofs.Common.{◌≡◌, ℕ, ◌+◌, ◌<◌, ◌≤◌, ◌⊎◌, inl, inr, Bool, true, false, cond, List, []}
use Rattle.std.proofs.Common.{◌∷◌, ◌++◌, length, map, find, take, get_or, Option, None, Some, is_some, refl}
use Rattle.std.proofs.Common.{sym, ap, ◌∙◌, subst, true≢false, arith}
use Rattle.std.specs.Prelude.{◌||◌, min, position, slice_get}
use Rattle.std.specs.Borrow.{Bor}
use Rattle.std.specs.List.{position_from, position_or_len}
use Rattle.std.specs.Option.{option_and_then, option_map, option_or, IfSome}
use Rattle.std.specs.Str.{bytes_eq}
use lib.Dec.{ltb}
use Rattle.std.proofs.lemmas.Bool.{lt-ltb, le-ltb, cases_lt}
use Rattle.std.proofs.lemmas.Grind.{common_steps}
use Rattle.std.proofs.lemmas.Iterator.Adapters.{position_from-zero}
use Rattle.std.proofs.lemmas.List.{take_all}
use Rattle.std.proofs.lemmas.List.Folds.{find_at}
use Rattle.std.proofs.lemmas.Option.{slice_get-map, slice_get_past, slice_get_read}
use Rattle.std.proofs.lemmas.Slice.Eq.{bytes_eq-Decides}
use Rattle.au_base.proofs.OptionLemmas.{or_none, or_there}
use Rattle.au_base.proofs.ListLemmas.{seen_more, position_push}
use Rattle.au_syntax.specs.Plain.{Bytes, PlainDeclaration}
use Rattle.au_types.specs.Tables as tables
use Rattle.au_types.specs.Tables.{has_name, with_pair}
use Rattle.au_types.proofs.TableLemmas.{with_pair-old, with_pair-new}
use Rattle.au_promises.specs.declared.definitions.ByName.{ByName}
use Rattle.au_promises.specs.declared.definitions.Sort.{Sort}
use Rattle.au_promises.specs.declared.definitions.Sort.TheVariants.{Constants, Types, Functions}
use Rattle.au_promises.specs.Promises.{is_name}
use Rattle.au_promises.specs.Defining.{
  name_defined,
  has_key,
  with_name,
  table_of,
  AreNamed,
  AreFirst,
  earlier,
}

-- ---- options

-- what is behind it counts where nothing is there
pub or_behind : {A : Type 0} (o p : Option A) → is_some o ≡ false → option_or o p ≡ p
or_behind None p h = refl
or_behind (Some x) p h = absurd (true≢false h)

-- ---- lists

-- nothing is found by a test that always fails
pub nothing_found : {A : Type 0} (xs : List A) → find (λ x. false) xs ≡ None
nothing_found [] = refl
nothing_found (x ∷ xs) = nothing_found xs

module _ {A B C : Type 0} (p : B → C) (v : A → B) where
  -- what is seen at an index
  seen_at : (xs : List A) (i : ℕ) (x : A) → i < length xs → x ≡ get_or xs i x
      → slice_get (map p (map v xs)) i ≡ Some (p (v x))
  seen_at xs i x h here =
      slice_get-map p (map v xs) i ∙ ap (option_map p) (slice_get-map v xs i)
      ∙ ap (λ o. option_map p (option_map v o)) (slice_get_read xs (length xs) i x refl h here)

  -- what is got at an index, as it is seen
  pub seen_got : (xs : List A) (i : ℕ) (r : Option (Bor A)) → is_some r ≡ ltb i (length xs)
      → IfSome r (λ b. b.now ≡ get_or xs i b.now)
      → option_map (λ b. p (v b.now)) r ≡ slice_get (map p (map v xs)) i
  seen_got xs i r has is = by r (cases_lt i (length xs)) has is
    where
      by : (r : Option (Bor A)) → (i < length xs) ⊎ (length xs ≤ i) → is_some r ≡ ltb i (length xs)
          → IfSome r (λ b. b.now ≡ get_or xs i b.now)
          → option_map (λ b. p (v b.now)) r ≡ slice_get (map p (map v xs)) i
      by None (inl less) has is = absurd (true≢false (sym (has ∙ lt-ltb i (length xs) less)))
      by None (inr more) has is = sym (slice_get-map p (map v xs) i ∙ ap (option_map p) (slice_get-map v xs i)
          ∙ ap (λ o. option_map p (option_map v o)) (slice_get_past xs i more))
      by (Some b) (inl less) has is = sym (seen_at xs i b.now less is)
      by (Some b) (inr more) has is = absurd (true≢false (has ∙ le-ltb i (length xs) more))

-- ---- tables

module _ {V : Type 0} where
  pub find_behind : (name : Bytes) (pairs more : List (Bytes × V))
      → tables.find name (pairs ++ more) ≡ option_or (tables.find name pairs) (tables.find name more)
  find_behind name [] more = refl
  find_behind name (q ∷ qs) more = by (bytes_eq name q.0) (find_behind name qs more)
    where
      by : (b : Bool) → tables.find name (qs ++ more) ≡ option_or (tables.find name qs)
          (tables.find name more)
          → cond b (Some q.1) (tables.find name (qs ++ more))
          ≡ option_or (cond b (Some q.1) (tables.find name qs)) (tables.find name more)
      by true rest = refl
      by false rest = rest

  -- what is found once a value is put under a name
  pub find_put : (name : Bytes) (pairs : List (Bytes × V)) (other : Bytes) (value : V)
      → tables.find name (with_pair pairs other value) ≡ option_or (tables.find name pairs)
      (cond (bytes_eq name other) (Some value) None)
  find_put name pairs other value = by (has_name other pairs) (bytes_eq name other) refl refl
    where
      by : (h b : Bool) → has_name other pairs ≡ h → bytes_eq name other ≡ b
          → tables.find name (with_pair pairs other value) ≡ option_or (tables.find name pairs)
          (cond (bytes_eq name other) (Some value) None)
      by false b e k = ap (tables.find name) (with_pair-new pairs other value e)
          ∙ find_behind name pairs ((other, value) ∷ [])
      by true false e k =
          ap (tables.find name) (with_pair-old pairs other value e)
          ∙ sym (ap (λ c. option_or (tables.find name pairs) (cond c (Some value) None)) k
          ∙ or_none (tables.find name pairs))
      by true true e k =
          let has : Bytes → Type 0 = λ n. has_name n pairs ≡ true in
          let there : has_name name pairs ≡ true = subst has (sym ((bytes_eq-Decides name other).0 k)) e in
          ap (tables.find name) (with_pair-old pairs other value e)
          ∙ sym (or_there (tables.find name pairs) (cond (bytes_eq name other) (Some value) None) there)

-- ---- where the first stands that passes a test

module _ {A : Type 0} (p : A → Bool) where
  -- it is what is found
  find_place : (xs : List A) → option_and_then (slice_get xs) (position p xs) ≡ find p xs
  find_place xs = by (cases_lt (position_or_len p xs) (length xs))
    where
      by : (position_or_len p xs < length xs) ⊎ (length xs ≤ position_or_len p xs)
          → option_and_then (slice_get xs) (position p xs) ≡ find p xs
      by (inl less) =
          ap (λ b. option_and_then (slice_get xs) (cond b (Some (position_or_len p xs)) None))
          (lt-ltb (position_or_len p xs) (length xs) less)
          ∙ sym (find_at p xs)
      by (inr more) =
          ap (λ b. option_and_then (slice_get xs) (cond b (Some (position_or_len p xs)) None))
          (le-ltb (position_or_len p xs) (length xs) more)
          ∙ sym (find_at p xs ∙ slice_get_past xs (position_or_len p xs) more)

  -- it isn't before the place where the list begins
  place_behind : (i n : ℕ) (xs : List A) → i ≤ n → earlier (Some i) (position_from p n xs) ≡ Some i
  place_behind i n [] h = refl
  place_behind i n (x ∷ xs) h = by (p x) (place_behind i (n + 1) xs (omega arith))
    where
      by : (b : Bool) → earlier (Some i) (position_from p (n + 1) xs) ≡ Some i
          → earlier (Some i) (cond b (Some n) (position_from p (n + 1) xs)) ≡ Some i
      by true rest = let e : min i n ≡ i = omega arith in ap Some e
      by false rest = rest

  place_after : (i n : ℕ) (xs : List A) → i ≤ n → earlier (position_from p n xs) (Some i) ≡ Some i
  place_after i n [] h = refl
  place_after i n (x ∷ xs) h = by (p x) (place_after i (n + 1) xs (omega arith))
    where
      by : (b : Bool) → earlier (position_from p (n + 1) xs) (Some i) ≡ Some i
          → earlier (cond b (Some n) (position_from p (n + 1) xs)) (Some i) ≡ Some i
      by true rest = let e : min n i ≡ i = omega arith in ap Some e
      by false rest = rest

module _ {A : Type 0} (p q : A → Bool) where
  -- two tests of which one passes
  place_either : (n : ℕ) (xs : List A) → earlier (position_from p n xs) (position_from q n xs)
      ≡ position_from (λ x. p x || q x) n xs
  place_either n [] = refl
  place_either n (x ∷ xs) = by (p x) (q x) (place_either (n + 1) xs)
    where
      by : (b c : Bool) → earlier (position_from p (n + 1) xs) (position_from q (n + 1) xs)
          ≡ position_from (λ x. p x || q x) (n + 1) xs
          → earlier (cond b (Some n) (position_from p (n + 1) xs))
          (cond c (Some n) (position_from q (n + 1) xs)) ≡ cond (b || c) (Some n)
          (position_from (λ x. p x || q x) (n + 1) xs)
      by true true rest = let e : min n n ≡ n = omega arith in ap Some e
      by true false rest = place_behind q n (n + 1) xs (omega arith)
      by false true rest = place_after p n (n + 1) xs (omega arith)
      by false false rest = rest

  -- tests that answer alike
  place_alike : ((x : A) → p x ≡ q x) → (n : ℕ) (xs : List A) → position_from p n xs ≡ position_from q n xs
  place_alike same n [] = refl
  place_alike same n (x ∷ xs) =
      ap (λ b. cond b (Some n) (position_from p (n + 1) xs)) (same x)
      ∙ ap (λ r. cond (q x) (Some n) r) (place_alike same (n + 1) xs)

  pub position_alike : ((x : A) → p x ≡ q x) → (xs : List A) → position p xs ≡ position q xs
  position_alike same xs = position_from-zero p xs ∙ place_alike same 0 xs ∙ sym (position_from-zero q xs)

-- what passes one of two tests, by the first of each
pub position_either : {A : Type 0} (p q r : A → Bool) → ((x : A) → (p x || q x) ≡ r x)
    → (xs : List A) → earlier (position p xs) (position q xs) ≡ position r xs
position_either p q r same xs =
    ap (λ o. earlier o (position q xs)) (position_from-zero p xs)
    ∙ ap (earlier (position_from p 0 xs)) (position_from-zero q xs)
    ∙ place_either p q 0 xs
    ∙ sym (position_from-zero (λ x. p x || q x) xs)
    ∙ position_alike (λ x. p x || q x) r same xs

-- ---- what is found by a key

-- one more declaration is visited
module _ (key_of : PlainDeclaration → Option Bytes) (some : List PlainDeclaration)
    (before : List (Bytes × ℕ)) (i : ℕ) (one : PlainDeclaration) (here : i ≡ 0 + length some)
    (old : AreFirst key_of some before) where
  put_named : (found : Option Bytes) (name : Bytes) → tables.find name (with_name before found i)
      ≡ option_or (position (has_key key_of name) some) (cond (is_name name found) (Some i) None)
  put_named None name = old name ∙ sym (or_none (position (has_key key_of name) some))
  put_named (Some other) name = find_put name before other i
      ∙ ap (λ r. option_or r (cond (bytes_eq name other) (Some i) None)) (old name)

  first_more : AreFirst key_of (some ++ one ∷ []) (with_name before (key_of one) i)
  first_more name =
      let p = has_key key_of name in
      put_named (key_of one) name
      ∙ ap (λ r. option_or r (cond (p one) (Some i) None)) (position_from-zero p some)
      ∙ ap (λ k. option_or (position_from p 0 some) (cond (p one) (Some k) None)) here
      ∙ sym (position_push p 0 some one)
      ∙ sym (position_from-zero p (some ++ one ∷ []))

-- no declaration is visited
pub first_none : (key_of : PlainDeclaration → Option Bytes) (table : List (Bytes × ℕ))
    → table ≡ [] → AreFirst key_of [] table
first_none key_of table none name = ap (tables.find name) none

-- the declaration at an index is visited, as it is seen through two views
pub first_next : {A B : Type 0} (p : B → PlainDeclaration) (v : A → B)
    (key_of : PlainDeclaration → Option Bytes) (before after : List (Bytes × ℕ)) (xs : List A) (i : ℕ) (x : A)
    → i < length xs → x ≡ get_or xs i x
    → AreFirst key_of (map p (map v (take i xs))) before → after ≡ with_name before (key_of (p (v x))) i
    → AreFirst key_of (map p (map v (take (i + 1) xs))) after
first_next p v key_of before after xs i x h here old new name =
    let some = map p (map v (take i xs)) in
    let many : i ≡ 0 + length (map p (map v (take i xs))) = grind (arith, common_steps) in
    ap (tables.find name) new
    ∙ first_more key_of some before i (p (v x)) many old name
    ∙ ap (position (has_key key_of name)) (sym (seen_more p v xs i x h here))

-- all are visited
pub first_all : {A B : Type 0} (p : B → PlainDeclaration) (v : A → B) (key_of : PlainDeclaration
    → Option Bytes) (table : List (Bytes × ℕ)) (xs : List A) (i : ℕ) → length xs ≤ i
    → AreFirst key_of (map p (map v (take i xs))) table → AreFirst key_of (map p (map v xs)) table
first_all p v key_of table xs i past old name = old name
    ∙ ap (λ r. position (has_key key_of name) (map p (map v r))) (take_all i xs past)

-- the table of a sort finds the first of this sort
pub first_of : (sort : Sort) (all : List PlainDeclaration) (names : ByName)
    → AreNamed all names → AreFirst (name_defined sort) all (table_of sort names)
first_of Constants all names are = are.constants
first_of Types all names are = are.types
first_of Functions all names are = are.functions

-- the declaration at the index of the first that passes a test is the first
pub first_there : (p : PlainDeclaration → Bool) (all : List PlainDeclaration) (index : Option ℕ) (i : ℕ)
    → index ≡ position p all → index ≡ Some i → slice_get all i ≡ find p all
first_there p all index i is some = ap (option_and_then (slice_get all)) (sym some ∙ is) ∙ find_place p all

-- none is where there is no index
pub first_missing : (p : PlainDeclaration → Bool) (all : List PlainDeclaration) (index : Option ℕ)
    → index ≡ position p all → index ≡ None → None ≡ find p all
first_missing p all index is none = ap (option_and_then (slice_get all)) (sym none ∙ is) ∙ find_place p all
