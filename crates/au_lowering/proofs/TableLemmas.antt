-- Tables of keys, and the lists that they say.
use Rattle.std.proofs.Common.{◌≡◌, ◌≤◌, ◌+◌, ℕ, Bool, true, false, not, cond, ◌||◌, List, [], ◌∷◌, ◌++◌}
use Rattle.std.proofs.Common.{Option, Some, None, Result, Ok, Err, IfOk, Vec, length, map, nat_lt, refl}
use Rattle.std.proofs.Common.{sym, ap, ◌∙◌, arith, ltb-false}
use Rattle.std.specs.List.{list_any, position, position_or_len}
use Rattle.std.specs.Str.{bytes_eq}
use Rattle.std.specs.Global.{Global}
use Rattle.std.specs.Cmp.Lexicographic.{nat_list_eq_equiv}
use Rattle.std.proofs.lemmas.List.{map_push}
use Rattle.std.proofs.lemmas.List.Sums.{prefix_len-le-length}
use Rattle.au_base.specs.declared.faults.Memory.{Memory}
use Rattle.au_graphs.specs.Finding.{numbers}
use Rattle.au_graphs.specs.Reached.{adds, has, put_new}

-- whether a key is there
has_key : (key : List ℕ) (ks : List (Vec ℕ Global))
    → list_any (λ (k : Vec ℕ Global). bytes_eq key k.items) ks ≡ has bytes_eq (map numbers ks) key
has_key key [] = refl
has_key key (k ∷ ks) = ap (λ b. bytes_eq key k.items || b) (has_key key ks)

-- a key that is put
pub put_key : (value : Vec ℕ Global) (ks : List (Vec ℕ Global)) (key : List ℕ) → value.items ≡ key
    → map numbers (cond (list_any (λ (k : Vec ℕ Global). bytes_eq value.items k.items) ks) ks
    (ks ++ value ∷ [])) ≡ adds bytes_eq (map numbers ks) (key ∷ [])
put_key value ks key is =
    by (list_any (λ (k : Vec ℕ Global). bytes_eq value.items k.items) ks)
    (has bytes_eq (map numbers ks) value.items) (has_key value.items ks)
    ∙ ap (λ k. adds bytes_eq (map numbers ks) (k ∷ [])) is
  where
    by : (b c : Bool) → b ≡ c → map numbers (cond b ks (ks ++ value ∷ []))
        ≡ put_new bytes_eq c (map numbers ks) value.items
    by true true e = refl
    by false false e = map_push numbers ks value
    by true false e = absurd cc
    by false true e = absurd cc

turned : (a b : List ℕ) → bytes_eq a b ≡ bytes_eq b a
turned a b = nat_list_eq_equiv.symm a b

-- the place of a key is that among what the keys say
place_key : (key : List ℕ) (ks : List (Vec ℕ Global))
    → position_or_len (λ (k : Vec ℕ Global). bytes_eq key k.items) ks
    ≡ position_or_len (λ one. bytes_eq one key) (map numbers ks)
place_key key [] = refl
place_key key (k ∷ ks) = (λ i. cond (not (turned key k.items i)) (1 + place_key key ks i) 0)

module _ {A : Type 0} (test : A → Bool) (ks : List A) where
  from_some : ℕ → Option ℕ → ℕ
  from_some n None = n
  from_some n (Some m) = m

  -- where it is found
  found_at : (n m : ℕ) (b : Bool) (at : ℕ) → cond b (Some n) None ≡ Some at → at ≡ n
  unfolding from_some
  found_at n m true at e = sym (ap (from_some at) e)
  found_at n m false at e = absurd cc

  missing_at : (n m : ℕ) (b : Bool) → nat_lt n m ≡ b → n ≤ m → cond b (Some n) None ≡ None → m ≡ n
  missing_at n m true e le is = absurd cc
  missing_at n m false e le is = let past = ltb-false n m e in omega arith

  pub found_place : (at : ℕ) → position test ks ≡ Some at → at ≡ position_or_len test ks
  found_place at e = found_at (position_or_len test ks) (length ks)
      (nat_lt (position_or_len test ks) (length ks)) at e

  pub missing_place : position test ks ≡ None → length ks ≡ position_or_len test ks
  missing_place e =
      missing_at (position_or_len test ks) (length ks)
      (nat_lt (position_or_len test ks) (length ks)) refl
      (prefix_len-le-length (λ x. not (test x)) ks) e

-- the number of a key that is found, and of one that isn't
pub found_key : (key : List ℕ) (ks : List (Vec ℕ Global)) (at : ℕ)
    → position (λ (k : Vec ℕ Global). bytes_eq key k.items) ks ≡ Some at
    → at ≡ position_or_len (λ one. bytes_eq one key) (map numbers ks)
found_key key ks at e = found_place (λ (k : Vec ℕ Global). bytes_eq key k.items) ks at e ∙ place_key key ks

pub missing_key : (key : List ℕ) (ks : List (Vec ℕ Global))
    → position (λ (k : Vec ℕ Global). bytes_eq key k.items) ks ≡ None
    → length ks ≡ position_or_len (λ one. bytes_eq one key) (map numbers ks)
missing_key key ks e = missing_place (λ (k : Vec ℕ Global). bytes_eq key k.items) ks e ∙ place_key key ks

-- a number that is another
pub ok_is : (result : Result ℕ Memory) (n m : ℕ) → n ≡ m → IfOk result (λ made. made ≡ n)
    → IfOk result (λ made. made ≡ m)
ok_is (Ok made) n m e is = is ∙ e
ok_is (Err fault) n m e is = tt
