-- Numbers that aren't negative, and lists that are split.
use Rattle.std.proofs.Common.{◌≡◌, ℕ, zero, suc, ◌-◌, true, List, [], ◌∷◌, ◌++◌, length, Some, refl, sym}
use Rattle.std.proofs.Common.{ap, subst, slice_get, take, ℤ, pos, negsuc, arith}
use Rattle.std.specs.Prelude.{int_le, slice_set}
use Rattle.std.proofs.lemmas.Bool.{le-leb}
use Rattle.au_base.specs.declared.kinds.IntKind.TheVariants.{Index, Nat8}
use Rattle.au_ints.specs.Ranges.{least_of}

pub index_least : (n : ℕ) → int_le (least_of Index) (pos n) ≡ true
index_least n = le-leb 0 n (omega arith)

pub byte_least : (n : ℕ) → int_le (least_of Nat8) (pos n) ≡ true
byte_least n = le-leb 0 n (omega arith)

-- a number that isn't below the least of these kinds is one of ℕ
pub index_natural : (z : ℤ) → int_le (least_of Index) z ≡ true → (n : ℕ) × (z ≡ pos n)
index_natural (pos n) h = (n, refl)
index_natural (negsuc n) h = absurd cc

pub byte_natural : (z : ℤ) → int_le (least_of Nat8) z ≡ true → (n : ℕ) × (z ≡ pos n)
byte_natural (pos n) h = (n, refl)
byte_natural (negsuc n) h = absurd cc

module _ {A : Type 0} where
  -- a list around the item of a number, and the list with another item there
  pub record IsSplit (xs : List A) (i : ℕ) (x : A) : Type 0 where
    pub front : List A
    pub back : List A
    pub is : xs ≡ front ++ x ∷ back
    pub set : (y : A) → slice_set xs i y ≡ front ++ y ∷ back

  pub split_at : (xs : List A) (i : ℕ) (x : A) → slice_get xs i ≡ Some x → IsSplit xs i x
  split_at [] i x h = absurd cc
  split_at (y ∷ ys) zero x h =
      let same : y ≡ x = cc in
      record { front = []; back = ys; is = ap (λ z. z ∷ ys) same; set = λ z. refl }
  split_at (y ∷ ys) (suc i) x h =
      let rest = split_at ys i x h in
      record {
        front = y ∷ rest.front;
        back = rest.back;
        is = ap (λ zs. y ∷ zs) rest.is;
        set = λ z. ap (λ zs. y ∷ zs) (rest.set z);
      }

  -- the last item, and those before it
  last_of : (n : ℕ) (xs : List A) (x : A) → length xs ≡ suc n → slice_get xs n ≡ Some x → xs ≡ take n xs ++ x ∷ []
  last_of n [] x many h = absurd cc
  last_of zero (y ∷ []) x many h = let same : y ≡ x = cc in ap (λ z. z ∷ []) same
  last_of zero (y ∷ z ∷ zs) x many h = absurd (omega arith)
  last_of (suc n) (y ∷ ys) x many h = ap (λ rest. y ∷ rest) (last_of n ys x (omega arith) h)

  pub last_split : (xs : List A) (x : A) → slice_get xs (length xs - 1) ≡ Some x
      → xs ≡ take (length xs - 1) xs ++ x ∷ []
  last_split [] x h = absurd cc
  last_split (y ∷ ys) x h =
      let many : length (y ∷ ys) - 1 ≡ length ys = omega arith in
      subst (λ k. (y ∷ ys) ≡ take k (y ∷ ys) ++ x ∷ []) (sym many)
      (last_of (length ys) (y ∷ ys) x refl (subst (λ k. slice_get (y ∷ ys) k ≡ Some x) many h))
