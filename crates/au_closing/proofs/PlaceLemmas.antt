-- The place of the first that a test finds, and that of the module of a name.
use Rattle.std.proofs.Common.{◌≡◌, ◌<◌, ◌≤◌, ◌+◌, ℕ, zero, suc, Bool, true, false, List, [], ◌∷◌, length}
use Rattle.std.proofs.Common.{Option, None, Some, refl, sym, ap, ◌∙◌, cond, not, nat_lt, arith, ltb-false}
use Rattle.std.proofs.Common.{ltb-true}
use Rattle.std.specs.Prelude.{slice_get}
use Rattle.std.specs.Str.{bytes_eq}
use Rattle.std.specs.List.{position, prefix_len}
use Rattle.std.proofs.lemmas.Option.{none-some, same_Some, slice_get_within}
use Rattle.au_syntax.specs.Plain.{Bytes}
use Rattle.au_modules.specs.Programs.{ModuleParts}
use Rattle.au_modules.specs.Seen.{name_of}

module _ {A : Type 0} (test : A → Bool) where
  -- none of those before a place is found
  abbrev pub NoneBefore : List A → ℕ → Type 0
  NoneBefore xs n = (i : ℕ) (x : A) → i < n → slice_get xs i ≡ Some x → test x ≡ false

  one_more : (n : ℕ) → 1 + n ≡ suc n
  one_more n = omega arith

  front_at : (xs : List A) (n : ℕ) (x : A) → NoneBefore xs n → slice_get xs n ≡ Some x → test x ≡ true
      → prefix_len (λ y. not (test y)) xs ≡ n
  front_at [] n x none here is = absurd (none-some x here)
  front_at (y ∷ xs) zero x none here is =
      ap (λ b. cond (not b) (1 + prefix_len (λ y. not (test y)) xs) 0) (ap test (same_Some y x here) ∙ is)
  front_at (y ∷ xs) (suc n) x none here is =
      ap (λ b. cond (not b) (1 + prefix_len (λ y. not (test y)) xs) 0) (none 0 y (omega arith) refl)
      ∙ ap (λ k. 1 + k) (front_at xs n x (λ i z less at. none (suc i) z (omega (arith, less)) at) here is)
      ∙ one_more n

  within_place : (xs : List A) (n k : ℕ) (b : Bool) → nat_lt n k ≡ b → n < k → cond b (Some n) None ≡ Some n
  within_place xs n k true told less = refl
  within_place xs n k false told less = let past : k ≤ n = ltb-false n k told in absurd (omega (arith, past, less))

  -- the first that is found
  pub found_there : (xs : List A) (n : ℕ) (x : A) → NoneBefore xs n → slice_get xs n ≡ Some x → test x ≡ true
      → position test xs ≡ Some n
  found_there xs n x none here is =
      ap (λ k. cond (nat_lt k (length xs)) (Some k) None) (front_at xs n x none here is)
      ∙ within_place xs n (length xs) (nat_lt n (length xs)) refl (slice_get_within xs n x here)

  all_passed : (xs : List A) → ((i : ℕ) (x : A) → slice_get xs i ≡ Some x → test x ≡ false)
      → prefix_len (λ y. not (test y)) xs ≡ length xs
  all_passed [] none = refl
  all_passed (y ∷ xs) none =
      ap (λ b. cond (not b) (1 + prefix_len (λ y. not (test y)) xs) 0) (none 0 y refl)
      ∙ ap (λ k. 1 + k) (all_passed xs (λ i z at. none (suc i) z at))
      ∙ one_more (length xs)

  not_within : (n : ℕ) (b : Bool) → nat_lt n n ≡ b → cond b (Some n) None ≡ None
  not_within n true told = let less : n < n = ltb-true n n told in absurd (omega (arith, less))
  not_within n false told = refl

  -- nothing is found
  pub found_nowhere : (xs : List A) (n : ℕ) → NoneBefore xs n → length xs ≤ n → position test xs ≡ None
  found_nowhere xs n none ends =
      ap (λ k. cond (nat_lt k (length xs)) (Some k) None)
      (all_passed xs (λ i x at. none i x (omega (arith, ends, slice_get_within xs i x at)) at))
      ∙ not_within (length xs) (nat_lt (length xs) (length xs)) refl

-- ---- modules

module _ (program : List ModuleParts) (name : Bytes) (place : ℕ) (here : Bytes)
    (seen : name_of (slice_get program place) ≡ Some here) where
  abbrev named : ModuleParts → Bool
  named m = bytes_eq name m.name

  -- what a module is called whose name is seen at the place
  its_name : (m : ModuleParts) → slice_get program place ≡ Some m → m.name ≡ here
  its_name m at = same_Some m.name here (ap name_of (sym at) ∙ seen)

  -- the module at the place is the first of its name
  pub first_named : NoneBefore named program place → bytes_eq name here ≡ true
      → position named program ≡ Some place
  first_named none same = by (slice_get program place) refl
    where
      by : (found : Option ModuleParts) → slice_get program place ≡ found → position named program ≡ Some place
      by None is = absurd (none-some here (ap name_of (sym is) ∙ seen))
      by (Some m) is = found_there named program place m none is (ap (bytes_eq name) (its_name m is) ∙ same)
