-- Keys that are put, each once.
use Rattle.std.proofs.Common.{◌≡◌, ℕ, ◌<◌, ◌≤◌, ◌⊎◌, ⊎_elim, Bool, true, false, cond, List, [], ◌∷◌, ◌++◌}
use Rattle.std.proofs.Common.{Option}
use Rattle.std.proofs.Common.{None, Some, Vec, map, refl, sym, ap, ◌∙◌, arith, true≢false}
use Rattle.std.specs.Global.{Global}
use Rattle.std.specs.List.{IsDistinct}
use Rattle.std.specs.Option.{option_map}
use Rattle.std.specs.Prelude.{slice_get}
use Rattle.std.specs.Str.{bytes_eq}
use Rattle.std.specs.Cmp.Lexicographic.{nat_list_eq_equiv}
use Rattle.std.proofs.lemmas.Bool.{cases_lt}
use Rattle.std.proofs.lemmas.List.{map_push}
use Rattle.std.proofs.lemmas.Map.Keys.{apart_from_distinct}
use Rattle.std.proofs.lemmas.Option.{get_or_from_slice_get, none-some, same_Some, slice_get-map}
use Rattle.std.proofs.lemmas.Option.{slice_get_within}
use Rattle.std.proofs.lemmas.Slice.Eq.{bytes_eq-Decides}
use Rattle.au_base.proofs.ListLemmas.{get_front}
use Rattle.au_graphs.specs.Finding.{numbers}
use Rattle.au_caps.specs.Views.{AreOnce}

-- the keys are the same
abbrev pub same_key : Vec ℕ Global → Vec ℕ Global → Bool
same_key a b = bytes_eq a.items b.items

-- a number that is given stays
pub keys_stay : (b : Bool) (ks : List (Vec ℕ Global)) (v : Vec ℕ Global) (i : ℕ) (key : List ℕ)
    → slice_get (map numbers ks) i ≡ Some key → slice_get (map numbers (cond b ks (ks ++ v ∷ []))) i
    ≡ Some key
keys_stay true ks v i key e = e
keys_stay false ks v i key e =
    ap (λ (l : List (List ℕ)). slice_get l i) (map_push numbers ks v) ∙ get_front (map numbers ks)
    (numbers v ∷ []) i key e

-- the key that stands at a place
key_at : (ks : List (Vec ℕ Global)) (i : ℕ) (key : List ℕ) → slice_get (map numbers ks) i ≡ Some key
    → (v : Vec ℕ Global) × (slice_get ks i ≡ Some v) × (v.items ≡ key)
key_at ks i key e = by (slice_get ks i) refl (sym (slice_get-map numbers ks i) ∙ e)
  where
    by : (o : Option (Vec ℕ Global)) → slice_get ks i ≡ o → option_map numbers o ≡ Some key
        → (v : Vec ℕ Global) × (slice_get ks i ≡ Some v) × (v.items ≡ key)
    by None is k = absurd (none-some key k)
    by (Some v) is k = (v, is, same_Some (numbers v) key k)

module _ (ks : List (Vec ℕ Global)) (distinct : IsDistinct same_key ks) where
  -- no key stands twice
  not_before : (i j : ℕ) (key : List ℕ) → slice_get (map numbers ks) i ≡ Some key
      → slice_get (map numbers ks) j ≡ Some key → i < j → ⊥
  not_before i j key e f less =
      let a = key_at ks i key e in
      let b = key_at ks j key f in
      let apart = apart_from_distinct same_key ks i j a.0 distinct less (slice_get_within ks j b.0 b.1) in
      let here = get_or_from_slice_get ks i a.0 a.0 a.1 in
      let there = get_or_from_slice_get ks j b.0 a.0 b.1 in
      let same : same_key a.0 b.0 ≡ true =
      ap (λ (l : List ℕ). bytes_eq a.0.items l) (b.2 ∙ sym a.2) ∙ nat_list_eq_equiv.refl a.0.items in
      true≢false (sym same ∙ sym (λ k. same_key (here k) (there k)) ∙ apart)

  pub are_once : AreOnce (map numbers ks)
  are_once i j key e f =
      ⊎_elim (λ less. absurd (not_before i j key e f less))
      (λ (past : j ≤ i). ⊎_elim (λ (more : j < i). absurd (not_before j i key f e more))
      (λ (also : i ≤ j). let same : i ≡ j = omega arith in same) (cases_lt j i)) (cases_lt i j)

-- what is stored has the key
pub stored_key : (ks : List (Vec ℕ Global)) (i : ℕ) (value : Vec ℕ Global) (key : List ℕ) → value.items ≡ key
    → (k : Vec ℕ Global) × (slice_get ks i ≡ Some k) × (same_key value k ≡ true) → slice_get
    (map numbers ks) i ≡ Some key
stored_key ks i value key is (k, there, same) =
    slice_get-map numbers ks i ∙ ap (option_map numbers) there
    ∙ ap (λ (l : List ℕ). Some l) (sym ((bytes_eq-Decides value.items k.items).0 same) ∙ is)
