-- Elements by their keys.
use Rattle.std.proofs.Common.{◌≡◌, ◌==◌, ℕ, Bool, true, false, not, ◌||◌, List, [], ◌∷◌, ◌++◌, Option, None}
use Rattle.std.proofs.Common.{Some, Ok, Err, Vec, length, map, refl, sym, ap, ◌∙◌, cond, nat_lt, ◌+◌}
use Rattle.std.specs.List.{list_any, position, prefix_len}
use Rattle.std.proofs.lemmas.List.{length-map}
use Rattle.std.specs.Str.{bytes_eq}
use Rattle.std.specs.Global.{Global}
use Rattle.std.specs.Cmp.Lexicographic.{nat_list_eq_equiv}
use Rattle.std.proofs.lemmas.Slice.Eq.{bytes_eq-Decides}
use Rattle.au_base.specs.declared.limits.Limit.{Limit}
use Rattle.au_graphs.specs.Reached.{TellsSame, has}
use Rattle.au_graphs.specs.Walks.{put_within, unless, room}
use Rattle.au_graphs.specs.Finding.{numbers, by_key, puts_to}

-- what the answer that a key is new says of whether it was there
pub was_old : (fresh there found : Bool) → fresh ≡ not there → fresh ≡ false → there ≡ found → found ≡ true
was_old fresh true found says is same = sym same
was_old fresh false found says is same = absurd cc

pub was_new : (fresh there found : Bool) → fresh ≡ not there → fresh ≡ true → there ≡ found → found ≡ false
was_new fresh false found says is same = sym same
was_new fresh true found says is same = absurd cc

among : (key : List ℕ) → List (List ℕ) → Bool
among key [] = false
among key (k ∷ ks) = bytes_eq key k || among key ks

any_among : (value : Vec ℕ Global) (ks : List (Vec ℕ Global)) →
    list_any (λ (k : Vec ℕ Global). bytes_eq value.items k.items) ks ≡ among value.items (map numbers ks)
unfolding among
any_among value [] = refl
any_among value (k ∷ ks) = ap (λ b. bytes_eq value.items k.items || b) (any_among value ks)

prefix_among : (test : List ℕ → Bool) (ks : List (Vec ℕ Global)) →
    prefix_len (λ (k : Vec ℕ Global). test k.items) ks ≡ prefix_len test (map numbers ks)
prefix_among test [] = refl
prefix_among test (k ∷ ks) = ap (λ n. cond (test k.items) (1 + n) 0) (prefix_among test ks)

-- the place of a key among the code's is that among what they say
pub place_among : (test : List ℕ → Bool) (ks : List (Vec ℕ Global)) →
    position (λ (k : Vec ℕ Global). test k.items) ks ≡ position test (map numbers ks)
place_among test ks =
    let here = prefix_among (λ k. not (test k)) ks in
    let many = sym (length-map ks numbers) in
    λ i. cond (nat_lt (here i) (many i)) (Some (here i)) None

module _ {A : Type 0} (key_of : A → List ℕ) where
  -- where elements with one key are equal, comparing keys tells whether elements are
  pub keys_tell : ((a b : A) → key_of a ≡ key_of b → a ≡ b) → TellsSame (by_key key_of)
  keys_tell tells = record {
    agrees = λ x y is. tells x y ((bytes_eq-Decides (key_of x) (key_of y)).0 is);
    itself = λ x. nat_list_eq_equiv.refl (key_of x);
  }

  has_among : (list : List A) (x : A) → has (by_key key_of) list x ≡ among (key_of x) (map key_of list)
  unfolding among
  has_among [] x = refl
  has_among (k ∷ ks) x = ap (λ b. bytes_eq (key_of x) (key_of k) || b) (has_among ks x)

  -- an element is there where its key is among the keys
  pub present : (value : Vec ℕ Global) (ks : List (Vec ℕ Global)) (list : List A) (x : A) →
      map numbers ks ≡ map key_of list → value.items ≡ key_of x
      → list_any (λ (k : Vec ℕ Global). bytes_eq value.items k.items) ks ≡ has (by_key key_of) list x
  present value ks list x keyed is = any_among value ks ∙ (λ i. among (is i) (keyed i)) ∙ sym (has_among list x)

  module _ (told_of : A → Option Limit) (full : Limit) (most : ℕ) where
    pub put_old : (list : List A) (x : A) → has (by_key key_of) list x ≡ true →
        puts_to key_of told_of full most list x ≡ Ok list
    put_old list x there = ap (λ b. put_within (by_key key_of) told_of full most b list x) there

    pub put_told : (list : List A) (x : A) (limit : Limit) → has (by_key key_of) list x ≡ false →
        told_of x ≡ Some limit → puts_to key_of told_of full most list x ≡ Err limit
    put_told list x limit absent told =
        ap (λ b. put_within (by_key key_of) told_of full most b list x) absent
        ∙ ap (λ o. unless o (room full (length list == most) list x)) told

    put_room : (list : List A) (x : A) → has (by_key key_of) list x ≡ false → told_of x ≡ None →
        puts_to key_of told_of full most list x ≡ room full (length list == most) list x
    put_room list x absent told =
        ap (λ b. put_within (by_key key_of) told_of full most b list x) absent
        ∙ ap (λ o. unless o (room full (length list == most) list x)) told

    pub put_full : (list : List A) (x : A) → has (by_key key_of) list x ≡ false → told_of x ≡ None →
        (length list == most) ≡ true → puts_to key_of told_of full most list x ≡ Err full
    put_full list x absent told size = put_room list x absent told ∙ ap (λ b. room full b list x) size

    pub put_last : (list : List A) (x : A) → has (by_key key_of) list x ≡ false → told_of x ≡ None →
        (length list == most) ≡ false → puts_to key_of told_of full most list x ≡ Ok (list ++ x ∷ [])
    put_last list x absent told size = put_room list x absent told ∙ ap (λ b. room full b list x) size
