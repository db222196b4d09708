-- Steps of the proofs of loops.
use Rattle.std.proofs.Common.{◌≡◌, ℕ, ◌+◌, ◌<◌, List, [], ◌∷◌, ◌++◌, Option, length, map, take, get_or, sym}
use Rattle.std.proofs.Common.{ap, ◌∙◌, append_assoc}
use Rattle.std.specs.List.{filter_map, flat_map}
use Rattle.std.specs.Prelude.{option_to_list}
use Rattle.std.proofs.lemmas.List.{append-nil, map_push, take_more}
use Rattle.std.proofs.lemmas.List.Elements.{filter_map-append}
use Rattle.au_formed.proofs.DeclarerLemmas.{one_listed}

-- the items that are visited, and one more
module _ {A : Type 0} (xs : List A) (i : ℕ) (x : A) (within : i < length xs) (is : x ≡ get_or xs i x) where
  one_more : take (i + 1) xs ≡ take i xs ++ x ∷ []
  one_more = take_more xs i x within ∙ ap (λ y. take i xs ++ y ∷ []) (sym is)

  pub mapped_more : {B : Type 0} (g : A → B) → map g (take (i + 1) xs) ≡ map g (take i xs) ++ g x ∷ []
  mapped_more g = ap (map g) one_more ∙ map_push g (take i xs) x

  -- what is kept of them
  pub filtered_more : {C : Type 0} (f : A → Option C)
      → filter_map f (take (i + 1) xs) ≡ filter_map f (take i xs) ++ option_to_list (f x)
  filtered_more f =
      ap (filter_map f) one_more
      ∙ filter_map-append f (take i xs) (x ∷ [])
      ∙ ap (λ l. filter_map f (take i xs) ++ l) (sym (one_listed (f x)))

  pub kept_more : {B C : Type 0} (g : A → B) (f : B → Option C)
      → filter_map f (map g (take (i + 1) xs)) ≡ filter_map f (map g (take i xs)) ++ option_to_list (f (g x))
  kept_more g f =
      ap (filter_map f) (mapped_more g)
      ∙ filter_map-append f (map g (take i xs)) (g x ∷ [])
      ∙ ap (λ l. filter_map f (map g (take i xs)) ++ l) (sym (one_listed (f (g x))))

flat_push : {B C : Type 0} (f : B → List C) (ys : List B) (y : B) → flat_map f (ys ++ y ∷ [])
    ≡ flat_map f ys ++ f y
flat_push f [] y = append-nil (f y)
flat_push f (x ∷ xs) y =
    ap (λ l. f x ++ l) (flat_push f xs y) ∙ sym (append_assoc (f x) (flat_map f xs) (f y))

-- and the lists of all of them
pub flat_more : {A B C : Type 0} (xs : List A) (i : ℕ) (x : A) → i < length xs → x ≡ get_or xs i x →
    (g : A → B)
    (f : B → List C) → flat_map f (map g (take (i + 1) xs)) ≡ flat_map f (map g (take i xs)) ++ f (g x)
flat_more xs i x within is g f = ap (flat_map f) (mapped_more xs i x within is g) ∙ flat_push f
    (map g (take i xs)) (g x)
