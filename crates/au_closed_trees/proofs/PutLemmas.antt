-- Steps of loops over lists of which each item puts something behind what is there, or nothing.
use Rattle.std.proofs.Common.{◌≡◌, ℕ, ◌+◌, ◌<◌, ◌≤◌, List, [], ◌∷◌, ◌++◌, drop, length, get_or, sym, ap, ◌∙◌}
use Rattle.std.proofs.Common.{append_assoc}
use Rattle.std.specs.Prelude.{Some, slice_get}
use Rattle.std.proofs.lemmas.List.{append-nil, drop_all, drop_more}
use Rattle.std.proofs.lemmas.Option.{same_Some, slice_get-get_or, slice_get_within}

module _ {A B : Type 0} (say : List A → List B) where
  -- what is left after one more item
  left : (xs : List A) (i : ℕ) (x : A) → i < length xs → x ≡ get_or xs i x
      → say (drop i xs) ≡ say (x ∷ drop (i + 1) xs)
  left xs i x inside is =
      ap say (drop_more xs i x inside) ∙ ap (λ y. say (y ∷ drop (i + 1) xs)) (sym is)

  -- an item that puts nothing
  pub passed : (made whole : List B) (xs : List A) (i : ℕ) (x : A)
      → made ++ say (drop i xs) ≡ whole
      → i < length xs
      → x ≡ get_or xs i x
      → say (x ∷ drop (i + 1) xs) ≡ say (drop (i + 1) xs)
      → made ++ say (drop (i + 1) xs) ≡ whole
  passed made whole xs i x so_far inside is nothing =
      ap (λ l. made ++ l) (sym (left xs i x inside is ∙ nothing)) ∙ so_far

  -- an item that puts one
  pub put : (made pushed whole : List B) (one : B) (xs : List A) (i : ℕ) (x : A)
      → made ++ say (drop i xs) ≡ whole
      → i < length xs
      → x ≡ get_or xs i x
      → say (x ∷ drop (i + 1) xs) ≡ one ∷ say (drop (i + 1) xs)
      → pushed ≡ made ++ one ∷ []
      → pushed ++ say (drop (i + 1) xs) ≡ whole
  put made pushed whole one xs i x so_far inside is puts grows =
      ap (λ l. l ++ say (drop (i + 1) xs)) grows
      ∙ append_assoc made (one ∷ []) (say (drop (i + 1) xs))
      ∙ ap (λ l. made ++ l) (sym (left xs i x inside is ∙ puts))
      ∙ so_far

  -- nothing is left
  pub ended : (made whole : List B) (xs : List A) (i : ℕ)
      → made ++ say (drop i xs) ≡ whole
      → length xs ≤ i
      → say [] ≡ []
      → made ≡ whole
  ended made whole xs i so_far past none =
      sym (ap (λ l. made ++ l) (ap say (drop_all i xs past) ∙ none) ∙ append-nil made) ∙ so_far

-- what stands at a place is there
pub at_get : {A : Type 0} (xs : List A) (i : ℕ) (x : A) → slice_get xs i ≡ Some x
    → (i < length xs) × (x ≡ get_or xs i x)
at_get xs i x here =
    let within = slice_get_within xs i x here in
    (within, same_Some x (get_or xs i x) (sym here ∙ slice_get-get_or xs i x within))
