-- Lists of what is visited.
use Rattle.std.proofs.Common.{◌≡◌, ℕ, ◌+◌, ◌<◌, List, [], ◌∷◌, ◌++◌, length, take, get_or, map, refl, sym, ap, ◌∙◌}
use Rattle.std.proofs.lemmas.List.{take_more}

-- what is listed of one visited item more
module _ {A B C D : Type 0} (f : A → B) (g : B → C) (h : C → D) where
  listed_push : (xs : List A) (x : A) → map h (map g (map f (xs ++ x ∷ []))) ≡ map h (map g (map f xs))
      ++ h (g (f x)) ∷ []
  listed_push [] x = refl
  listed_push (y ∷ ys) x = ap (λ r. h (g (f y)) ∷ r) (listed_push ys x)

  pub listed_next : (xs : List A) (i : ℕ) (x : A) → i < length xs → x ≡ get_or xs i x
      → map h (map g (map f (take (i + 1) xs))) ≡ map h (map g (map f (take i xs))) ++ h (g (f x)) ∷ []
  listed_next xs i x within is =
      ap (λ r. map h (map g (map f r))) (take_more xs i x within ∙ ap (λ y. take i xs ++ y ∷ []) (sym is))
      ∙ listed_push (take i xs) x
