-- The steps of a loop that asks whether all items pass a test.
use Rattle.std.proofs.Common.{◌≡◌, ◌&&◌, ◌<◌, ◌≤◌, Bool, true, false, get_or, ℕ, ◌+◌, drop, length, List, []}
use Rattle.std.proofs.Common.{◌∷◌, ap, sym, ◌∙◌}
use Rattle.std.proofs.lemmas.List.{at_drop_all, at_drop_more}

module _ {A : Type 0} (whole : List A → Bool) (test : A → Bool)
    (splits : (x : A) (xs : List A) → whole (x ∷ xs) ≡ (test x && whole xs)) where
  -- of the items from one on, it passes and those behind it do
  item_step : (xs : List A) (i : ℕ) (x : A) → i < length xs → x ≡ get_or xs i x
      → whole (drop i xs) ≡ (test x && whole (drop (i + 1) xs))
  item_step xs i x inside is =
      at_drop_more whole xs i x inside
      ∙ splits (get_or xs i x) (drop (i + 1) xs)
      ∙ ap (λ y. test y && whole (drop (i + 1) xs)) (sym is)

  -- where one more item passes, those that are left decide
  pub goes_on : (xs : List A) (i : ℕ) (x : A) → whole (drop i xs) ≡ whole xs → i < length xs
      → x ≡ get_or xs i x → test x ≡ true → whole (drop (i + 1) xs) ≡ whole xs
  goes_on xs i x so_far inside is passes =
      sym (item_step xs i x inside is ∙ ap (λ b. b && whole (drop (i + 1) xs)) passes) ∙ so_far

  -- where an item doesn't, not all do
  pub stops : (xs ys : List A) (i : ℕ) (x : A) → whole (drop i xs) ≡ whole xs → xs ≡ ys → i < length xs
      → x ≡ get_or xs i x → test x ≡ false → false ≡ whole ys
  stops xs ys i x so_far same inside is fails =
      sym (item_step xs i x inside is ∙ ap (λ b. b && whole (drop (i + 1) xs)) fails) ∙ so_far ∙ ap whole same

-- where no items are left, all pass
pub ends : {A : Type 0} (whole : List A → Bool) → whole [] ≡ true → (xs ys : List A) (i : ℕ)
    → whole (drop i xs) ≡ whole xs → xs ≡ ys → length xs ≤ i → true ≡ whole ys
ends whole none xs ys i so_far same le = sym none ∙ sym (at_drop_all whole xs i le) ∙ so_far ∙ ap whole same
