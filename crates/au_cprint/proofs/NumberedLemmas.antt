-- What is written for each item of a list and its number, item by item.
use Rattle.std.proofs.Common.{◌≡◌, ℕ, ◌+◌, ◌<◌, ◌≤◌, List, [], ◌∷◌, ◌++◌, length, map, take, get_or, refl}
use Rattle.std.proofs.Common.{sym, ap}
use Rattle.std.proofs.Common.{◌∙◌, arith, append_assoc}
use Rattle.std.specs.List.{flat_map}
use Rattle.std.proofs.lemmas.List.{append-nil, take_all, take_more, length-take-le, map-append}
use Rattle.std.proofs.lemmas.List.Concat.{flat_map-append}
use Rattle.au_cprint.specs.Programs.{numbered}

module _ {A : Type 0} (text : ℕ → A → List ℕ) where
  -- of two lists one behind the other
  pub numbered-append : (n : ℕ) (xs ys : List A)
      → numbered text n (xs ++ ys) ≡ numbered text n xs ++ numbered text (n + length xs) ys
  numbered-append n [] ys =
      let same : n ≡ n + 0 = omega arith in
      ap (λ k. numbered text k ys) same
  numbered-append n (x ∷ xs) ys =
      let same : (n + 1) + length xs ≡ n + length (x ∷ xs) = omega arith in
      ap (λ l. text n x ++ l)
      (numbered-append (n + 1) xs ys ∙ ap (λ k. numbered text (n + 1) xs ++ numbered text k ys) same)
      ∙ sym (append_assoc (text n x) (numbered text (n + 1) xs) (numbered text (n + length (x ∷ xs)) ys))

  -- an item more
  pub numbered_more : (xs : List A) (i : ℕ) (x : A) → x ≡ get_or xs i x → i < length xs
      → numbered text 0 (take (i + 1) xs) ≡ numbered text 0 (take i xs) ++ text i x
  numbered_more xs i x is lt =
      let so_far = numbered text 0 (take i xs) in
      let within : i ≤ length xs = omega (arith, lt) in
      let size : 0 + length (take i xs) ≡ i = omega (arith, length-take-le i xs within) in
      ap (numbered text 0) (take_more xs i x lt)
      ∙ numbered-append 0 (take i xs) (get_or xs i x ∷ [])
      ∙ ap (λ k. so_far ++ numbered text k (get_or xs i x ∷ [])) size
      ∙ ap (λ y. so_far ++ (text i y ++ [])) (sym is)
      ∙ ap (λ l. so_far ++ l) (append-nil (text i x))

  -- what is written so far, and one more
  pub line_put : (xs : List A) (i : ℕ) (x : A) → x ≡ get_or xs i x → i < length xs → (start made next : List ℕ)
      → made ≡ start ++ numbered text 0 (take i xs) → next ≡ made ++ text i x
      → next ≡ start ++ numbered text 0 (take (i + 1) xs)
  line_put xs i x is lt start made next before put =
      put
      ∙ ap (λ l. l ++ text i x) before
      ∙ append_assoc start (numbered text 0 (take i xs)) (text i x)
      ∙ ap (λ l. start ++ l) (sym (numbered_more xs i x is lt))

  -- nothing is left
  pub lines_end : (xs : List A) (i : ℕ) → length xs ≤ i → (start made : List ℕ)
      → made ≡ start ++ numbered text 0 (take i xs) → made ≡ start ++ numbered text 0 xs
  lines_end xs i past start made before = before ∙ ap (λ l. start ++ numbered text 0 l) (take_all i xs past)

module _ {A B : Type 0} (f : A → B) (text : B → List ℕ) where
  -- one more of what is written for each item by what a function makes of it
  pub mapped_more : (xs : List A) (i : ℕ) (x : A) → x ≡ get_or xs i x → i < length xs
      → flat_map text (map f (take (i + 1) xs)) ≡ flat_map text (map f (take i xs)) ++ text (f x)
  mapped_more xs i x is lt =
      let so_far = flat_map text (map f (take i xs)) in
      ap (λ l. flat_map text (map f l)) (take_more xs i x lt)
      ∙ ap (flat_map text) (map-append f (take i xs) (get_or xs i x ∷ []))
      ∙ flat_map-append text (map f (take i xs)) (f (get_or xs i x) ∷ [])
      ∙ ap (λ y. so_far ++ (text (f y) ++ [])) (sym is)
      ∙ ap (λ l. so_far ++ l) (append-nil (text (f x)))
