-- Tests of the items of a list.
use Rattle.std.proofs.Common.{◌≡◌, ◌⊎◌, inl, inr, ℕ, ◌+◌, ◌<◌, ◌≤◌, Bool, true, false, cond, ◌&&◌, List, []}
use Rattle.std.proofs.Common.{◌∷◌, ◌++◌, length, map, drop, get_or, find, Option, None, Some, is_some, refl}
use Rattle.std.proofs.Common.{sym, ap, ◌∙◌, subst, true≢false}
use Rattle.std.specs.Prelude.{◌||◌}
use Rattle.std.specs.List.{list_all, list_any, position_from}
use Rattle.std.proofs.lemmas.Bool.{and_parts, and_from}
use Rattle.std.proofs.lemmas.List.{drop_all}
use Rattle.std.proofs.lemmas.Option.{none-some, same_Some}
use Rattle.au_base.proofs.ListLemmas.{seen_left}
use Rattle.au_names.proofs.AmongLemmas.{Among, any_found, any_there}

-- an index is found where an item passes
pub some_index : {A : Type 0} (t : A → Bool) (i : ℕ) (xs : List A) → is_some (position_from t i xs) ≡ list_any t xs
some_index t i [] = refl
some_index t i (x ∷ xs) = by (t x) (some_index t (i + 1) xs)
  where
    by : (b : Bool) → is_some (position_from t (i + 1) xs) ≡ list_any t xs →
        is_some (cond b (Some i) (position_from t (i + 1) xs)) ≡ (b || list_any t xs)
    by true rest = refl
    by false rest = rest

-- neither of two
pub or_first : (a b : Bool) → (a || b) ≡ false → a ≡ false
or_first true b h = h
or_first false b h = refl

pub or_second : (a b : Bool) → (a || b) ≡ false → b ≡ false
or_second true b h = absurd (true≢false h)
or_second false b h = h

module _ {A : Type 0} (t : A → Bool) where
  -- all pass
  pub all_pass : (xs : List A) → list_all t xs ≡ true → (x : A) → Among x xs → t x ≡ true
  all_pass [] h x m = absurd m
  all_pass (y ∷ ys) h x (inl here) = subst (λ z. t z ≡ true) here (and_parts (t y) (list_all t ys) h).0
  all_pass (y ∷ ys) h x (inr later) = all_pass ys (and_parts (t y) (list_all t ys) h).1 x later

  pub pass_all : (xs : List A) → ((x : A) → Among x xs → t x ≡ true) → list_all t xs ≡ true
  pass_all [] h = refl
  pass_all (y ∷ ys) h = and_from (t y) (list_all t ys) (h y (inl refl)) (pass_all ys (λ x m. h x (inr m)))

  -- none passes
  pub none_passes : (xs : List A) → list_any t xs ≡ false → (x : A) → Among x xs → t x ≡ false
  none_passes xs h x m = by (t x) refl
    where
      by : (b : Bool) → t x ≡ b → t x ≡ false
      by true e = absurd (true≢false (sym (any_there t xs x m e) ∙ h))
      by false e = e

  pub pass_none : (xs : List A) → ((x : A) → Among x xs → t x ≡ true → ⊥) → list_any t xs ≡ false
  pass_none xs h = by (list_any t xs) refl
    where
      by : (b : Bool) → list_any t xs ≡ b → list_any t xs ≡ false
      by true e = let found : (x : A) × Among x xs × (t x ≡ true) = any_found t xs e
          in absurd (h found.0 found.1 found.2)
      by false e = e

  -- what is found is among them and passes
  pub found_passes : (xs : List A) (x : A) → find t xs ≡ Some x → Among x xs × (t x ≡ true)
  found_passes [] x h = absurd (none-some x h)
  found_passes (y ∷ ys) x h = by (t y) refl (λ rest. found_passes ys x rest)
    where
      by : (b : Bool) → t y ≡ b → (find t ys ≡ Some x → Among x ys × (t x ≡ true)) → Among x (y ∷ ys) × (t x ≡ true)
      by true e later =
          let here : y ≡ x = same_Some y x (sym (ap (λ b. cond b (Some y) (find t ys)) e) ∙ h) in
          (inl here, subst (λ z. t z ≡ true) here e)
      by false e later =
          let found : Among x ys × (t x ≡ true) = later (sym (ap (λ b. cond b (Some y) (find t ys)) e) ∙ h) in
          (inr found.0, found.1)

  -- the only one that passes is found
  pub only_found : (xs : List A) (x : A) → Among x xs → t x ≡ true
      → ((before after : List A) (one other : A) → xs ≡ before ++ one ∷ after → Among other before →
      t one ≡ true → t other ≡ true → ⊥)
      → find t xs ≡ Some x
  only_found [] x m h only = absurd m
  only_found (y ∷ ys) x m h only =
      by (t y) refl m (λ later. only_found ys x later h
      (λ before after one other split one_of p q. only (y ∷ before) after one other (ap (λ zs. y ∷ zs) split)
      (inr one_of) p q))
    where
      split_at : (zs : List A) → Among x zs → (before : List A) × (after : List A) × (zs ≡ before ++ x ∷ after)
      split_at [] none = absurd none
      split_at (z ∷ zs) (inl here) = ([], zs, ap (λ w. w ∷ zs) here)
      split_at (z ∷ zs) (inr later) =
          let rest : (before : List A) × (after : List A) × (zs ≡ before ++ x ∷ after) = split_at zs later in
          (z ∷ rest.0, rest.1, ap (λ ws. z ∷ ws) rest.2)

      by : (b : Bool) → t y ≡ b → Among x (y ∷ ys) → (Among x ys → find t ys ≡ Some x) → find t (y ∷ ys) ≡ Some x
      by true e (inl here) later = ap (λ b. cond b (Some y) (find t ys)) e ∙ ap Some here
      by true e (inr behind) later =
          let parts : (before : List A) × (after : List A) × (ys ≡ before ++ x ∷ after) = split_at ys behind in
          absurd (only (y ∷ parts.0) parts.1 x y (ap (λ zs. y ∷ zs) parts.2) (inl refl) h e)
      by false e (inl here) later = absurd (true≢false (sym (subst (λ z. t z ≡ true) (sym here) h) ∙ e))
      by false e (inr behind) later = ap (λ b. cond b (Some y) (find t ys)) e ∙ later behind

-- ---- walks that ask each item, seen through two views

module _ {A B C : Type 0} (p : B → C) (v : A → B) (t : C → Bool) (all items : List A) (i : ℕ) (x : A) (is : Bool) where
  all_left : items ≡ all → i < length items → x ≡ get_or items i x → list_all t (map p (map v items))
      ≡ list_all t (map p (map v (drop i items))) → is ≡ t (p (v x))
      → list_all t (map p (map v all)) ≡ (is && list_all t (map p (map v (drop (i + 1) items))))
  all_left same h here so_far tested =
      ap (λ xs. list_all t (map p (map v xs))) (sym same)
      ∙ so_far
      ∙ ap (list_all t) (seen_left p v items i x h here)
      ∙ ap (λ b. b && list_all t (map p (map v (drop (i + 1) items)))) (sym tested)

  -- the next item doesn't pass
  pub all_not : items ≡ all → i < length items → x ≡ get_or items i x → list_all t (map p (map v items))
      ≡ list_all t (map p (map v (drop i items))) → is ≡ t (p (v x)) → is ≡ false
      → false ≡ list_all t (map p (map v all))
  all_not same h here so_far tested fails =
      sym (all_left same h here so_far tested ∙ ap (λ b. b && list_all t (map p (map v (drop (i + 1) items)))) fails)

  -- it passes
  pub all_next : items ≡ all → i < length items → x ≡ get_or items i x → list_all t (map p (map v items))
      ≡ list_all t (map p (map v (drop i items))) → is ≡ t (p (v x)) → is ≡ true
      → list_all t (map p (map v items)) ≡ list_all t (map p (map v (drop (i + 1) items)))
  all_next same h here so_far tested passes =
      ap (λ xs. list_all t (map p (map v xs))) same
      ∙ all_left same h here so_far tested
      ∙ ap (λ b. b && list_all t (map p (map v (drop (i + 1) items)))) passes

-- all pass
pub all_end : {A B C : Type 0} (p : B → C) (v : A → B) (t : C → Bool) (all items : List A) (i : ℕ) →
    items ≡ all → length items ≤ i
    → list_all t (map p (map v items)) ≡ list_all t (map p (map v (drop i items))) →
    true ≡ list_all t (map p (map v all))
all_end p v t all items i same past so_far =
    sym
    (ap (λ xs. list_all t (map p (map v xs))) (sym same)
    ∙ so_far
    ∙ ap (λ xs. list_all t (map p (map v xs))) (drop_all i items past))
