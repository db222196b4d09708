-- What stands in lists to which elements are added.
use Rattle.std.proofs.Common.{◌≡◌, Bool, true, false, ◌⊎◌, List, [], ◌∷◌, ◌++◌, refl, sym, ◌∙◌, subst}
use Rattle.std.proofs.Common.{inl, inr, ⊎_elim, append_assoc, append-nil}
use Rattle.std.proofs.lemmas.Bool.{or_cases, or_left, or_right}
use Rattle.au_graphs.specs.Reached.{TellsSame, has, Has, put_new, adds}

module _ {A : Type 0} (same : A → A → Bool) where
  -- ---- two lists joined

  pub has_front : (us vs : List A) (x : A) → Has same us x → Has same (us ++ vs) x
  has_front [] vs x h = absurd cc
  has_front (a ∷ us) vs x h =
      ⊎_elim (or_left (same x a) (has same (us ++ vs) x))
      (λ rest. or_right (same x a) (has same (us ++ vs) x) (has_front us vs x rest))
      (or_cases (same x a) (has same us x) h)

  pub has_back : (us vs : List A) (x : A) → Has same vs x → Has same (us ++ vs) x
  has_back [] vs x h = h
  has_back (a ∷ us) vs x h = or_right (same x a) (has same (us ++ vs) x) (has_back us vs x h)

  pub has_split : (us vs : List A) (x : A) → Has same (us ++ vs) x → Has same us x ⊎ Has same vs x
  has_split [] vs x h = inr h
  has_split (a ∷ us) vs x h =
      ⊎_elim (λ here. inl (or_left (same x a) (has same us x) here))
      (λ rest. ⊎_elim (λ front. inl (or_right (same x a) (has same us x) front)) inr
      (has_split us vs x rest)) (or_cases (same x a) (has same (us ++ vs) x) h)

  -- ---- elements that are added

  put_keeps : (b : Bool) (ks : List A) (y x : A) → Has same ks x → Has same (put_new same b ks y) x
  put_keeps true ks y x h = h
  put_keeps false ks y x h = has_front ks (y ∷ []) x h

  pub adds_keeps : (ks xs : List A) (x : A) → Has same ks x → Has same (adds same ks xs) x
  adds_keeps ks [] x h = h
  adds_keeps ks (y ∷ xs) x h = adds_keeps (put_new same (has same ks y) ks y) xs x (put_keeps (has same ks y) ks y x h)

  put_split : (b : Bool) (ks : List A) (y x : A) → Has same (put_new same b ks y) x → Has same ks x
      ⊎ Has same (y ∷ []) x
  put_split true ks y x h = inl h
  put_split false ks y x h = has_split ks (y ∷ []) x h

  pub adds_split : (ks xs : List A) (x : A) → Has same (adds same ks xs) x → Has same ks x ⊎ Has same xs x
  adds_split ks [] x h = inl h
  adds_split ks (y ∷ xs) x h =
      ⊎_elim (λ put. ⊎_elim inl (λ one. inr (has_front (y ∷ []) xs x one))
      (put_split (has same ks y) ks y x put)) (λ rest. inr (has_back (y ∷ []) xs x rest))
      (adds_split (put_new same (has same ks y) ks y) xs x h)

  -- what is added stands behind what was there
  pub adds_more : (ks xs : List A) → (r : List A) × (adds same ks xs ≡ ks ++ r)
  adds_more ks [] = ([], sym (append-nil ks))
  adds_more ks (y ∷ xs) = by (has same ks y) (adds_more ks xs) (adds_more (ks ++ y ∷ []) xs)
    where
      by : (b : Bool) → (r : List A) × (adds same ks xs ≡ ks ++ r) → (r : List A)
          × (adds same (ks ++ y ∷ []) xs ≡ (ks ++ y ∷ []) ++ r)
          → (r : List A) × (adds same (put_new same b ks y) xs ≡ ks ++ r)
      by true kept more = kept
      by false kept more = (y ∷ more.0, more.1 ∙ append_assoc ks (y ∷ []) more.0)

  -- adding two lists is adding one and then the other
  pub adds_both : (ks xs ys : List A) → adds same ks (xs ++ ys) ≡ adds same (adds same ks xs) ys
  adds_both ks [] ys = refl
  adds_both ks (x ∷ xs) ys = adds_both (put_new same (has same ks x) ks x) xs ys

  module _ (tells : TellsSame same) where
    -- the element itself stands where it is put
    pub has_it : (us vs : List A) (x : A) → Has same (us ++ x ∷ vs) x
    has_it us vs x = has_back us (x ∷ vs) x (or_left (same x x) (has same vs x) (tells.itself x))

    put_takes : (b : Bool) (ks : List A) (x : A) → has same ks x ≡ b → Has same (put_new same b ks x) x
    put_takes true ks x h = h
    put_takes false ks x h = has_it ks [] x

    pub adds_takes : (ks xs : List A) (x : A) → Has same xs x → Has same (adds same ks xs) x
    adds_takes ks [] x h = absurd cc
    adds_takes ks (y ∷ xs) x h =
        ⊎_elim (λ here. adds_keeps (put_new same (has same ks y) ks y) xs x
        (subst (λ z. Has same (put_new same (has same ks y) ks y) z) (sym (tells.agrees x y here))
        (put_takes (has same ks y) ks y refl))) (adds_takes (put_new same (has same ks y) ks y) xs x)
        (or_cases (same x y) (has same xs x) h)
