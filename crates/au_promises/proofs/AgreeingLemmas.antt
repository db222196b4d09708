-- Lists that agree, item by item.
use Rattle.std.proofs.Common.{◌≡◌, ℕ, ◌+◌, ◌<◌, ◌≤◌, suc, Bool, true, false, ◌&&◌, List, [], ◌∷◌, length, map}
use Rattle.std.proofs.Common.{drop, get_or, refl, sym, ap, ◌∙◌, arith}
use Rattle.std.proofs.lemmas.List.{drop_all}
use denote.Enum.Bare.{sameb}
use Rattle.au_base.proofs.ListLemmas.{seen_left}
use Rattle.au_syntax.specs.contracts.declarations.Universe.{the_type as universe}
use Rattle.au_syntax.specs.declared.declarations.Universe.{Universe}
use Rattle.au_syntax.specs.declared.declarations.Universe.TheVariants as universes
use Rattle.au_promises.specs.Agreeing.{all_agree, same_universe}

-- the test for equality decides whether universes are the same
pub universes_same : (a b : Universe) → sameb universe a b ≡ same_universe a b
universes_same universes.Free universes.Free = refl
universes_same universes.Free universes.Linear = refl
universes_same universes.Free universes.AnyType = refl
universes_same universes.Free universes.Region = refl
universes_same universes.Linear universes.Free = refl
universes_same universes.Linear universes.Linear = refl
universes_same universes.Linear universes.AnyType = refl
universes_same universes.Linear universes.Region = refl
universes_same universes.AnyType universes.Free = refl
universes_same universes.AnyType universes.Linear = refl
universes_same universes.AnyType universes.AnyType = refl
universes_same universes.AnyType universes.Region = refl
universes_same universes.Region universes.Free = refl
universes_same universes.Region universes.Linear = refl
universes_same universes.Region universes.AnyType = refl
universes_same universes.Region universes.Region = refl

-- nothing is left
none_left : {A B C : Type 0} (p : B → C) (v : A → B) (xs : List A) (i : ℕ)
    → length xs ≤ i → map p (map v (drop i xs)) ≡ []
none_left p v xs i past = ap (λ r. map p (map v r)) (drop_all i xs past)

module _ {A B C : Type 0} (agree : C → C → Bool) (p : B → C) (v : A → B) where
  agree_cons : (x y : C) (xs ys : List C) → all_agree agree (x ∷ xs) (y ∷ ys)
      ≡ agree x y && all_agree agree xs ys
  unfolding all_agree
  agree_cons x y xs ys = refl

  agree_nil : all_agree agree [] [] ≡ true
  unfolding all_agree
  agree_nil = refl

  -- lists of two lengths don't agree
  pub disagree : (xs ys : List A) → (length xs ≡ length ys → ⊥)
      → all_agree agree (map p (map v xs)) (map p (map v ys)) ≡ false
  unfolding all_agree
  disagree [] [] differ = absurd (differ refl)
  disagree [] (y ∷ ys) differ = refl
  disagree (x ∷ xs) [] differ = refl
  disagree (x ∷ xs) (y ∷ ys) differ = by (agree (p (v x)) (p (v y))) (disagree xs ys (λ e. differ (ap suc e)))
    where
      by : (b : Bool) → all_agree agree (map p (map v xs)) (map p (map v ys)) ≡ false
          → (b && all_agree agree (map p (map v xs)) (map p (map v ys))) ≡ false
      by true rest = rest
      by false rest = refl

  -- Two lists have one length, and those of their items that are left decide whether they agree.
  pub record AgreeSoFar (xs ys : List A) (i : ℕ) : Type 0 where
    pub lengths : length xs ≡ length ys
    pub rest : all_agree agree (map p (map v xs)) (map p (map v ys))
        ≡ all_agree agree (map p (map v (drop i xs))) (map p (map v (drop i ys)))

  -- the next two items decide
  next : (xs ys : List A) (i : ℕ) (x y : A) → AgreeSoFar xs ys i → i < length xs
      → i < length ys → x ≡ get_or xs i x → y ≡ get_or ys i y
      → all_agree agree (map p (map v xs)) (map p (map v ys)) ≡ agree (p (v x)) (p (v y))
      && all_agree agree (map p (map v (drop (i + 1) xs))) (map p (map v (drop (i + 1) ys)))
  next xs ys i x y old h k here there =
      old.rest
      ∙ ap (λ r. all_agree agree r (map p (map v (drop i ys)))) (seen_left p v xs i x h here)
      ∙ ap (λ r. all_agree agree (p (v x) ∷ map p (map v (drop (i + 1) xs))) r) (seen_left p v ys i y k there)
      ∙ agree_cons (p (v x)) (p (v y)) (map p (map v (drop (i + 1) xs))) (map p (map v (drop (i + 1) ys)))

  -- two items more that agree
  pub agree_next : (xs ys : List A) (i : ℕ) (x y : A) → AgreeSoFar xs ys i
      → i < length xs → i < length ys → x ≡ get_or xs i x → y ≡ get_or ys i y
      → agree (p (v x)) (p (v y)) ≡ true → AgreeSoFar xs ys (i + 1)
  agree_next xs ys i x y old h k here there same = record {
    lengths = old.lengths;
    rest = next xs ys i x y old h k here there
        ∙ ap (λ b. b && all_agree agree (map p (map v (drop (i + 1) xs))) (map p (map v (drop (i + 1) ys))))
        same;
  }

  -- two items that don't agree
  pub agree_not : (xs ys : List A) (i : ℕ) (x y : A) → AgreeSoFar xs ys i
      → i < length xs → i < length ys → x ≡ get_or xs i x → y ≡ get_or ys i y
      → agree (p (v x)) (p (v y)) ≡ false → false ≡ all_agree agree (map p (map v xs)) (map p (map v ys))
  agree_not xs ys i x y old h k here there differ =
      sym (next xs ys i x y old h k here there
      ∙ ap (λ b. b && all_agree agree (map p (map v (drop (i + 1) xs))) (map p (map v (drop (i + 1) ys))))
      differ)

  -- all have agreed
  pub agree_end : (xs ys : List A) (i : ℕ) → AgreeSoFar xs ys i → length xs ≤ i
      → length ys ≤ i → true ≡ all_agree agree (map p (map v xs)) (map p (map v ys))
  agree_end xs ys i old h k =
      sym
      (old.rest
      ∙ ap (λ r. all_agree agree r (map p (map v (drop i ys)))) (none_left p v xs i h)
      ∙ ap (λ r. all_agree agree [] r) (none_left p v ys i k)
      ∙ agree_nil)

  -- what a loop over the first list reads, which is another list: two items that don't agree
  pub differ_at : {xs zs ys : List A} {i : ℕ} {x y : A} → AgreeSoFar xs ys i → i < length xs
      → x ≡ get_or xs i x → y ≡ get_or ys i y → agree (p (v x)) (p (v y)) ≡ false → xs ≡ zs
      → false ≡ all_agree agree (map p (map v zs)) (map p (map v ys))
  differ_at {xs} {zs} {ys} {i} {x} {y} old h here there differ is =
      let within : i < length ys = omega (arith, old.lengths, h) in
      agree_not xs ys i x y old h within here there differ
      ∙ ap (λ r. all_agree agree (map p (map v r)) (map p (map v ys))) is

  -- two items more that agree
  pub agree_more : {xs ys : List A} {i : ℕ} {x y : A} → AgreeSoFar xs ys i → i < length xs
      → x ≡ get_or xs i x → y ≡ get_or ys i y → agree (p (v x)) (p (v y)) ≡ true → AgreeSoFar xs ys (i + 1)
  agree_more {xs} {ys} {i} {x} {y} old h here there same =
      let within : i < length ys = omega (arith, old.lengths, h) in
      agree_next xs ys i x y old h within here there same

  -- all have agreed
  pub agree_all : {xs zs ys : List A} {i : ℕ} → AgreeSoFar xs ys i → length xs ≤ i → xs ≡ zs
      → true ≡ all_agree agree (map p (map v zs)) (map p (map v ys))
  agree_all {xs} {zs} {ys} {i} old h is =
      let past : length ys ≤ i = omega (arith, old.lengths, h) in
      agree_end xs ys i old h past ∙ ap (λ r. all_agree agree (map p (map v r)) (map p (map v ys))) is
