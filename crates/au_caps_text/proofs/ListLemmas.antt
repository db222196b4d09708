-- Lists in strict order.
use Rattle.std.proofs.Common.{◌≡◌, ℕ, true, List, [], ◌∷◌, refl, sym, ap, ◌∙◌, subst, ⊎_elim}
use Rattle.std.specs.Prelude.{◌⊎◌, Contains}
use Rattle.std.specs.Borrow.{Bor}
use Rattle.std.specs.Cmp.{IsTotalOrder}
use Rattle.std.specs.Cmp.Lexicographic.{pointwise, same_text, slice_cmp}
use Rattle.std.specs.declared.cmp.Ordering.{Ordering}
use Rattle.std.specs.declared.cmp.Ordering.TheVariants.{Less, Greater}
use Rattle.std.specs.List.{AllByRecursion, Any}
use Rattle.std.specs.List.Sorted.{IsStrictlySortedBy}
use Rattle.std.specs.Ordering.{nat_cmp, ordering_reverse}
use Rattle.std.specs.Prelude.{nat_eq}
use Rattle.au_base.proofs.ListLemmas.{Contains-cases, Contains-first, Contains-rest, nothing_there}
use Rattle.au_caps_text.specs.Lists.{IsListOf}
use Rattle.au_caps_text.specs.Views.{texts_in}

-- ---- one list

-- what holds of each holds of one
each_holds : {K : Type 0} (P : K → Type 0) (xs : List K) (z : K) → AllByRecursion P xs → Contains xs z → P z
each_holds P [] z all is = absurd (nothing_there z is)
each_holds P (x ∷ xs) z all is =
    ⊎_elim (λ here. subst P here all.0) (λ there. each_holds P xs z all.1 there) (Contains-cases x xs z is)

module _ {K : Type 0} (R : K → K → Ordering) (o : IsTotalOrder R) where
  -- nothing is below what is below it
  not_both : (x y : K) → R x y ≡ Less → R y x ≡ Less → ⊥
  not_both x y below above =
      let turned : R x y ≡ Greater = o.antisymm x y ∙ ap ordering_reverse above in
      let clash : Less ≡ Greater = sym below ∙ turned in absurd cc

  -- lists in strict order that have the same are one
  pub one_list : (xs ys : List K) → IsStrictlySortedBy R xs → IsStrictlySortedBy R ys
      → ((z : K) → Contains xs z → Contains ys z) → ((z : K) → Contains ys z → Contains xs z) → xs ≡ ys
  unfolding IsStrictlySortedBy
  one_list [] [] p q to from = refl
  one_list [] (y ∷ ys) p q to from = absurd (nothing_there y (from y (Contains-first y ys)))
  one_list (x ∷ xs) [] p q to from = absurd (nothing_there x (to x (Contains-first x xs)))
  one_list (x ∷ xs) (y ∷ ys) p q to from =
      let same : x ≡ y =
      ⊎_elim (λ here. sym here)
      (λ there. ⊎_elim (λ here. here)
      (λ deep. absurd (not_both x y (each_holds (λ z. R x z ≡ Less) xs y p.0 deep)
      (each_holds (λ z. R y z ≡ Less) ys x q.0 there)))
      (Contains-cases x xs y (from y (Contains-first y ys))))
      (Contains-cases y ys x (to x (Contains-first x xs))) in
      let rest : xs ≡ ys =
      one_list xs ys p.1 q.1
      (λ z is. ⊎_elim
      (λ here. let low = subst (λ w. R x w ≡ Less) (sym (same ∙ here)) (each_holds (λ w. R x w ≡ Less) xs z p.0 is) in
      absurd (not_both x x low low))
      (λ there. there) (Contains-cases y ys z (to z (Contains-rest x xs z is))))
      (λ z is. ⊎_elim
      (λ here. let low = subst (λ w. R y w ≡ Less) (sym (sym same ∙ here)) (each_holds (λ w. R y w ≡ Less) ys z q.0 is) in
      absurd (not_both y y low low))
      (λ there. there) (Contains-cases x xs z (from z (Contains-rest y ys z is)))) in
      ap (λ (w : K). w ∷ xs) same ∙ ap (λ (l : List K). y ∷ l) rest

-- ---- texts of slices

abbrev Slices : Type 0
Slices = List (Bor (List ℕ))

below_in : (x : List ℕ) (xs : Slices) → AllByRecursion (λ (y : Bor (List ℕ)). slice_cmp nat_cmp x y.now ≡ Less) xs
    → AllByRecursion (λ (y : List ℕ). slice_cmp nat_cmp x y ≡ Less) (texts_in xs)
below_in x [] all = tt
below_in x (y ∷ ys) all = (all.0, below_in x ys all.1)

ascends_in : (xs : Slices) → IsStrictlySortedBy (λ (x y : Bor (List ℕ)). slice_cmp nat_cmp x.now y.now) xs
    → IsStrictlySortedBy (slice_cmp nat_cmp) (texts_in xs)
unfolding IsStrictlySortedBy
ascends_in [] up = tt
ascends_in (x ∷ xs) up = (below_in x.now xs up.0, ascends_in xs up.1)

into_texts : (xs : Slices) (x : Bor (List ℕ)) → Contains xs x → Contains (texts_in xs) x.now
into_texts [] x is = absurd (nothing_there x is)
into_texts (y ∷ ys) x is =
    ⊎_elim
    (λ (here : y ≡ x). subst (λ (t : List ℕ). Contains (y.now ∷ texts_in ys) t) (ap (λ (b : Bor (List ℕ)). b.now) here)
    (Contains-first y.now (texts_in ys)))
    (λ there. Contains-rest y.now (texts_in ys) x.now (into_texts ys x there))
    (Contains-cases y ys x is)

-- a text is that of a slice
pub record OfSlice (xs : Slices) (t : List ℕ) : Type 0 where
  pub slice : Bor (List ℕ)
  pub among : Contains xs slice
  pub says : slice.now ≡ t

from_texts : (xs : Slices) (t : List ℕ) → Contains (texts_in xs) t → OfSlice xs t
from_texts [] t is = absurd (nothing_there t is)
from_texts (y ∷ ys) t is =
    ⊎_elim
    (λ here. record { slice = y; among = Contains-first y ys; says = here })
    (λ there. let rest = from_texts ys t there in
    record { slice = rest.slice; among = Contains-rest y ys rest.slice rest.among; says = rest.says })
    (Contains-cases y.now (texts_in ys) t is)

-- a text that a slice among others has is among theirs
any_text : (xs : Slices) (x : Bor (List ℕ)) → Any (λ (y : Bor (List ℕ)). x.now ≡ y.now) xs → Contains (texts_in xs) x.now
any_text xs x any =
    subst (λ (t : List ℕ). Contains (texts_in xs) t) (sym any.4) (into_texts xs any.1 (any.0, any.2, any.3))

-- slices with the same bytes have the same text
pub same_now : (xs : Slices) (x : Bor (List ℕ)) → Any (λ (y : Bor (List ℕ)). pointwise nat_eq x.now y.now ≡ true) xs
    → Any (λ (y : Bor (List ℕ)). x.now ≡ y.now) xs
same_now xs x any = (any.0, any.1, any.2, any.3, same_text x.now any.1.now (sym any.4))

pub listed : (found ordered : Slices) (list : List (List ℕ))
    → IsStrictlySortedBy (λ (x y : Bor (List ℕ)). slice_cmp nat_cmp x.now y.now) ordered
    → ((x : Bor (List ℕ)) → Contains found x → Any (λ (y : Bor (List ℕ)). x.now ≡ y.now) ordered)
    → ((x : Bor (List ℕ)) → Contains ordered x → Contains found x)
    → list ≡ texts_in ordered → IsListOf (Contains (texts_in found)) list
listed found ordered list up all only is =
    subst (IsListOf (Contains (texts_in found))) (sym is)
    (record {
      ascends = ascends_in ordered up;
      all = λ t has.
          let from = from_texts found t has in
          subst (λ (u : List ℕ). Contains (texts_in ordered) u) from.says
          (any_text ordered from.slice (all from.slice from.among));
      only = λ t has.
          let from = from_texts ordered t has in
          subst (λ (u : List ℕ). Contains (texts_in found) u) from.says
          (into_texts found from.slice (only from.slice from.among));
    })
