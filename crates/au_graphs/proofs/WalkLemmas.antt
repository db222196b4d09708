-- A walk's list is that of what is reached, and passes no limit.
use Rattle.std.proofs.Common.{◌≡◌, ◌≤◌, ◌+◌, ◌==◌, ℕ, zero, suc, Bool, true, false, List, [], ◌∷◌, ◌++◌}
use Rattle.std.proofs.Common.{Option, None, Some, Ok, Err, length, take, drop, take_all, append-nil, refl}
use Rattle.std.proofs.Common.{sym, ap, ◌∙◌, subst, ⊎_elim, eq-eqb, arith}
use Rattle.std.proofs.lemmas.List.{length_push}
use Rattle.std.proofs.lemmas.Bool.{or_cases}
use Rattle.au_graphs.specs.Reached.{TellsSame, has, Has, put_new, adds, all_next, start, Lists}
use Rattle.au_graphs.specs.Walks.{Walked, on_ok, unless, room, at_first, IsWithin, put_within, adds_within}
use Rattle.au_graphs.specs.Walks.{walk, listed}
use Rattle.au_graphs.proofs.HasLemmas.{has_split, adds_split}
use Rattle.au_graphs.proofs.OrderLemmas.{at_place, at_end, Begun, goes_on}

-- going on gave an answer: so there was a list
pub on_ok_is : {A W : Type 0} (r : Walked A W) (more : List A → Walked A W) (l : List A) →
    on_ok r more ≡ Ok l → (m : List A) × (r ≡ Ok m) × (more m ≡ Ok l)
on_ok_is (Ok ks) more l is = (ks, refl, is)
on_ok_is (Err w) more l is = absurd cc

module _ {A W : Type 0} (same : A → A → Bool) (over : A → Option W) (full : W) (most : ℕ) (tells : TellsSame same) where
  put_room : (b : Bool) (ks : List A) (x : A) (l : List A) → (length ks == most) ≡ b → over x ≡ None →
      room full b ks x ≡ Ok l → IsWithin same over most ks → (l ≡ ks ++ x ∷ []) × IsWithin same over most l
  put_room true ks x l same_size free is fine = absurd cc
  put_room false ks x l same_size free is fine =
      let more : ks ++ x ∷ [] ≡ l = cc in
      let size = length_push ks x in (
        sym more,
        subst (IsWithin same over most) more (record {
          each = λ k h. ⊎_elim (fine.each k)
              (λ one. ap over (tells.agrees k x
              (⊎_elim (λ here. here) (λ none. absurd cc) (or_cases (same k x) false one))) ∙ free)
              (has_split same ks (x ∷ []) k h);
          few = by size;
        }),
      )
    where
      by : length (ks ++ x ∷ []) ≡ length ks + 1 → length (ks ++ x ∷ []) ≤ most
      by size = grind (arith, eq-eqb)

  put_over : (o : Option W) (ks : List A) (x : A) (l : List A) → over x ≡ o →
      unless o (room full (length ks == most) ks x) ≡ Ok l → IsWithin same over most ks → (l ≡ ks ++ x ∷ [])
      × IsWithin same over most l
  put_over None ks x l free is fine = put_room (length ks == most) ks x l refl free is fine
  put_over (Some w) ks x l free is fine = absurd cc

  pub put_is : (b : Bool) (ks : List A) (x : A) (l : List A) → put_within same over full most b ks x ≡ Ok l →
      IsWithin same over most ks → (l ≡ put_new same b ks x) × IsWithin same over most l
  put_is true ks x l is fine = let there : ks ≡ l = cc in (sym there, subst (IsWithin same over most) there fine)
  put_is false ks x l is fine = put_over (over x) ks x l refl is fine

  pub adds_is : (ks xs : List A) (l : List A) → adds_within same over full most ks xs ≡ Ok l →
      IsWithin same over most ks → (l ≡ adds same ks xs) × IsWithin same over most l
  adds_is ks [] l is fine = let there : ks ≡ l = cc in (sym there, subst (IsWithin same over most) there fine)
  adds_is ks (x ∷ xs) l is fine =
      let step = on_ok_is (put_within same over full most (has same ks x) ks x)
      (λ m. adds_within same over full most m xs) l is in
      let one = put_is (has same ks x) ks x step.0 step.1 fine in
      let rest = adds_is step.0 xs l step.2 one.1 in
      (rest.0 ∙ ap (λ (m : List A). adds same m xs) one.0, rest.1)

  module _ (next : A → List A) (starts : List A) where
    -- all was looked at
    pub all_looked : (ks : List A) (i : ℕ) → take i ks ≡ ks → Begun same next starts ks i → Lists same next starts ks
    all_looked ks i all begun = record {
      order = begun.order ∙ ap (λ (l : List A). adds same [] (starts ++ all_next next l)) all;
      reached = begun.reached;
    }

    pub walk_is : (f : ℕ) (ks : List A) (i : ℕ) (l : List A) → f + i ≡ most + 1 →
        walk same over full most next f ks i ≡ Ok l → Begun same next starts ks i → IsWithin same over most ks
        → Lists same next starts l × IsWithin same over most l
    unfolding walk
    walk_is zero ks i l fuel is begun fine =
        let there : ks ≡ l = cc in
        let few = fine.few in (
          subst (Lists same next starts) there (all_looked ks i (take_all i ks (omega arith)) begun),
          subst (IsWithin same over most) there fine,
        )
    walk_is (suc f) ks i l fuel is begun fine = by (λ m is_m. walk_is f m (i + 1) l (omega arith) is_m)
        (drop i ks) refl is
      where
        by : ((m : List A) → walk same over full most next f m (i + 1) ≡ Ok l →
            Begun same next starts m (i + 1) → IsWithin same over most m → Lists same next starts l
            × IsWithin same over most l)
            → (d : List A) → drop i ks ≡ d →
            at_first d (Ok ks) (λ k. on_ok (adds_within same over full most ks (next k))
            (λ m. walk same over full most next f m (i + 1))) ≡ Ok l
            → Lists same next starts l × IsWithin same over most l
        by later [] ends is = let there : ks ≡ l = cc
            in (
              subst (Lists same next starts) there (all_looked ks i (at_end ks i ends) begun),
              subst (IsWithin same over most) there fine,
            )
        by later (k ∷ rest) place is =
            let step = on_ok_is (adds_within same over full most ks (next k))
            (λ m. walk same over full most next f m (i + 1)) l is in
            let more = adds_is ks (next k) step.0 step.1 fine in
            let begun_more = subst (λ (m : List A). Begun same next starts m (i + 1)) (sym more.0)
            (goes_on same next starts tells ks i k (at_place ks i k rest place) begun) in
            later step.0 step.2 begun_more more.1

    pub begun_first : (ks : List A) → ks ≡ adds same [] starts → Begun same next starts ks 0
    begun_first ks is = record {
      order = is ∙ ap (adds same []) (sym (append-nil starts));
      reached = λ x h. start x (⊎_elim (λ none. absurd cc) (λ one. one)
          (adds_split same [] starts x (subst (λ (l : List A). Has same l x) is h)));
    }

    pub fine_first : IsWithin same over most []
    fine_first = record { each = λ k h. absurd cc; few = omega arith }

    pub listed_is : (l : List A) → listed same over full most next starts ≡ Ok l → Lists same next starts l
        × IsWithin same over most l
    listed_is l is =
        let step = on_ok_is (adds_within same over full most [] starts)
        (λ m. walk same over full most next (suc most) m 0) l is in
        let begun = adds_is [] starts step.0 step.1 fine_first in
        walk_is (suc most) step.0 0 l (omega arith) step.2 (begun_first step.0 begun.0) begun.1
