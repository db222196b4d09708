-- Where a walk gives no list, it says what is wrong with the first element that passes a limit.
use Rattle.std.proofs.Common.{◌≡◌, ◌+◌, ◌==◌, ℕ, zero, suc, Bool, true, false, ◌⊎◌, List, [], ◌∷◌, ◌++◌}
use Rattle.std.proofs.Common.{Option, None, Some, Ok, Err, length, take, drop, append-nil, append_assoc}
use Rattle.std.proofs.Common.{take-append-drop, refl, sym, ap, ◌∙◌, subst, inl, inr, ⊎_elim, eqb-true}
use Rattle.au_graphs.specs.Reached.{TellsSame, has, adds, all_next, Has, Reached, start, follows}
use Rattle.au_graphs.specs.Walks.{Walked, on_ok, unless, room, at_first, IsWithin, put_within, adds_within}
use Rattle.au_graphs.specs.Walks.{Passes, itself, one_more, walk, listed, Refused}
use Rattle.au_graphs.proofs.HasLemmas.{adds_more, adds_both, has_front, has_back, adds_split}
use Rattle.au_graphs.proofs.OrderLemmas.{all_next_one, at_place, Begun, goes_on, at_has}
use Rattle.au_graphs.proofs.WalkLemmas.{put_is, adds_is, begun_first, fine_first}

-- there is no list, or going on gave the refusal
pub on_ok_err : {A W : Type 0} (r : Walked A W) (more : List A → Walked A W) (w : W) → on_ok r more ≡ Err w →
    (r ≡ Err w) ⊎ ((m : List A) × (r ≡ Ok m) × (more m ≡ Err w))
on_ok_err (Ok ks) more w is = inr (ks, refl, is)
on_ok_err (Err v) more w is = inl is

module _ {A W : Type 0} (same : A → A → Bool) (over : A → Option W) (full : W) (most : ℕ) (tells : TellsSame same) where
  room_refused : (b : Bool) (ks : List A) (x : A) (w : W) → (length ks == most) ≡ b → over x ≡ None →
      room full b ks x ≡ Err w → Passes same over full most ks x w
  room_refused true ks x w size free is =
      let what : full ≡ w = cc in
      subst (Passes same over full most ks x) what (one_more free (eqb-true (length ks) most size))
  room_refused false ks x w size free is = absurd cc

  over_refused : (o : Option W) (ks : List A) (x : A) (w : W) → over x ≡ o →
      unless o (room full (length ks == most) ks x) ≡ Err w → Passes same over full most ks x w
  over_refused None ks x w free is = room_refused (length ks == most) ks x w refl free is
  over_refused (Some v) ks x w found is = let what : v ≡ w = cc in itself w (found ∙ ap Some what)

  put_refused : (b : Bool) (ks : List A) (x : A) (w : W) → put_within same over full most b ks x ≡ Err w →
      (b ≡ false) × Passes same over full most ks x w
  put_refused true ks x w is = absurd cc
  put_refused false ks x w is = (refl, over_refused (over x) ks x w refl is)

  module _ (next : A → List A) (starts : List A) where
    adds_refused : (ks xs : List A) (w : W) (looked later front behind : List A) →
        adds_within same over full most ks xs ≡ Err w → IsWithin same over most ks
        → ks ≡ looked ++ later → starts ++ all_next next looked ≡ front ++ (xs ++ behind) → ks ≡ adds same [] front
        → ((y : A) → Has same ks y → Reached same next starts y) →
        ((y : A) → Has same xs y → Reached same next starts y) → Refused same over full most next starts w
    adds_refused ks [] w looked later front behind is fine split order added reached come = absurd cc
    adds_refused ks (x ∷ xs) w looked later front behind is fine split order added reached come =
        ⊎_elim refuse (λ step. go_on step.0 step.1 (λ l f. adds_refused step.0 xs w looked l f behind step.2))
        (on_ok_err (put_within same over full most (has same ks x) ks x)
        (λ m. adds_within same over full most m xs) w is)
      where
        refuse : put_within same over full most (has same ks x) ks x ≡ Err w → Refused same over full most next starts w
        refuse stopped =
            let why = put_refused (has same ks x) ks x w stopped in
            record {
              before = ks;
              first = x;
              begins = record {
                looked = looked;
                later = later;
                front = front;
                behind = xs ++ behind;
                split =
                    split;
                order = order;
                added = added;
                is_new = why.0;
                reached = reached;
              };
              within = fine;
              passes = why.1;
            }

        go_on : (m : List A) → put_within same over full most (has same ks x) ks x ≡ Ok m
            → ((l f : List A) → IsWithin same over most m → m ≡ looked ++ l → starts ++ all_next next looked
            ≡ f ++ (xs ++ behind) → m ≡ adds same [] f
            → ((y : A) → Has same m y → Reached same next starts y) →
            ((y : A) → Has same xs y → Reached same next starts y) → Refused same over full most next starts
            w)
            → Refused same over full most next starts w
        go_on m put more =
            let one = put_is same over full most tells (has same ks x) ks x m put fine in
            let longer = adds_more same ks (x ∷ []) in
            more (later ++ longer.0) (front ++ x ∷ []) one.1
            (one.0 ∙ longer.1 ∙ ap (λ (l : List A). l ++ longer.0) split ∙ append_assoc looked later longer.0)
            (order ∙ sym (append_assoc front (x ∷ []) (xs ++ behind)))
            (one.0 ∙ ap (λ (l : List A). adds same l (x ∷ [])) added ∙ sym (adds_both same [] front (x ∷ [])))
            (λ y h. ⊎_elim (reached y) (λ here. come y (has_front same (x ∷ []) xs y here))
            (adds_split same ks (x ∷ []) y (subst (λ (l : List A). Has same l y) one.0 h)))
            (λ y h. come y (has_back same (x ∷ []) xs y h))

    pub walk_refused : (f : ℕ) (ks : List A) (i : ℕ) (w : W) → walk same over full most next f ks i ≡ Err w →
        Begun same next starts ks i → IsWithin same over most ks → Refused same over full most next starts w
    unfolding walk
    walk_refused zero ks i w is begun fine = absurd cc
    walk_refused (suc f) ks i w is begun fine = by (λ m is_m. walk_refused f m (i + 1) w is_m) (drop i ks) refl is
      where
        by : ((m : List A) → walk same over full most next f m (i + 1) ≡ Err w →
            Begun same next starts m (i + 1) → IsWithin same over most m →
            Refused same over full most next starts w)
            → (d : List A) → drop i ks ≡ d →
            at_first d (Ok ks) (λ k. on_ok (adds_within same over full most ks (next k))
            (λ m. walk same over full most next f m (i + 1))) ≡ Err w
            → Refused same over full most next starts w
        by later [] place is = absurd cc
        by later (k ∷ rest) place is =
            let here = at_place ks i k rest place in
            let before = all_next next (take i ks) in
            ⊎_elim
            (λ stopped. adds_refused ks (next k) w (take (i + 1) ks) (drop (i + 1) ks) (starts ++ before) []
            stopped fine (sym (take-append-drop (i + 1) ks))
            (ap (λ (l : List A). starts ++ l)
            (ap (all_next next) here.taken ∙ all_next_one next (take i ks) k)
            ∙ sym (append_assoc starts before (next k)) ∙ ap (λ (l : List A). (starts ++ before) ++ l)
            (sym (append-nil (next k))))
            begun.order begun.reached (λ y h. follows k y (begun.reached k (at_has same tells ks i k here)) h))
            (λ step.
            let more = adds_is same over full most tells ks (next k) step.0 step.1 fine in
            let begun_more = subst (λ (m : List A). Begun same next starts m (i + 1)) (sym more.0)
            (goes_on same next starts tells ks i k here begun) in
            later step.0 step.2 begun_more more.1)
            (on_ok_err (adds_within same over full most ks (next k))
            (λ m. walk same over full most next f m (i + 1)) w is)

    pub listed_refused : (w : W) → listed same over full most next starts ≡ Err w →
        Refused same over full most next starts w
    listed_refused w is =
        ⊎_elim
        (λ stopped. adds_refused [] starts w [] [] [] [] stopped
        (fine_first same over full most tells next starts) refl refl refl (λ y h. absurd cc) start)
        (λ step.
        let begun = adds_is same over full most tells [] starts step.0 step.1
        (fine_first same over full most tells next starts) in
        walk_refused (suc most) step.0 0 w step.2
        (begun_first same over full most tells next starts step.0 begun.0) begun.1)
        (on_ok_err (adds_within same over full most [] starts) (λ m. walk same over full most next (suc most) m 0) w is)
