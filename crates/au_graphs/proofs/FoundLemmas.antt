-- Where the list of what is reached passes no limit, the walk finds it; so there is one list.
use Rattle.std.proofs.Common.{◌≡◌, ◌≤◌, ◌<◌, ◌+◌, ◌==◌, ℕ, zero, suc, Bool, true, false, List, [], ◌∷◌, ◌++◌}
use Rattle.std.proofs.Common.{Option, None, Ok, length, take, drop, take_all, append-nil, append_assoc}
use Rattle.std.proofs.Common.{take-append-drop, length-append, refl, sym, ap, ◌∙◌, subst, eqb-true, arith}
use Rattle.std.proofs.lemmas.List.{take-append-le, length_push}
use Rattle.std.proofs.lemmas.Bool.{or_left}
use Rattle.au_graphs.specs.Reached.{TellsSame, has, Has, put_new, adds, all_next, Reached, start, follows, Lists}
use Rattle.au_graphs.specs.Walks.{Walked, on_ok, unless, room, at_first, IsWithin, put_within, adds_within}
use Rattle.au_graphs.specs.Walks.{walk, listed}
use Rattle.au_graphs.proofs.HasLemmas.{has_front, has_back, has_it, adds_more, adds_both, adds_takes}
use Rattle.au_graphs.proofs.OrderLemmas.{added_once, all_next_both, has_next, at_place, at_end, found_more}

module _ {A : Type 0} (same : A → A → Bool) (tells : TellsSame same) (next : A → List A) (starts : List A) where
  -- a list to which its own elements add nothing has all that is reached
  pub has_all : (ks : List A) → ks ≡ adds same [] (starts ++ all_next next ks) → (x : A) →
      Reached same next starts x → Has same ks x
  has_all ks order x (start _ h) =
      subst (λ (l : List A). Has same l x) (sym order)
      (adds_takes same tells [] (starts ++ all_next next ks) x
      (has_front same starts (all_next next ks) x h))
  has_all ks order x (follows k _ r h) =
      let there = has_next next same tells ks k x (has_all ks order k r) h in
      subst (λ (l : List A). Has same l x) (sym order)
      (adds_takes same tells [] (starts ++ all_next next ks) x
      (has_back same starts (all_next next ks) x there))

  -- such a list, if it is a front of the list of what is reached, is the whole
  pub all_found : (ks l r : List A) → Lists same next starts ks → ks ≡ l ++ r →
      l ≡ adds same [] (starts ++ all_next next l) → l ≡ ks
  all_found ks l [] lists split order = sym (split ∙ append-nil l)
  all_found ks l (x ∷ r) lists split order =
      let here : Has same ks x = subst (λ (m : List A). Has same m x) (sym split) (has_it same tells l r x) in
      let there = has_all l order x (lists.reached x here) in
      let not_there = added_once same (starts ++ all_next next ks) l r x (sym lists.order ∙ split) in
      absurd cc

  -- what the elements of a front add is a front
  front_goes : (ks u v : List A) → Lists same next starts ks → ks ≡ u ++ v → (r : List A)
      × (ks ≡ adds same [] (starts ++ all_next next u) ++ r)
  front_goes ks u v lists split =
      let more = adds_more same (adds same [] (starts ++ all_next next u)) (all_next next v) in (
        more.0,
        lists.order
            ∙ ap (λ (l : List A). adds same [] (starts ++ l)) (ap (all_next next) split ∙ all_next_both next u v)
            ∙ ap (adds same []) (sym (append_assoc starts (all_next next u) (all_next next v)))
            ∙ adds_both same [] (starts ++ all_next next u) (all_next next v)
            ∙ more.1,
      )

module _ {A W : Type 0} (same : A → A → Bool) (over : A → Option W) (full : W) (most : ℕ) (tells : TellsSame same) where
  put_room : (b : Bool) (l : List A) (x : A) → (length l == most) ≡ b → length l < most →
      room full b l x ≡ Ok (l ++ x ∷ [])
  put_room true l x size less = let same_size = eqb-true (length l) most size in absurd (omega arith)
  put_room false l x size less = refl

  put_fine : (b : Bool) (l : List A) (x : A) → (b ≡ false → over x ≡ None) → (b ≡ false → length l < most) →
      put_within same over full most b l x ≡ Ok (put_new same b l x)
  put_fine true l x free less = refl
  put_fine false l x free less = ap (λ (o : Option W). unless o (room full (length l == most) l x))
      (free refl) ∙ put_room (length l == most) l x refl (less refl)

  -- where the sum is a front of a list that passes no limit, neither does an element that is added
  adds_fine : (ks : List A) → IsWithin same over most ks → (l xs r : List A) → ks ≡ adds same l xs ++ r →
      adds_within same over full most l xs ≡ Ok (adds same l xs)
  adds_fine ks fine l [] r split = refl
  adds_fine ks fine l (x ∷ xs) r split =
      let there : Has same ks x = subst (λ (m : List A). Has same m x) (sym split)
      (has_front same (adds same l (x ∷ xs)) r x
      (adds_takes same tells l (x ∷ xs) x (or_left (same x x) (has same xs x) (tells.itself x)))) in
      ap (λ (o : Walked A W). on_ok o (λ m. adds_within same over full most m xs))
      (put_fine (has same l x) l x (λ new. fine.each x there) (λ new. room_left (has same l x) new split))
      ∙ adds_fine ks fine (put_new same (has same l x) l x) xs r split
    where
      room_left : (b : Bool) → b ≡ false → ks ≡ adds same (put_new same b l x) xs ++ r → length l < most
      room_left true new split = absurd cc
      room_left false new split =
          let more = adds_more same (l ++ x ∷ []) xs in
          let size : length ks ≡ length (((l ++ x ∷ []) ++ more.0) ++ r) =
          ap length (split ∙ ap (λ (m : List A). m ++ r) more.1) in
          let one = length-append ((l ++ x ∷ []) ++ more.0) r in
          let two = length-append (l ++ x ∷ []) more.0 in
          let three = length_push l x in
          let few = fine.few in
          omega arith

  module _ (next : A → List A) (starts : List A) where
    walk_found : (ks : List A) → Lists same next starts ks → IsWithin same over most ks →
        (f : ℕ) (l : List A) (i : ℕ) (r : List A) → f + i ≡ most + 1 → ks ≡ l ++ r
        → l ≡ adds same [] (starts ++ all_next next (take i l)) → walk same over full most next f l i ≡ Ok ks
    unfolding walk
    walk_found ks lists fine zero l i r fuel split order =
        let size = ap length split ∙ length-append l r in
        let few = fine.few in
        let all : take i l ≡ l = take_all i l (omega arith) in
        ap Ok (all_found same tells next starts ks l r lists split
        (order ∙ ap (λ (m : List A). adds same [] (starts ++ all_next next m)) all))
    walk_found ks lists fine (suc f) l i r fuel split order =
        by (λ m s. walk_found ks lists fine f m (i + 1) s (omega arith)) (drop i l) refl
      where
        by : ((m s : List A) → ks ≡ m ++ s → m ≡ adds same [] (starts ++ all_next next (take (i + 1) m)) →
            walk same over full most next f m (i + 1) ≡ Ok ks)
            → (d : List A) → drop i l ≡ d →
            at_first d (Ok l) (λ k. on_ok (adds_within same over full most l (next k))
            (λ m. walk same over full most next f m (i + 1))) ≡ Ok ks
        by later [] ends =
            ap Ok (all_found same tells next starts ks l r lists split
            (order ∙ ap (λ (m : List A). adds same [] (starts ++ all_next next m)) (at_end l i ends)))
        by later (k ∷ rest) place =
            let here = at_place l i k rest place in
            let found = found_more same next starts l i k here order in
            let more = adds_more same l (next k) in
            let front : take (i + 1) (adds same l (next k)) ≡ take (i + 1) l = ap (take (i + 1)) more.1
            ∙ take-append-le (i + 1) l more.0 (omega (arith, here.within)) in
            let cut : ks ≡ take (i + 1) l ++ (drop (i + 1) l ++ r) = split
            ∙ ap (λ (m : List A). m ++ r) (sym (take-append-drop (i + 1) l))
            ∙ append_assoc (take (i + 1) l) (drop (i + 1) l) r in
            let goes = front_goes same tells next starts ks (take (i + 1) l) (drop (i + 1) l ++ r) lists cut in
            let so_far : ks ≡ adds same l (next k) ++ goes.0 = goes.1 ∙ ap (λ (m : List A). m ++ goes.0) (sym found) in
            ap (λ (o : Walked A W). on_ok o (λ m. walk same over full most next f m (i + 1)))
            (adds_fine ks fine l (next k) goes.0 so_far)
            ∙ later (adds same l (next k)) goes.0 so_far
            (found ∙ ap (λ (m : List A). adds same [] (starts ++ all_next next m)) (sym front))

    pub listed_found : (ks : List A) → Lists same next starts ks → IsWithin same over most ks →
        listed same over full most next starts ≡ Ok ks
    listed_found ks lists fine =
        let goes = front_goes same tells next starts ks [] ks lists refl in
        let first : ks ≡ adds same [] starts ++ goes.0 = goes.1
        ∙ ap (λ (m : List A). adds same [] m ++ goes.0) (append-nil starts) in
        ap (λ (o : Walked A W). on_ok o (λ m. walk same over full most next (suc most) m 0))
        (adds_fine ks fine [] starts goes.0 first)
        ∙ walk_found ks lists fine (suc most) (adds same [] starts) 0 goes.0 (omega arith) first
        (ap (adds same []) (sym (append-nil starts)))

module _ {A : Type 0} (same : A → A → Bool) (tells : TellsSame same) (next : A → List A) (starts : List A) where
  free : A → Option (Unit {0})
  free x = None

  no_limit : (ks : List A) (most : ℕ) → length ks ≤ most → IsWithin same free most ks
  unfolding free
  no_limit ks most few = record { each = λ k h. refl; few = few }

  -- there is one list
  pub one_list : (ks js : List A) → Lists same next starts ks → Lists same next starts js → ks ≡ js
  one_list ks js these those =
      let most = length ks + length js in
      let here = listed_found same free tt most tells next starts ks these (no_limit ks most (omega arith)) in
      let there = listed_found same free tt most tells next starts js those (no_limit js most (omega arith)) in
      cc
