-- The walk as the code goes along it.
use Rattle.std.proofs.Common.{◌≡◌, ◌≤◌, ◌<◌, ◌+◌, ◌-◌, ℕ, zero, suc, Bool, List, [], ◌∷◌, ◌++◌, Option}
use Rattle.std.proofs.Common.{Result, Ok, Err, IfOk, length, map, drop, get_or, refl, sym, ap, ◌∙◌}
use Rattle.std.proofs.Common.{length-append, arith}
use Rattle.std.proofs.lemmas.List.{length-map, drop_more, drop_all, get_or-map}
use Rattle.au_base.specs.declared.limits.Limit.{Limit}
use Rattle.au_graphs.specs.declared.faults.WalkFault.{WalkFault}
use Rattle.au_graphs.specs.declared.faults.WalkFault.TheVariants as faults
use Rattle.au_graphs.specs.Reached.{Lists}
use Rattle.au_graphs.specs.Walks.{Walked, on_ok, at_first, adds_within, IsWithin, walk}
use Rattle.au_graphs.specs.Finding.{Gives, by_key, puts_to, adds_to, walks, Finds_all, Refuses}
use Rattle.au_graphs.proofs.HasLemmas.{adds_more}
use Rattle.au_graphs.proofs.KeyLemmas.{keys_tell}
use Rattle.au_graphs.proofs.FoundLemmas.{listed_found}
use Rattle.au_graphs.proofs.WalkLemmas.{adds_is, fine_first, listed_is}
use Rattle.au_graphs.proofs.RefusedLemmas.{listed_refused}

-- ---- one turn of the walk

module _ {A W : Type 0} (same : A → A → Bool) (over : A → Option W) (full : W) (most : ℕ) (next : A → List A) where
  pub walk_turn : (f i : ℕ) (ks m rest : List A) (k : A) → drop i ks ≡ k ∷ rest →
      adds_within same over full most ks (next k) ≡ Ok m
      → walk same over full most next (suc f) ks i ≡ walk same over full most next f m (i + 1)
  unfolding walk
  walk_turn f i ks m rest k place added =
      ap (λ (d : List A). at_first d (Ok ks)
      (λ j. on_ok (adds_within same over full most ks (next j))
      (λ l. walk same over full most next f l (i + 1)))) place
      ∙ ap (λ (o : Walked A W). on_ok o (λ l. walk same over full most next f l (i + 1))) added

  pub walk_stops : (f i : ℕ) (ks rest : List A) (k : A) (w : W) → drop i ks ≡ k ∷ rest →
      adds_within same over full most ks (next k) ≡ Err w
      → walk same over full most next (suc f) ks i ≡ Err w
  unfolding walk
  walk_stops f i ks rest k w place stopped =
      ap (λ (d : List A). at_first d (Ok ks)
      (λ j. on_ok (adds_within same over full most ks (next j))
      (λ l. walk same over full most next f l (i + 1)))) place
      ∙ ap (λ (o : Walked A W). on_ok o (λ l. walk same over full most next f l (i + 1))) stopped

  pub walk_ends : (f i : ℕ) (ks : List A) → drop i ks ≡ [] → walk same over full most next f ks i ≡ Ok ks
  unfolding walk
  walk_ends zero i ks place = refl
  walk_ends (suc f) i ks place =
      ap (λ (d : List A). at_first d (Ok ks)
      (λ j. on_ok (adds_within same over full most ks (next j))
      (λ l. walk same over full most next f l (i + 1)))) place

-- ---- answers

module _ {X Y A B : Type 0} where
  -- what stopped a step stops the whole
  pub stops : (view : X → A) (whole_view : Y → B) (fault : WalkFault) (step : Result A Limit) (whole : Result B Limit)
      → ((limit : Limit) → step ≡ Err limit → whole ≡ Err limit) → Gives view (Err fault) step →
      Gives whole_view (Err fault) whole
  stops view whole_view (faults.Limit limit) step whole same gives = same limit gives
  stops view whole_view faults.Memory step whole same gives = tt

-- ---- elements that are put one after another

module _ {I A : Type 0} (see : I → A) (key_of : A → List ℕ) (told_of : A → Option Limit) (full : Limit) (most : ℕ) where
  pub put_more : (before after : List A) (x : I) (left rest : List I) (whole : Walked A Limit) →
      left ≡ x ∷ rest → puts_to key_of told_of full most before (see x) ≡ Ok after
      → adds_to key_of told_of full most before (map see left) ≡ whole →
      adds_to key_of told_of full most after (map see rest) ≡ whole
  put_more before after x left rest whole is put old =
      sym (ap (λ (o : Walked A Limit). on_ok o (λ l. adds_to key_of told_of full most l (map see rest))) put)
      ∙ sym (ap (λ (l : List I). adds_to key_of told_of full most before (map see l)) is)
      ∙ old

  pub put_stops : (before : List A) (x : I) (left rest : List I) (whole : Walked A Limit) (limit : Limit) →
      left ≡ x ∷ rest → puts_to key_of told_of full most before (see x) ≡ Err limit
      → adds_to key_of told_of full most before (map see left) ≡ whole → whole ≡ Err limit
  put_stops before x left rest whole limit is put old =
      sym old
      ∙ ap (λ (l : List I). adds_to key_of told_of full most before (map see l)) is
      ∙ ap (λ (o : Walked A Limit). on_ok o (λ l. adds_to key_of told_of full most l (map see rest))) put

  pub put_ends : (before : List A) (left : List I) (whole : Walked A Limit) → left ≡ [] →
      adds_to key_of told_of full most before (map see left) ≡ whole → whole ≡ Ok before
  put_ends before left whole is old = sym old
      ∙ ap (λ (l : List I). adds_to key_of told_of full most before (map see l)) is

module _ {I A : Type 0} (see : I → A) (key_of : A → List ℕ) (tells : (a b : A) → key_of a ≡ key_of b → a ≡ b)
    (told_of : A → Option Limit) (full : Limit) (most : ℕ) (next : A → List A) (starts : List A) where
  -- the walk from a place on gives what the whole does
  abbrev pub Rest : List A → ℕ → Type 0
  Rest ks i = (f : ℕ) → f + i ≡ most + 1 → walks key_of told_of full most next starts ≡ walk (by_key key_of)
      told_of full most next f ks i

  -- the starts are put
  pub first_put : (none : List I) (ks : List A) → none ≡ [] → adds_to key_of told_of full most (map see none)
      starts ≡ Ok ks → IsWithin (by_key key_of) told_of most ks × Rest ks 0
  first_put none ks empty put =
      let added : adds_to key_of told_of full most [] starts ≡ Ok ks =
      sym (ap (λ (l : List I). adds_to key_of told_of full most (map see l) starts) empty) ∙ put in (
        (adds_is (by_key key_of) told_of full most (keys_tell key_of tells) [] starts ks added
            (fine_first (by_key key_of) told_of full most (keys_tell key_of tells) next starts)).1,
        λ f fuel.
            let all : f ≡ suc most = omega arith in
            ap (λ (o : Walked A Limit). on_ok o (λ l. walk (by_key key_of) told_of full most next (suc most) l 0)) added
            ∙ sym (ap (λ (n : ℕ). walk (by_key key_of) told_of full most next n ks 0) all),
      )

  place_of : (items : List I) (i : ℕ) (x : I) → i < length items → x ≡ get_or items i x →
      drop i (map see items) ≡ see x ∷ drop (i + 1) (map see items)
  place_of items i x below here =
      let many = length-map items see in
      drop_more (map see items) i (see x) (omega arith)
      ∙ ap (λ (k : A). k ∷ drop (i + 1) (map see items)) (get_or-map see items i x (see x) below ∙ ap see (sym here))

  -- what follows the element at a place is put
  pub turn : (items more : List I) (i : ℕ) (x : I) (ys : List A) → i < length items → x ≡ get_or items i x →
      ys ≡ next (see x) → IsWithin (by_key key_of) told_of most (map see items)
      → adds_to key_of told_of full most (map see items) ys ≡ Ok (map see more) → Rest (map see items) i
      → IsWithin (by_key key_of) told_of most (map see more) × (i + 1 ≤ length more) × Rest (map see more) (i + 1)
  turn items more i x ys below here is fine put rest =
      let added = adds_is (by_key key_of) told_of full most (keys_tell key_of tells) (map see items) ys
      (map see more) put fine in
      let longer = adds_more (by_key key_of) (map see items) ys in
      let size : length (map see more) ≡ length (map see items ++ longer.0) = ap length (added.0 ∙ longer.1) in
      let sum = length-append (map see items) longer.0 in
      let these = length-map items see in
      let those = length-map more see in (
        added.1,
        omega arith,
        λ f fuel.
            rest (suc f) (omega arith)
            ∙ walk_turn (by_key key_of) told_of full most next f i (map see items) (map see more)
            (drop (i + 1) (map see items)) (see x) (place_of items i x below here)
            (ap (adds_to key_of told_of full most (map see items)) (sym is) ∙ put),
      )

  -- what follows it passes a limit
  pub turn_stops : (items : List I) (i : ℕ) (x : I) (ys : List A) (limit : Limit) → i < length items →
      x ≡ get_or items i x → ys ≡ next (see x) → IsWithin (by_key key_of) told_of most (map see items)
      → Rest (map see items) i → adds_to key_of told_of full most (map see items) ys ≡ Err limit →
      walks key_of told_of full most next starts ≡ Err limit
  turn_stops items i x ys limit below here is fine rest put =
      let few = fine.few in
      let these = length-map items see in
      rest (suc (most - i)) (omega arith)
      ∙ walk_stops (by_key key_of) told_of full most next (most - i) i (map see items)
      (drop (i + 1) (map see items)) (see x) limit (place_of items i x below here)
      (ap (adds_to key_of told_of full most (map see items)) (sym is) ∙ put)

  -- no element is left
  pub turns_end : (items : List I) (i : ℕ) → length items ≤ i → i ≤ length items →
      IsWithin (by_key key_of) told_of most (map see items) → Rest (map see items) i
      → walks key_of told_of full most next starts ≡ Ok (map see items)
  turns_end items i past within fine rest =
      let few = fine.few in
      let these = length-map items see in
      rest (most + 1 - i) (omega arith) ∙ walk_ends (by_key key_of) told_of full most next (most + 1 - i) i
      (map see items) (drop_all i (map see items) (omega arith))

-- ---- what the walk's answer says

module _ {X A : Type 0} (view : X → List A) (key_of : A → List ℕ)
    (tells : (a b : A) → key_of a ≡ key_of b → a ≡ b) (told_of : A → Option Limit) (full : Limit) (most : ℕ)
    (next : A → List A) (starts : List A) where
  pub answer_lists : (result : Result X WalkFault) →
      Gives view result (walks key_of told_of full most next starts) →
      IfOk result (λ x. Lists (by_key key_of) next starts (view x))
  answer_lists (Ok x) gives = (listed_is (by_key key_of) told_of full most (keys_tell key_of tells) next
      starts (view x) gives).0
  answer_lists (Err fault) gives = tt

  pub answer_within : (result : Result X WalkFault) →
      Gives view result (walks key_of told_of full most next starts) →
      IfOk result (λ x. IsWithin (by_key key_of) told_of most (view x))
  answer_within (Ok x) gives = (listed_is (by_key key_of) told_of full most (keys_tell key_of tells) next
      starts (view x) gives).1
  answer_within (Err fault) gives = tt

  pub answer_finds : (result : Result X WalkFault) →
      Gives view result (walks key_of told_of full most next starts) → Finds_all view result (by_key key_of)
      told_of most next starts
  answer_finds (Ok x) gives ks lists within =
      sym (listed_found (by_key key_of) told_of full most (keys_tell key_of tells) next starts ks lists within)
      ∙ gives
  answer_finds (Err (faults.Limit limit)) gives ks lists within =
      sym (listed_found (by_key key_of) told_of full most (keys_tell key_of tells) next starts ks lists within)
      ∙ gives
  answer_finds (Err faults.Memory) gives ks lists within = tt

  pub answer_refuses : (result : Result X WalkFault) →
      Gives view result (walks key_of told_of full most next starts) → Refuses result (by_key key_of) told_of
      full most next starts
  answer_refuses (Ok x) gives = tt
  answer_refuses (Err (faults.Limit limit)) gives = listed_refused (by_key key_of) told_of full most
      (keys_tell key_of tells) next starts limit gives
  answer_refuses (Err faults.Memory) gives = tt
