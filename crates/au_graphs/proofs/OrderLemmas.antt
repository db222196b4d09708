-- Lists in which no element stands twice, and the list of what is reached while it is being found.
use Rattle.std.proofs.Common.{◌≡◌, ◌<◌, ◌+◌, ℕ, Bool, true, false, List, [], ◌∷◌, ◌++◌, length, take, drop}
use Rattle.std.proofs.Common.{refl, sym, ap, ◌∙◌, subst, ⊎_elim, append_assoc, append-nil, length-drop}
use Rattle.std.proofs.Common.{take_all, take-append-drop, arith}
use Rattle.std.proofs.lemmas.List.{take_more, drop_more, take-append-le}
use Rattle.std.proofs.lemmas.Bool.{or_cases}
use Rattle.au_graphs.specs.Reached.{TellsSame, has, Has, put_new, adds, all_next, Reached, follows}
use Rattle.au_graphs.proofs.HasLemmas.{has_front, has_back, has_it, adds_split, adds_more, adds_both}

module _ {A : Type 0} (same : A → A → Bool) where
  -- behind these, no element stands twice
  pub OnceAfter : List A → List A → Type 0
  OnceAfter seen [] = Unit {0}
  OnceAfter seen (k ∷ ks) = (has same seen k ≡ false) × OnceAfter (seen ++ k ∷ []) ks

  once_put : (seen ks : List A) (y : A) → OnceAfter seen ks → has same (seen ++ ks) y ≡ false →
      OnceAfter seen (ks ++ y ∷ [])
  unfolding OnceAfter
  once_put seen [] y once h = (subst (λ (l : List A). has same l y ≡ false) (append-nil seen) h, tt)
  once_put seen (k ∷ ks) y once h = (
    once.0,
    once_put (seen ++ k ∷ []) ks y once.1
        (subst (λ (l : List A). has same l y ≡ false) (sym (append_assoc seen (k ∷ []) ks)) h),
  )

  once_adds : (ks xs : List A) → OnceAfter [] ks → OnceAfter [] (adds same ks xs)
  once_adds ks [] once = once
  once_adds ks (x ∷ xs) once = once_adds (put_new same (has same ks x) ks x) xs (by (has same ks x) refl)
    where
      by : (b : Bool) → has same ks x ≡ b → OnceAfter [] (put_new same b ks x)
      by true h = once
      by false h = once_put [] ks x once h

  once_split : (seen us vs : List A) (x : A) → OnceAfter seen (us ++ x ∷ vs) → has same (seen ++ us) x ≡ false
  unfolding OnceAfter
  once_split seen [] vs x once = subst (λ (l : List A). has same l x ≡ false) (sym (append-nil seen)) once.0
  once_split seen (u ∷ us) vs x once =
      subst (λ (l : List A). has same l x ≡ false) (append_assoc seen (u ∷ []) us)
      (once_split (seen ++ u ∷ []) us vs x once.1)

  -- what is added to no list stands there once
  pub added_once : (xs us vs : List A) (x : A) → adds same [] xs ≡ us ++ x ∷ vs → has same us x ≡ false
  unfolding OnceAfter
  added_once xs us vs x is = once_split [] us vs x (subst (OnceAfter []) is (once_adds [] xs tt))

module _ {A : Type 0} (next : A → List A) where
  pub all_next_both : (us vs : List A) → all_next next (us ++ vs) ≡ all_next next us ++ all_next next vs
  all_next_both [] vs = refl
  all_next_both (u ∷ us) vs = ap (λ (l : List A). next u ++ l) (all_next_both us vs)
      ∙ sym (append_assoc (next u) (all_next next us) (all_next next vs))

  pub all_next_one : (us : List A) (k : A) → all_next next (us ++ k ∷ []) ≡ all_next next us ++ next k
  all_next_one us k = all_next_both us (k ∷ []) ∙ ap (λ (l : List A). all_next next us ++ l) (append-nil (next k))

  module _ (same : A → A → Bool) (tells : TellsSame same) where
    pub has_next : (ks : List A) (k x : A) → Has same ks k → Has same (next k) x → Has same (all_next next ks) x
    has_next [] k x h there = absurd cc
    has_next (j ∷ ks) k x h there =
        ⊎_elim (λ here. has_front same (next j) (all_next next ks) x
        (subst (λ z. Has same (next z) x) (tells.agrees k j here) there))
        (λ rest. has_back same (next j) (all_next next ks) x (has_next ks k x rest there))
        (or_cases (same k j) (has same ks k) h)

-- ---- an element in its place

-- an element stands at a place of a list
pub record At {A : Type 0} (ks : List A) (i : ℕ) (k : A) : Type 0 where
  pub within : i < length ks
  pub taken : take (i + 1) ks ≡ take i ks ++ k ∷ []

module _ {A : Type 0} where
  pub at_place : (ks : List A) (i : ℕ) (k : A) (rest : List A) → drop i ks ≡ k ∷ rest → At ks i k
  at_place ks i k rest is =
      let size : length (drop i ks) ≡ length rest + 1 = ap length is ∙ omega arith in
      let inside : i < length ks = omega (arith, length-drop i ks) in
      let first = drop_more ks i k inside in
      let more = take_more ks i k inside in
      record { within = inside; taken = cc }

  pub at_end : (ks : List A) (i : ℕ) → drop i ks ≡ [] → take i ks ≡ ks
  at_end ks i is =
      let size : length (drop i ks) ≡ 0 = ap length is in
      take_all i ks (omega (arith, length-drop i ks))

pub at_has : {A : Type 0} (same : A → A → Bool) → TellsSame same → (ks : List A) (i : ℕ) (k : A) → At ks i k →
    Has same ks k
at_has {A} same tells ks i k here =
    let front : Has same (take (i + 1) ks) k = subst (λ (l : List A). Has same l k) (sym here.taken)
    (has_it same tells (take i ks) [] k) in
    subst (λ (l : List A). Has same l k) (take-append-drop (i + 1) ks)
    (has_front same (take (i + 1) ks) (drop (i + 1) ks) k front)

-- ---- the list while it is found

module _ {A : Type 0} (same : A → A → Bool) (next : A → List A) (starts : List A) where
  -- a list, when so many of its elements were looked at: it is the starts, and then what follows these
  pub record Begun (ks : List A) (i : ℕ) : Type 0 where
    pub order : ks ≡ adds same [] (starts ++ all_next next (take i ks))
    pub reached : (x : A) → Has same ks x → Reached same next starts x

  -- what was found, after one more element was looked at
  pub found_more : (ks : List A) (i : ℕ) (k : A) → At ks i k → ks ≡ adds same [] (starts ++ all_next next (take i ks))
      → adds same ks (next k) ≡ adds same [] (starts ++ all_next next (take (i + 1) ks))
  found_more ks i k here order =
      let before = all_next next (take i ks) in
      ap (λ (l : List A). adds same l (next k)) order
      ∙ sym (adds_both same [] (starts ++ before) (next k))
      ∙ ap (adds same []) (append_assoc starts before (next k))
      ∙ ap (λ (l : List A). adds same [] (starts ++ l))
      (sym (all_next_one next (take i ks) k) ∙ ap (all_next next) (sym here.taken))

  pub goes_on : TellsSame same → (ks : List A) (i : ℕ) (k : A) → At ks i k → Begun ks i →
      Begun (adds same ks (next k)) (i + 1)
  goes_on tells ks i k here begun =
      let more = adds_more same ks (next k) in
      let front : take (i + 1) (adds same ks (next k)) ≡ take (i + 1) ks = ap (take (i + 1)) more.1
      ∙ take-append-le (i + 1) ks more.0 (omega (arith, here.within)) in
      let itself : Reached same next starts k = begun.reached k (at_has same tells ks i k here) in
      record {
        order = found_more ks i k here begun.order
            ∙ ap (λ (l : List A). adds same [] (starts ++ all_next next l)) (sym front);
        reached = λ x h. ⊎_elim (begun.reached x) (follows k x itself) (adds_split same ks (next k) x h);
      }
