-- A path keeps the rules exactly where it isn't broken.
use Rattle.std.proofs.Common.{◌≡◌, ◌≢◌, ℕ, ◌+◌, ◌==◌, Bool, true, false, not, ◌||◌, ◌&&◌, List, [], ◌∷◌}
use Rattle.std.proofs.Common.{inl, inr, IsTrue, refl, sym, ap, ◌∙◌, arith, if◌then◌else◌}
use Rattle.std.specs.List.{All}
use Rattle.std.proofs.lemmas.Bool.{eqb-true, and_from, or_cases, and_parts}
use Rattle.std.proofs.lemmas.List.Elements.{All-nil, All-cons, All-head, All-tail}
use Rattle.au_base.proofs.BoolLemmas.{never_both}
use Rattle.au_syntax.specs.Plain.{Bytes}
use Rattle.au_lives.specs.declared.lives.LifeKind.{LifeKind}
use Rattle.au_lives.specs.declared.lives.LifeKind.TheVariants as kinds
use Rattle.au_lives.specs.declared.lives.Sort.{Sort}
use Rattle.au_lives.specs.declared.lives.Sort.TheVariants as sorts
use Rattle.au_lives.specs.Mentions.{Counts, counts}
use Rattle.au_lives.specs.Paths.{Step}
use Rattle.au_lives.specs.Lives.{Hold, unlent, read_lent, write_lent, hidden, held_around, is_quiet}
use Rattle.au_lives.specs.Lives.{is_exactly, is_untouched, is_ordinary, is_allowed, IsSpent, counts_at}
use Rattle.au_lives.specs.Lives.{UntouchedAfterwards, consumptions, GoodPath, Fate, going, broken, onward}
use Rattle.au_lives.specs.Lives.{at_end, judge, fate}
use Rattle.au_lives.proofs.TurnLemmas.{going_same, broken_going}
use Rattle.au_lives.proofs.FreeLemmas.{none_consumed}

-- What is known of counts.
pub quiet_of : (k : Counts) → is_untouched k ≡ true → is_quiet k ≡ true
quiet_of k h =
    let a = and_parts (k.consumed == 0) ((k.written == 0) && ((k.read == 0) && (k.looked == 0))) h in
    let b = and_parts (k.written == 0) ((k.read == 0) && (k.looked == 0)) a.1 in
    and_from (k.consumed == 0) (k.written == 0) a.0 b.0

unconsumed_of : (k : Counts) → is_untouched k ≡ true → (k.consumed == 0) ≡ true
unconsumed_of k h = (and_parts (k.consumed == 0) ((k.written == 0) && ((k.read == 0) && (k.looked == 0))) h).0

ordinary_of : (k : Counts) → is_untouched k ≡ true → is_ordinary k ≡ true
ordinary_of k h = ap (λ b. b || (is_exactly (counts 0 1 0 0) k || is_exactly (counts 1 0 0 0) k))
    (quiet_of k h)

allowed_of : (h : Hold) (k : Counts) → is_untouched k ≡ true → is_allowed h k ≡ true
allowed_of unlent k e = refl
allowed_of read_lent k e = quiet_of k e
allowed_of write_lent k e = e
allowed_of hidden k e = refl

consumed_once : (k : Counts) → is_ordinary k ≡ true → (k.consumed == 0) ≡ false → k.consumed ≡ 1
consumed_once k h c =
    elim (or_cases (is_quiet k) (is_exactly (counts 0 1 0 0) k || is_exactly (counts 1 0 0 0) k) h) [
      | inl q ↦ never_both (k.consumed == 0) (and_parts (k.consumed == 0) (k.written == 0) q).0 c
      | inr m ↦ elim (or_cases (is_exactly (counts 0 1 0 0) k) (is_exactly (counts 1 0 0 0) k) m) [
        | inl w ↦ never_both (k.consumed == 0)
            (and_parts (k.consumed == 0) ((k.written == 1) && ((k.read == 0) && (k.looked == 0))) w).0 c
        | inr o ↦ eqb-true k.consumed 1
            (and_parts (k.consumed == 1) ((k.written == 0) && ((k.read == 0) && (k.looked == 0))) o).0
      ]
    ]

-- how often it was consumed
abbrev pub times : Bool → ℕ
times true = 1
times false = 0

end_going : (v : Fate) (sort : Sort) (t : Bool) → onward (at_end sort) v ≡ going t → (u : Bool)
    × (v ≡ going u) × (at_end sort u ≡ going t)
end_going (going u) sort t h = (u, refl, h)
end_going (broken k) sort t h = broken_going k t h

module _ (x : Bytes) (sort : Sort) where
  abbrev pub on : Step → Counts
  on s = counts_at x sort s

  pub judge_broken : (k : LifeKind) (ss : List Step) → judge x sort (broken k) ss ≡ broken k
  judge_broken k [] = refl
  judge_broken k (s ∷ ss) = judge_broken k ss

  broken_on : {A : Type 0} (k : LifeKind) (ss : List Step) (t : Bool) → judge x sort (broken k) ss ≡ going t →
      A
  broken_on k ss t h = broken_going k t (sym (judge_broken k ss) ∙ h)

  spent_going : (b : Bool) (ss : List Step) (t : Bool) →
      judge x sort (if b then going true else broken kinds.Again) ss ≡ going t → (b ≡ true)
      × (judge x sort (going true) ss ≡ going t)
  spent_going true ss t h = (refl, h)
  spent_going false ss t h = broken_on kinds.Again ss t h

  live_going : (a b c : Bool) (ss : List Step) (t : Bool) →
      judge x sort (if a then (if b then going (not c) else broken kinds.Borrowed) else broken kinds.Clash) ss
      ≡ going t →
      (a ≡ true) × (b ≡ true) × (judge x sort (going (not c)) ss ≡ going t)
  live_going true true c ss t h = (refl, refl, h)
  live_going true false c ss t h = broken_on kinds.Borrowed ss t h
  live_going false b c ss t h = broken_on kinds.Clash ss t h

  -- the rules on a path, and how often it consumes
  pub record Rules (ss : List Step) (t : Bool) : Type 0 where
    pub ordinary : All (λ s. IsTrue (is_ordinary (on s))) ss
    pub allowed : All (λ s. IsTrue (is_allowed (held_around x s.around) (on s))) ss
    pub afterwards : UntouchedAfterwards x sort ss
    pub total : consumptions x sort ss ≡ times t

  -- after the consumption
  record Closed (ss : List Step) (t : Bool) : Type 0 where
    pub state : t ≡ true
    pub untouched : All (λ s. IsTrue (is_untouched (on s))) ss
    pub ordinary : All (λ s. IsTrue (is_ordinary (on s))) ss
    pub allowed : All (λ s. IsTrue (is_allowed (held_around x s.around) (on s))) ss
    pub afterwards : UntouchedAfterwards x sort ss
    pub total : consumptions x sort ss ≡ 0

  closed : (ss : List Step) (t : Bool) → judge x sort (going true) ss ≡ going t → Closed ss t
  closed [] t h = record {
    state = sym (going_same true t h);
    untouched = All-nil (λ s. IsTrue (is_untouched (on s)));
    ordinary = All-nil (λ s. IsTrue (is_ordinary (on s)));
    allowed = All-nil (λ s. IsTrue (is_allowed (held_around x s.around) (on s)));
    afterwards = tt;
    total = refl;
  }
  closed (s ∷ ss) t h =
      let w = spent_going (is_untouched (on s)) ss t h in
      let c = closed ss t w.1 in
      let zero : (on s).consumed ≡ 0 = eqb-true (on s).consumed 0 (unconsumed_of (on s) w.0) in
      record {
        state = c.state;
        untouched = All-cons (λ s. IsTrue (is_untouched (on s))) s ss w.0 c.untouched;
        ordinary = All-cons (λ s. IsTrue (is_ordinary (on s))) s ss (ordinary_of (on s) w.0) c.ordinary;
        allowed = All-cons (λ s. IsTrue (is_allowed (held_around x s.around) (on s))) s ss
            (allowed_of (held_around x s.around) (on s) w.0) c.allowed;
        afterwards = ((λ n. absurd (n zero)), c.afterwards);
        total = omega (arith, zero, c.total);
      }

  rules_step : (s : Step) (ss : List Step) (t c : Bool) → ((on s).consumed == 0) ≡ c → is_ordinary (on s)
      ≡ true → is_allowed (held_around x s.around) (on s) ≡ true → judge x sort (going (not c)) ss ≡ going t →
      (judge x sort (going false) ss ≡ going t → Rules ss t) → Rules (s ∷ ss) t
  rules_step s ss t true e a b h more =
      let r = more h in
      let none : (on s).consumed ≡ 0 = eqb-true (on s).consumed 0 e in
      record {
        ordinary = All-cons (λ s. IsTrue (is_ordinary (on s))) s ss a r.ordinary;
        allowed = All-cons (λ s. IsTrue (is_allowed (held_around x s.around) (on s))) s ss b r.allowed;
        afterwards = ((λ n. absurd (n none)), r.afterwards);
        total = ap (λ n. n + consumptions x sort ss) none ∙ omega (arith) ∙ r.total;
      }
  rules_step s ss t false e a b h more =
      let c = closed ss t h in
      let one : (on s).consumed ≡ 1 = consumed_once (on s) a e in
      let all : (on s).consumed + consumptions x sort ss ≡ 1 = omega (arith, one, c.total) in
      record {
        ordinary = All-cons (λ s. IsTrue (is_ordinary (on s))) s ss a c.ordinary;
        allowed = All-cons (λ s. IsTrue (is_allowed (held_around x s.around) (on s))) s ss b c.allowed;
        afterwards = ((λ n. c.untouched), c.afterwards);
        total = all ∙ ap times (sym c.state);
      }

  pub rules : (ss : List Step) (t : Bool) → judge x sort (going false) ss ≡ going t → Rules ss t
  rules [] t h = record {
    ordinary = All-nil (λ s. IsTrue (is_ordinary (on s)));
    allowed = All-nil (λ s. IsTrue (is_allowed (held_around x s.around) (on s)));
    afterwards = tt;
    total = ap times (going_same false t h);
  }
  rules (s ∷ ss) t h =
      let w = live_going (is_ordinary (on s)) (is_allowed (held_around x s.around) (on s)) ((on s).consumed == 0) ss
      t h in
      rules_step s ss t ((on s).consumed == 0) refl w.0 w.1 w.2 (λ g. rules ss t g)

-- the end of a path
end_spent : (x : Bytes) (sort : Sort) (ss : List Step) (u t : Bool) → at_end sort u ≡ going t →
    consumptions x sort ss ≡ times u → IsSpent sort (consumptions x sort ss)
end_spent x sorts.Free ss u t h e = none_consumed x ss
end_spent x sorts.WriteReference ss true t h e = omega (arith, e)
end_spent x sorts.WriteReference ss false t h e = omega (arith, e)
end_spent x sorts.Linear ss true t h e = e
end_spent x sorts.Linear ss false t h e = broken_going kinds.Unused t h

pub fate_good : (x : Bytes) (sort : Sort) (ss : List Step) (t : Bool) → fate x sort ss ≡ going t →
    GoodPath x sort ss
fate_good x sort ss t h =
    let e = end_going (judge x sort (going false) ss) sort t h in
    let r = rules x sort ss e.0 e.1 in
    record {
      ordinary = r.ordinary;
      allowed = r.allowed;
      afterwards = r.afterwards;
      spent =
          end_spent x sort ss e.0 t e.2 r.total;
    }

-- And back.
module _ (x : Bytes) (sort : Sort) where
  abbrev at : Step → Counts
  at s = counts_at x sort s

  still : (ss : List Step) → All (λ s. IsTrue (is_untouched (at s))) ss → judge x sort (going true) ss
      ≡ going true
  still [] a = refl
  still (s ∷ ss) a =
      ap (λ b. judge x sort (if b then going true else broken kinds.Again) ss)
      (All-head (λ s. IsTrue (is_untouched (at s))) s ss a)
      ∙ still ss (All-tail (λ s. IsTrue (is_untouched (at s))) s ss a)

  none_left : (ss : List Step) → All (λ s. IsTrue (is_untouched (at s))) ss → consumptions x sort ss ≡ 0
  none_left [] a = refl
  none_left (s ∷ ss) a =
      let zero : (at s).consumed ≡ 0 =
      eqb-true (at s).consumed 0
      (unconsumed_of (at s) (All-head (λ s. IsTrue (is_untouched (at s))) s ss a)) in
      let rest = none_left ss (All-tail (λ s. IsTrue (is_untouched (at s))) s ss a) in
      omega (arith, zero, rest)

  abbrev Ends : List Step → Type 0
  Ends ss = (u : Bool) × (judge x sort (going false) ss ≡ going u) × (consumptions x sort ss ≡ times u)

  ends_step : (s : Step) (ss : List Step) (c : Bool) → ((at s).consumed == 0) ≡ c → is_ordinary (at s)
      ≡ true →
      ((at s).consumed ≢ 0 → All (λ s. IsTrue (is_untouched (at s))) ss) → Ends ss →
      (u : Bool) × (judge x sort (going (not c)) ss ≡ going u) × (consumptions x sort (s ∷ ss) ≡ times u)
  ends_step s ss true e a g r =
      let zero : (at s).consumed ≡ 0 = eqb-true (at s).consumed 0 e in
      let rest = r.2 in
      (r.0, r.1, ap (λ n. n + consumptions x sort ss) zero ∙ omega arith ∙ rest)
  ends_step s ss false e a g r =
      let one : (at s).consumed ≡ 1 = consumed_once (at s) a e in
      let untouched = g (omega (arith, one)) in
      let rest = none_left ss untouched in
      (true, still ss untouched, omega (arith, one, rest))

  ends : (ss : List Step) → All (λ s. IsTrue (is_ordinary (at s))) ss →
      All (λ s. IsTrue (is_allowed (held_around x s.around) (at s))) ss → UntouchedAfterwards x sort ss → Ends ss
  ends [] a b c = (false, refl, refl)
  ends (s ∷ ss) a b c =
      let p = All-head (λ s. IsTrue (is_ordinary (at s))) s ss a in
      let q = All-head (λ s. IsTrue (is_allowed (held_around x s.around) (at s))) s ss b in
      let r = ends ss (All-tail (λ s. IsTrue (is_ordinary (at s))) s ss a)
      (All-tail (λ s. IsTrue (is_allowed (held_around x s.around) (at s))) s ss b) c.1 in
      let w = ends_step s ss ((at s).consumed == 0) refl p c.0 r in (
        w.0,
        ap (λ b. judge x sort
            (if b then (if is_allowed (held_around x s.around) (at s) then going (not ((at s).consumed == 0)) else
            broken kinds.Borrowed) else broken kinds.Clash) ss) p
            ∙ ap (λ b. judge x sort (if b then going (not ((at s).consumed == 0)) else broken kinds.Borrowed)
            ss) q
            ∙ w.1,
        w.2,
      )

ends_well : (sort : Sort) (u : Bool) (n : ℕ) → n ≡ times u → IsSpent sort n → (t : Bool)
    × (at_end sort u ≡ going t)
ends_well sorts.Free u n e h = (u, refl)
ends_well sorts.WriteReference u n e h = (u, refl)
ends_well sorts.Linear true n e h = (true, refl)
ends_well sorts.Linear false n e h = absurd (omega (arith, e, h))

pub good_fate : (x : Bytes) (sort : Sort) (ss : List Step) → GoodPath x sort ss → (t : Bool)
    × (fate x sort ss ≡ going t)
good_fate x sort ss g =
    let e = ends x sort ss g.ordinary g.allowed g.afterwards in
    let w = ends_well sort e.0 (consumptions x sort ss) e.2 g.spent in
    (w.0, ap (onward (at_end sort)) e.1 ∙ w.1)
