-- A broken fate tells the first breach.
use Rattle.std.proofs.Common.{◌≡◌, Bool, true, false, not, List, [], ◌∷◌, ◌++◌, ◌⊎◌, inl, inr, refl, sym, ap}
use Rattle.std.proofs.Common.{subst, ◌∙◌, if◌then◌else◌}
use Rattle.au_syntax.specs.Plain.{Bytes}
use Rattle.au_lives.specs.declared.lives.LifeKind.{LifeKind}
use Rattle.au_lives.specs.declared.lives.LifeKind.TheVariants as kinds
use Rattle.au_lives.specs.declared.lives.Sort.{Sort}
use Rattle.au_lives.specs.declared.lives.Sort.TheVariants as sorts
use Rattle.au_lives.specs.Paths.{Step}
use Rattle.au_lives.specs.Lives.{is_untouched, is_ordinary, is_allowed, held_around, counts_at, consumptions}
use Rattle.au_lives.specs.Lives.{Fate, going, broken, verdict, onward, at_end, judge, fate}
use Rattle.au_lives.specs.Breaches.{KeepsRules, Breaks, BreaksAtStep, BreaksFirst}
use Rattle.au_lives.proofs.TurnLemmas.{broken_going}
use Rattle.au_lives.proofs.GoodLemmas.{times, Rules, rules, judge_broken}

fate_known : (f : Fate) → ((w : Bool) × (f ≡ going w)) ⊎ ((k : LifeKind) × (f ≡ broken k))
fate_known (going w) = inl (w, refl)
fate_known (broken k) = inr (k, refl)

abbrev kind_of : Fate → LifeKind
kind_of (going w) = kinds.Unused
kind_of (broken k) = k

module _ (x : Bytes) (sort : Sort) where
  -- the step that breaks, and the state before it
  record Stops (u : Bool) (k : LifeKind) (ss : List Step) : Type 0 where
    pub before : List Step
    pub at : Step
    pub after : List Step
    pub splits : ss ≡ before ++ (at ∷ after)
    pub state : Bool
    pub reaches : judge x sort (going u) before ≡ going state
    pub breaks : verdict (held_around x at.around) (counts_at x sort at) state ≡ broken k

  stops : (u : Bool) (k : LifeKind) (ss : List Step) → judge x sort (going u) ss ≡ broken k → Stops u k ss
  stops u k [] h = broken_going k u (sym h)
  stops u k (s ∷ ss) h = elim (fate_known (verdict (held_around x s.around) (counts_at x sort s) u)) [
    | inl w ↦
        let t = stops w.0 k ss (ap (λ f. judge x sort f ss) (sym w.1) ∙ h) in
        record {
          before = s ∷ t.before;
          at = t.at;
          after = t.after;
          splits = ap (λ l. s ∷ l) t.splits;
          state = t.state;
          reaches = ap (λ f. judge x sort f t.before) w.1 ∙ t.reaches;
          breaks = t.breaks;
        }
    | inr w ↦
        let same : broken w.0 ≡ broken k = sym (judge_broken x sort w.0 ss)
        ∙ ap (λ f. judge x sort f ss) (sym w.1) ∙ h in
        record {
          before = [];
          at = s;
          after = ss;
          splits = refl;
          state = u;
          reaches = refl;
          breaks = w.1
              ∙ same;
        }
  ]

  kept : (ss : List Step) (t : Bool) → Rules x sort ss t → KeepsRules x sort ss
  kept ss t r = record { ordinary = r.ordinary; allowed = r.allowed; afterwards = r.afterwards }

  by_kind : (before : List Step) (s : Step) (j k : LifeKind) → broken j ≡ broken k →
      Breaks x sort j before s → Breaks x sort k before s
  by_kind before s j k e h = subst (λ i. Breaks x sort i before s) (ap kind_of e) h

  spent_breaks : (before : List Step) (s : Step) (k : LifeKind) (b : Bool) → is_untouched (counts_at x sort s)
      ≡ b → consumptions x sort before ≡ 1 →
      (if b then going true else broken kinds.Again) ≡ broken k → Breaks x sort k before s
  spent_breaks before s k true e n h = broken_going k true (sym h)
  spent_breaks before s k false e n h = by_kind before s kinds.Again k h (n, e)

  live_breaks : (before : List Step) (s : Step) (k : LifeKind) (a b c : Bool) →
      is_ordinary (counts_at x sort s) ≡ a → is_allowed (held_around x s.around) (counts_at x sort s) ≡ b →
      consumptions x sort before ≡ 0 →
      (if a then (if b then going (not c) else broken kinds.Borrowed) else broken kinds.Clash) ≡ broken k →
      Breaks x sort k before s
  live_breaks before s k true true c e f n h = broken_going k (not c) (sym h)
  live_breaks before s k true false c e f n h = by_kind before s kinds.Borrowed k h (n, (e, f))
  live_breaks before s k false b c e f n h = by_kind before s kinds.Clash k h (n, e)

  how : (before : List Step) (s : Step) (k : LifeKind) (w : Bool) → consumptions x sort before ≡ times w →
      verdict (held_around x s.around) (counts_at x sort s) w ≡ broken k → Breaks x sort k before s
  how before s k true n h = spent_breaks before s k (is_untouched (counts_at x sort s)) refl n h
  how before s k false n h =
      live_breaks before s k (is_ordinary (counts_at x sort s))
      (is_allowed (held_around x s.around) (counts_at x sort s)) _ refl refl n h

  at_step : (k : LifeKind) (ss : List Step) → judge x sort (going false) ss ≡ broken k →
      BreaksAtStep x sort k ss
  at_step k ss h =
      let t = stops false k ss h in
      let r = rules x sort t.before t.state t.reaches in
      record {
        before = t.before;
        at = t.at;
        after = t.after;
        splits = t.splits;
        keeps =
            kept t.before t.state r;
        breaks = how t.before t.at k t.state r.total t.breaks;
      }

ends_broken : (sort : Sort) (w : Bool) (k : LifeKind) → at_end sort w ≡ broken k → (sort ≡ sorts.Linear)
    × (w ≡ false) × (k ≡ kinds.Unused)
ends_broken sorts.Free w k h = broken_going k w (sym h)
ends_broken sorts.WriteReference w k h = broken_going k w (sym h)
ends_broken sorts.Linear true k h = broken_going k true (sym h)
ends_broken sorts.Linear false k h = (refl, refl, sym (ap kind_of h))

first_on : (x : Bytes) (sort : Sort) (k : LifeKind) (ss : List Step) (f : Fate) →
    judge x sort (going false) ss ≡ f → onward (at_end sort) f ≡ broken k → BreaksFirst x sort k ss
first_on x sort k ss (broken j) e h = inl (at_step x sort k ss (e ∙ h))
first_on x sort k ss (going w) e h =
    let d = ends_broken sort w k h in
    let r = rules x sort ss w e in
    inr (record { unused = d.2; owed = d.0; keeps = kept x sort ss w r; never = r.total ∙ ap times d.1 })

pub first_breach : (x : Bytes) (sort : Sort) (k : LifeKind) (ss : List Step) → fate x sort ss ≡ broken k →
    BreaksFirst x sort k ss
first_breach x sort k ss h = first_on x sort k ss (judge x sort (going false) ss) refl h
