-- The lives of births, event by event.
use Rattle.std.proofs.Common.{◌≡◌, ◌⊎◌, ℕ, ◌+◌, ◌≤◌, ◌<◌, ◌==◌, true, List, [], ◌∷◌, ◌++◌, refl, ap, sym, subst, ◌∙◌}
use Rattle.std.proofs.Common.{inl, inr, arith}
use Rattle.std.proofs.lemmas.Bool.{cases_lt, eq-eqb}
use Rattle.au_effects.specs.Worlds.{Deed, consumed}
use Rattle.au_events.specs.Counts.{births, ends, one_if, tells_birth, tells_end}
use Rattle.au_events.specs.Events.{IsTold, IsBornOnce, AtMostOnce, Once}
use Rattle.au_events.specs.Laws.{FitsLife}
use Rattle.au_events.proofs.CountLemmas.{Stands, counted, push_splits, summed_push}

module _ {B : Type 0} where
  pub none_told : AtMostOnce {B = B} []
  none_told = record { born = λ id told. absurd (omega arith); consumed = λ id. omega arith }

  -- an event tells that this id is consumed
  end_of : (e : Deed B) (id : ℕ) → e ≡ consumed id → tells_end id e ≡ 1
  end_of e id same = ap (tells_end id) same ∙ ap one_if (eq-eqb id id refl)

  -- an id that isn't told of is neither born nor consumed, and each other is born once
  pub bounded : (es : List (Deed B)) → AtMostOnce es → (id : ℕ)
      → (births id es ≤ 1) × (ends id es ≤ births id es)
  bounded es all id = by (cases_lt 0 (births id es + ends id es))
    where
      by : (0 < births id es + ends id es) ⊎ (births id es + ends id es ≤ 0)
          → (births id es ≤ 1) × (ends id es ≤ births id es)
      by (inl told) = let once = (all.born id told).once in let most = all.consumed id in omega arith
      by (inr none) = omega arith

  later_pushed : (es : List (Deed B)) (e : Deed B) → AtMostOnce es → (id : ℕ) → FitsLife es e id
      → (before : List (Deed B)) → Stands es e before (consumed id) → births id before ≡ 1
  later_pushed es e all id fits before (inl both) =
      let told = end_of e id both.1 in
      let fresh = fits.fresh in
      let alive = fits.alive in
      let one : births id es ≡ 1 = omega arith in
      subst (λ l. births id l ≡ 1) both.0 one
  later_pushed es e all id fits before (inr pair) =
      let told = end_of (consumed id) id refl in
      let there = counted (tells_end id) es before pair.0 (consumed id) pair.1 in
      let is : IsTold id es = omega arith in
      (all.born id is).later before pair.0 pair.1

  pub lives_pushed : (es : List (Deed B)) (e : Deed B) → AtMostOnce es → ((id : ℕ) → FitsLife es e id)
      → AtMostOnce (es ++ e ∷ [])
  lives_pushed es e all fits = record {
    born = λ id told. record {
      once =
          let b = summed_push (tells_birth id) es e in
          let n = summed_push (tells_end id) es e in
          let fresh = (fits id).fresh in
          let alive = (fits id).alive in
          omega arith;
      later = λ before after h. later_pushed es e all id (fits id) before
          (push_splits es e before after (consumed id) h);
    };
    consumed = λ id.
        let n = summed_push (tells_end id) es e in
        let fresh = (fits id).fresh in
        let alive = (fits id).alive in
        omega arith;
  }

  pub lives_ended : (es : List (Deed B)) → AtMostOnce es → ((id : ℕ) → births id es ≡ ends id es) → Once es
  lives_ended es all even = record {
    born = all.born;
    consumed = λ id told. let same = even id in let once = (all.born id told).once in omega arith;
  }

  pub once_at_most : (es : List (Deed B)) → Once es → AtMostOnce es
  once_at_most es all = record { born = all.born; consumed = λ id. by id (cases_lt 0 (births id es + ends id es)) }
    where
      by : (id : ℕ) → (0 < births id es + ends id es) ⊎ (births id es + ends id es ≤ 0) → ends id es ≤ 1
      by id (inl told) = let once = all.consumed id told in omega arith
      by id (inr none) = omega arith
