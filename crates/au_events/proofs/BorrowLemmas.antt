-- The uses of borrows, event by event.
use Rattle.std.proofs.Common.{◌≡◌, ℕ, ◌+◌, ◌≤◌, List, [], ◌∷◌, ◌++◌, subst, sym, inl, inr, arith}
use Rattle.au_effects.specs.Worlds.{Deed, used}
use Rattle.au_events.specs.Counts.{openings, closings, tells_opening, tells_closing}
use Rattle.au_events.specs.Events.{Inside}
use Rattle.au_events.specs.Laws.{FitsBorrow}
use Rattle.au_events.proofs.CountLemmas.{Stands, push_splits, summed_push}

module _ {B : Type 0} where
  pub none_used : Inside {B = B} []
  none_used = record {
    uses = λ b before after h. absurd (not_there before after b h);
    opened = λ b. omega arith;
    closed = λ b. omega arith;
  }
    where
      not_there : (before after : List (Deed B)) (b : ℕ) → [] ≡ before ++ used b ∷ after → ⊥
      not_there [] after b h = cc
      not_there (e ∷ before) after b h = cc

  use_pushed : (es : List (Deed B)) (e : Deed B) → Inside es → (b : ℕ) → FitsBorrow es e b
      → (before : List (Deed B)) → Stands es e before (used b)
      → (1 ≤ openings b before) × (closings b before ≡ 0)
  use_pushed es e all b fits before (inl both) =
      subst (λ l. (1 ≤ openings b l) × (closings b l ≡ 0)) both.0 (fits.uses both.1)
  use_pushed es e all b fits before (inr pair) = all.uses b before pair.0 pair.1

  pub uses_pushed : (es : List (Deed B)) (e : Deed B) → Inside es → ((b : ℕ) → FitsBorrow es e b)
      → Inside (es ++ e ∷ [])
  uses_pushed es e all fits = record {
    uses = λ b before after h. use_pushed es e all b (fits b) before (push_splits es e before after (used b) h);
    opened = λ b. let n = summed_push (tells_opening b) es e in let o = (fits b).opens in omega arith;
    closed = λ b. let n = summed_push (tells_closing b) es e in let c = (fits b).closes in omega arith;
  }
