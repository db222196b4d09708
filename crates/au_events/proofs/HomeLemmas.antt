-- The homes of births, event by event.
use Rattle.std.proofs.Common.{◌≡◌, ℕ, List, [], ◌∷◌, ◌++◌, Option, Some, inl, inr}
use Rattle.au_effects.specs.Worlds.{Deed, born}
use Rattle.au_events.specs.Events.{OwnMade}
use Rattle.au_events.specs.Laws.{FitsHome}
use Rattle.au_events.proofs.CountLemmas.{Stands, push_splits}

module _ {B : Type 0} (owner : B → Option (List ℕ)) where
  pub none_made : OwnMade owner []
  none_made id of home [] after h own is = cc
  none_made id of home (e ∷ before) after h own is = cc

  home_pushed : (es : List (Deed B)) (e : Deed B) → OwnMade owner es → FitsHome owner e
      → (id : ℕ) (of : B) (home : List ℕ) (before : List (Deed B)) → Stands es e before (born id of home)
      → (own : List ℕ) → owner of ≡ Some own → home ≡ own
  home_pushed es e all fits id of home before (inl both) own is = fits id of home own both.1 is
  home_pushed es e all fits id of home before (inr pair) own is =
      all id of home before pair.0 pair.1 own is

  pub homes_pushed : (es : List (Deed B)) (e : Deed B) → OwnMade owner es → FitsHome owner e
      → OwnMade owner (es ++ e ∷ [])
  homes_pushed es e all fits id of home before after h own is =
      home_pushed es e all fits id of home before (push_splits es e before after (born id of home) h) own is
