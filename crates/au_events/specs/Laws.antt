-- How what is said of events goes on from one event to the next.
use Rattle.std.specs.Prelude.{◌≡◌, ℕ, ◌+◌, ◌≤◌, List, [], ◌∷◌, ◌++◌, Option, Some}
use Rattle.au_effects.specs.Worlds.{Deed, born, used}
use Rattle.au_events.specs.Counts.{births, ends, openings, closings, tells_birth, tells_end, tells_opening}
use Rattle.au_events.specs.Counts.{tells_closing}
use Rattle.au_events.specs.Events.{AtMostOnce, Once, Inside, OwnMade}

module _ {B : Type 0} where
  -- What a further event tells of an id fits: it isn't born again, and is consumed only where it was born and
  -- isn't consumed.
  pub record FitsLife (events : List (Deed B)) (event : Deed B) (id : ℕ) : Type 0 where
    pub fresh : births id events + tells_birth id event ≤ 1
    pub alive : ends id events + tells_end id event ≤ births id events

  -- What a further event tells of a borrow fits: it isn't opened again, it isn't closed again, and it is used
  -- only while it is open.
  pub record FitsBorrow (events : List (Deed B)) (event : Deed B) (b : ℕ) : Type 0 where
    pub opens : openings b events + tells_opening b event ≤ 1
    pub closes : closings b events + tells_closing b event ≤ 1
    pub uses : event ≡ used b → (1 ≤ openings b events) × (closings b events ≡ 0)

  -- what is born has its home in the module that owns its type, if one does
  abbrev pub FitsHome : (B → Option (List ℕ)) → Deed B → Type 0
  FitsHome owner event =
      (id : ℕ) (of : B) (home own : List ℕ) → event ≡ born id of home → owner of ≡ Some own → home ≡ own

module _ (B : Type 0) where
  -- Each id is told of at most once as long as each event fits.
  abbrev pub LivesGoOn : Type 0
  LivesGoOn =
      (events : List (Deed B)) (event : Deed B) → AtMostOnce events
      → ((id : ℕ) → FitsLife events event id) → AtMostOnce (events ++ event ∷ [])

  -- What is told at most once is told once where each birth has its end.
  abbrev pub LivesEnd : Type 0
  LivesEnd =
      (events : List (Deed B)) → AtMostOnce events → ((id : ℕ) → births id events ≡ ends id events)
      → Once events

  -- what is told once is told at most once
  abbrev pub OnceIsAtMostOnce : Type 0
  OnceIsAtMostOnce = (events : List (Deed B)) → Once events → AtMostOnce events

  -- Uses stay inside of their borrows as long as each event fits.
  abbrev pub UsesGoOn : Type 0
  UsesGoOn =
      (events : List (Deed B)) (event : Deed B) → Inside events
      → ((b : ℕ) → FitsBorrow events event b) → Inside (events ++ event ∷ [])

  -- What has an owner is made in its own module as long as each event fits.
  abbrev pub HomesGoOn : Type 0
  HomesGoOn =
      (owner : B → Option (List ℕ)) (events : List (Deed B)) (event : Deed B) → OwnMade owner events
      → FitsHome owner event → OwnMade owner (events ++ event ∷ [])
