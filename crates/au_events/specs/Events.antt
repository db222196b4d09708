-- What the events of a run are to be like: the life of each birth, the uses of each borrow, and the homes of
-- what is born.
use Rattle.std.specs.Prelude.{◌≡◌, ℕ, ◌+◌, ◌≤◌, List, ◌∷◌, ◌++◌, Option, Some}
use Rattle.au_effects.specs.Worlds.{Deed, born, consumed, used}
use Rattle.au_events.specs.Counts.{births, ends, openings, closings}

module _ {B : Type 0} where
  -- ---- births

  -- an id is told of: it is born, or consumed
  abbrev pub IsTold : ℕ → List (Deed B) → Type 0
  IsTold id events = 1 ≤ births id events + ends id events

  -- An id is born exactly once, and where it is consumed, that is later.
  pub record IsBornOnce (id : ℕ) (events : List (Deed B)) : Type 0 where
    pub once : births id events ≡ 1
    pub later : (before after : List (Deed B)) → events ≡ before ++ consumed id ∷ after
        → births id before ≡ 1

  -- Each id that is told of is born exactly once, and consumed at most once, later.
  pub record AtMostOnce (events : List (Deed B)) : Type 0 where
    pub born : (id : ℕ) → IsTold id events → IsBornOnce id events
    pub consumed : (id : ℕ) → ends id events ≤ 1

  -- Each id that is told of is born exactly once, and consumed exactly once, later.
  pub record Once (events : List (Deed B)) : Type 0 where
    pub born : (id : ℕ) → IsTold id events → IsBornOnce id events
    pub consumed : (id : ℕ) → IsTold id events → ends id events ≡ 1

  -- ---- borrows

  -- Each use of a borrow stands after its opening and not after its closing. Each borrow is opened at most
  -- once, and closed at most once.
  pub record Inside (events : List (Deed B)) : Type 0 where
    pub uses : (b : ℕ) (before after : List (Deed B)) → events ≡ before ++ used b ∷ after
        → (1 ≤ openings b before) × (closings b before ≡ 0)
    pub opened : (b : ℕ) → openings b events ≤ 1
    pub closed : (b : ℕ) → closings b events ≤ 1

  -- each borrow that is opened is closed
  abbrev pub AllClosed : List (Deed B) → Type 0
  AllClosed events = (b : ℕ) → 1 ≤ openings b events → 1 ≤ closings b events

  -- ---- homes

  -- What is born of a type that has an owner, which is the module that alone makes its values, is born in the
  -- text of that module.
  abbrev pub OwnMade : (B → Option (List ℕ)) → List (Deed B) → Type 0
  OwnMade owner events =
      (id : ℕ) (of : B) (home : List ℕ) (before after : List (Deed B))
      → events ≡ before ++ born id of home ∷ after
      → (own : List ℕ) → owner of ≡ Some own → home ≡ own
