-- How often something is told in a list of events.
use Rattle.std.specs.Prelude.{ℕ, ◌+◌, ◌≤◌, ◌==◌, Bool, true, false, List, [], ◌∷◌}
use Rattle.au_effects.specs.Worlds.{Deed, born, consumed, opened, used, closed}

-- one for what is so, and none for what isn't
abbrev pub one_if : Bool → ℕ
one_if true = 1
one_if false = 0

module _ {B : Type 0} where
  -- how much the events of a list come to, of which each comes to so much
  abbrev pub summed : (Deed B → ℕ) → List (Deed B) → ℕ
  summed each [] = 0
  summed each (e ∷ es) = each e + summed each es

  -- an event is the birth of an id, or that the id is consumed
  abbrev pub tells_birth : ℕ → Deed B → ℕ
  tells_birth id (born other of home) = one_if (other == id)
  tells_birth id event = 0

  abbrev pub tells_end : ℕ → Deed B → ℕ
  tells_end id (consumed other) = one_if (other == id)
  tells_end id event = 0

  -- an event is the opening of a borrow, or its closing
  abbrev pub tells_opening : ℕ → Deed B → ℕ
  tells_opening b (opened other) = one_if (other == b)
  tells_opening b event = 0

  abbrev pub tells_closing : ℕ → Deed B → ℕ
  tells_closing b (closed other) = one_if (other == b)
  tells_closing b event = 0

  -- how often an id is born in a list of events, and how often it is consumed
  abbrev pub births : ℕ → List (Deed B) → ℕ
  births id events = summed (tells_birth id) events

  abbrev pub ends : ℕ → List (Deed B) → ℕ
  ends id events = summed (tells_end id) events

  -- how often a borrow is opened, and how often it is closed
  abbrev pub openings : ℕ → List (Deed B) → ℕ
  openings b events = summed (tells_opening b) events

  abbrev pub closings : ℕ → List (Deed B) → ℕ
  closings b events = summed (tells_closing b) events
