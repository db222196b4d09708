-- Tokens begin and end, and what holds at the end.
use Rattle.std.specs.Prelude.{◌≡◌, ℕ, false, List, [], ◌∷◌, ◌++◌, Option}
use Rattle.au_events.specs.Events.{AllClosed, AtMostOnce, Inside, Once, OwnMade}
use Rattle.au_places.specs.Memories.{Memory}
use Rattle.au_types.specs.Types.{Meaning}
use Rattle.au_memory.specs.Forests.{Holds, Made, empty, shut}
use Rattle.au_memory.specs.Loans.{Types}
use Rattle.au_lending.specs.Ending.{freed}
use Rattle.au_borrows.specs.Orders.{Act, is_active}
use Rattle.au_borrows.specs.Told.{Open, Told, with_closings}
use Rattle.au_acting.specs.Safe.{IsSafe}

module _ (B : Type 0) (types : Types) (owner : B → Option (List ℕ)) (acts : List Act) (hold : Holds)
    (type : ℕ → ℕ → Meaning) (under : Made) (m : Memory (List ℕ)) (w : Told B) where
  -- A token begins: it wasn't active, and no name is shut for it.
  abbrev pub Begins : Type 0
  Begins =
      IsSafe types owner acts hold type under m w
      → (z : ℕ) × (is_active acts z ≡ false) × ((frame x : ℕ) → hold frame x ≡ shut z → ⊥)
      × IsSafe types owner (record { token = z; base = w.lying } ∷ acts) hold type under m w

  -- The newest token ends, with the borrows that were opened since it began.
  abbrev pub Ends : Type 0
  Ends =
      (a : Act) (older : List Act) → acts ≡ a ∷ older → IsSafe types owner acts hold type under m w
      → (newer : List Open) × (w.lying ≡ newer ++ a.base)
      × IsSafe types owner older (λ frame x. freed a.token (hold frame x)) type under m
      (with_closings newer a.base w)

  -- What is told is as it should be at each moment.
  abbrev pub Tells : Type 0
  Tells =
      IsSafe types owner acts hold type under m w
      → AtMostOnce w.events × Inside w.events × OwnMade owner w.events

  -- Where no token is active, all names are empty, and no value is under way, each birth was consumed; and
  -- each borrow was closed, where none lies open.
  abbrev pub Finishes : Type 0
  Finishes =
      acts ≡ [] → under ≡ [] → ((frame x : ℕ) → hold frame x ≡ empty)
      → IsSafe types owner acts hold type under m w
      → Once w.events × (w.lying ≡ [] → AllClosed w.events)
