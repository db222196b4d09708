-- What is told of a running program, and how it fits together: births balance with what is held, and the
-- borrows that lie open are those that were opened and aren't closed.
use Rattle.std.specs.Prelude.{◌≡◌, ◌⊎◌, ℕ, suc, ◌+◌, ◌==◌, Bool, List, [], ◌∷◌, ◌++◌, map, Option, nat_lt}
use Rattle.au_effects.specs.Values.{Place}
use Rattle.au_effects.specs.Worlds.{Deed, born, closed, consumed, opened, used}
use Rattle.au_events.specs.Counts.{births, closings, ends, one_if, openings}
use Rattle.au_events.specs.Events.{AtMostOnce, Inside, OwnMade}

-- a borrow that lies open: its number, whether it writes, and its place
pub record Open : Type 0 where
  pub number : ℕ
  pub writes : Bool
  pub place : Place

-- their numbers
abbrev pub numbers : List Open → List ℕ
numbers lying = map (λ (one : Open). one.number) lying

-- What is told so far, with the numbers of the next birth and of the next borrow, and the borrows that lie
-- open, the newest first.
pub record Told (B : Type 0) : Type 0 where
  pub next_birth : ℕ
  pub next_borrow : ℕ
  pub lying : List Open
  pub events : List (Deed B)

-- how often a number is that of a borrow in a list
abbrev pub times : ℕ → List Open → ℕ
times b [] = 0
times b (c ∷ rest) = one_if (c.number == b) + times b rest

-- a borrow is one of a list
abbrev pub IsOpen : Open → List Open → Type 0
IsOpen one [] = ⊥
IsOpen one (c ∷ rest) = (c ≡ one) ⊎ IsOpen one rest

module _ {B : Type 0} where
  -- one more birth, with its home
  abbrev pub with_birth : B → List ℕ → Told B → Told B
  with_birth of home w = record w {
    next_birth = suc w.next_birth;
    events = w.events ++ born w.next_birth of home ∷ [];
  }

  -- a birth is consumed
  abbrev pub with_end : ℕ → Told B → Told B
  with_end i w = record w { events = w.events ++ consumed i ∷ [] }

  -- one more borrow lies open, which writes or doesn't, and has this place
  abbrev pub with_opening : Bool → Place → Told B → Told B
  with_opening writes place w = record w {
    next_borrow = suc w.next_borrow;
    lying = record { number = w.next_borrow; writes = writes; place = place } ∷ w.lying;
    events = w.events ++ opened w.next_borrow ∷ [];
  }

  -- a borrow is used
  abbrev pub with_use : ℕ → Told B → Told B
  with_use b w = record w { events = w.events ++ used b ∷ [] }

  -- a borrow is closed, and these still lie open
  abbrev pub with_closing : Open → List Open → Told B → Told B
  with_closing b left w = record w { lying = left; events = w.events ++ closed b.number ∷ [] }

  -- borrows are closed, in this order, and then these still lie open
  abbrev pub with_closings : List Open → List Open → Told B → Told B
  with_closings [] left w = w
  with_closings (b ∷ rest) left w = with_closings rest left (with_closing b (rest ++ left) w)

  module _ (owner : B → Option (List ℕ)) where
    -- What is told fits, where of each birth so many are held: each that was born is held or was consumed;
    -- numbers of births and borrows are given in order; the lives of births, the uses of borrows and the
    -- homes of what is born are as they should be; and what was opened lies open or was closed.
    pub record Fits (count : ℕ → ℕ) (w : Told B) : Type 0 where
      pub even : (i : ℕ) → count i + ends i w.events ≡ births i w.events
      pub fresh : (i : ℕ) → births i w.events ≡ one_if (nat_lt i w.next_birth)
      pub lives : AtMostOnce w.events
      pub inside : Inside w.events
      pub homes : OwnMade owner w.events
      pub begun : (b : ℕ) → openings b w.events ≡ one_if (nat_lt b w.next_borrow)
      pub open_now : (b : ℕ) → closings b w.events + times b w.lying ≡ openings b w.events
