-- How the invariant goes on from one action to the next: what an action makes of memory, what it tells, and
-- the rows that it adds.
use Rattle.std.specs.Prelude.{◌≡◌, ◌⊎◌, ℕ, ◌+◌, ◌<◌, ◌≤◌, ◌==◌, Bool, true}
use Rattle.std.specs.Prelude.{List, [], ◌∷◌, ◌++◌, Option, Some, None}
use Rattle.au_effects.specs.Values.{Place}
use Rattle.au_effects.specs.Worlds.{born}
use Rattle.au_events.specs.Counts.{one_if}
use Rattle.au_events.specs.Events.{AllClosed, Once}
use Rattle.au_events.specs.Laws.{FitsHome}
use Rattle.au_places.specs.Memories.{Memory}
use Rattle.au_places.specs.Places.{birth}
use Rattle.au_types.specs.Types.{Meaning}
use Rattle.au_memory.specs.Forests.{Core, Holds, Made, in_forest, in_list}
use Rattle.au_memory.specs.Loans.{Types, Loan, Table, Grows, part_of, IsLoan, IsWriter}
use Rattle.au_borrows.specs.Invariants.{Inv, is_writer}
use Rattle.au_borrows.specs.Orders.{Act, is_active}
use Rattle.au_borrows.specs.Told.{Open, Told, with_birth, with_closings, with_end, with_opening, with_use}

-- a number from which on a table has no rows
abbrev pub EndsBefore : Table → ℕ → Type 0
EndsBefore s g = (j : ℕ) → g ≤ j → s j ≡ None

-- A loan that is new is a part of one of a table that writes, of its borrow and its token.
pub record IsNewPart (s : Table) (g : ℕ) (l : Loan) : Type 0 where
  pub from : ℕ
  pub row : Loan
  pub has : s from ≡ Some row
  pub writes : IsWriter row.via
  pub via : l.via ≡ part_of from
  pub token : row.token ≡ l.token
  pub borrow : row.borrow ≡ l.borrow
  pub fresh : EndsBefore s g

-- A table has the rows of another, and its other loans are new parts.
pub record AreParts (s q : Table) : Type 0 where
  pub grows : Grows s q
  pub each : (g : ℕ) (l : Loan) → q g ≡ Some l → IsLoan l.via → (s g ≡ Some l) ⊎ IsNewPart s g l

-- A loan is the one of a borrow that is opened, for this token: it is no part.
pub record IsOpening (z b : ℕ) (writes : Bool) (l : Loan) : Type 0 where
  pub token : l.token ≡ z
  pub borrow : l.borrow ≡ b
  pub kind : is_writer l.via ≡ writes
  pub is_loan : IsLoan l.via
  pub no_part : (from : ℕ) → l.via ≡ part_of from → ⊥

-- A table has the rows of another, and one loan more, that of a borrow that is opened.
pub record AreOpened (z b : ℕ) (writes : Bool) (place : Place) (s q : Table) : Type 0 where
  pub grows : Grows s q
  pub loan : ℕ
  pub row : Loan
  pub has : q loan ≡ Some row
  pub is : IsOpening z b writes row
  pub at : row.to ≡ place
  pub each : (g : ℕ) (l : Loan) → q g ≡ Some l → IsLoan l.via
      → (s g ≡ Some l) ⊎ ((g ≡ loan) × IsOpening z b writes l)
  pub fresh : EndsBefore s loan

module _ (B : Type 0) (types : Types) (owner : B → Option (List ℕ)) (acts : List Act) (hold : Holds)
    (type : ℕ → ℕ → Meaning) (under : Made) (s : Table) (m : Memory (List ℕ)) (w : Told B)
    (inv : Inv types owner acts hold type under s m w) where
  -- how often a birth is held
  abbrev pub held : ℕ → ℕ
  held i = in_forest (birth i) inv.core.top inv.core.forest + in_list (birth i) inv.core.trees

  module _ (clock : ℕ) (others : Holds) (kinds : ℕ → ℕ → Meaning) (now : Made) (q : Table)
      (n : Memory (List ℕ))
      (after : Core types clock (is_active acts) (is_active acts) others kinds now q n) where
    -- how often a birth is held afterwards
    abbrev pub held_after : ℕ → ℕ
    held_after i = in_forest (birth i) after.top after.forest + in_list (birth i) after.trees

    -- An action that tells nothing keeps the invariant: births count as they did, and new loans are parts
    -- of loans.
    abbrev pub KeepsOn : Type 0
    KeepsOn =
        ((i : ℕ) → held_after i ≡ held i) → AreParts s q → Inv types owner acts others kinds now q n w

    -- So does a birth of the next number, in its home,
    abbrev pub BearsOn : Type 0
    BearsOn =
        (of : B) (home : List ℕ) → ((i : ℕ) → held_after i ≡ held i + one_if (w.next_birth == i))
        → FitsHome owner (born w.next_birth of home) → AreParts s q
        → Inv types owner acts others kinds now q n (with_birth of home w)

    -- the end of one that was held,
    abbrev pub SpendsOn : Type 0
    SpendsOn =
        (j : ℕ) → ((i : ℕ) → held_after i + one_if (j == i) ≡ held i) → AreParts s q
        → Inv types owner acts others kinds now q n (with_end j w)

  -- the opening of a borrow for the newest token,
  abbrev pub OpensOn : Type 0
  OpensOn =
      (a : Act) (older : List Act) (clock : ℕ) (others : Holds) (kinds : ℕ → ℕ → Meaning) (now : Made)
      (q : Table) (n : Memory (List ℕ)) (writes : Bool) (place : Place) → acts ≡ a ∷ older
      → (after : Core types clock (is_active acts) (is_active acts) others kinds now q n)
      → ((i : ℕ) → in_forest (birth i) after.top after.forest + in_list (birth i) after.trees ≡ held i)
      → AreOpened a.token w.next_borrow writes place s q
      → Inv types owner acts others kinds now q n (with_opening writes place w)

  -- a use of a loan whose token is active,
  abbrev pub UsesOn : Type 0
  UsesOn =
      (g : ℕ) (l : Loan) → s g ≡ Some l → IsLoan l.via → is_active acts l.token ≡ true
      → Inv types owner acts hold type under s m (with_use l.borrow w)

  -- and the beginning of a token, which is newer than all others.
  abbrev pub BeginsOn : Type 0
  BeginsOn =
      (z clock : ℕ) → inv.clock < z
      → (after : Core types clock (is_active (record { token = z; base = w.lying } ∷ acts))
      (is_active (record { token = z; base = w.lying } ∷ acts)) hold type under s m)
      → ((i : ℕ) → in_forest (birth i) after.top after.forest + in_list (birth i) after.trees ≡ held i)
      → Inv types owner (record { token = z; base = w.lying } ∷ acts) hold type under s m w

  -- The end of the newest token closes the borrows that were opened since it began.
  abbrev pub EndsOn : Type 0
  EndsOn =
      (a : Act) (older : List Act) (clock : ℕ) (others : Holds) (newer : List Open) → acts ≡ a ∷ older
      → w.lying ≡ newer ++ a.base
      → (after : Core types clock (is_active older) (is_active older) others type under s m)
      → ((i : ℕ) → in_forest (birth i) after.top after.forest + in_list (birth i) after.trees ≡ held i)
      → Inv types owner older others type under s m (with_closings newer a.base w)

  -- Where nothing is held at the end, each birth was consumed exactly once; and where no borrow lies open,
  -- each was closed.
  abbrev pub EndsWell : Type 0
  EndsWell = (((i : ℕ) → held i ≡ 0) → Once w.events) × (w.lying ≡ [] → AllClosed w.events)
