-- What every action keeps of a running program: of memory, of what is told, and of both together.
use Rattle.std.specs.Prelude.{◌≡◌, ℕ, ◌+◌, ◌<◌, ◌≤◌, Bool, true, false, List, Option, Some}
use Rattle.au_places.specs.Memories.{Memory}
use Rattle.au_places.specs.Places.{birth}
use Rattle.au_types.specs.Types.{Meaning}
use Rattle.au_memory.specs.Forests.{Core, Holds, Made, in_forest, in_list}
use Rattle.au_memory.specs.Loans.{Types, Loan, Table, Via, named, lent_of, lent_through, part_of, reading}
use Rattle.au_memory.specs.Loans.{IsLoan}
use Rattle.au_readers.specs.Exclusive.{BorrowsAreOrdered}
use Rattle.au_borrows.specs.Orders.{Act, AreSorted, AreStacked, Lies, is_active}
use Rattle.au_borrows.specs.Told.{Fits, IsOpen, Open, Told, times}

-- The loans of tokens that are active are of borrows that lie open, in the order of the tokens.
abbrev pub AreOwned : List Act → List Open → Table → Type 0
AreOwned acts lying s =
    (g : ℕ) (l : Loan) → s g ≡ Some l → IsLoan l.via → is_active acts l.token ≡ true
    → Lies acts lying l.token l.borrow

-- whether a loan writes
abbrev pub is_writer : Via → Bool
is_writer named = false
is_writer (lent_of from) = true
is_writer (lent_through holder from) = true
is_writer (part_of from) = true
is_writer (reading from tree) = false

-- A borrow that lies open has its loan, of its place, which writes where the borrow does.
pub record HasLoan (s : Table) (one : Open) : Type 0 where
  pub loan : ℕ
  pub row : Loan
  pub has : s loan ≡ Some row
  pub is_loan : IsLoan row.via
  pub borrow : row.borrow ≡ one.number
  pub at : row.to ≡ one.place
  pub writes : is_writer row.via ≡ one.writes

-- How rows and borrows go together: each loan is of a borrow that was opened; one of a borrow that lies
-- open has a token that is active, and writes where the borrow does; what was lent from a loan is of its
-- borrow or a later one; and each borrow that lies open has its loan.
pub record AreLinked (acts : List Act) (lying : List Open) (next : ℕ) (s : Table) : Type 0 where
  pub opened : (g : ℕ) (l : Loan) → s g ≡ Some l → IsLoan l.via → l.borrow < next
  pub alive : (g : ℕ) (l : Loan) → s g ≡ Some l → IsLoan l.via → 1 ≤ times l.borrow lying
      → is_active acts l.token ≡ true
  pub kind : (g : ℕ) (l : Loan) (one : Open) → s g ≡ Some l → IsLoan l.via → IsOpen one lying
      → one.number ≡ l.borrow → is_writer l.via ≡ one.writes
  pub ordered : BorrowsAreOrdered s
  pub seen : (one : Open) → IsOpen one lying → HasLoan s one

-- The invariant: memory is as it should be, where all loans of active tokens are open; what is told fits,
-- where the births that memory and values under way hold are those that weren't consumed; borrows lie in
-- the order of the tokens; and loans go together with them.
pub record Inv {B : Type 0} (types : Types) (owner : B → Option (List ℕ)) (acts : List Act) (hold : Holds)
    (type : ℕ → ℕ → Meaning) (under : Made) (s : Table) (m : Memory (List ℕ)) (w : Told B) : Type 0 where
  pub clock : ℕ
  pub core : Core types clock (is_active acts) (is_active acts) hold type under s m
  pub fits : Fits owner
      (λ i. in_forest (birth i) core.top core.forest + in_list (birth i) core.trees) w
  pub stacked : AreStacked acts w.lying
  pub sorted : AreSorted acts
  pub owned : AreOwned acts w.lying s
  pub linked : AreLinked acts w.lying w.next_borrow s
