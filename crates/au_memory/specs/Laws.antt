-- What holds of trees.
use Rattle.std.specs.Prelude.{◌≡◌, ◌≢◌, ◌≤◌, ℕ, Bool, true, List, Some}
use Rattle.au_effects.specs.Values.{Place}
use Rattle.au_places.specs.Memories.{Memory, written}
use Rattle.au_places.specs.Places.{Id, cell_of, in_place, writer}
use Rattle.au_types.specs.Types.{Meaning}
use Rattle.au_memory.specs.Trees.{Value, Step, Tree, in_tree}
use Rattle.au_memory.specs.Forests.{Core, Holds, Made, Usable, in_list}
use Rattle.au_memory.specs.Loans.{Types, Loan, Table, Grows, IsWriter, Point, point_at}
use Rattle.au_memory.specs.Shown.{Shows, Has, AreLawful, Stands}

-- A tree of a Free type counts for nothing, so it may be copied and dropped.
abbrev pub FreeTreesCountNothing : Type 0
FreeTreesCountNothing =
    (types : Types) → AreLawful types → (s : Table) (id : Id) (t : Tree) (u : Meaning)
    → types.is_free u ≡ true → Has types s t u → in_tree id t ≡ 0

-- A tree shows what it did when a place is written that doesn't count in it.
abbrev pub TreesStay : Type 0
TreesStay =
    (types : Types) (s : Table) (m : Memory (List ℕ)) (to : Place) (new : Value) (t : Tree) (v : Value)
    → in_tree (cell_of to) t ≡ 0 → Shows types s m v t → Shows types s (written to new m) v t

-- What a tree shows and which type it has stays when more is lent.
abbrev pub TreesGrow : Type 0
TreesGrow =
    (types : Types) (s r : Table) (m : Memory (List ℕ)) (t : Tree) (v : Value) (u : Meaning) → Grows s r
    → (Shows types s m v t → Shows types r m v t) × (Has types s t u → Has types r t u)

-- What a read borrow sees stands in memory, is shown there and has its type.
abbrev pub PointsStand : Type 0
PointsStand =
    (types : Types) (s : Table) (m : Memory (List ℕ)) (steps : List Step) (one two : Point)
    → Stands types s m one → point_at types steps one ≡ Some two → Stands types s m two

-- ---- loans

module _ (types : Types) (clock : ℕ) (scope act : ℕ → Bool) (hold : Holds) (type : ℕ → ℕ → Meaning)
    (under : Made) (s : Table) (m : Memory (List ℕ)) (core : Core types clock scope act hold type under s m)
  where
    -- A loan is held under way to be used: it writes, its token is in scope, and a value that was made
    -- holds its reference.
    pub record IsHeld (g : ℕ) (l : Loan) : Type 0 where
      pub row : s g ≡ Some l
      pub writes : IsWriter l.via
      pub scoped : scope l.token ≡ true
      pub held : 1 ≤ in_list (writer g) core.trees

    -- Such a loan may be used.
    abbrev pub HeldLoansAreUsable : Type 0
    HeldLoansAreUsable = (g : ℕ) (l : Loan) → IsHeld g l → Usable types s core.forest m g l

    -- Of two of them neither place covers the other.
    abbrev pub HeldLoansAreApart : Type 0
    HeldLoansAreApart =
        (g h : ℕ) (l n : Loan) → g ≢ h → IsHeld g l → IsHeld h n → in_place (cell_of l.to) n.to ≡ 0
