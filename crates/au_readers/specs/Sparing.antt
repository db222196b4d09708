-- Nothing is written where an open read borrow sees.
use Rattle.std.specs.Prelude.{◌≡◌, ℕ, Bool, List}
use Rattle.au_effects.specs.References.{name_along}
use Rattle.au_effects.specs.Values.{Place}
use Rattle.au_places.specs.Memories.{Memory}
use Rattle.au_places.specs.Places.{cell_of, in_place}
use Rattle.au_types.specs.Types.{Meaning}
use Rattle.au_memory.specs.Forests.{Core, Holds, IsHere, Made, ready}
use Rattle.au_memory.specs.Laws.{IsHeld}
use Rattle.au_memory.specs.Loans.{LeadsTo, Loan, Point, Table, Types}
use Rattle.au_memory.specs.Trees.{Step}

-- of two places neither covers the other
abbrev pub AreApart : Place → Place → Type 0
AreApart to at = (in_place (cell_of to) at ≡ 0) × (in_place (cell_of at) to ≡ 0)

module _ (types : Types) (clock : ℕ) (scope act : ℕ → Bool) (hold : Holds) (type : ℕ → ℕ → Meaning)
    (under : Made) (s : Table) (m : Memory (List ℕ)) (core : Core types clock scope act hold type under s m)
  where
    -- A reference of a read borrow that is open leads to a point.
    pub record Sees (g : ℕ) (steps : List Step) (l : Loan) (one : Point) : Type 0 where
      pub leads : LeadsTo types s g steps l one
      pub is_open : IsHere (core.forest g)

    -- The place of a write reference that is held under way to be used is apart from it.
    abbrev pub WritersSpareReads : Type 0
    WritersSpareReads =
        (g r : ℕ) (l n : Loan) (steps : List Step) (one : Point)
        → IsHeld types clock scope act hold type under s m core g l → Sees r steps n one
        → AreApart l.to one.to

    -- So is each place of a name that is ready.
    abbrev pub NamesSpareReads : Type 0
    NamesSpareReads =
        (frame x r : ℕ) (path : List ℕ) (n : Loan) (steps : List Step) (one : Point) → hold frame x ≡ ready
        → Sees r steps n one → AreApart (name_along frame x path) one.to
