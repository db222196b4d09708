-- States of a running program that are as they should be.
use Rattle.std.specs.Prelude.{ℕ, List, Option}
use Rattle.au_places.specs.Memories.{Memory}
use Rattle.au_types.specs.Types.{Meaning}
use Rattle.au_memory.specs.Forests.{Holds, Made}
use Rattle.au_memory.specs.Loans.{Types, Table}
use Rattle.au_borrows.specs.Invariants.{Inv}
use Rattle.au_borrows.specs.Orders.{Act}
use Rattle.au_borrows.specs.Told.{Told}

-- The invariant holds of a state, with some table of loans.
pub record IsSafe {B : Type 0} (types : Types) (owner : B → Option (List ℕ)) (acts : List Act) (hold : Holds)
    (type : ℕ → ℕ → Meaning) (under : Made) (m : Memory (List ℕ)) (w : Told B) : Type 0 where
  pub rows : Table
  pub inv : Inv types owner acts hold type under rows m w
