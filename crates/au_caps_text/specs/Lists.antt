-- Lists of texts that are sets: in the order of bytes, and without repeats.
use Rattle.std.specs.Prelude.{ℕ, List, Contains}
use Rattle.std.specs.List.Sorted.{IsStrictlySortedBy}
use Rattle.std.specs.Ordering.{nat_cmp}
use Rattle.std.specs.Cmp.Lexicographic.{slice_cmp}

-- A list is that of the texts of which something holds: each of them stands there once and nothing else does,
-- and they stand in the order of bytes. There is one such list.
pub record IsListOf (Holds : List ℕ → Type 0) (list : List (List ℕ)) : Type 0 where
  pub ascends : IsStrictlySortedBy (slice_cmp nat_cmp) list
  pub all : (x : List ℕ) → Holds x → Contains list x
  pub only : (x : List ℕ) → Contains list x → Holds x
