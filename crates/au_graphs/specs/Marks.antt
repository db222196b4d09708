-- Marks on the nodes of a graph, and what a search makes of them.
use Rattle.std.specs.Prelude.{◌≡◌, ◌+◌, ◌⊎◌, ℕ, Bool, true, not, List, length, slice_index_or, count_by}
use Rattle.std.specs.Prelude.{Contains}
use Rattle.au_graphs.specs.Cycles.{Names, IsOnCycle}

-- whether a node is marked; a number that no node has counts as marked
abbrev pub is_marked : List Bool → ℕ → Bool
is_marked marks a = slice_index_or marks a true

abbrev pub IsMarked : List Bool → ℕ → Type 0
IsMarked marks a = is_marked marks a ≡ true

-- how many nodes aren't marked
abbrev pub unmarked : List Bool → ℕ
unmarked marks = count_by not marks

-- marked nodes lead to marked nodes alone
abbrev pub IsClosed : List (List ℕ) → List Bool → Type 0
IsClosed graph marks = (a b : ℕ) → IsMarked marks a → Names graph a b → IsMarked marks b

-- the marked nodes lead to marked nodes alone, and none of them lies on a cycle
pub record IsPeeled (graph : List (List ℕ)) (marks : List Bool) : Type 0 where
  pub closed : IsClosed graph marks
  pub free : (a : ℕ) → IsMarked marks a → ¬ IsOnCycle graph a

-- Nodes were entered: those that weren't marked are, and stand on the work list. Each takes one from what is
-- left to mark, and adds one to the list.
pub record Entered (nodes : List ℕ) (seen : List Bool) (work : List ℕ) (now : List Bool)
    (list : List ℕ) : Type 0 where
  pub stay : (a : ℕ) → IsMarked seen a → IsMarked now a
  pub enters : (a : ℕ) → Contains nodes a → IsMarked now a
  pub only : (a : ℕ) → IsMarked now a → IsMarked seen a ⊎ Contains nodes a
  pub kept : (a : ℕ) → Contains work a → Contains list a
  pub added : (a : ℕ) → Contains list a → Contains work a ⊎ Contains nodes a
  pub waits : (a : ℕ) → IsMarked now a → IsMarked seen a ⊎ Contains list a
  pub left : unmarked now + length list ≡ unmarked seen + length work
