-- The visits of a walk that peels a graph.
use Rattle.std.specs.Prelude.{◌≡◌, ◌<◌, ◌+◌, ◌*◌, ℕ, Bool, List, length, take}
use Rattle.std.specs.List.{All}
use Rattle.au_graphs.specs.Cycles.{successors}
use Rattle.au_graphs.specs.Marks.{IsMarked, unmarked}
use Rattle.au_graphs.specs.declared.peeling.Visit.{Visit}

-- there's a mark of either kind for each node
abbrev pub IsSizedAs : List (List ℕ) → List Bool → List Bool → Type 0
IsSizedAs graph seen done = (length seen ≡ length graph) × (length done ≡ length graph)

-- a node is visited, and so many of its successors are done
abbrev pub IsVisit : List (List ℕ) → List Bool → Visit → Type 0
IsVisit graph done visit =
    (visit.node < length graph) × All (IsMarked done) (take visit.passed (successors graph visit.node))

-- How many steps are left at most: one for each visit on the path, and two for each node that isn't seen,
-- since the node that leads to it is visited again.
abbrev pub left_to_do : List Bool → List Visit → ℕ
left_to_do seen path = 2 * unmarked seen + length path
