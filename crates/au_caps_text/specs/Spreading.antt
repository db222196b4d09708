-- Labels that spread over a graph: each node has the labels of all nodes that it leads to.
use Rattle.std.specs.Prelude.{◌≡◌, ◌⊎◌, ◌<◌, ◌↔◌, ℕ, List, Contains, length}
use Rattle.au_graphs.specs.Cycles.{successors, Names, Leads}

-- a node leads to one of some nodes: it is that one, or one edge or more lead there
abbrev pub LeadsTo : List (List ℕ) → List ℕ → ℕ → Type 0
LeadsTo graph nodes a = (s : ℕ) × (s < length graph) × Contains nodes s × ((a ≡ s) ⊎ Leads graph a s)

-- Each node of a graph has the labels of the nodes that it leads to. Of each label the second list has the
-- nodes that have it themselves.
abbrev pub AreSpread : List (List ℕ) → List (List ℕ) → List (List ℕ) → Type 0
AreSpread graph labels made =
    (a l : ℕ) → a < length graph → Names made a l ↔ LeadsTo graph (successors labels l) a
