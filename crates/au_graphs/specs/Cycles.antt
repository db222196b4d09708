-- Directed graphs: the list of their nodes, and of each the list of its successors.
use Rattle.std.specs.Prelude.{◌<◌, ℕ, List, [], ◌∷◌, ◌++◌, slice_index_or, slice_set, Contains}

-- the successors of a node; a number that no node has has none
abbrev pub successors : List (List ℕ) → ℕ → List ℕ
successors graph a = slice_index_or graph a []

-- a node names another: an edge leads from it to that one
abbrev pub Names : List (List ℕ) → ℕ → ℕ → Type 0
Names graph a b = Contains (successors graph a) b

-- a node leads to another along one edge or more
pub data Leads (graph : List (List ℕ)) : ℕ → ℕ → Type 0 where
  directly : (a b : ℕ) → Names graph a b → Leads graph a b
  onward : (a b c : ℕ) → Names graph a b → Leads graph b c → Leads graph a c

-- a node lies on a cycle: it leads to itself
abbrev pub IsOnCycle : List (List ℕ) → ℕ → Type 0
IsOnCycle graph a = Leads graph a a

-- a node lies on a cycle, and none before it does
abbrev pub IsFirstOnCycle : List (List ℕ) → ℕ → Type 0
IsFirstOnCycle graph k = IsOnCycle graph k × ((j : ℕ) → j < k → ¬ IsOnCycle graph j)

-- no node lies on a cycle
abbrev pub HasNoCycle : List (List ℕ) → Type 0
HasNoCycle graph = (j : ℕ) → ¬ IsOnCycle graph j

-- a graph with one more edge, if a node has the number that it leads from
abbrev pub with_edge : List (List ℕ) → ℕ → ℕ → List (List ℕ)
with_edge graph from to = slice_set graph from (successors graph from ++ to ∷ [])
