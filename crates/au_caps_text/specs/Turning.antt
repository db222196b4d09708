-- A graph whose edges are turned, and what is reached there.
use Rattle.std.specs.Prelude.{◌≡◌, ◌⊎◌, ◌<◌, ◌↔◌, ℕ, List, Contains, length}
use Rattle.au_graphs.specs.Cycles.{Names, Leads}

-- a graph has the edges of another, each turned; one to a number that no node has is left out
pub record IsTurned (graph made : List (List ℕ)) : Type 0 where
  pub size : length made ≡ length graph
  pub edges : (a b : ℕ) → a < length graph → Names made a b ↔ Names graph b a

-- edges from some nodes to one were added
pub record AreAdded (nodes : List ℕ) (to : ℕ) (before after : List (List ℕ)) : Type 0 where
  pub size : length after ≡ length before
  pub stays : (a b : ℕ) → Names before a b → Names after a b
  pub added : (a : ℕ) → a < length before → Contains nodes a → Names after a to
  pub only : (a b : ℕ) → Names after a b → Names before a b ⊎ ((b ≡ to) × Contains nodes a)

-- a node is reached from some nodes: it is one of them, or one of them leads to it
abbrev pub IsFrom : List (List ℕ) → List ℕ → ℕ → Type 0
IsFrom graph starts a = (s : ℕ) × Contains starts s × ((s ≡ a) ⊎ Leads graph s a)
