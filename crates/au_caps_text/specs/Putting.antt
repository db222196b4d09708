-- What is put at the nodes of a graph.
use Rattle.std.specs.Prelude.{◌≡◌, ◌⊎◌, ◌<◌, ℕ, List, length}
use Rattle.au_graphs.specs.Cycles.{Names}

-- A label is put at the nodes of which something holds, and at no others.
pub record IsPut (Holds : ℕ → Type 0) (label : ℕ) (before after : List (List ℕ)) : Type 0 where
  pub size : length after ≡ length before
  pub stays : (a l : ℕ) → Names before a l → Names after a l
  pub put : (a : ℕ) → a < length before → Holds a → Names after a label
  pub only : (a l : ℕ) → Names after a l → Names before a l ⊎ ((l ≡ label) × Holds a)
