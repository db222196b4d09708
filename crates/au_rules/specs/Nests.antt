-- Names in scope with values, in blocks that lie in one another: the names of all open blocks in the order in
-- which they came, and where each block begins among them, the innermost first.
use Rattle.std.specs.Prelude.{ℕ, List, [], ◌∷◌, length, take}
use Rattle.au_types.specs.Tables.{with_pair}

module _ {V : Type 0} where
  -- a block is entered
  abbrev pub entered : List (List ℕ × V) × List ℕ → List (List ℕ × V) × List ℕ
  entered nest = (nest.0, length nest.0 ∷ nest.1)

  -- the names and the beginnings that are left without the innermost block: outside all blocks nothing is
  abbrev pub without_block : List (List ℕ × V) → List ℕ → List (List ℕ × V) × List ℕ
  without_block names [] = ([], [])
  without_block names (begin ∷ begins) = (take begin names, begins)

  -- the innermost block is left
  abbrev pub left : List (List ℕ × V) × List ℕ → List (List ℕ × V) × List ℕ
  left nest = without_block nest.0 nest.1

  -- a name is put into the innermost block, unless it is in scope
  abbrev pub with_name : List ℕ → V → List (List ℕ × V) × List ℕ → List (List ℕ × V) × List ℕ
  with_name name value nest = (with_pair nest.0 name value, nest.1)
