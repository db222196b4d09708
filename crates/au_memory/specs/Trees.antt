-- Values with all that they hold: what a value of a running program is, with the contents of its boxes and
-- the elements of its buffers. A tree is finite, so no box lies in itself.
use Rattle.std.specs.Prelude.{ℕ, zero, suc, ◌+◌, ◌==◌, List, Option, Some, None}
use Rattle.au_effects.specs.Values as values
use Rattle.au_places.specs.Places.{Id, birth, writer, one_if, in_place, content_place}

-- a value of a source program
abbrev pub Value : Type 0
Value = values.Value (List ℕ)

-- a step in a tree: to a field of a record or a case, or into a box
pub data Step : Type 0 where
  field : ℕ → Step
  inside : Step

mutual
  -- A tree: a value that holds nothing; one of a record or a union, with its case, its birth if it has
  -- one, and its fields; a box with its content; a buffer with its elements; a terminal; the root; the
  -- reference of a write borrow, by the number of what it was lent as; or one of a read borrow, with the
  -- steps from what was lent to what it refers to.
  pub data Tree : Type 0 where
    a_plain : Value → Tree
    a_made : (tag : ℕ) (born : Option ℕ) → Trees → Tree
    a_box : (born : ℕ) → Tree → Tree
    a_buffer : (born : ℕ) → Trees → Tree
    a_terminal : (born : ℕ) → Tree
    a_root : (born : ℕ) → Tree
    a_writer : (loan : ℕ) → Tree
    a_reader : (loan : ℕ) → List Step → Tree

  -- trees in order
  pub data Trees : Type 0 where
    no_trees : Trees
    tree_then : Tree → Trees → Trees

-- the tree of a number
abbrev pub nth_tree : ℕ → Trees → Option Tree
nth_tree index no_trees = None
nth_tree zero (tree_then one rest) = Some one
nth_tree (suc index) (tree_then one rest) = nth_tree index rest

-- how many there are
abbrev pub tree_count : Trees → ℕ
tree_count no_trees = 0
tree_count (tree_then one rest) = suc (tree_count rest)

-- ---- what is counted

-- how often an id counts at a birth, if there is one, and at the reference of a write borrow
abbrev pub in_birth : Id → Option ℕ → ℕ
in_birth (birth n) (Some b) = one_if (b == n)
in_birth id born = 0

abbrev pub in_writer : Id → ℕ → ℕ
in_writer (writer h) g = one_if (g == h)
in_writer id g = 0

abbrev mutual
  -- How often an id counts in a tree. A box counts as its birth, and as the place that is its content; the
  -- reference of a read borrow counts for nothing, so it may be copied.
  pub in_tree : Id → Tree → ℕ
  in_tree id (a_plain value) = 0
  in_tree id (a_made tag born all) = in_birth id born + in_trees id all
  in_tree id (a_box born content) =
      in_birth id (Some born) + (in_place id (content_place born) + in_tree id content)
  in_tree id (a_buffer born all) = in_birth id (Some born) + in_trees id all
  in_tree id (a_terminal born) = in_birth id (Some born)
  in_tree id (a_root born) = in_birth id (Some born)
  in_tree id (a_writer loan) = in_writer id loan
  in_tree id (a_reader loan steps) = 0

  -- the same of trees
  pub in_trees : Id → Trees → ℕ
  in_trees id no_trees = 0
  in_trees id (tree_then one rest) = in_tree id one + in_trees id rest
