-- What is counted in trees.
use Rattle.std.proofs.Common.{◌≡◌, ℕ, ◌≤◌, ◌==◌, Bool, true, false, List, [], ◌∷◌}
use Rattle.std.proofs.Common.{if◌then◌else◌, refl, sym, ap, ◌∙◌, arith}
use Rattle.std.specs.Prelude.{None}
use Rattle.std.proofs.lemmas.Bool.{eq-eqb, eqb-true, le-leb}
use Rattle.au_effects.specs.Values.{Base, content_of, name_of}
use Rattle.au_places.specs.Places.{Id, birth, cell, writer, covers, in_place, one_if, same_base, content_place}
use Rattle.au_places.proofs.PlaceLemmas.{node_self}
use Rattle.au_memory.specs.Trees.{Tree, Trees, a_plain, a_made, a_box, a_buffer, a_terminal, a_root, a_writer}
use Rattle.au_memory.specs.Trees.{a_reader, no_trees, tree_then, in_birth, in_writer, in_tree, in_trees}

-- ---- single counts

-- no birth counts for nothing
pub none_in : (id : Id) → in_birth id None ≡ 0
none_in (birth n) = refl
none_in (cell base path) = refl
none_in (writer g) = refl

-- the content of a box is all of its place
pub content_in : (i : ℕ) → in_place (cell (content_of i) []) (content_place i) ≡ 1
content_in i = node_self (content_place i) 0

pub none_left : (p : List ℕ) → covers 0 [] p ≡ 1
none_left [] = refl
none_left (j ∷ p) = ap one_if (le-leb 0 j (omega arith))

pub writer_in : (g : ℕ) → in_writer (writer g) g ≡ 1
writer_in g = ap one_if (eq-eqb g g refl)

pub writer_is : (g h : ℕ) → 1 ≤ in_writer (writer g) h → h ≡ g
writer_is g h some = by (h == g) refl some
  where
    by : (t : Bool) → (h == g) ≡ t → 1 ≤ one_if t → h ≡ g
    by true e some = eqb-true h g e
    by false e some = absurd (omega arith)

-- ---- places in trees

if_same : (b : Bool) (x y : ℕ) → x ≡ y → (if b then x else 0) ≡ (if b then y else 0)
if_same true x y e = e
if_same false x y e = refl

-- of a tree only whole boxes are places: so all paths from one beginning count alike
module _ (base : Base) (p q : List ℕ) where
  content_path : (i : ℕ) → in_place (cell base p) (content_place i) ≡ in_place (cell base q) (content_place i)
  content_path i =
      if_same (same_base (content_of i) base) (covers 0 [] p) (covers 0 [] q) (none_left p ∙ sym (none_left q))

  mutual
    pub any_path : (t : Tree) → in_tree (cell base p) t ≡ in_tree (cell base q) t
    any_path (a_plain v) = refl
    any_path (a_made tag born all) = let same = any_paths all in omega arith
    any_path (a_box born content) =
        let same = any_path content in
        let own = content_path born in
        omega arith
    any_path (a_buffer born all) = let same = any_paths all in omega arith
    any_path (a_terminal born) = refl
    any_path (a_root born) = refl
    any_path (a_writer g) = refl
    any_path (a_reader g steps) = refl

    pub any_paths : (all : Trees) → in_trees (cell base p) all ≡ in_trees (cell base q) all
    any_paths no_trees = refl
    any_paths (tree_then one rest) =
        let same = any_path one in
        let others = any_paths rest in
        omega arith

-- names don't lie in trees
module _ (frame x : ℕ) (p : List ℕ) where
  mutual
    pub no_name : (t : Tree) → in_tree (cell (name_of frame x) p) t ≡ 0
    no_name (a_plain v) = refl
    no_name (a_made tag born all) = let none = no_names all in omega arith
    no_name (a_box born content) = let none = no_name content in omega arith
    no_name (a_buffer born all) = let none = no_names all in omega arith
    no_name (a_terminal born) = refl
    no_name (a_root born) = refl
    no_name (a_writer g) = refl
    no_name (a_reader g steps) = refl

    pub no_names : (all : Trees) → in_trees (cell (name_of frame x) p) all ≡ 0
    no_names no_trees = refl
    no_names (tree_then one rest) =
        let none = no_name one in
        let others = no_names rest in
        omega arith
