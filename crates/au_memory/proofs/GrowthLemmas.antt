-- What is said of trees stays when the table of loans grows.
use Rattle.std.proofs.Common.{ℕ, List, [], ◌∷◌}
use Rattle.au_effects.specs.Values.{Fields, no_fields, field_then}
use Rattle.au_places.specs.Memories.{Memory}
use Rattle.au_types.specs.Types.{Meaning}
use Rattle.au_memory.specs.Trees.{Value, Step, Tree, Trees, a_plain, a_made, a_box, a_buffer, a_terminal}
use Rattle.au_memory.specs.Trees.{a_root, a_writer, a_reader, no_trees, tree_then}
use Rattle.au_memory.specs.Loans.{Types, Loan, Table, Grows, Point, LeadsTo}
use Rattle.au_memory.specs.Shown.{Shows, ShowsAll, ShowsEach, Has, HasAll, HasEach}

pub grows_self : (s : Table) → Grows s s
grows_self s = record { row = λ g l h. h }

pub grows_on : (s r q : Table) → Grows s r → Grows r q → Grows s q
grows_on s r q a b = record { row = λ g l h. b.row g l (a.row g l h) }

module _ (types : Types) (s r : Table) (grows : Grows s r) where
  pub leads_grows : (g : ℕ) (steps : List Step) (l : Loan) (one : Point) → LeadsTo types s g steps l one
      → LeadsTo types r g steps l one
  leads_grows g steps l one h = record {
    row = grows.row g l h.row;
    from = h.from;
    tree = h.tree;
    via = h.via;
    there = h.there;
  }

  mutual
    pub has_grows : (t : Tree) (u : Meaning) → Has types s t u → Has types r t u
    has_grows (a_plain v) u h = h
    has_grows (a_made tag born all) u h = (h.0, h.1, h.2, has_all_grows all h.0 h.3)
    has_grows (a_box born content) u h = (h.0, h.1, has_grows content h.0 h.2)
    has_grows (a_buffer born all) u h = (h.0, h.1, has_each_grows all h.0 h.2)
    has_grows (a_terminal born) u h = h
    has_grows (a_root born) u h = h
    has_grows (a_writer g) u h = (h.0, grows.row g h.0 h.1, h.2, h.3)
    has_grows (a_reader g steps) u h = (h.0, h.1, leads_grows g steps h.0 h.1 h.2, h.3)

    pub has_all_grows : (all : Trees) (of : List Meaning) → HasAll types s all of → HasAll types r all of
    has_all_grows no_trees [] h = h
    has_all_grows no_trees (u ∷ others) h = h
    has_all_grows (tree_then one rest) [] h = h
    has_all_grows (tree_then one rest) (u ∷ others) h = (has_grows one u h.0, has_all_grows rest others h.1)

    pub has_each_grows : (all : Trees) (u : Meaning) → HasEach types s all u → HasEach types r all u
    has_each_grows no_trees u h = h
    has_each_grows (tree_then one rest) u h = (has_grows one u h.0, has_each_grows rest u h.1)

  module _ (m : Memory (List ℕ)) where
    mutual
      pub shows_grows : (t : Tree) (v : Value) → Shows types s m v t → Shows types r m v t
      shows_grows (a_plain one) v h = h
      shows_grows (a_made tag born all) v h = (h.0, h.1, shows_all_grows all h.0 h.2)
      shows_grows (a_box born content) v h = (h.0, h.1, h.2, shows_grows content h.0 h.3)
      shows_grows (a_buffer born all) v h = (h.0, h.1, h.2, shows_each_grows all h.0 h.3)
      shows_grows (a_terminal born) v h = h
      shows_grows (a_root born) v h = h
      shows_grows (a_writer g) v h = (h.0, grows.row g h.0 h.1, h.2)
      shows_grows (a_reader g steps) v h = (h.0, h.1, leads_grows g steps h.0 h.1 h.2, h.3)

      pub shows_all_grows : (all : Trees) (parts : Fields (List ℕ)) → ShowsAll types s m parts all
          → ShowsAll types r m parts all
      shows_all_grows no_trees no_fields h = h
      shows_all_grows no_trees (field_then v others) h = h
      shows_all_grows (tree_then one rest) no_fields h = h
      shows_all_grows (tree_then one rest) (field_then v others) h =
          (shows_grows one v h.0, shows_all_grows rest others h.1)

      pub shows_each_grows : (all : Trees) (items : List Value) → ShowsEach types s m items all
          → ShowsEach types r m items all
      shows_each_grows no_trees [] h = h
      shows_each_grows no_trees (v ∷ others) h = h
      shows_each_grows (tree_then one rest) [] h = h
      shows_each_grows (tree_then one rest) (v ∷ others) h =
          (shows_grows one v h.0, shows_each_grows rest others h.1)
