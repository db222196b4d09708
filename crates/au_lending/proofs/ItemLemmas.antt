-- Elements of buffers: lists of them, split and joined.
use Rattle.std.proofs.Common.{◌≡◌, ℕ, ◌+◌, List, [], ◌∷◌, ◌++◌, refl, ap, subst, arith}
use Rattle.au_places.specs.Memories.{Memory}
use Rattle.au_places.specs.Places.{Id}
use Rattle.au_types.specs.Types.{Meaning}
use Rattle.au_memory.specs.Trees.{Value, Tree, Trees, no_trees, tree_then, in_tree, in_trees}
use Rattle.au_memory.specs.Loans.{Types, Table}
use Rattle.au_memory.specs.Shown.{Shows, ShowsEach, Has, HasEach}

abbrev pub trees_join : Trees → Trees → Trees
trees_join no_trees others = others
trees_join (tree_then one rest) others = tree_then one (trees_join rest others)

pub join_counts : (id : Id) (front back : Trees) → in_trees id (trees_join front back) ≡ in_trees id front + in_trees id back
join_counts id no_trees back = omega arith
join_counts id (tree_then one rest) back = let more = join_counts id rest back in omega arith

-- where there is no element there is no tree of one
pub no_element : (types : Types) (s : Table) (m : Memory (List ℕ)) (items : List Value) (all : Trees) (id : Id) → items ≡ []
    → ShowsEach types s m items all → in_trees id all ≡ 0
no_element types s m [] no_trees id is h = refl
no_element types s m [] (tree_then one rest) id is h = absurd h
no_element types s m (v ∷ others) all id is h = absurd cc

module _ (types : Types) (s : Table) where
  pub join_typed : (front back : Trees) (t : Meaning) → HasEach types s front t → HasEach types s back t
      → HasEach types s (trees_join front back) t
  join_typed no_trees back t f b = b
  join_typed (tree_then one rest) back t f b = (f.0, join_typed rest back t f.1 b)

  pub split_typed : (front back : Trees) (t : Meaning) → HasEach types s (trees_join front back) t
      → HasEach types s front t × HasEach types s back t
  split_typed no_trees back t h = (tt, h)
  split_typed (tree_then one rest) back t h = let more = split_typed rest back t h.1 in ((h.0, more.0), more.1)

  module _ (m : Memory (List ℕ)) where
    pub join_shown : (xs ys : List Value) (front back : Trees) → ShowsEach types s m xs front
        → ShowsEach types s m ys back → ShowsEach types s m (xs ++ ys) (trees_join front back)
    join_shown [] ys no_trees back f b = b
    join_shown [] ys (tree_then one rest) back f b = absurd f
    join_shown (x ∷ xs) ys no_trees back f b = absurd f
    join_shown (x ∷ xs) ys (tree_then one rest) back f b = (f.0, join_shown xs ys rest back f.1 b)

    -- The trees of one list of elements, and of those behind.
    pub record ItemsSplit (xs ys : List Value) (all : Trees) : Type 0 where
      pub front : Trees
      pub back : Trees
      pub is : all ≡ trees_join front back
      pub first : ShowsEach types s m xs front
      pub rest : ShowsEach types s m ys back

    pub split_shown : (xs ys : List Value) (all : Trees) → ShowsEach types s m (xs ++ ys) all → ItemsSplit xs ys all
    split_shown [] ys all h = record { front = no_trees; back = all; is = refl; first = tt; rest = h }
    split_shown (x ∷ xs) ys no_trees h = absurd h
    split_shown (x ∷ xs) ys (tree_then one others) h =
        let more = split_shown xs ys others h.1 in
        record {
          front = tree_then one more.front;
          back = more.back;
          is = ap (tree_then one) more.is;
          first = (h.0, more.first);
          rest = more.rest;
        }

    -- The tree of an element between others.
    pub record OneItem (v : Value) (front back : List Value) (all : Trees) (t : Meaning) : Type 0 where
      pub before : Trees
      pub tree : Tree
      pub behind : Trees
      pub first : ShowsEach types s m front before
      pub own : Shows types s m v tree
      pub rest : ShowsEach types s m back behind
      pub first_typed : HasEach types s before t
      pub own_typed : Has types s tree t
      pub rest_typed : HasEach types s behind t
      pub counts : (id : Id) → in_trees id all ≡ in_trees id before + (in_tree id tree + in_trees id behind)

    one_by : (v : Value) (front back : List Value) (all before after : Trees) (t : Meaning) → all ≡ trees_join before after
        → ShowsEach types s m front before → ShowsEach types s m (v ∷ back) after → HasEach types s all t
        → OneItem v front back all t
    one_by v front back all before no_trees t is first rest typed = absurd rest
    one_by v front back all before (tree_then one more) t is first rest typed =
        let both = split_typed before (tree_then one more) t (subst (λ x. HasEach types s x t) is typed) in
        record {
          before = before;
          tree = one;
          behind = more;
          first = first;
          own = rest.0;
          rest = rest.1;
          first_typed = both.0;
          own_typed = both.1.0;
          rest_typed = both.1.1;
          counts = λ id.
              let a = ap (in_trees id) is in
              let b = join_counts id before (tree_then one more) in
              omega arith;
        }

    pub one_item : (v : Value) (front back : List Value) (items : List Value) (all : Trees) (t : Meaning)
        → items ≡ front ++ v ∷ back → ShowsEach types s m items all → HasEach types s all t → OneItem v front back all t
    one_item v front back items all t is shown typed =
        let split = split_shown front (v ∷ back) all (subst (λ xs. ShowsEach types s m xs all) is shown) in
        one_by v front back all split.front split.back t split.is split.first split.rest typed
