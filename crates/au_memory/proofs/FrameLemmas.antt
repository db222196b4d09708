-- What a tree shows stays where nothing is changed that counts in it.
use Rattle.std.proofs.Common.{◌≡◌, ℕ, ◌≤◌, ◌==◌, Bool, true, false, List, [], ◌∷◌}
use Rattle.std.proofs.Common.{if◌then◌else◌, refl, ap, subst, ◌∙◌, arith}
use Rattle.std.specs.Prelude.{Option, Some, option_map}
use Rattle.std.proofs.lemmas.Bool.{eq-eqb, eqb-true}
use Rattle.au_effects.specs.Parts.{with_part}
use Rattle.au_effects.specs.Values.{Base, Place, Fields, content_of, no_fields, field_then}
use Rattle.au_places.specs.Memories.{Memory, with_base, with_items, written}
use Rattle.au_places.specs.Places.{Id, birth, cell, cell_of, one_if, same_base}
use Rattle.au_places.proofs.MemoryLemmas.{base_other}
use Rattle.au_places.proofs.PlaceLemmas.{base_is}
use Rattle.au_memory.specs.Trees.{Value, Tree, Trees, a_plain, a_made, a_box, a_buffer, a_terminal, a_root}
use Rattle.au_memory.specs.Trees.{a_writer, a_reader, no_trees, tree_then, in_birth, in_tree, in_trees}
use Rattle.au_memory.specs.Loans.{Types, Table}
use Rattle.au_memory.specs.Shown.{Shows, ShowsAll, ShowsEach}
use Rattle.au_memory.proofs.CountLemmas.{any_path, any_paths, content_in}

module _ (m n : Memory (List ℕ)) where
  -- Two memories agree on what counts so often: on the contents of boxes and on the elements of buffers.
  pub record Agree (count : Id → ℕ) : Type 0 where
    pub boxes : (i : ℕ) → 1 ≤ count (cell (content_of i) []) → n.at (content_of i) ≡ m.at (content_of i)
    pub buffers : (i : ℕ) → 1 ≤ count (birth i) → n.elements i ≡ m.elements i

  less : (more fewer : Id → ℕ) → ((id : Id) → fewer id ≤ more id) → Agree more → Agree fewer
  less more fewer h agree = record {
    boxes = λ i some. let below = h (cell (content_of i) []) in agree.boxes i (omega arith);
    buffers = λ i some. let below = h (birth i) in agree.buffers i (omega arith);
  }

own_birth : (i : ℕ) → in_birth (birth i) (Some i) ≡ 1
own_birth i = ap one_if (eq-eqb i i refl)

module _ (types : Types) (s : Table) (m n : Memory (List ℕ)) where
  mutual
    pub shows_frame : (t : Tree) (v : Value) → Agree m n (λ id. in_tree id t) → Shows types s m v t
        → Shows types s n v t
    shows_frame (a_plain one) v agree h = h
    shows_frame (a_made tag born all) v agree h = (
      h.0,
      h.1,
      shows_all_frame all h.0
          (less m n (λ id. in_tree id (a_made tag born all)) (λ id. in_trees id all) (λ id. omega arith) agree) h.2,
    )
    shows_frame (a_box born content) v agree h =
        let own = content_in born in
        let some : 1 ≤ in_tree (cell (content_of born) []) (a_box born content) = omega arith in (
          h.0,
          h.1,
          agree.boxes born some ∙ h.2,
          shows_frame content h.0
              (less m n (λ id. in_tree id (a_box born content)) (λ id. in_tree id content) (λ id. omega arith) agree) h.3,
        )
    shows_frame (a_buffer born all) v agree h =
        let own = own_birth born in
        let some : 1 ≤ in_tree (birth born) (a_buffer born all) = omega arith in (
          h.0,
          h.1,
          agree.buffers born some ∙ h.2,
          shows_each_frame all h.0
              (less m n (λ id. in_tree id (a_buffer born all)) (λ id. in_trees id all) (λ id. omega arith) agree) h.3,
        )
    shows_frame (a_terminal born) v agree h = h
    shows_frame (a_root born) v agree h = h
    shows_frame (a_writer g) v agree h = h
    shows_frame (a_reader g steps) v agree h = h

    pub shows_all_frame : (all : Trees) (parts : Fields (List ℕ)) → Agree m n (λ id. in_trees id all)
        → ShowsAll types s m parts all → ShowsAll types s n parts all
    shows_all_frame no_trees no_fields agree h = h
    shows_all_frame no_trees (field_then v others) agree h = h
    shows_all_frame (tree_then one rest) no_fields agree h = h
    shows_all_frame (tree_then one rest) (field_then v others) agree h = (
      shows_frame one v
          (less m n (λ id. in_trees id (tree_then one rest)) (λ id. in_tree id one) (λ id. omega arith) agree) h.0,
      shows_all_frame rest others
          (less m n (λ id. in_trees id (tree_then one rest)) (λ id. in_trees id rest) (λ id. omega arith) agree) h.1,
    )

    pub shows_each_frame : (all : Trees) (items : List Value) → Agree m n (λ id. in_trees id all)
        → ShowsEach types s m items all → ShowsEach types s n items all
    shows_each_frame no_trees [] agree h = h
    shows_each_frame no_trees (v ∷ others) agree h = h
    shows_each_frame (tree_then one rest) [] agree h = h
    shows_each_frame (tree_then one rest) (v ∷ others) agree h = (
      shows_frame one v
          (less m n (λ id. in_trees id (tree_then one rest)) (λ id. in_tree id one) (λ id. omega arith) agree) h.0,
      shows_each_frame rest others
          (less m n (λ id. in_trees id (tree_then one rest)) (λ id. in_trees id rest) (λ id. omega arith) agree) h.1,
    )

-- ---- what is written

module _ (m : Memory (List ℕ)) (count : Id → ℕ) where
  -- a name or a box that doesn't count changes
  pub agree_base : (base : Base) (o : Option Value) → count (cell base []) ≡ 0
      → Agree m (with_base base o m) count
  agree_base base o none = record {
    boxes = λ i some. by i some (same_base base (content_of i)) refl;
    buffers = λ i some. refl;
  }
    where
      by : (i : ℕ) → 1 ≤ count (cell (content_of i) []) → (t : Bool) → same_base base (content_of i) ≡ t
          → (with_base base o m).at (content_of i) ≡ m.at (content_of i)
      by i some true e =
          let is = base_is base (content_of i) e in
          let zero : count (cell (content_of i) []) ≡ 0 = subst (λ b. count (cell b []) ≡ 0) is none in
          absurd (omega arith)
      by i some false e = base_other m base (content_of i) o e

  -- the elements of a buffer that doesn't count change
  pub agree_items : (j : ℕ) (o : Option (List Value)) → count (birth j) ≡ 0 → Agree m (with_items j o m) count
  agree_items j o none = record {
    boxes = λ i some. refl;
    buffers = λ i some. by i some (j == i) refl;
  }
    where
      by : (i : ℕ) → 1 ≤ count (birth i) → (t : Bool) → (j == i) ≡ t
          → (if j == i then o else m.elements i) ≡ m.elements i
      by i some true e =
          let zero : count (birth i) ≡ 0 = subst (λ k. count (birth k) ≡ 0) (eqb-true j i e) none in
          absurd (omega arith)
      by i some false e = rw e

module _ (types : Types) (s : Table) (m : Memory (List ℕ)) where
  -- a tree shows what it did when something else changes: a name or a box, a place, or a buffer
  pub shows_base : (base : Base) (o : Option Value) (t : Tree) (v : Value) → in_tree (cell base []) t ≡ 0
      → Shows types s m v t → Shows types s (with_base base o m) v t
  shows_base base o t v none h =
      shows_frame types s m (with_base base o m) t v (agree_base m (λ id. in_tree id t) base o none) h

  pub shows_written : (to : Place) (new : Value) (t : Tree) (v : Value) → in_tree (cell_of to) t ≡ 0
      → Shows types s m v t → Shows types s (written to new m) v t
  shows_written to new t v none h =
      shows_base to.base (option_map (with_part to.path new) (m.at to.base)) t v
      (any_path to.base [] to.path t ∙ none) h

  pub shows_items : (j : ℕ) (o : Option (List Value)) (t : Tree) (v : Value) → in_tree (birth j) t ≡ 0
      → Shows types s m v t → Shows types s (with_items j o m) v t
  shows_items j o t v none h =
      shows_frame types s m (with_items j o m) t v (agree_items m (λ id. in_tree id t) j o none) h

  -- the same of the trees of fields
  pub shows_all_base : (base : Base) (o : Option Value) (all : Trees) (parts : Fields (List ℕ))
      → in_trees (cell base []) all ≡ 0 → ShowsAll types s m parts all → ShowsAll types s (with_base base o m) parts all
  shows_all_base base o all parts none h =
      shows_all_frame types s m (with_base base o m) all parts (agree_base m (λ id. in_trees id all) base o none) h

  pub shows_all_written : (to : Place) (new : Value) (all : Trees) (parts : Fields (List ℕ))
      → in_trees (cell_of to) all ≡ 0 → ShowsAll types s m parts all → ShowsAll types s (written to new m) parts all
  shows_all_written to new all parts none h =
      shows_all_base to.base (option_map (with_part to.path new) (m.at to.base)) all parts
      (any_paths to.base [] to.path all ∙ none) h
