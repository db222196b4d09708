-- What is counted in trees of Free types, and which loans trees speak of.
use Rattle.std.proofs.Common.{◌≡◌, ◌⊎◌, inl, inr, ℕ, ◌+◌, ◌≤◌, ◌<◌, Bool, true, false, not, List, [], ◌∷◌}
use Rattle.std.proofs.Common.{if◌then◌else◌, is_some, refl, subst, arith}
use Rattle.std.specs.Prelude.{Option, Some, None}
use Rattle.std.proofs.lemmas.Bool.{cases_lt}
use Rattle.au_effects.specs.Values.{Fields, content_of, no_fields, field_then}
use Rattle.au_places.specs.Memories.{Memory}
use Rattle.au_places.specs.Places.{Id, cell, writer, in_place, same_base, content_place}
use Rattle.au_places.proofs.PlaceLemmas.{base_is}
use Rattle.au_types.specs.Types.{Meaning}
use Rattle.au_memory.specs.Trees.{Value, Tree, Trees, a_plain, a_made, a_box, a_buffer, a_terminal, a_root}
use Rattle.au_memory.specs.Trees.{a_writer, a_reader, no_trees, tree_then, in_birth, in_tree, in_trees}
use Rattle.au_memory.specs.Loans.{Types, Loan, Table, IsWriter}
use Rattle.au_memory.specs.Shown.{Shows, ShowsAll, ShowsEach, Has, HasAll, HasEach, AreFree, AreLawful}
use Rattle.au_memory.proofs.CountLemmas.{none_in, writer_is}

-- ---- Free types

-- what has no birth counts no birth
unborn : (id : Id) (born : Option ℕ) (free : Bool) → is_some born ≡ not free → free ≡ true → in_birth id born ≡ 0
unborn id None free e is = none_in id
unborn id (Some b) true e is = absurd cc
unborn id (Some b) false e is = absurd cc

module _ (types : Types) (lawful : AreLawful types) (s : Table) (id : Id) where
  mutual
    -- a tree of a Free type counts for nothing
    pub free_in : (t : Tree) (u : Meaning) → types.is_free u ≡ true → Has types s t u → in_tree id t ≡ 0
    free_in (a_plain v) u free h = refl
    free_in (a_made tag born all) u free h =
        let none = unborn id born (types.is_free u) h.2 free in
        let others = all_free_in all h.0 (lawful.fields u tag h.0 free h.1) h.3 in
        omega arith
    free_in (a_box born content) u free h = absurd (lawful.boxes u h.0 h.1 free)
    free_in (a_buffer born all) u free h = absurd (lawful.buffers u h.0 h.1 free)
    free_in (a_terminal born) u free h = absurd (lawful.terminals u h free)
    free_in (a_root born) u free h = absurd (lawful.roots u h free)
    free_in (a_writer g) u free h =
        absurd (lawful.writers h.0.type h.0.token (subst (λ w. types.is_free w ≡ true) h.3 free))
    free_in (a_reader g steps) u free h = refl

    all_free_in : (all : Trees) (of : List Meaning) → AreFree types of → HasAll types s all of
        → in_trees id all ≡ 0
    all_free_in no_trees of free h = refl
    all_free_in (tree_then one rest) [] free h = absurd h
    all_free_in (tree_then one rest) (u ∷ others) free h =
        let none = free_in one u free.0 h.0 in
        let more = all_free_in rest others free.1 h.1 in
        omega arith

-- ---- contents

module _ (types : Types) (s : Table) (m : Memory (List ℕ)) (i : ℕ) (none : m.at (content_of i) ≡ None) where
  other_content : (j : ℕ) (v : Value) → m.at (content_of j) ≡ Some v
      → in_place (cell (content_of i) []) (content_place j) ≡ 0
  other_content j v h = by (same_base (content_of j) (content_of i)) refl
    where
      by : (t : Bool) → same_base (content_of j) (content_of i) ≡ t → ◌≡◌ {A = ℕ} (if t then 1 else 0) 0
      by true e =
          let is = base_is (content_of j) (content_of i) e in
          let there : m.at (content_of i) ≡ Some v = subst (λ b. m.at b ≡ Some v) is h in
          absurd cc
      by false e = refl

  mutual
    -- a box that holds nothing lies in no tree that shows something
    pub no_content : (t : Tree) (v : Value) → Shows types s m v t → in_tree (cell (content_of i) []) t ≡ 0
    no_content (a_plain one) v h = refl
    no_content (a_made tag born all) v h = let rest = no_contents all h.0 h.2 in omega arith
    no_content (a_box born content) v h =
        let own = other_content born h.0 h.2 in
        let rest = no_content content h.0 h.3 in
        omega arith
    no_content (a_buffer born all) v h = let rest = no_each_contents all h.0 h.3 in omega arith
    no_content (a_terminal born) v h = refl
    no_content (a_root born) v h = refl
    no_content (a_writer g) v h = refl
    no_content (a_reader g steps) v h = refl

    no_contents : (all : Trees) (parts : Fields (List ℕ)) → ShowsAll types s m parts all
        → in_trees (cell (content_of i) []) all ≡ 0
    no_contents no_trees parts h = refl
    no_contents (tree_then one rest) no_fields h = absurd h
    no_contents (tree_then one rest) (field_then v others) h =
        let first = no_content one v h.0 in
        let more = no_contents rest others h.1 in
        omega arith

    no_each_contents : (all : Trees) (items : List Value) → ShowsEach types s m items all
        → in_trees (cell (content_of i) []) all ≡ 0
    no_each_contents no_trees items h = refl
    no_each_contents (tree_then one rest) [] h = absurd h
    no_each_contents (tree_then one rest) (v ∷ others) h =
        let first = no_content one v h.0 in
        let more = no_each_contents rest others h.1 in
        omega arith

-- ---- loans

-- a loan that writes has this row
pub record IsWriting (s : Table) (g : ℕ) : Type 0 where
  pub row : Loan
  pub has : s g ≡ Some row
  pub writes : IsWriter row.via

-- of two that come to something one does
first_writer : {A : Type 0} (a b : ℕ) → 1 ≤ a + b → (1 ≤ a → A) → (1 ≤ b → A) → A
first_writer {A} a b some f g = by (cases_lt 0 a)
  where
    by : (0 < a) ⊎ (a ≤ 0) → A
    by (inl here) = f here
    by (inr none) = g (omega arith)

module _ (types : Types) (s : Table) (g : ℕ) where
  mutual
    -- where the reference of a loan lies in a tree, the loan has a row, which writes
    pub writer_row : (t : Tree) (u : Meaning) → 1 ≤ in_tree (writer g) t → Has types s t u → IsWriting s g
    writer_row (a_plain v) u some h = absurd (omega arith)
    writer_row (a_made tag born all) u some h =
        writer_rows all h.0 (let none : in_birth (writer g) born ≡ 0 = refl in omega arith) h.3
    writer_row (a_box born content) u some h = writer_row content h.0 (omega arith) h.2
    writer_row (a_buffer born all) u some h = writer_each all h.0 (omega arith) h.2
    writer_row (a_terminal born) u some h = absurd (omega arith)
    writer_row (a_root born) u some h = absurd (omega arith)
    writer_row (a_writer other) u some h =
        let is = writer_is g other some in
        record { row = h.0; has = subst (λ k. s k ≡ Some h.0) is h.1; writes = h.2 }
    writer_row (a_reader other steps) u some h = absurd (omega arith)

    writer_rows : (all : Trees) (of : List Meaning) → 1 ≤ in_trees (writer g) all → HasAll types s all of
        → IsWriting s g
    writer_rows no_trees of some h = absurd (omega arith)
    writer_rows (tree_then one rest) [] some h = absurd h
    writer_rows (tree_then one rest) (u ∷ others) some h =
        first_writer (in_tree (writer g) one) (in_trees (writer g) rest) some
        (λ here. writer_row one u here h.0) (λ there. writer_rows rest others there h.1)

    writer_each : (all : Trees) (u : Meaning) → 1 ≤ in_trees (writer g) all → HasEach types s all u
        → IsWriting s g
    writer_each no_trees u some h = absurd (omega arith)
    writer_each (tree_then one rest) u some h =
        first_writer (in_tree (writer g) one) (in_trees (writer g) rest) some
        (λ here. writer_row one u here h.0) (λ there. writer_each rest u there h.1)
