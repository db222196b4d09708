-- Buffers are made without elements, and end so.
use Rattle.std.proofs.Common.{◌≡◌, ℕ, ◌+◌, ◌≤◌, ◌==◌, Bool, true, false, List, [], ◌∷◌, refl, ap, subst, arith}
use Rattle.std.specs.Prelude.{Option, Some, None}
use Rattle.std.proofs.lemmas.Bool.{eq-eqb, eqb-true}
use Rattle.au_effects.specs.Values.{buffer}
use Rattle.au_places.specs.Memories.{Memory, with_items}
use Rattle.au_places.specs.Places.{Id, birth, cell, writer, one_if}
use Rattle.au_types.specs.Types.{Meaning}
use Rattle.au_memory.specs.Trees.{Value, Tree, a_buffer, no_trees, in_birth, in_tree, in_trees}
use Rattle.au_memory.specs.Loans.{Types, Table}
use Rattle.au_memory.specs.Shown.{Shows, Has, AreDeclared}
use Rattle.au_memory.specs.Forests.{Held, Holds, Made, Core, AreShown, whole, parts_lent, in_root, in_forest, in_list}
use Rattle.au_memory.specs.Forests.{in_held}
use Rattle.au_memory.proofs.FrameLemmas.{agree_items, shows_all_frame, shows_items}
use Rattle.au_memory.proofs.TotalLemmas.{total_has}
use Rattle.au_memory.proofs.UsableLemmas.{root_below}
use Rattle.au_lending.specs.Buffers.{BufferEnds, BufferGone, BufferMade, BuffersAreAlone}
use Rattle.au_lending.proofs.FillLemmas.{first_shown}
use Rattle.au_lending.proofs.ItemLemmas.{no_element}
use Rattle.au_lending.proofs.RefillLemmas.{IsBuffer, buffer_form, items_self, shown_items}
use Rattle.au_lending.proofs.RemadeLemmas.{remade}

module _ (types : Types) (clock : ℕ) (scope act : ℕ → Bool) (hold : Holds) (type : ℕ → ℕ → Meaning)
    (under : Made) (s : Table) (m : Memory (List ℕ)) (core : Core types clock scope act hold type under s m)
    (i : ℕ) (o : Option (List Value)) (none : in_forest (birth i) core.top core.forest ≡ 0) where
  pub in_any : (k : ℕ) (h : Held) → core.forest k ≡ Some h → in_held (birth i) h ≡ 0
  in_any k h e =
      let has = total_has (birth i) core.top k core.forest
      (root_below types clock scope act hold type under s m core k h e) in
      let own = ap (in_root (birth i)) e in
      let all = none in
      omega arith

  -- Other values are under way, and a buffer that no root has holds other elements, or none.
  unfoldable pub items_remade : (now : Made) (trees : List Tree) → AreShown types s (with_items i o m) now trees
      → ((id : Id) → in_forest id core.top core.forest + in_list id trees ≤ 1)
      → ((k : ℕ) → in_list (writer k) trees ≤ in_list (writer k) core.trees)
      → Core types clock scope act hold type now s (with_items i o m)
  items_remade now trees shown once fewer =
      remade types clock scope act hold type under s m core (with_items i o m) now trees shown once
      (λ k h count to e at. refl)
      (λ k to tree v e sh.
      let zero = in_any k (whole to tree) e in
      shows_items types s m i o tree v (omega arith) sh)
      (λ k to tag born g count rest parts e sh.
      let zero = in_any k (parts_lent to tag born g count rest) e in
      shows_all_frame types s m (with_items i o m) rest parts
      (agree_items m (λ id. in_trees id rest) i o (omega arith)) sh)
      (λ a y. refl)
      fewer

-- ---- buffers are made

module _ (types : Types) (clock : ℕ) (scope act : ℕ → Bool) (hold : Holds) (type : ℕ → ℕ → Meaning)
    (under : Made) (s : Table) (m : Memory (List ℕ)) (core : Core types clock scope act hold type under s m)
    (t of : Meaning) (i : ℕ) (is : types.buffered t ≡ Some of)
    (unborn : in_forest (birth i) core.top core.forest + in_list (birth i) core.trees ≡ 0) where
  no_root : in_forest (birth i) core.top core.forest ≡ 0
  no_root = let all = unborn in omega arith

  no_list : in_list (birth i) core.trees ≡ 0
  no_list = let all = unborn in omega arith

  once : (id : Id) → in_forest id core.top core.forest + ((in_birth id (Some i) + 0) + in_list id core.trees) ≤ 1
  once (writer g) = let old = core.once (writer g) in omega arith
  once (cell base path) = let old = core.once (cell base path) in omega arith
  once (birth j) = by (i == j) refl
    where
      by : (b : Bool) → (i == j) ≡ b → in_forest (birth j) core.top core.forest
          + ((in_birth (birth j) (Some i) + 0) + in_list (birth j) core.trees) ≤ 1
      by true e =
          let fresh : in_forest (birth j) core.top core.forest + in_list (birth j) core.trees ≡ 0 =
          subst (λ c. in_forest (birth c) core.top core.forest + in_list (birth c) core.trees ≡ 0) (eqb-true i j e)
          unborn in
          let one : in_birth (birth j) (Some i) ≡ 1 = ap one_if e in
          omega arith
      by false e =
          let nought : in_birth (birth j) (Some i) ≡ 0 = ap one_if e in
          let old = core.once (birth j) in
          omega arith

  made_counts : (id : Id) → in_forest id core.top core.forest + in_list id (a_buffer i no_trees ∷ core.trees)
      ≡ (in_forest id core.top core.forest + in_list id core.trees) + in_birth id (Some i)
  made_counts id = omega arith

  pub buffer_made : BufferMade types clock scope act hold type under s m core t of i
  unfolding items_remade remade
  buffer_made = record {
    after = items_remade types clock scope act hold type under s m core i (Some []) no_root ((buffer i, t) ∷ under)
        (a_buffer i no_trees ∷ core.trees) (
          ([], refl, items_self m i (Some []), tt),
          (of, is, tt),
          shown_items types s m i (Some []) under core.trees no_list core.shown,
        )
        once (λ k. omega arith);
    counts = λ id. made_counts id;
  }

-- ---- buffers end

module _ (types : Types) (forms : AreDeclared types) (buffers : BuffersAreAlone types) (clock : ℕ) (scope act : ℕ → Bool)
    (hold : Holds) (type : ℕ → ℕ → Meaning) (v : Value) (t of : Meaning) (under : Made) (s : Table)
    (m : Memory (List ℕ)) (core : Core types clock scope act hold type ((v, t) ∷ under) s m)
    (is : types.buffered t ≡ Some of) where
  first : (tree : Tree) × (rest : List Tree) × (core.trees ≡ tree ∷ rest) × Shows types s m v tree × Has types s tree t
      × AreShown types s m under rest
  first = first_shown types s m v t under core.trees core.shown

  form : IsBuffer types s first.0 of
  form = buffer_form types forms buffers s first.0 t of is first.4

  shown : Shows types s m v (a_buffer form.born form.all)
  shown = subst (λ tree. Shows types s m v tree) form.is first.3

  lists : (id : Id) → in_list id core.trees ≡ (in_birth id (Some form.born) + in_trees id form.all) + in_list id first.1
  lists id =
      let all = ap (in_list id) first.2 in
      let own = ap (in_tree id) form.is in
      omega arith

  own_one : in_birth (birth form.born) (Some form.born) ≡ 1
  own_one = ap one_if (eq-eqb form.born form.born refl)

  alone : (in_forest (birth form.born) core.top core.forest ≡ 0) × (in_list (birth form.born) first.1 ≡ 0)
  alone =
      let all = lists (birth form.born) in
      let one = own_one in
      let most = core.once (birth form.born) in
      (omega arith, omega arith)

  module _ (ended : shown.0 ≡ []) where
    end_counts : (id : Id) → (in_forest id core.top core.forest + in_list id first.1) + in_birth id (Some form.born)
        ≡ in_forest id core.top core.forest + in_list id core.trees
    end_counts id =
        let all = lists id in
        let none = no_element types s m shown.0 form.all id ended shown.3 in
        omega arith

    gone : BufferGone types clock scope act hold type v t of under s m core form.born
    unfolding items_remade remade
    gone = record {
      after = items_remade types clock scope act hold type ((v, t) ∷ under) s m core form.born None alone.0 under first.1
          (shown_items types s m form.born None under first.1 alone.1 first.5)
          (λ id. let all = lists id in let most = core.once id in omega arith)
          (λ k. let all = lists (writer k) in omega arith);
      counts = λ id. end_counts id;
    }

  pub buffer_ends : BufferEnds types clock scope act hold type v t of under s m core
  buffer_ends = record {
    born = form.born;
    items = shown.0;
    is_buffer = shown.1;
    there = shown.2;
    gone = gone;
  }
