-- Elements are put into the buffer behind a write reference, and exchanged.
use Rattle.std.proofs.Common.{◌≡◌, ℕ, ◌+◌, Bool, true, List, [], ◌∷◌, ◌++◌, ap, subst, ◌∙◌, arith}
use Rattle.std.specs.Prelude.{Some}
use Rattle.au_effects.specs.Values.{reference}
use Rattle.au_places.specs.Memories.{Memory, with_items}
use Rattle.au_places.specs.Places.{Id, birth, writer}
use Rattle.au_running_types.specs.Running.{token}
use Rattle.au_types.specs.Types as meaning
use Rattle.au_types.specs.Types.{Meaning}
use Rattle.au_memory.specs.Trees.{Value, Tree, Trees, a_buffer, no_trees, tree_then, in_tree, in_trees, in_writer}
use Rattle.au_memory.specs.Loans.{Types, Loan, Table}
use Rattle.au_memory.specs.Shown.{Shows, ShowsEach, Has, AreDeclared}
use Rattle.au_memory.specs.Forests.{Holds, Made, Core, AreShown, Usable, in_list}
use Rattle.au_memory.proofs.CountLemmas.{writer_in}
use Rattle.au_memory.proofs.FormLemmas.{IsWriterOf, writer_form}
use Rattle.au_memory.proofs.FrameLemmas.{shows_items}
use Rattle.au_memory.proofs.UsableLemmas.{usable}
use Rattle.au_lending.specs.Buffers.{BuffersAreAlone, PutsItems, Refilled}
use Rattle.au_lending.proofs.FillLemmas.{first_shown}
use Rattle.au_lending.proofs.ItemLemmas.{join_counts, join_shown, join_typed, one_item, trees_join}
use Rattle.au_lending.proofs.RefillLemmas.{Fills, IsBuffer, alone, buffer_form, buffer_there, each_stays, filled}
use Rattle.au_lending.proofs.RefillLemmas.{buffer_shown, shown_items}

-- ---- the reference lies below a new value

module _ (types : Types) (forms : AreDeclared types) (buffers : BuffersAreAlone types) (clock : ℕ) (scope act : ℕ → Bool)
    (hold : Holds) (type : ℕ → ℕ → Meaning) (new r : Value) (t of : Meaning) (z : ℕ) (under : Made) (s : Table)
    (m : Memory (List ℕ))
    (core : Core types clock scope act hold type ((new, of) ∷ (r, meaning.writes t (token z)) ∷ under) s m)
    (is : types.buffered t ≡ Some of) (scoped : scope z ≡ true) where
  abbrev Two : Made
  Two = (new, of) ∷ (r, meaning.writes t (token z)) ∷ under

  one : (tree : Tree) × (rest : List Tree) × (core.trees ≡ tree ∷ rest) × Shows types s m new tree × Has types s tree of
      × AreShown types s m ((r, meaning.writes t (token z)) ∷ under) rest
  one = first_shown types s m new of ((r, meaning.writes t (token z)) ∷ under) core.trees core.shown

  two : (tree : Tree) × (rest : List Tree) × (one.1 ≡ tree ∷ rest) × Shows types s m r tree
      × Has types s tree (meaning.writes t (token z)) × AreShown types s m under rest
  two = first_shown types s m r (meaning.writes t (token z)) under one.1 one.5

  form : IsWriterOf types forms s two.0 t (token z)
  form = writer_form types forms s two.0 t (token z) two.4

  abbrev g : ℕ
  g = form.loan

  abbrev l : Loan
  l = form.row

  of_type : t ≡ l.type
  of_type = let e = form.typed in cc

  of_token : z ≡ l.token
  of_token = let e = form.typed in cc

  lists : (id : Id) → in_list id core.trees ≡ in_tree id one.0 + (in_writer id g + in_list id two.1)
  lists id =
      let a = ap (in_list id) one.2 in
      let b = ap (in_list id) two.2 in
      let c = ap (in_tree id) form.is in
      omega arith

  can : Usable types s core.forest m g l
  can =
      let all = lists (writer g) in
      let own = writer_in g in
      usable types clock scope act hold type Two s m core g l form.has form.writes (omega arith)
      (subst (λ y. scope y ≡ true) of_token scoped)

  leads : r ≡ reference l.borrow l.to
  leads =
      let shown = subst (λ tree. Shows types s m r tree) form.is two.3 in
      let has : s g ≡ Some shown.0 = shown.1 in
      let mine : s g ≡ Some l = form.has in
      let same : shown.0 ≡ l = cc in
      shown.2 ∙ ap (λ (n : Loan). reference n.borrow n.to) same

  row : IsBuffer types s can.tree of
  row = buffer_form types forms buffers s can.tree l.type of (subst (λ u. types.buffered u ≡ Some of) of_type is) can.typed

  abbrev i : ℕ
  i = row.born

  holds : types.buffered l.type ≡ Some of
  holds = subst (λ u. types.buffered u ≡ Some of) of_type is

  stands : Shows types s m can.value (a_buffer i row.all)
  stands = buffer_shown types clock scope act hold type Two s m core g l form.has form.writes can of holds row

  nothing : (in_trees (birth i) row.all ≡ 0) × (in_list (birth i) core.trees ≡ 0)
  nothing = alone types clock scope act hold type Two s m core g l form.has form.writes can of holds row

  in_new : in_tree (birth i) one.0 ≡ 0
  in_new = let none = nothing.1 in let all = lists (birth i) in omega arith

  in_rest : in_list (birth i) two.1 ≡ 0
  in_rest = let none = nothing.1 in let all = lists (birth i) in omega arith

  stays : (fresh xs : List Value) (ts : Trees) → in_trees (birth i) ts ≡ 0 → ShowsEach types s m xs ts
      → ShowsEach types s (with_items i (Some fresh) m) xs ts
  stays = each_stays types clock scope act hold type Two s m core g l form.has form.writes can of holds row

  module _ (fresh : List Value) (all : Trees) (now : Made) (trees : List Tree)
      (fills : Fills types clock scope act hold type Two s m core g l form.has form.writes can of holds row fresh all now
      trees (λ id. in_writer id g)) where
    refilled : Refilled types clock scope act hold type new r t of z under s m core i g fresh now
    refilled =
        let done = filled types clock scope act hold type Two s m core g l form.has form.writes can of holds row fresh
        all now trees (λ id. in_writer id g) fills in
        record { after = done.after; counts = λ id. done.counts id }

  -- ---- an element is put at the end, or exchanged

  abbrev items : List Value
  items = stands.0

  inserted : Refilled types clock scope act hold type new r t of z under s m core i g (items ++ new ∷ []) under
  inserted = refilled (items ++ new ∷ []) (trees_join row.all (tree_then one.0 no_trees)) under two.1 (record {
    each = join_shown types s (with_items i (Some (items ++ new ∷ [])) m) items (new ∷ []) row.all
        (tree_then one.0 no_trees) (stays (items ++ new ∷ []) items row.all nothing.0 stands.3)
        (shows_items types s m i (Some (items ++ new ∷ [])) one.0 new in_new one.3, tt);
    kinds = join_typed types s row.all (tree_then one.0 no_trees) of row.typed (one.4, tt);
    others = shown_items types s m i (Some (items ++ new ∷ [])) under two.1 in_rest two.5;
    counted = λ id.
        let sum = join_counts id row.all (tree_then one.0 no_trees) in
        let list = lists id in
        omega arith;
  })

  replaced : (front back : List Value) (old : Value) → items ≡ front ++ old ∷ back
      → Refilled types clock scope act hold type new r t of z under s m core i g (front ++ new ∷ back)
      ((old, of) ∷ under)
  replaced front back old split =
      let o = one_item types s m old front back items row.all of split stands.3 row.typed in
      let sum = o.counts (birth i) in
      let zero = nothing.0 in
      let before : in_trees (birth i) o.before ≡ 0 = omega arith in
      let behind : in_trees (birth i) o.behind ≡ 0 = omega arith in
      let own : in_tree (birth i) o.tree ≡ 0 = omega arith in
      refilled (front ++ new ∷ back) (trees_join o.before (tree_then one.0 o.behind)) ((old, of) ∷ under) (o.tree ∷ two.1)
      (record {
        each = join_shown types s (with_items i (Some (front ++ new ∷ back)) m) front (new ∷ back) o.before
            (tree_then one.0 o.behind) (stays (front ++ new ∷ back) front o.before before o.first) (
              shows_items types s m i (Some (front ++ new ∷ back)) one.0 new in_new one.3,
              stays (front ++ new ∷ back) back o.behind behind o.rest,
            );
        kinds = join_typed types s o.before (tree_then one.0 o.behind) of o.first_typed (one.4, o.rest_typed);
        others = (
          shows_items types s m i (Some (front ++ new ∷ back)) o.tree old own o.own,
          o.own_typed,
          shown_items types s m i (Some (front ++ new ∷ back)) under two.1 in_rest two.5,
        );
        counted = λ id.
            let now = join_counts id o.before (tree_then one.0 o.behind) in
            let was = o.counts id in
            let list = lists id in
            omega arith;
      })

  pub puts_items : PutsItems types clock scope act hold type new r t of z under s m core
  puts_items = record {
    born = i;
    loan = g;
    items = items;
    leads = record {
      borrow = l.borrow;
      to = l.to;
      is = leads;
      there = buffer_there types clock scope act hold type Two s m core g l form.has form.writes can of holds row;
      holds = stands.2;
    };
    inserted = inserted;
    replaced = replaced;
  }
