-- The last element is taken out of the buffer behind a write reference.
use Rattle.std.proofs.Common.{◌≡◌, ℕ, ◌+◌, Bool, true, List, [], ◌∷◌, ◌++◌, refl, ap, subst, ◌∙◌, arith}
use Rattle.std.specs.Prelude.{Some}
use Rattle.au_effects.specs.Values.{reference}
use Rattle.au_places.specs.Memories.{Memory}
use Rattle.au_places.specs.Places.{Id, birth, writer}
use Rattle.au_running_types.specs.Running.{token}
use Rattle.au_types.specs.Types as meaning
use Rattle.au_types.specs.Types.{Meaning}
use Rattle.au_memory.specs.Trees.{Value, Tree, a_buffer, in_tree, in_trees, in_writer}
use Rattle.au_memory.specs.Loans.{Types, Loan, Table}
use Rattle.au_memory.specs.Shown.{Shows, Has, AreDeclared}
use Rattle.au_memory.specs.Forests.{Holds, Made, Core, AreShown, Usable, in_list}
use Rattle.au_memory.proofs.CountLemmas.{writer_in}
use Rattle.au_memory.proofs.FormLemmas.{IsWriterOf, writer_form}
use Rattle.au_memory.proofs.FrameLemmas.{shows_items}
use Rattle.au_memory.proofs.UsableLemmas.{usable}
use Rattle.au_lending.specs.Buffers.{BuffersAreAlone, Removed, TakesItems}
use Rattle.au_lending.proofs.FillLemmas.{first_shown}
use Rattle.au_lending.proofs.ItemLemmas.{no_element, one_item}
use Rattle.au_lending.proofs.RefillLemmas.{IsBuffer, alone, buffer_form, buffer_shown, buffer_there, each_stays}
use Rattle.au_lending.proofs.RefillLemmas.{filled, shown_items}

module _ (types : Types) (forms : AreDeclared types) (buffers : BuffersAreAlone types) (clock : ℕ)
    (scope act : ℕ → Bool) (hold : Holds) (type : ℕ → ℕ → Meaning) (r : Value) (t of : Meaning) (z : ℕ)
    (under : Made) (s : Table) (m : Memory (List ℕ))
    (core : Core types clock scope act hold type ((r, meaning.writes t (token z)) ∷ under) s m)
    (is : types.buffered t ≡ Some of) (scoped : scope z ≡ true) where
  abbrev Under : Made
  Under = (r, meaning.writes t (token z)) ∷ under

  given : (tree : Tree) × (rest : List Tree) × (core.trees ≡ tree ∷ rest) × Shows types s m r tree
      × Has types s tree (meaning.writes t (token z)) × AreShown types s m under rest
  given = first_shown types s m r (meaning.writes t (token z)) under core.trees core.shown

  form : IsWriterOf types forms s given.0 t (token z)
  form = writer_form types forms s given.0 t (token z) given.4

  abbrev g : ℕ
  g = form.loan

  abbrev l : Loan
  l = form.row

  of_type : t ≡ l.type
  of_type = let e = form.typed in cc

  of_token : z ≡ l.token
  of_token = let e = form.typed in cc

  lists : (id : Id) → in_list id core.trees ≡ in_writer id g + in_list id given.1
  lists id =
      let a = ap (in_list id) given.2 in
      let c = ap (in_tree id) form.is in
      omega arith

  can : Usable types s core.forest m g l
  can =
      let all = lists (writer g) in
      let own = writer_in g in
      usable types clock scope act hold type Under s m core g l form.has form.writes (omega arith)
      (subst (λ y. scope y ≡ true) of_token scoped)

  leads : r ≡ reference l.borrow l.to
  leads =
      let shown = subst (λ tree. Shows types s m r tree) form.is given.3 in
      let has : s g ≡ Some shown.0 = shown.1 in
      let mine : s g ≡ Some l = form.has in
      let same : shown.0 ≡ l = cc in
      shown.2 ∙ ap (λ (n : Loan). reference n.borrow n.to) same

  holds : types.buffered l.type ≡ Some of
  holds = subst (λ u. types.buffered u ≡ Some of) of_type is

  row : IsBuffer types s can.tree of
  row = buffer_form types forms buffers s can.tree l.type of holds can.typed

  abbrev i : ℕ
  i = row.born

  stands : Shows types s m can.value (a_buffer i row.all)
  stands = buffer_shown types clock scope act hold type Under s m core g l form.has form.writes can of holds row

  nothing : (in_trees (birth i) row.all ≡ 0) × (in_list (birth i) core.trees ≡ 0)
  nothing = alone types clock scope act hold type Under s m core g l form.has form.writes can of holds row

  in_rest : in_list (birth i) given.1 ≡ 0
  in_rest = let none = nothing.1 in let all = lists (birth i) in omega arith

  taken : (front : List Value) (last : Value) → stands.0 ≡ front ++ last ∷ []
      → Removed types clock scope act hold type r t of z under s m core i g front last
  taken front last split =
      let o = one_item types s m last front [] stands.0 row.all of split stands.3 row.typed in
      let sum = o.counts (birth i) in
      let zero = nothing.0 in
      let before : in_trees (birth i) o.before ≡ 0 = omega arith in
      let own : in_tree (birth i) o.tree ≡ 0 = omega arith in
      let done = filled types clock scope act hold type Under s m core g l form.has form.writes can of holds row front
      o.before ((last, of) ∷ under) (o.tree ∷ given.1) (λ id. in_writer id g) (record {
        each = each_stays types clock scope act hold type Under s m core g l form.has form.writes can of holds row
            front front o.before before o.first;
        kinds = o.first_typed;
        others = (
          shows_items types s m i (Some front) o.tree last own o.own,
          o.own_typed,
          shown_items types s m i (Some front) under given.1 in_rest given.5,
        );
        counted = λ id.
            let was = o.counts id in
            let none = no_element types s m [] o.behind id refl o.rest in
            let list = lists id in
            omega arith;
      }) in
      record { after = done.after; counts = λ id. done.counts id }

  pub takes_items : TakesItems types clock scope act hold type r t of z under s m core
  takes_items = record {
    born = i;
    loan = g;
    items = stands.0;
    leads = record {
      borrow = l.borrow;
      to = l.to;
      is = leads;
      there = buffer_there types clock scope act hold type Under s m core g l form.has form.writes can of holds row;
      holds = stands.2;
    };
    taken = taken;
  }
