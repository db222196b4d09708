-- Values under way change places, and those that hold nothing are dropped.
use Rattle.std.proofs.Common.{◌≡◌, ℕ, ◌+◌, ◌≤◌, Bool, true, List, [], ◌∷◌, Option, Some, refl, sym, ap, subst, ◌∙◌, arith}
use Rattle.au_places.specs.Memories.{Memory}
use Rattle.au_places.specs.Places.{Id, birth, writer}
use Rattle.au_running_types.specs.Running.{token}
use Rattle.au_types.specs.Types as meaning
use Rattle.au_types.specs.Types.{Meaning}
use Rattle.au_memory.specs.Forests.{AreShown, Core, Holds, Made, in_forest, in_list}
use Rattle.au_memory.specs.Loans.{Types, Table}
use Rattle.au_memory.specs.Shown.{Shows, Has, IsDeclared, AreDeclared, IsPlain}
use Rattle.au_memory.specs.Trees.{Value, Tree, a_plain, a_made, a_box, a_buffer, a_terminal, a_root, a_writer, a_reader}
use Rattle.au_memory.specs.Trees.{in_tree}
use Rattle.au_lending.proofs.FillLemmas.{first_shown}
use Rattle.au_lending.proofs.ValueLemmas.{dropped, lent_counts}
use Rattle.au_borrows.specs.Orders.{Act, is_active}
use Rattle.au_borrows.specs.Told.{Told}
use Rattle.au_borrows.proofs.InvariantLemmas.{keeps_on}
use Rattle.au_acting.specs.Safe.{IsSafe}
use Rattle.au_acting.specs.Turning.{DropsPlains, IsBasic, Turns, UsesReaders, UsesSeconds, UsesWriters}
use Rattle.au_acting.proofs.ReferLemmas.{newest_reads, newest_writes, second_writes, used_first}
use Rattle.au_acting.proofs.RowLemmas.{parts_same}

-- ---- two values change places

module _ (types : Types) (clock : ℕ) (scope act : ℕ → Bool) (hold : Holds) (type : ℕ → ℕ → Meaning) (v u : Value)
    (t k : Meaning) (under : Made) (s : Table) (m : Memory (List ℕ))
    (core : Core types clock scope act hold type ((v, t) ∷ (u, k) ∷ under) s m) where
  one : (tree : Tree) × (rest : List Tree) × (core.trees ≡ tree ∷ rest) × Shows types s m v tree × Has types s tree t
      × AreShown types s m ((u, k) ∷ under) rest
  one = first_shown types s m v t ((u, k) ∷ under) core.trees core.shown

  two : (tree : Tree) × (rest : List Tree) × (one.1 ≡ tree ∷ rest) × Shows types s m u tree × Has types s tree k
      × AreShown types s m under rest
  two = first_shown types s m u k under one.1 one.5

  lists : (id : Id) → in_list id core.trees ≡ in_tree id one.0 + (in_tree id two.0 + in_list id two.1)
  lists id = let a = ap (in_list id) one.2 in let b = ap (in_list id) two.2 in omega arith

  record Turned : Type 0 where
    after : Core types clock scope act hold type ((u, k) ∷ (v, t) ∷ under) s m
    counts : (id : Id) → in_forest id after.top after.forest + in_list id after.trees
        ≡ in_forest id core.top core.forest + in_list id core.trees

  turned : Turned
  turned = record {
    after = record {
      forest = core.forest;
      top = core.top;
      root = core.root;
      trees = two.0 ∷ one.0 ∷ two.1;
      shown = (two.3, two.4, (one.3, one.4, two.5));
      once = λ id. let all = lists id in let once = core.once id in omega arith;
      rooted = core.rooted;
      names = core.names;
      lent = λ g l row here. lent_counts core.forest hold core.root
          (λ id. in_forest id core.top core.forest + in_list id core.trees)
          (λ id. in_forest id core.top core.forest
          + (in_tree id two.0 + (in_tree id one.0 + in_list id two.1)))
          (λ j. let all = lists (writer j) in omega arith) g l.token l.via (core.lent g l row here);
      live = core.live;
      active = core.active;
      known = core.known;
      older = core.older;
      order = core.order;
      ticked = core.ticked;
      acted = core.acted;
      scoped = core.scoped;
    };
    counts = λ id. let all = lists id in omega arith;
  }

-- ---- values that hold nothing

no_basic : (t : Meaning) → IsDeclared t → IsBasic t → ⊥
no_basic meaning.unit declared basic = declared
no_basic meaning.truth declared basic = declared
no_basic (meaning.integer kind) declared basic = declared
no_basic meaning.text declared basic = declared
no_basic (meaning.parameter name) declared basic = declared
no_basic (meaning.named of args) declared basic = basic
no_basic (meaning.reads to region) declared basic = declared
no_basic (meaning.writes to region) declared basic = declared

basic_form : (types : Types) → AreDeclared types → (s : Table) (tree : Tree) (t : Meaning) → IsBasic t
    → Has types s tree t → (one : Value) × (tree ≡ a_plain one) × IsPlain one t
basic_form types forms s (a_plain one) t basic h = (one, refl, h)
basic_form types forms s (a_made tag born all) t basic h = absurd (no_basic t (forms.fields t tag h.0 h.1) basic)
basic_form types forms s (a_box born content) t basic h = absurd (no_basic t (forms.boxes t h.0 h.1) basic)
basic_form types forms s (a_buffer born all) t basic h = absurd (no_basic t (forms.buffers t h.0 h.1) basic)
basic_form types forms s (a_terminal born) t basic h = absurd (no_basic t (forms.terminals t h) basic)
basic_form types forms s (a_root born) t basic h = absurd (no_basic t (forms.roots t h) basic)
basic_form types forms s (a_writer g) t basic h = absurd (subst IsBasic h.3 basic)
basic_form types forms s (a_reader g steps) t basic h = absurd (subst IsBasic h.3 basic)

module _ (B : Type 0) (types : Types) (owner : B → Option (List ℕ)) (acts : List Act) (hold : Holds)
    (type : ℕ → ℕ → Meaning) (under : Made) (m : Memory (List ℕ)) (w : Told B) where
  pub turns : Turns B types owner acts hold type under m w
  turns v u t k state =
      let s = state.rows in
      let inv = state.inv in
      let done = turned types inv.clock (is_active acts) (is_active acts) hold type v u t k under s m inv.core in
      record {
        rows = s;
        inv = keeps_on B types owner acts hold type ((v, t) ∷ (u, k) ∷ under) s m w inv inv.clock hold type
            ((u, k) ∷ (v, t) ∷ under) s m done.after (λ i. done.counts (birth i)) (parts_same s);
      }

  pub drops_plains : DropsPlains B types owner acts hold type under m w
  drops_plains forms v t basic state =
      let s = state.rows in
      let inv = state.inv in
      let done = dropped types inv.clock (is_active acts) (is_active acts) hold type v t under s m inv.core in
      let form = basic_form types forms s done.tree t basic done.typed in
      let is : v ≡ form.0 = subst (λ tree. Shows types s m v tree) form.1 done.shown in (
        subst (λ one. IsPlain one t) (sym is) form.2,
        record {
          rows = s;
          inv = keeps_on B types owner acts hold type ((v, t) ∷ under) s m w inv inv.clock hold type under s m done.after
              (λ i.
              let c = done.counts (birth i) in
              let none = ap (in_tree (birth i)) form.1 in
              omega arith) (parts_same s);
        },
      )

  -- ---- uses alone

  pub uses_writers : UsesWriters B types owner acts hold type under m w
  uses_writers forms r t z on state =
      let s = state.rows in
      let refers = newest_writes types forms state.inv.clock (is_active acts) (is_active acts) hold type r t z under s m
      state.inv.core in (
        refers.row.borrow,
        refers.to,
        refers.is,
        record {
          rows = s;
          inv = used_first B types owner acts hold type ((r, meaning.writes t (token z)) ∷ under) s m w state.inv r z
              refers on;
        },
      )

  pub uses_readers : UsesReaders B types owner acts hold type under m w
  uses_readers forms r t z on state =
      let s = state.rows in
      let refers = newest_reads types forms state.inv.clock (is_active acts) (is_active acts) hold type r t z under s m
      state.inv.core in (
        refers.row.borrow,
        refers.to,
        refers.is,
        record {
          rows = s;
          inv = used_first B types owner acts hold type ((r, meaning.reads t (token z)) ∷ under) s m w state.inv r z
              refers on;
        },
      )

  pub uses_seconds : UsesSeconds B types owner acts hold type under m w
  uses_seconds forms new r u t z on state =
      let s = state.rows in
      let refers = second_writes types forms state.inv.clock (is_active acts) (is_active acts) hold type r t z under s m
      new u state.inv.core in (
        refers.row.borrow,
        refers.to,
        refers.is,
        record {
          rows = s;
          inv = used_first B types owner acts hold type ((new, u) ∷ (r, meaning.writes t (token z)) ∷ under) s m w
              state.inv r z refers on;
        },
      )
