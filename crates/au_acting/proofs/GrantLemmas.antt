-- The root, and terminals.
use Rattle.std.proofs.Common.{◌≡◌, ℕ, ◌+◌, ◌≤◌, ◌==◌, Bool, true, false, List, ◌∷◌, Option, Some, refl, sym, ap, subst}
use Rattle.std.proofs.Common.{◌∙◌, arith}
use Rattle.std.proofs.lemmas.Bool.{eqb-true}
use Rattle.au_effects.specs.Values.{Place, reference, root, terminal}
use Rattle.au_effects.specs.Worlds.{born}
use Rattle.au_events.specs.Laws.{FitsHome}
use Rattle.au_places.specs.Memories.{Memory, held_at}
use Rattle.au_places.specs.Places.{Id, birth, cell, writer, one_if}
use Rattle.au_running_types.specs.Running.{token}
use Rattle.au_types.specs.Types as meaning
use Rattle.au_types.specs.Types.{Meaning}
use Rattle.au_memory.specs.Forests.{Core, Holds, Made, Usable, in_forest, in_list}
use Rattle.au_memory.specs.Loans.{Types, Loan, Table}
use Rattle.au_memory.specs.Shown.{Shows, Has, AreDeclared, IsDeclared}
use Rattle.au_memory.specs.Trees.{Value, Tree, a_plain, a_made, a_box, a_buffer, a_terminal, a_root, a_writer, a_reader}
use Rattle.au_memory.specs.Trees.{in_birth, in_tree}
use Rattle.au_memory.proofs.CountLemmas.{writer_in}
use Rattle.au_memory.proofs.FormLemmas.{writer_form}
use Rattle.au_memory.proofs.UsableLemmas.{usable, writer_is_loan}
use Rattle.au_lending.proofs.FillLemmas.{first_shown}
use Rattle.au_lending.proofs.RemadeLemmas.{no_plain}
use Rattle.au_lending.proofs.ValueLemmas.{dropped, lent_counts}
use Rattle.au_borrows.specs.Orders.{Act, is_active}
use Rattle.au_borrows.specs.Told.{Told, with_birth, with_end, with_use}
use Rattle.au_borrows.proofs.InvariantLemmas.{bears_on, spends_on}
use Rattle.au_acting.specs.Granting.{EndsRoots, EndsTerminals, GrantsAreAlone, MakesRoots, MakesTerminals, UsesRoots}
use Rattle.au_acting.specs.Granting.{UsesTerminals}
use Rattle.au_acting.specs.Safe.{IsSafe}
use Rattle.au_acting.proofs.ReferLemmas.{Refers, used_first}
use Rattle.au_acting.proofs.RowLemmas.{birth_one, next_unborn, parts_same}
use Rattle.au_acting.proofs.ValueLemmas.{drops_writers}

-- ---- forms

-- a tree of a terminal's type is a terminal, and one of the root's is the root
pub terminal_form : (types : Types) → AreDeclared types → GrantsAreAlone types → (s : Table) (tree : Tree)
    (t : Meaning) → types.is_terminal t ≡ true → Has types s tree t → (i : ℕ) × (tree ≡ a_terminal i)
terminal_form types forms alone s (a_plain v) t is h = absurd (no_plain v t (forms.terminals t is) h)
terminal_form types forms alone s (a_made tag b all) t is h = absurd (alone.terminal_fields t tag h.0 is h.1)
terminal_form types forms alone s (a_box b content) t is h = absurd (alone.terminal_boxes t h.0 is h.1)
terminal_form types forms alone s (a_buffer b all) t is h = absurd (alone.terminal_buffers t h.0 is h.1)
terminal_form types forms alone s (a_terminal b) t is h = (b, refl)
terminal_form types forms alone s (a_root b) t is h = absurd (alone.either t is h)
terminal_form types forms alone s (a_writer g) t is h = absurd (subst IsDeclared h.3 (forms.terminals t is))
terminal_form types forms alone s (a_reader g steps) t is h = absurd (subst IsDeclared h.3 (forms.terminals t is))

pub root_form : (types : Types) → AreDeclared types → GrantsAreAlone types → (s : Table) (tree : Tree) (t : Meaning)
    → types.is_root t ≡ true → Has types s tree t → (i : ℕ) × (tree ≡ a_root i)
root_form types forms alone s (a_plain v) t is h = absurd (no_plain v t (forms.roots t is) h)
root_form types forms alone s (a_made tag b all) t is h = absurd (alone.root_fields t tag h.0 is h.1)
root_form types forms alone s (a_box b content) t is h = absurd (alone.root_boxes t h.0 is h.1)
root_form types forms alone s (a_buffer b all) t is h = absurd (alone.root_buffers t h.0 is h.1)
root_form types forms alone s (a_terminal b) t is h = absurd (alone.either t h is)
root_form types forms alone s (a_root b) t is h = (b, refl)
root_form types forms alone s (a_writer g) t is h = absurd (subst IsDeclared h.3 (forms.roots t is))
root_form types forms alone s (a_reader g steps) t is h = absurd (subst IsDeclared h.3 (forms.roots t is))

-- ---- a value that is a birth alone comes under way

module _ (types : Types) (clock : ℕ) (scope act : ℕ → Bool) (hold : Holds) (type : ℕ → ℕ → Meaning) (under : Made)
    (s : Table) (m : Memory (List ℕ)) (core : Core types clock scope act hold type under s m) (i : ℕ) (tree : Tree)
    (own : (id : Id) → in_tree id tree ≡ in_birth id (Some i))
    (unborn : in_forest (birth i) core.top core.forest + in_list (birth i) core.trees ≡ 0) where
  once : (id : Id) → in_forest id core.top core.forest + (in_tree id tree + in_list id core.trees) ≤ 1
  once (writer g) = let old = core.once (writer g) in let e = own (writer g) in omega arith
  once (cell base path) = let old = core.once (cell base path) in let e = own (cell base path) in omega arith
  once (birth j) = by (i == j) refl
    where
      by : (b : Bool) → (i == j) ≡ b → in_forest (birth j) core.top core.forest
          + (in_tree (birth j) tree + in_list (birth j) core.trees) ≤ 1
      by true e =
          let fresh : in_forest (birth j) core.top core.forest + in_list (birth j) core.trees ≡ 0 =
          subst (λ c. in_forest (birth c) core.top core.forest + in_list (birth c) core.trees ≡ 0) (eqb-true i j e)
          unborn in
          let one : in_birth (birth j) (Some i) ≡ 1 = ap one_if e in
          let count = own (birth j) in
          omega arith
      by false e =
          let nought : in_birth (birth j) (Some i) ≡ 0 = ap one_if e in
          let old = core.once (birth j) in
          let count = own (birth j) in
          omega arith

  -- Memory with it, in which it counts once more.
  pub record Granted (v : Value) (t : Meaning) : Type 0 where
    pub after : Core types clock scope act hold type ((v, t) ∷ under) s m
    pub counts : (id : Id) → in_forest id after.top after.forest + in_list id after.trees
        ≡ (in_forest id core.top core.forest + in_list id core.trees) + in_birth id (Some i)

  pub granted : (v : Value) (t : Meaning) → Shows types s m v tree → Has types s tree t → Granted v t
  granted v t shown has = record {
    after = record {
      forest = core.forest;
      top = core.top;
      root = core.root;
      trees = tree ∷ core.trees;
      shown = (shown, has, core.shown);
      once = once;
      rooted = core.rooted;
      names = core.names;
      lent = λ g l row here. lent_counts core.forest hold core.root
          (λ id. in_forest id core.top core.forest + in_list id core.trees)
          (λ id. in_forest id core.top core.forest + (in_tree id tree + in_list id core.trees))
          (λ k. let e = own (writer k) in omega arith) g l.token l.via (core.lent g l row here);
      live = core.live;
      active = core.active;
      known = core.known;
      older = core.older;
      order = core.order;
      ticked = core.ticked;
      acted = core.acted;
      scoped = core.scoped;
    };
    counts = λ id. let e = own id in omega arith;
  }

module _ (B : Type 0) (types : Types) (owner : B → Option (List ℕ)) (acts : List Act) (hold : Holds)
    (type : ℕ → ℕ → Meaning) (under : Made) (m : Memory (List ℕ)) (w : Told B) where
  makes : (v : Value) (t : Meaning) (kind : B) (home : List ℕ) (tree : Tree)
      → ((s : Table) → Shows types s m v tree) → ((s : Table) → Has types s tree t)
      → ((id : Id) → in_tree id tree ≡ in_birth id (Some w.next_birth)) → FitsHome owner (born w.next_birth kind home)
      → IsSafe types owner acts hold type under m w
      → IsSafe types owner acts hold type ((v, t) ∷ under) m (with_birth kind home w)
  makes v t kind home tree shown has own fitting state =
      let s = state.rows in
      let inv = state.inv in
      let fresh = next_unborn owner
      (λ i. in_forest (birth i) inv.core.top inv.core.forest + in_list (birth i) inv.core.trees) w inv.fits in
      let done = granted types inv.clock (is_active acts) (is_active acts) hold type under s m inv.core w.next_birth tree
      own fresh v t (shown s) (has s) in
      record {
        rows = s;
        inv = bears_on B types owner acts hold type under s m w inv inv.clock hold type ((v, t) ∷ under) s m done.after
            kind home
            (λ i.
            let c = done.counts (birth i) in
            let one = birth_one w.next_birth i in
            omega arith) fitting (parts_same s);
      }

  pub makes_terminals : MakesTerminals B types owner acts hold type under m w
  makes_terminals t kind home is fitting state =
      makes (terminal w.next_birth) t kind home (a_terminal w.next_birth) (λ s. refl) (λ s. is) (λ id. refl) fitting
      state

  pub makes_roots : MakesRoots B types owner acts hold type under m w
  makes_roots t kind home is fitting state =
      makes (root w.next_birth) t kind home (a_root w.next_birth) (λ s. refl) (λ s. is) (λ id. refl) fitting state

  -- ---- it ends

  -- what a value is whose tree is one birth alone
  abbrev IsBirth : Table → Meaning → (ℕ → Value) → Type 0
  IsBirth s t made_of =
      (tree : Tree) → Has types s tree t
      → (i : ℕ) × ((id : Id) → in_tree id tree ≡ in_birth id (Some i))
      × ((u : Value) → Shows types s m u tree → u ≡ made_of i)

  terminal_birth : AreDeclared types → GrantsAreAlone types → (s : Table) (t : Meaning) → types.is_terminal t ≡ true
      → IsBirth s t terminal
  terminal_birth forms alone s t is tree has =
      let form = terminal_form types forms alone s tree t is has in (
        form.0,
        λ id. ap (in_tree id) form.1,
        λ u shown. subst (λ other. Shows types s m u other) form.1 shown,
      )

  root_birth : AreDeclared types → GrantsAreAlone types → (s : Table) (t : Meaning) → types.is_root t ≡ true
      → IsBirth s t root
  root_birth forms alone s t is tree has =
      let form = root_form types forms alone s tree t is has in (
        form.0,
        λ id. ap (in_tree id) form.1,
        λ u shown. subst (λ other. Shows types s m u other) form.1 shown,
      )

  ends_one : (made_of : ℕ → Value) (v : Value) (t : Meaning)
      (state : IsSafe types owner acts hold type ((v, t) ∷ under) m w) → IsBirth state.rows t made_of
      → (i : ℕ) × (v ≡ made_of i) × IsSafe types owner acts hold type under m (with_end i w)
  ends_one made_of v t state form =
      let s = state.rows in
      let inv = state.inv in
      let done = dropped types inv.clock (is_active acts) (is_active acts) hold type v t under s m inv.core in
      let known = form done.tree done.typed in (
        known.0,
        known.2 v done.shown,
        record {
          rows = s;
          inv = spends_on B types owner acts hold type ((v, t) ∷ under) s m w inv inv.clock hold type under s m
              done.after known.0
              (λ i.
              let c = done.counts (birth i) in
              let own = known.1 (birth i) in
              let one = birth_one known.0 i in
              omega arith) (parts_same s);
        },
      )

  pub ends_terminals : EndsTerminals B types owner acts hold type under m w
  ends_terminals forms alone v t is state =
      ends_one terminal v t state (terminal_birth forms alone state.rows t is)

  pub ends_roots : EndsRoots B types owner acts hold type under m w
  ends_roots forms alone v t is state = ends_one root v t state (root_birth forms alone state.rows t is)

  -- ---- it is used

  uses_one : (made_of : ℕ → Value) → AreDeclared types → (r : Value) (t : Meaning) (z : ℕ)
      → is_active acts z ≡ true
      → (state : IsSafe types owner acts hold type ((r, meaning.writes t (token z)) ∷ under) m w)
      → IsBirth state.rows t made_of
      → (borrow : ℕ) × (to : Place) × (i : ℕ) × (r ≡ reference borrow to) × (held_at m to ≡ Some (made_of i))
      × IsSafe types owner acts hold type under m (with_use borrow w)
  uses_one made_of forms r t z on state is_birth =
      let s = state.rows in
      let core = state.inv.core in
      let first = first_shown types s m r (meaning.writes t (token z)) under core.trees core.shown in
      let form = writer_form types forms s first.0 t (token z) first.4 in
      let e = form.typed in
      let of_token : z ≡ form.row.token = cc in
      let of_type : t ≡ form.row.type = cc in
      let shown = subst (λ tree. Shows types s m r tree) form.is first.3 in
      let there : s form.loan ≡ Some shown.0 = shown.1 in
      let mine : s form.loan ≡ Some form.row = form.has in
      let same : shown.0 ≡ form.row = cc in
      let all = ap (in_list (writer form.loan)) first.2 in
      let head = ap (in_tree (writer form.loan)) form.is in
      let own = writer_in form.loan in
      let can : Usable types s core.forest m form.loan form.row =
      usable types state.inv.clock (is_active acts) (is_active acts) hold type ((r, meaning.writes t (token z)) ∷ under) s
      m core form.loan form.row form.has form.writes (omega arith)
      (subst (λ y. is_active acts y ≡ true) of_token on) in
      let known = is_birth can.tree (subst (λ u. Has types s can.tree u) (sym of_type) can.typed) in
      let refers : Refers s r z = record {
        loan = form.loan;
        row = form.row;
        to = form.row.to;
        has = form.has;
        is_loan = writer_is_loan form.row.via form.writes;
        of_token = sym of_token;
        is = shown.2 ∙ ap (λ (n : Loan). reference n.borrow n.to) same;
      } in
      let inv = used_first B types owner acts hold type ((r, meaning.writes t (token z)) ∷ under) s m w state.inv r z
      refers on in (
        form.row.borrow,
        form.row.to,
        known.0,
        refers.is,
        can.there ∙ ap Some (known.2 can.value can.shown),
        drops_writers B types owner acts hold type under m (with_use form.row.borrow w) forms r t z
            (record { rows = s; inv = inv }),
      )

  pub uses_terminals : UsesTerminals B types owner acts hold type under m w
  uses_terminals forms alone r t z is on state =
      uses_one terminal forms r t z on state (terminal_birth forms alone state.rows t is)

  pub uses_roots : UsesRoots B types owner acts hold type under m w
  uses_roots forms alone r t z is on state =
      uses_one root forms r t z on state (root_birth forms alone state.rows t is)
