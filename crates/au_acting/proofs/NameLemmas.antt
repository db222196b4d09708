-- What is done to names keeps the invariant.
use Rattle.std.proofs.Common.{◌≡◌, ◌⊎◌, inl, inr, ℕ, ◌≤◌, ◌<◌, true, false, List, [], ◌∷◌, Option, Some}
use Rattle.std.proofs.Common.{refl, sym, subst, arith}
use Rattle.std.specs.Prelude.{None}
use Rattle.std.proofs.lemmas.Bool.{eq-eqb}
use Rattle.au_effects.specs.References.{name_along, place_along}
use Rattle.au_effects.specs.Values.{Place, name_of, reference}
use Rattle.au_places.specs.Memories.{Memory, with_base, written}
use Rattle.au_places.specs.Places.{birth}
use Rattle.au_running_types.specs.Running.{token}
use Rattle.au_types.specs.Types as meaning
use Rattle.au_types.specs.Types.{Meaning}
use Rattle.au_memory.specs.Forests.{Holds, Made, empty, ready, shut}
use Rattle.au_memory.specs.Loans.{Types, lent_of, lent_through}
use Rattle.au_memory.specs.Shown.{AreDeclared}
use Rattle.au_memory.specs.Trees.{Value}
use Rattle.au_memory.proofs.UsableLemmas.{writer_is_loan}
use Rattle.au_lending.specs.Holding.{name_row, with_hold, with_name, with_row}
use Rattle.au_lending.specs.Laws.{IsReadable, also_watched, lent_row, read_row}
use Rattle.au_lending.proofs.FillLemmas.{filled}
use Rattle.au_lending.proofs.MentionLemmas.{mentioned}
use Rattle.au_lending.proofs.NameLendLemmas.{name_lends}
use Rattle.au_lending.proofs.PutLemmas.{put_behind_name, put_in_name}
use Rattle.au_lending.proofs.ReadLemmas.{read}
use Rattle.au_lending.proofs.RebornLemmas.{lends_again, name_holds}
use Rattle.au_lending.proofs.SeenLemmas.{looked, looked_behind}
use Rattle.au_borrows.specs.Orders.{Act, AreSorted, is_active}
use Rattle.au_borrows.specs.Told.{Told, with_opening, with_use}
use Rattle.au_borrows.proofs.InvariantLemmas.{keeps_on, opens_on}
use Rattle.au_borrows.proofs.OrderLemmas.{active_cases}
use Rattle.au_acting.specs.Naming.{Fills, Lends, Looks, LooksBehind, Mentions, Puts, PutsBehind, Reads, Relends}
use Rattle.au_acting.specs.Safe.{IsSafe}
use Rattle.au_acting.proofs.ReferLemmas.{Refers, used_first}
use Rattle.au_acting.proofs.RowLemmas.{opened_lent, opened_read, parts_named, parts_same}

-- ---- the newest token

own_active : (a : Act) (older : List Act) → is_active (a ∷ older) a.token ≡ true
own_active a older = rw (eq-eqb a.token a.token refl)

pub newest_active : (a : Act) (older acts : List Act) → acts ≡ a ∷ older → is_active acts a.token ≡ true
newest_active a older acts is = subst (λ list. is_active list a.token ≡ true) (sym is) (own_active a older)

pub at_most : (a : Act) (older : List Act) → AreSorted (a ∷ older) → (y : ℕ) → is_active (a ∷ older) y ≡ true
    → y ≤ a.token
at_most a older sorted y on = by (active_cases a older y on)
  where
    by : (a.token ≡ y) ⊎ (is_active older y ≡ true) → y ≤ a.token
    by (inl same) = omega arith
    by (inr old) = let less : y < a.token = sorted.0 y old in omega arith

-- a name that holds two references holds one
same_held : (o : Option Value) (b c : ℕ) (to at : Place) → o ≡ Some (reference b to) → o ≡ Some (reference c at)
    → b ≡ c
same_held o b c to at first second = cc

module _ (B : Type 0) (types : Types) (owner : B → Option (List ℕ)) (acts : List Act) (hold : Holds)
    (type : ℕ → ℕ → Meaning) (under : Made) (m : Memory (List ℕ)) (w : Told B) where
  pub mentions : Mentions B types owner acts hold type under m w
  mentions frame x is state =
      let inv = state.inv in
      let done = mentioned types inv.clock (is_active acts) (is_active acts) hold type under state.rows m inv.core
      frame x is in (
        done.value,
        done.there,
        record {
          rows = state.rows;
          inv = keeps_on B types owner acts hold type under state.rows m w inv inv.clock (with_hold frame x empty hold)
              type ((done.value, type frame x) ∷ under) state.rows (with_base (name_of frame x) None m) done.after
              (λ i. let c = done.counts (birth i) in omega arith) (parts_same state.rows);
        },
      )

  pub fills : Fills B types owner acts hold type under m w
  fills frame x v t is state =
      let inv = state.inv in
      let done = filled types inv.clock (is_active acts) (is_active acts) hold type v t under state.rows m inv.core
      frame x is in
      record {
        rows = with_row inv.core.top (name_row frame x t) state.rows;
        inv = keeps_on B types owner acts hold type ((v, t) ∷ under) state.rows m w inv inv.clock
            (with_hold frame x ready hold) (with_name frame x t type) under
            (with_row inv.core.top (name_row frame x t) state.rows) (with_base (name_of frame x) (Some v) m) done.after
            (λ i. let c = done.counts (birth i) in omega arith) (parts_named inv.core.top frame x t state.rows inv.core.known);
      }

  -- ---- borrows

  pub lends : Lends B types owner acts hold type under m w
  lends a older acts_are frame x is state =
      let inv = state.inv in
      let done = name_lends types inv.clock (is_active acts) (is_active acts) hold type under state.rows m inv.core
      frame x w.next_borrow a.token is (newest_active a older acts acts_are) in
      let lent = done.4 in
      let via = lent_of (inv.core.root frame x) in
      let now : IsSafe types owner acts (with_hold frame x (shut a.token) hold) type
      ((reference w.next_borrow done.0.to, meaning.writes done.0.type (token a.token)) ∷ under) m (with_opening true (name_along frame x []) w) =
      record {
        rows = with_row inv.core.top (lent_row w.next_borrow a.token done.0 via) state.rows;
        inv = opens_on B types owner acts hold type under state.rows m w inv a older inv.clock
            (with_hold frame x (shut a.token) hold) type
            ((reference w.next_borrow done.0.to, meaning.writes done.0.type (token a.token)) ∷ under)
            (with_row inv.core.top (lent_row w.next_borrow a.token done.0 via) state.rows) m true (name_along frame x []) acts_are lent.after
            (λ i. let c = lent.counts (birth i) in omega arith)
            (opened_lent inv.core.top w.next_borrow a.token done.0 via state.rows tt inv.core.known (name_along frame x [])
            done.3);
      } in
      subst (λ p. IsSafe types owner acts (with_hold frame x (shut a.token) hold) type
      ((reference w.next_borrow p, meaning.writes (type frame x) (token a.token)) ∷ under) m (with_opening true (name_along frame x []) w)) done.3
      (subst (λ u. IsSafe types owner acts (with_hold frame x (shut a.token) hold) type
      ((reference w.next_borrow done.0.to, meaning.writes u (token a.token)) ∷ under) m (with_opening true (name_along frame x []) w)) done.2 now)

  pub reads : Reads B types owner acts hold type under m w
  reads a older acts_are frame x is state =
      let inv = state.inv in
      let done = read types inv.clock (is_active acts) (is_active acts) hold type under state.rows m inv.core frame x
      is w.next_borrow a.token (newest_active a older acts acts_are) in
      let row = read_row w.next_borrow a.token frame x (type frame x) (inv.core.root frame x) done.tree in
      record {
        rows = with_row inv.core.top row state.rows;
        inv = opens_on B types owner acts hold type under state.rows m w inv a older inv.clock
            (with_hold frame x (also_watched a.token (hold frame x)) hold) type
            ((reference w.next_borrow (name_along frame x []), meaning.reads (type frame x) (token a.token)) ∷ under)
            (with_row inv.core.top row state.rows) m false (name_along frame x []) acts_are done.after
            (λ i. done.counts (birth i))
            (opened_read inv.core.top w.next_borrow a.token frame x (type frame x) (inv.core.root frame x) done.tree
            state.rows inv.core.known);
      }

  pub relends : Relends B types owner acts hold type under m w
  relends forms a older acts_are frame x t y is typed on state =
      let inv = state.inv in
      let before = at_most a older (subst AreSorted acts_are inv.sorted) y
      (subst (λ list. is_active list y ≡ true) acts_are on) in
      let done = lends_again types forms inv.clock (is_active acts) (is_active acts) hold type under state.rows m
      inv.core frame x t y (subst IsReadable (sym is) tt) typed on is w.next_borrow a.token
      (newest_active a older acts acts_are) before in
      let lent = done.lent in
      let via = lent_through (inv.core.root frame x) done.loan in
      let now : IsSafe types owner acts (with_hold frame x (shut a.token) hold) type
      ((reference w.next_borrow done.row.to, meaning.writes done.row.type (token a.token)) ∷ under) m
      (with_opening true done.row.to w) =
      record {
        rows = with_row inv.core.top (lent_row w.next_borrow a.token done.row via) state.rows;
        inv = opens_on B types owner acts hold type under state.rows m w inv a older inv.clock
            (with_hold frame x (shut a.token) hold) type
            ((reference w.next_borrow done.row.to, meaning.writes done.row.type (token a.token)) ∷ under)
            (with_row inv.core.top (lent_row w.next_borrow a.token done.row via) state.rows) m true done.row.to acts_are lent.after
            (λ i. let c = lent.counts (birth i) in omega arith)
            (opened_lent inv.core.top w.next_borrow a.token done.row via state.rows tt inv.core.known done.row.to refl);
      } in (
        done.row.borrow,
        done.row.to,
        done.there,
        subst (λ u. IsSafe types owner acts (with_hold frame x (shut a.token) hold) type
            ((reference w.next_borrow done.row.to, meaning.writes u (token a.token)) ∷ under) m (with_opening true done.row.to w))
            done.typed now,
      )

  -- ---- parts

  pub looks : Looks B types owner acts hold type under m w
  looks forms cases lawful frame x is path u leads free state =
      let inv = state.inv in
      let done = looked types forms cases lawful inv.clock (is_active acts) (is_active acts) hold type under state.rows m
      inv.core frame x is path u leads free in (
        done.value,
        done.there,
        record {
          rows = state.rows;
          inv = keeps_on B types owner acts hold type under state.rows m w inv inv.clock hold type
              ((done.value, u) ∷ under) state.rows m done.after (λ i. done.counts (birth i)) (parts_same state.rows);
        },
      )

  -- a reference in a name refers
  held_refers : (frame x : ℕ) → IsReadable (hold frame x) → AreDeclared types → (t : Meaning) (z : ℕ)
      → type frame x ≡ meaning.writes t (token z) → is_active acts z ≡ true
      → (state : IsSafe types owner acts hold type under m w)
      → (r : Value) × (refers : Refers state.rows r z)
      × (m.at (name_of frame x) ≡ Some (reference refers.row.borrow refers.to))
  held_refers frame x is forms t z typed on state =
      let inv = state.inv in
      let holds = name_holds types forms inv.clock (is_active acts) (is_active acts) hold type under state.rows m inv.core
      frame x t z is typed on in (
        reference holds.row.borrow holds.row.to,
        record {
          loan = holds.loan;
          row = holds.row;
          to = holds.row.to;
          has = holds.has;
          is_loan = writer_is_loan holds.row.via holds.writes;
          of_token = holds.its_token;
          is = refl;
        },
        holds.there,
      )

  pub looks_behind : LooksBehind B types owner acts hold type under m w
  looks_behind forms cases lawful frame x is t z typed on path u leads free state =
      let held = held_refers frame x is forms t z typed on state in
      let b = held.1.row.borrow in
      let inv = used_first B types owner acts hold type under state.rows m w state.inv held.0 z held.1 on in
      let done = looked_behind types forms cases lawful inv.clock (is_active acts) (is_active acts) hold type under
      state.rows m inv.core frame x is t z typed on path u leads free in
      let same = same_held (m.at (name_of frame x)) b done.0 held.1.to done.1 held.2 done.2 in
      let now : IsSafe types owner acts hold type ((done.3.value, u) ∷ under) m (with_use b w) = record {
        rows = state.rows;
        inv = keeps_on B types owner acts hold type under state.rows m (with_use b w) inv inv.clock hold type
            ((done.3.value, u) ∷ under) state.rows m done.3.after (λ i. done.3.counts (birth i))
            (parts_same state.rows);
      } in (
        done.0,
        done.1,
        done.3.value,
        done.2,
        done.3.there,
        subst (λ c. IsSafe types owner acts hold type ((done.3.value, u) ∷ under) m (with_use c w)) same now,
      )

  pub puts : Puts B types owner acts hold type under m w
  puts forms cases lawful frame x is path v u leads free state =
      let inv = state.inv in
      let done = put_in_name types forms cases lawful inv.clock (is_active acts) (is_active acts) hold type v u under
      state.rows m inv.core free frame x is path leads in (
        done.old,
        done.there,
        record {
          rows = state.rows;
          inv = keeps_on B types owner acts hold type ((v, u) ∷ under) state.rows m w inv inv.clock hold type under
              state.rows (written (name_along frame x path) v m) done.after (λ i. done.counts (birth i))
              (parts_same state.rows);
        },
      )

module _ (B : Type 0) (types : Types) (owner : B → Option (List ℕ)) (acts : List Act) (hold : Holds)
    (type : ℕ → ℕ → Meaning) (under : Made) (m : Memory (List ℕ)) (w : Told B) where
  pub puts_behind : PutsBehind B types owner acts hold type under m w
  puts_behind forms cases lawful frame x is t z typed on path v u leads free state =
      let held = held_refers B types owner acts hold type ((v, u) ∷ under) m w frame x is forms t z typed on state in
      let b = held.1.row.borrow in
      let inv = used_first B types owner acts hold type ((v, u) ∷ under) state.rows m w state.inv held.0 z held.1 on in
      let done = put_behind_name types forms cases lawful inv.clock (is_active acts) (is_active acts) hold type v u under
      state.rows m inv.core free frame x is t z typed on path leads in
      let same = same_held (m.at (name_of frame x)) b done.0 held.1.to done.1 held.2 done.2 in
      let now : IsSafe types owner acts hold type under (written (place_along done.1 path) v m) (with_use b w) = record {
        rows = state.rows;
        inv = keeps_on B types owner acts hold type ((v, u) ∷ under) state.rows m (with_use b w) inv inv.clock hold type
            under state.rows (written (place_along done.1 path) v m) done.3.after (λ i. done.3.counts (birth i))
            (parts_same state.rows);
      } in (
        done.0,
        done.1,
        done.3.old,
        done.2,
        done.3.there,
        subst (λ c. IsSafe types owner acts hold type under (written (place_along done.1 path) v m) (with_use c w)) same
            now,
      )
