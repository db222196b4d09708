-- What stands behind a write reference gives way to another value.
use Rattle.std.proofs.Common.{◌≡◌, ◌⊎◌, inl, inr, ℕ, ◌+◌, ◌<◌, Bool, true, false, List, [], ◌∷◌}
use Rattle.std.proofs.Common.{refl, sym, ap, subst, ◌∙◌, arith}
use Rattle.std.specs.Prelude.{Option, Some, None, option_map}
use Rattle.std.proofs.lemmas.Bool.{cases_eq}
use Rattle.au_effects.specs.Parts.{along, part, with_part}
use Rattle.au_effects.specs.Values.{Place, name_of, reference}
use Rattle.au_places.specs.Memories.{Memory, written}
use Rattle.au_places.specs.Places.{Id, writer, cell_of, in_place, same_base}
use Rattle.au_places.proofs.MemoryLemmas.{base_other, write_above, write_apart, write_stands}
use Rattle.au_places.proofs.PlaceLemmas.{base_is, node_self}
use Rattle.au_running_types.specs.Running.{token}
use Rattle.au_types.specs.Types as meaning
use Rattle.au_types.specs.Types.{Meaning}
use Rattle.au_memory.specs.Trees.{Value, Tree, in_tree, in_writer}
use Rattle.au_memory.specs.Loans.{Types, Loan, Table, IsLoan}
use Rattle.au_memory.specs.Shown.{Shows, Has, AreDeclared}
use Rattle.au_memory.specs.Forests.{Held, Forest, Holds, Made, Core, AreShown, whole, all_lent, box_lent}
use Rattle.au_memory.specs.Forests.{parts_lent, watching, with_root, in_root, in_forest}
use Rattle.au_memory.specs.Forests.{in_list, in_held, IsFull, IsHere, IsNameRow, IsPartLent, IsRooted}
use Rattle.au_memory.specs.Forests.{NameStands, Usable}
use Rattle.au_memory.proofs.CountLemmas.{writer_in}
use Rattle.au_memory.proofs.FormLemmas.{IsWriterOf, writer_form}
use Rattle.au_memory.proofs.FrameLemmas.{shows_all_written, shows_written}
use Rattle.au_memory.proofs.GrowthLemmas.{grows_self}
use Rattle.au_memory.proofs.TotalLemmas.{root_other, root_self, total_has, total_put, total_two}
use Rattle.au_memory.proofs.UsableLemmas.{root_below, usable, writer_is_loan}
use Rattle.au_lending.specs.Laws.{Swapped}
use Rattle.au_lending.proofs.FillLemmas.{first_shown}
use Rattle.au_lending.proofs.MoveLemmas.{Keeps, lent_moves, name_moves, node_counts, node_of, parent_loan, root_goes}
use Rattle.au_lending.proofs.MoveLemmas.{shuts_loan}
use Rattle.au_lending.proofs.MoveLemmas.{part_stays}
use Rattle.au_lending.proofs.RowLemmas.{no_loan, row_of, watched_full}

-- values under way in which a place doesn't count
pub shown_written : (types : Types) (s : Table) (m : Memory (List ℕ)) (to : Place) (new : Value) (vs : Made) (ts : List Tree)
    → in_list (cell_of to) ts ≡ 0 → AreShown types s m vs ts → AreShown types s (written to new m) vs ts
shown_written types s m to new [] [] none h = h
shown_written types s m to new [] (t ∷ ts) none h = h
shown_written types s m to new (v ∷ vs) [] none h = h
shown_written types s m to new (v ∷ vs) (t ∷ ts) none h = (
  shows_written types s m to new t v.0 (omega arith) h.0,
  h.1,
  shown_written types s m to new vs ts (omega arith) h.2,
)

module _ (types : Types) (forms : AreDeclared types) (clock : ℕ) (scope act : ℕ → Bool) (hold : Holds)
    (type : ℕ → ℕ → Meaning) (new : Value) (t : Meaning) (r : Value) (z : ℕ) (under : Made) (s : Table)
    (m : Memory (List ℕ))
    (core : Core types clock scope act hold type ((new, t) ∷ (r, meaning.writes t (token z)) ∷ under) s m)
    (scoped : scope z ≡ true) where
  abbrev Two : Made
  Two = (new, t) ∷ (r, meaning.writes t (token z)) ∷ under

  one : (tree : Tree) × (rest : List Tree) × (core.trees ≡ tree ∷ rest) × Shows types s m new tree × Has types s tree t
      × AreShown types s m ((r, meaning.writes t (token z)) ∷ under) rest
  one = first_shown types s m new t ((r, meaning.writes t (token z)) ∷ under) core.trees core.shown

  two : (tree : Tree) × (rest : List Tree) × (one.1 ≡ tree ∷ rest) × Shows types s m r tree
      × Has types s tree (meaning.writes t (token z)) × AreShown types s m under rest
  two = first_shown types s m r (meaning.writes t (token z)) under one.1 one.5

  form : IsWriterOf types forms s two.0 t (token z)
  form = writer_form types forms s two.0 t (token z) two.4

  abbrev g : ℕ
  g = form.loan

  abbrev l : Loan
  l = form.row

  of_type : t ≡ l.type
  of_type = let e = form.typed in cc

  of_token : z ≡ l.token
  of_token = let e = form.typed in cc

  -- its loan may be used
  lists : (id : Id) → in_list id core.trees ≡ in_tree id one.0 + (in_writer id g + in_list id two.1)
  lists id =
      let a = ap (in_list id) one.2 in
      let b = ap (in_list id) two.2 in
      let c = ap (in_tree id) form.is in
      omega arith

  can : Usable types s core.forest m g l
  can =
      let all = lists (writer g) in
      let own = writer_in g in
      usable types clock scope act hold type Two s m core g l form.has form.writes (omega arith)
      (subst (λ y. scope y ≡ true) of_token scoped)

  -- the reference leads to the place of the loan
  leads : r ≡ reference l.borrow l.to
  leads =
      let shown = subst (λ tree. Shows types s m r tree) form.is two.3 in
      let has : s g ≡ Some shown.0 = shown.1 in
      let mine : s g ≡ Some l = form.has in
      let same : shown.0 ≡ l = cc in
      shown.2 ∙ ap (λ (n : Loan). reference n.borrow n.to) same

  abbrev own : Held
  own = whole l.to one.0

  abbrev forest : Forest
  forest = with_root g (Some own) core.forest

  abbrev after : Memory (List ℕ)
  after = written l.to new m

  below : g < core.top
  below = root_below types clock scope act hold type Two s m core g (whole l.to can.tree) can.here

  at_own : forest g ≡ Some own
  at_own = root_self g (Some own) core.forest

  -- ---- counts

  moved : (id : Id) → (in_forest id core.top forest + (in_tree id can.tree + in_list id two.1)) + in_writer id g
      ≡ in_forest id core.top core.forest + in_list id core.trees
  moved id =
      let put = total_put id core.top g (Some own) core.forest below in
      let was = ap (in_root id) can.here in
      let all = lists id in
      omega arith

  -- the place counts in no tree
  alone : (in_tree (cell_of l.to) can.tree ≡ 0) × (in_list (cell_of l.to) core.trees ≡ 0)
  alone =
      let has = total_has (cell_of l.to) core.top g core.forest below in
      let was = ap (in_root (cell_of l.to)) can.here in
      let self = node_self l.to 0 in
      let once = core.once (cell_of l.to) in
      (omega arith, omega arith)

  in_new : in_tree (cell_of l.to) one.0 ≡ 0
  in_new = let none = alone.1 in let all = lists (cell_of l.to) in omega arith

  in_rest : in_list (cell_of l.to) two.1 ≡ 0
  in_rest = let none = alone.1 in let all = lists (cell_of l.to) in omega arith

  -- nor in another root
  elsewhere : (k : ℕ) (h : Held) → (g ≡ k → ⊥) → core.forest k ≡ Some h → in_held (cell_of l.to) h ≡ 0
  elsewhere k h differ e =
      let both = total_two (cell_of l.to) core.top k g core.forest differ
      (root_below types clock scope act hold type Two s m core k h e) below in
      let first = ap (in_root (cell_of l.to)) e in
      let was = ap (in_root (cell_of l.to)) can.here in
      let self = node_self l.to 0 in
      let once = core.once (cell_of l.to) in
      omega arith

  -- and the place of another root isn't below it
  not_below : (k : ℕ) (h : Held) (to : Place) (count : ℕ) → (g ≡ k → ⊥) → core.forest k ≡ Some h
      → node_of h ≡ Some (count, to) → in_place (cell_of to) l.to ≡ 0
  not_below k h to count differ e at =
      let both = total_two (cell_of to) core.top k g core.forest differ
      (root_below types clock scope act hold type Two s m core k h e) below in
      let first = ap (in_root (cell_of to)) e in
      let was = ap (in_root (cell_of to)) can.here in
      let node = node_counts (cell_of to) h count to at in
      let self = node_self to count in
      let once = core.once (cell_of to) in
      omega arith

  -- ---- roots

  stay : (k : ℕ) (n : Loan) → s k ≡ Some n → IsLoan n.via → IsHere (core.forest k) → IsHere (forest k)
  stay k n has loan there = by (cases_eq g k)
    where
      by : (g ≡ k) ⊎ (g ≡ k → ⊥) → IsHere (forest k)
      by (inl same) = subst (λ i. IsHere (forest i)) same (subst IsHere (sym at_own) tt)
      by (inr differ) = subst IsHere (sym (root_other g k (Some own) core.forest differ)) there

  before : (k : ℕ) → IsHere (forest k) → IsHere (core.forest k)
  before k there = by (cases_eq g k)
    where
      by : (g ≡ k) ⊎ (g ≡ k → ⊥) → IsHere (core.forest k)
      by (inl same) = subst (λ i. IsHere (core.forest i)) same (subst IsHere (sym can.here) tt)
      by (inr differ) = subst IsHere (root_other g k (Some own) core.forest differ) there

  own_root : (n : Loan) × (s g ≡ Some n) × IsRooted types s forest after g n own
  own_root = (
    l,
    form.has,
    (
      new,
      refl,
      subst (λ u. Has types s one.0 u) of_type one.4,
      write_stands m l.to can.value new can.there,
      shows_written types s m l.to new one.0 new in_new one.3,
    ),
  )

  rooted : (k : ℕ) (h : Held) → forest k ≡ Some h → (n : Loan) × (s k ≡ Some n) × IsRooted types s forest after k n h
  rooted k h e = by (cases_eq g k)
    where
      by : (g ≡ k) ⊎ (g ≡ k → ⊥) → (n : Loan) × (s k ≡ Some n) × IsRooted types s forest after k n h
      by (inl same) =
          let there : forest k ≡ Some own = subst (λ i. forest i ≡ Some own) same at_own in
          let alike : own ≡ h = cc in
          subst (λ i. (n : Loan) × (s i ≡ Some n) × IsRooted types s forest after i n h) same
          (subst (λ d. (n : Loan) × (s g ≡ Some n) × IsRooted types s forest after g n d) alike own_root)
      by (inr differ) =
          let old : core.forest k ≡ Some h = sym (root_other g k (Some own) core.forest differ) ∙ e in
          let row = core.rooted k h old in
          let none = elsewhere k h differ old in (
            row.0,
            row.1,
            root_goes types s s core.forest forest m after (grows_self s) k row.0 h
                (λ i n has from there. stay i n has (parent_loan n.via k from) there)
                (λ at.
                let count = node_counts (cell_of l.to) h 0 row.0.to at in
                write_apart m l.to row.0.to new (omega arith) (not_below k h row.0.to 0 differ old at))
                (λ count at tag born parts there.
                let most = node_counts (cell_of l.to) h count row.0.to at in
                let above = write_above m l.to row.0.to count new tag born parts (omega arith)
                (not_below k h row.0.to count differ old at) there in
                record { others = above.others; there = above.there; same = above.same })
                (λ to tree v eq shown.
                let in_h = ap (in_held (cell_of l.to)) eq in
                shows_written types s m l.to new tree v (omega arith) shown)
                (λ to tag born i count rest parts eq shown.
                let in_h = ap (in_held (cell_of l.to)) eq in
                shows_all_written types s m l.to new rest parts (omega arith) shown) row.2,
          )

  -- ---- names

  -- the root of a name is another
  name_root : (a y : ℕ) → IsNameRow s (core.root a y) a y (type a y) → g ≡ core.root a y → ⊥
  name_root a y row same =
      no_loan s g a y (type a y) l (subst (λ i. IsNameRow s i a y (type a y)) (sym same) row) form.has
      (writer_is_loan l.via form.writes)

  other_base : (a y : ℕ) → m.at (name_of a y) ≡ None → after.at (name_of a y) ≡ m.at (name_of a y)
  other_base a y none = by (same_base l.to.base (name_of a y)) refl
    where
      by : (b : Bool) → same_base l.to.base (name_of a y) ≡ b → after.at (name_of a y) ≡ m.at (name_of a y)
      by true e =
          let gone : m.at l.to.base ≡ None = subst (λ c. m.at c ≡ None) (sym (base_is l.to.base (name_of a y) e)) none in
          let wrong : along None (part l.to.path) ≡ Some can.value =
          subst (λ o. along o (part l.to.path) ≡ Some can.value) gone can.there in
          absurd cc
      by false e = base_other m l.to.base (name_of a y) (option_map (with_part l.to.path new) (m.at l.to.base)) e

  names : (a y : ℕ) → NameStands types s forest after core.root a y (type a y) (hold a y)
  names a y =
      name_moves types s s core.forest forest m after (grows_self s) core.root core.root a y (type a y) (hold a y)
      (λ i n has shuts there. stay i n has (shuts_loan n.via (core.root a y) shuts) there) refl
      (λ none. other_base a y
      (subst (λ h. NameStands types s core.forest m core.root a y (type a y) h) none (core.names a y)))
      (λ row w. (w.0, w.1, root_other g (core.root a y) (Some own) core.forest (name_root a y row) ∙ w.2))
      (core.names a y)

  -- ---- loans

  -- a root that holds something else than a tree is another
  other_held : (k : ℕ) (h : Held) → core.forest k ≡ Some h → (whole l.to can.tree ≡ h → ⊥) → g ≡ k → ⊥
  other_held k h e differ same =
      let there : core.forest k ≡ Some (whole l.to can.tree) =
      subst (λ i. core.forest i ≡ Some (whole l.to can.tree)) same can.here in
      let alike : whole l.to can.tree ≡ h = cc in
      differ alike

  keeps : (k : ℕ) → Keeps core.forest forest hold hold core.root core.root
      (λ id. in_forest id core.top core.forest + in_list id core.trees)
      (λ id. in_forest id core.top forest + (in_tree id can.tree + in_list id two.1)) k
  keeps k = record {
    shuts = λ a y y2 e. (e, refl);
    watches = λ a y y2 w. (w, refl);
    fulls = λ a y at there. (there, refl);
    lents = λ j i e. root_other g j (Some own) core.forest (other_held j (all_lent i) e (λ alike. cc));
    parts = λ j h.
        part_stays k (core.forest j) (forest j) (root_other g j (Some own) core.forest (part_old j (core.forest j) refl h)) h;
    holders = λ j y2 whose. root_other g j (Some own) core.forest (λ same.
        name_root whose.frame whose.name
        (row_of types clock scope act hold type Two s m core whose.frame whose.name
        (subst IsFull (sym whose.holds) tt)) (same ∙ sym whose.is));
    seen = λ j y2 whose. root_other g j (Some own) core.forest (λ same.
        name_root whose.frame whose.name
        (row_of types clock scope act hold type Two s m core whose.frame whose.name
        (watched_full (hold whose.frame whose.name) y2 whose.holds)) (same ∙ sym whose.is));
    own = λ e. root_other g k (Some own) core.forest (other_held k watching e (λ alike. cc));
    counts = λ j h. let all = moved (writer j) in omega arith;
  }
    where
      part_old : (j : ℕ) (o : Option Held) → core.forest j ≡ o → IsPartLent k o → g ≡ j → ⊥
      part_old j None e h = absurd h
      part_old j (Some (whole at tree)) e h = absurd h
      part_old j (Some (all_lent i)) e h = absurd h
      part_old j (Some (box_lent at born i)) e h = other_held j (box_lent at born i) e (λ alike. cc)
      part_old j (Some (parts_lent at tag born i n rest)) e h =
          other_held j (parts_lent at tag born i n rest) e (λ alike. cc)
      part_old j (Some watching) e h = absurd h

  swapped_core : Core types clock scope act hold type ((can.value, t) ∷ under) s after
  swapped_core = record {
    forest = forest;
    top = core.top;
    root = core.root;
    trees = can.tree ∷ two.1;
    shown = (
      shows_written types s m l.to new can.tree can.value alone.0 can.shown,
      subst (λ u. Has types s can.tree u) (sym of_type) can.typed,
      shown_written types s m l.to new under two.1 in_rest two.5,
    );
    once = λ id. let all = moved id in let once = core.once id in omega arith;
    rooted = rooted;
    names = names;
    lent = λ k n row here. lent_moves core.forest forest hold hold core.root core.root
        (λ id. in_forest id core.top core.forest + in_list id core.trees)
        (λ id. in_forest id core.top forest + (in_tree id can.tree + in_list id two.1)) k (keeps k) n.token n.via
        (core.lent k n row (before k here));
    live = λ k n row loan open'. stay k n row loan (core.live k n row loan open');
    active = λ k n row loan here. core.active k n row loan (before k here);
    known = core.known;
    older = core.older;
    order = core.order;
    ticked = core.ticked;
    acted = core.acted;
    scoped = core.scoped;
  }

  pub swapped : Swapped types clock scope act hold type new t r z under s m core
  unfolding swapped_core can
  swapped = record {
    borrow = l.borrow;
    to = l.to;
    old = can.value;
    loan = g;
    leads = leads;
    there = can.there;
    after = swapped_core;
    counts = λ id. moved id;
  }
