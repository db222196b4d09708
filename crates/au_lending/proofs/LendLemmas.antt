-- All that a root holds is lent to write: its tree goes over to a new loan, and the name that it is lent from is shut.
use Rattle.std.proofs.Common.{◌≡◌, ◌⊎◌, inl, inr, ℕ, suc, ◌+◌, ◌≤◌, ◌<◌, ◌==◌, Bool, true, false, List, []}
use Rattle.std.proofs.Common.{◌∷◌, refl, sym, ap, subst, ◌∙◌, arith, if◌then◌else◌}
use Rattle.std.specs.Prelude.{Option, Some, None, drop}
use Rattle.std.proofs.lemmas.Bool.{cases_eq, cases_lt, eqb-true, ne_eqb}
use Rattle.au_effects.specs.Values.{Place, name_of, reference}
use Rattle.au_places.specs.Memories.{Memory}
use Rattle.au_places.specs.Places.{Id, birth, cell, writer, one_if, same_base}
use Rattle.au_places.proofs.PlaceLemmas.{self_base}
use Rattle.au_running_types.specs.Running.{token}
use Rattle.au_types.specs.Types as meaning
use Rattle.au_types.specs.Types.{Meaning}
use Rattle.au_memory.specs.Trees.{Tree, Trees, a_writer, no_trees, tree_then, in_birth, in_tree, in_trees, in_writer}
use Rattle.au_memory.specs.Loans.{Types, Loan, Table, Grows, Via, lent_through, IsLoan, IsWriter}
use Rattle.au_memory.specs.Loans.{parent_of}
use Rattle.au_memory.specs.Shown.{Has, HasAll}
use Rattle.au_memory.specs.Forests.{Held, Forest, Hold, Holds, Made, Names, Core, whole, all_lent, box_lent, parts_lent}
use Rattle.au_memory.specs.Forests.{watching, empty, ready, shut, watched, with_root, in_root, in_forest, in_list, in_held}
use Rattle.au_memory.specs.Forests.{IsFull, IsHere, AreShown, IsLent, IsNameRow, IsPartLent, IsRooted, IsWatched, IsWhole}
use Rattle.au_memory.specs.Forests.{LendsAll, NameStands, Shuts}
use Rattle.au_memory.proofs.FreeLemmas.{writer_row}
use Rattle.au_memory.proofs.GrowthLemmas.{has_grows, shows_grows}
use Rattle.au_memory.proofs.TotalLemmas.{root_other, root_self, total_out, total_put}
use Rattle.au_memory.proofs.UsableLemmas.{root_below}
use Rattle.au_lending.specs.Holding.{with_hold, with_row}
use Rattle.au_lending.specs.Laws.{Lent, lent_row}
use Rattle.au_lending.proofs.FillLemmas.{row_grows, row_other, row_self, shown_grows, total_none}
use Rattle.au_lending.proofs.MoveLemmas.{Keeps, lends_parent, lent_moves, name_moves, parent_loan, root_moves, shuts_loan}
use Rattle.au_lending.proofs.MoveLemmas.{part_stays}
use Rattle.au_lending.proofs.RowLemmas.{row_of, same_names, watched_full}

-- ---- what lends all writes

pub lends_write : (via : Via) (k : ℕ) → LendsAll via k → IsWriter via
lends_write via k (inl e) = subst IsWriter (sym e) tt
lends_write via k (inr pair) = subst IsWriter (sym pair.1) tt

-- ---- a loan without a row has no reference

module _ (types : Types) (clock : ℕ) (scope act : ℕ → Bool) (hold : Holds) (type : ℕ → ℕ → Meaning)
    (under : Made) (s : Table) (m : Memory (List ℕ)) (core : Core types clock scope act hold type under s m)
    (g : ℕ) (none : s g ≡ None) where
  no_writer : (t : Tree) (u : Meaning) → Has types s t u → in_tree (writer g) t ≡ 0
  no_writer t u h = by (cases_lt 0 (in_tree (writer g) t))
    where
      by : (0 < in_tree (writer g) t) ⊎ (in_tree (writer g) t ≤ 0) → in_tree (writer g) t ≡ 0
      by (inl some) =
          let w = writer_row types s g t u some h in
          let wrong : None ≡ Some w.row = sym none ∙ w.has in
          cc
      by (inr less) = omega arith

  no_writers : (all : Trees) (of : List Meaning) → HasAll types s all of → in_trees (writer g) all ≡ 0
  no_writers no_trees of h = refl
  no_writers (tree_then one rest) [] h = absurd h
  no_writers (tree_then one rest) (u ∷ others) h =
      let own = no_writer one u h.0 in
      let more = no_writers rest others h.1 in
      omega arith

  no_writer_in : (k : ℕ) (l : Loan) (h : Held) → IsRooted types s core.forest m k l h → in_held (writer g) h ≡ 0
  no_writer_in k l (whole to tree) r = let w = no_writer tree l.type r.2 in omega arith
  no_writer_in k l (all_lent j) r = refl
  no_writer_in k l (box_lent to born j) r = refl
  no_writer_in k l (parts_lent to tag born j n rest) r =
      let w : in_birth (writer g) born ≡ 0 = refl in
      let others = no_writers rest (drop n r.0) r.7 in
      omega arith
  no_writer_in k l watching r = refl

  no_writer_root : (k : ℕ) (o : Option Held) → core.forest k ≡ o → in_root (writer g) o ≡ 0
  no_writer_root k None e = refl
  no_writer_root k (Some h) e = let r = core.rooted k h e in no_writer_in k r.0 h r.2

  no_writer_list : (vs : Made) (ts : List Tree) → AreShown types s m vs ts → in_list (writer g) ts ≡ 0
  no_writer_list vs [] h = refl
  no_writer_list [] (t ∷ ts) h = absurd h
  no_writer_list (v ∷ vs) (t ∷ ts) h =
      let own = no_writer t v.1 h.1 in
      let rest = no_writer_list vs ts h.2 in
      omega arith

  -- such a reference is nowhere
  pub unlent : in_forest (writer g) core.top core.forest + in_list (writer g) core.trees ≡ 0
  unlent =
      let roots = total_none (writer g) core.top core.forest (λ k below. no_writer_root k (core.forest k) refl) in
      let ts = no_writer_list under core.trees core.shown in
      omega arith

-- ---- lending

module _ (types : Types) (clock : ℕ) (scope act : ℕ → Bool) (hold : Holds) (type : ℕ → ℕ → Meaning)
    (under : Made) (s : Table) (m : Memory (List ℕ)) (core : Core types clock scope act hold type under s m)
    (frame x : ℕ) (is : hold frame x ≡ ready) (b z : ℕ) (active : act z ≡ true)
    (k : ℕ) (lk : Loan) (row : s k ≡ Some lk) (to : Place) (tree : Tree)
    (here : core.forest k ≡ Some (whole to tree)) (via : Via) (lends : LendsAll via k)
    (shuts : Shuts via (core.root frame x)) (order : IsLoan lk.via → lk.token ≤ z)
    (apart : (a y : ℕ) → same_base (name_of frame x) (name_of a y) ≡ false → IsFull (hold a y)
    → core.root a y ≡ k → ⊥) where
  abbrev loan : Loan
  loan = lent_row b z lk via

  abbrev own : Held
  own = whole to tree

  abbrev given : Forest
  given = with_root k (Some (all_lent core.top)) core.forest

  abbrev forest : Forest
  forest = with_root core.top (Some own) given

  abbrev table : Table
  table = with_row core.top loan s

  abbrev held : Holds
  held = with_hold frame x (shut z) hold

  below : k < core.top
  below = root_below types clock scope act hold type under s m core k own here

  grows : Grows s table
  grows = row_grows core.top loan s (core.known core.top (omega arith))

  full : IsFull (hold frame x)
  full = subst IsFull (sym is) tt

  -- ---- roots as they were

  abbrev Old : ℕ → Type 0
  Old j = (core.top ≡ j → ⊥) × (k ≡ j → ⊥)

  as_was : (j : ℕ) → Old j → forest j ≡ core.forest j
  as_was j old = root_other core.top j (Some own) given old.0 ∙ root_other k j (Some (all_lent core.top)) core.forest old.1

  at_top : forest core.top ≡ Some own
  at_top = root_self core.top (Some own) given

  at_parent : forest k ≡ Some (all_lent core.top)
  at_parent = root_other core.top k (Some own) given (λ same. let less = below in omega arith)
      ∙ root_self k (Some (all_lent core.top)) core.forest

  under_top : (j : ℕ) (h : Held) → core.forest j ≡ Some h → core.top ≡ j → ⊥
  under_top j h e same =
      let under = root_below types clock scope act hold type under s m core j h e in omega arith

  -- a root that holds something else than a tree isn't the one that is lent
  other_held : (j : ℕ) (h : Held) → core.forest j ≡ Some h → (own ≡ h → ⊥) → Old j
  other_held j h e differ = (
    under_top j h e,
    λ same.
        let there : core.forest j ≡ Some own = subst (λ i. core.forest i ≡ Some own) same here in
        let alike : own ≡ h = cc in
        differ alike,
  )

  stay : (g : ℕ) (l : Loan) → s g ≡ Some l → IsLoan l.via → IsHere (core.forest g) → IsHere (forest g)
  stay g l has loan' there = by (cases_eq core.top g) (cases_eq k g)
    where
      by : (core.top ≡ g) ⊎ (core.top ≡ g → ⊥) → (k ≡ g) ⊎ (k ≡ g → ⊥) → IsHere (forest g)
      by (inl same) c = subst (λ i. IsHere (forest i)) same (subst IsHere (sym at_top) tt)
      by (inr differ) (inl same) = subst (λ i. IsHere (forest i)) same (subst IsHere (sym at_parent) tt)
      by (inr differ) (inr other) = subst IsHere (sym (as_was g (differ, other))) there

  before : (g : ℕ) → (core.top ≡ g → ⊥) → IsHere (forest g) → IsHere (core.forest g)
  before g differ there = by (cases_eq k g)
    where
      by : (k ≡ g) ⊎ (k ≡ g → ⊥) → IsHere (core.forest g)
      by (inl same) = subst (λ i. IsHere (core.forest i)) same (subst IsHere (sym here) tt)
      by (inr other) = subst IsHere (as_was g (differ, other)) there

  -- ---- rows

  row_cases : (j : ℕ) (l : Loan) → table j ≡ Some l
      → ((core.top ≡ j) × (loan ≡ l)) ⊎ ((core.top ≡ j → ⊥) × (s j ≡ Some l))
  row_cases j l has = by (cases_eq core.top j)
    where
      by : (core.top ≡ j) ⊎ (core.top ≡ j → ⊥)
          → ((core.top ≡ j) × (loan ≡ l)) ⊎ ((core.top ≡ j → ⊥) × (s j ≡ Some l))
      by (inl same) =
          let there : table j ≡ Some loan = subst (λ i. table i ≡ Some loan) same (row_self core.top loan s) in
          let alike : loan ≡ l = cc in
          inl (same, alike)
      by (inr differ) = inr (differ, sym (row_other core.top j loan s differ) ∙ has)

  -- a row that was there is below the top, and so is its parent's
  row_under : (j : ℕ) (l : Loan) → s j ≡ Some l → j < core.top
  row_under j l has = by (cases_lt j core.top)
    where
      by : (j < core.top) ⊎ (core.top ≤ j) → j < core.top
      by (inl less) = less
      by (inr more) = let none = core.known j more in let wrong : None ≡ Some l = sym none ∙ has in cc

  -- ---- counts

  moved : (id : Id) → in_forest id (suc core.top) forest + (in_writer id core.top + in_list id core.trees)
      ≡ (in_forest id core.top core.forest + in_list id core.trees) + in_writer id core.top
  moved id =
      let out = total_out id core.top core.top (Some own) given (omega arith) in
      let put = total_put id core.top k (Some (all_lent core.top)) core.forest below in
      let self = ap (in_root id) at_top in
      let was = ap (in_root id) here in
      omega arith

  once : (id : Id) → in_forest id (suc core.top) forest + (in_writer id core.top + in_list id core.trees) ≤ 1
  once (birth i) = let all = moved (birth i) in let old = core.once (birth i) in omega arith
  once (cell base p) = let all = moved (cell base p) in let old = core.once (cell base p) in omega arith
  once (writer g) = by (core.top == g) refl
    where
      by : (t : Bool) → (core.top == g) ≡ t
          → in_forest (writer g) (suc core.top) forest + (in_writer (writer g) core.top + in_list (writer g) core.trees) ≤ 1
      by true e =
          let all = moved (writer g) in
          let one : in_writer (writer g) core.top ≡ 1 = ap one_if e in
          let same : core.top ≡ g = eqb-true core.top g e in
          let none = unlent types clock scope act hold type under s m core g (core.known g (omega arith)) in
          omega arith
      by false e =
          let all = moved (writer g) in
          let nought : in_writer (writer g) core.top ≡ 0 = ap one_if e in
          let old = core.once (writer g) in
          omega arith

  fewer : (j : ℕ) → (core.top ≡ j → ⊥)
      → in_forest (writer j) (suc core.top) forest + (in_writer (writer j) core.top + in_list (writer j) core.trees)
      ≤ in_forest (writer j) core.top core.forest + in_list (writer j) core.trees
  fewer j differ =
      let all = moved (writer j) in
      let none : in_writer (writer j) core.top ≡ 0 = ap one_if (ne_eqb core.top j differ) in
      omega arith

  -- ---- what each root is

  old_rooted : (l : Loan) × (s k ≡ Some l) × IsRooted types s core.forest m k l own
  old_rooted = core.rooted k own here

  mine : IsRooted types s core.forest m k lk own
  mine =
      let has : s k ≡ Some old_rooted.0 = old_rooted.1 in
      let same : old_rooted.0 ≡ lk = cc in
      subst (λ (l : Loan). IsRooted types s core.forest m k l own) same old_rooted.2

  rooted : (j : ℕ) (h : Held) → forest j ≡ Some h → (l : Loan) × (table j ≡ Some l) × IsRooted types table forest m j l h
  rooted j h e = by (cases_eq core.top j) (cases_eq k j)
    where
      by : (core.top ≡ j) ⊎ (core.top ≡ j → ⊥) → (k ≡ j) ⊎ (k ≡ j → ⊥)
          → (l : Loan) × (table j ≡ Some l) × IsRooted types table forest m j l h
      by (inl same) c =
          let there : forest j ≡ Some own = subst (λ i. forest i ≡ Some own) same at_top in
          let alike : own ≡ h = cc in
          subst (λ i. (l : Loan) × (table i ≡ Some l) × IsRooted types table forest m i l h) same
          (subst (λ g. (l : Loan) × (table core.top ≡ Some l) × IsRooted types table forest m core.top l g) alike (
            loan,
            row_self core.top loan s,
            (
              mine.0,
              mine.1,
              has_grows types s table grows tree lk.type mine.2,
              mine.3,
              shows_grows types s table grows m tree mine.0 mine.4,
            ),
          ))
      by (inr differ) (inl same) =
          let there : forest j ≡ Some (all_lent core.top) =
          subst (λ i. forest i ≡ Some (all_lent core.top)) same at_parent in
          let alike : all_lent core.top ≡ h = cc in
          subst (λ i. (l : Loan) × (table i ≡ Some l) × IsRooted types table forest m i l h) same
          (subst (λ g. (l : Loan) × (table k ≡ Some l) × IsRooted types table forest m k l g) alike
          (lk, grows.row k lk row, (loan, row_self core.top loan s, refl, refl, lends, subst IsHere (sym at_top) tt)))
      by (inr differ) (inr other) =
          let old : core.forest j ≡ Some h = sym (as_was j (differ, other)) ∙ e in
          let r = core.rooted j h old in (
            r.0,
            grows.row j r.0 r.1,
            root_moves types s table core.forest forest m m grows j r.0 h
                (λ g l has from there. stay g l has (parent_loan l.via j from) there)
                (λ some. refl) (λ at t v eq shown. shown) (λ at tag born i n rest parts eq shown. shown) r.2,
          )

  -- ---- names

  -- a name that holds something has a root that was there
  fresh : (a y : ℕ) → IsFull (hold a y) → core.top ≡ core.root a y → ⊥
  fresh a y there same =
      let mine' = row_of types clock scope act hold type under s m core a y there in
      let none = core.known (core.root a y) (omega arith) in
      let wrong : None ≡ Some mine'.row = sym none ∙ mine'.has in
      cc

  whole_full : (a y : ℕ) (h : Hold) → hold a y ≡ h → IsNameRow s (core.root a y) a y (type a y)
      → same_base (name_of frame x) (name_of a y) ≡ false → IsFull h → IsWhole (core.forest (core.root a y))
      → IsWhole (forest (core.root a y))
  whole_full a y h e own' else' there w =
      let is_full : IsFull (hold a y) = subst IsFull (sym e) there in
      (w.0, w.1, as_was (core.root a y) (fresh a y is_full, λ same. apart a y else' is_full (sym same)) ∙ w.2)

  other_name : (a y : ℕ) (h : Hold) → hold a y ≡ h → same_base (name_of frame x) (name_of a y) ≡ false
      → NameStands types s core.forest m core.root a y (type a y) h
      → NameStands types table forest m core.root a y (type a y) h
  other_name a y empty e else' stands = stands
  other_name a y ready e else' stands =
      name_moves types s table core.forest forest m m grows core.root core.root a y (type a y) ready
      (λ g l has shuts' there. stay g l has (shuts_loan l.via (core.root a y) shuts') there) refl
      (λ none. refl) (λ own' w. whole_full a y ready e own' else' tt w) stands
  other_name a y (shut y2) e else' stands =
      name_moves types s table core.forest forest m m grows core.root core.root a y (type a y) (shut y2)
      (λ g l has shuts' there. stay g l has (shuts_loan l.via (core.root a y) shuts') there) refl
      (λ none. refl) (λ own' w. whole_full a y (shut y2) e own' else' tt w) stands
  other_name a y (watched zs) e else' stands =
      name_moves types s table core.forest forest m m grows core.root core.root a y (type a y) (watched zs)
      (λ g l has shuts' there. stay g l has (shuts_loan l.via (core.root a y) shuts') there) refl
      (λ none. refl) (λ own' w. whole_full a y (watched zs) e own' else' tt w) stands

  own_name : NameStands types table forest m core.root frame x (type frame x) (shut z)
  own_name =
      let mine' = row_of types clock scope act hold type under s m core frame x full in (
        record {
          row = mine'.row;
          has = grows.row (core.root frame x) mine'.row mine'.has;
          is_named = mine'.is_named;
          at = mine'.at;
          typed = mine'.typed;
        },
        (core.top, loan, row_self core.top loan s, refl, subst IsHere (sym at_top) tt, shuts),
      )

  names : (a y : ℕ) → NameStands types table forest m core.root a y (type a y) (held a y)
  names a y = by (same_base (name_of frame x) (name_of a y)) refl
    where
      by : (t : Bool) → same_base (name_of frame x) (name_of a y) ≡ t
          → NameStands types table forest m core.root a y (type a y) (if t then shut z else hold a y)
      by true e =
          let both = same_names frame x a y e in
          subst (λ c. NameStands types table forest m core.root c y (type c y) (shut z)) both.0
          (subst (λ w. NameStands types table forest m core.root frame w (type frame w) (shut z)) both.1 own_name)
      by false e = other_name a y (hold a y) refl e (core.names a y)

  -- ---- loans

  another : (a y : ℕ) → (hold a y ≡ ready → ⊥) → same_base (name_of frame x) (name_of a y) ≡ false
  another a y differ = by (same_base (name_of frame x) (name_of a y)) refl
    where
      by : (t : Bool) → same_base (name_of frame x) (name_of a y) ≡ t → t ≡ false
      by true e =
          let both = same_names frame x a y e in
          absurd (differ (subst (λ c. hold c y ≡ ready) both.0 (subst (λ w. hold frame w ≡ ready) both.1 is)))
      by false e = refl

  stays : (a y : ℕ) → same_base (name_of frame x) (name_of a y) ≡ false → held a y ≡ hold a y
  stays a y e = rw e

  not_ready : (a y y2 : ℕ) → hold a y ≡ shut y2 → hold a y ≡ ready → ⊥
  not_ready a y y2 e r = let wrong : shut y2 ≡ ready = sym e ∙ r in cc

  unwatched : (a y y2 : ℕ) → IsWatched y2 (hold a y) → hold a y ≡ ready → ⊥
  unwatched a y y2 w r = subst (IsWatched y2) r w

  full_stays : (a y : ℕ) → IsFull (hold a y) → IsFull (held a y)
  full_stays a y there = by (same_base (name_of frame x) (name_of a y)) refl
    where
      by : (t : Bool) → same_base (name_of frame x) (name_of a y) ≡ t → IsFull (if t then shut z else hold a y)
      by true e = tt
      by false e = there

  keeps : (g : ℕ) → (core.top ≡ g → ⊥)
      → Keeps core.forest forest hold held core.root core.root
      (λ id. in_forest id core.top core.forest + in_list id core.trees)
      (λ id. in_forest id (suc core.top) forest + (in_writer id core.top + in_list id core.trees)) g
  keeps g differ = record {
    shuts = λ a y y2 e. (stays a y (another a y (not_ready a y y2 e)) ∙ e, refl);
    watches = λ a y y2 w.
        (subst (IsWatched y2) (sym (stays a y (another a y (unwatched a y y2 w)))) w, refl);
    fulls = λ a y at there. (full_stays a y there, refl);
    lents = λ j i e. as_was j (other_held j (all_lent i) e (λ alike. cc));
    parts = λ j h. part_stays g (core.forest j) (forest j) (as_was j (part_old j (core.forest j) refl h)) h;
    holders = λ j y2 whose. as_was j (
      (λ same. fresh whose.frame whose.name (subst IsFull (sym whose.holds) tt) (same ∙ sym whose.is)),
      (λ same. apart whose.frame whose.name
          (another whose.frame whose.name (not_ready whose.frame whose.name y2 whose.holds))
          (subst IsFull (sym whose.holds) tt) (whose.is ∙ sym same)),
    );
    seen = λ j y2 whose. as_was j (
      (λ same. fresh whose.frame whose.name (watched_full (hold whose.frame whose.name) y2 whose.holds)
          (same ∙ sym whose.is)),
      (λ same. apart whose.frame whose.name
          (another whose.frame whose.name (unwatched whose.frame whose.name y2 whose.holds))
          (watched_full (hold whose.frame whose.name) y2 whose.holds) (whose.is ∙ sym same)),
    );
    own = λ e. as_was g (other_held g watching e (λ alike. cc));
    counts = λ j h. fewer j (part_old j (core.forest j) refl h).0;
  }
    where
      part_old : (j : ℕ) (o : Option Held) → core.forest j ≡ o → IsPartLent g o → Old j
      part_old j None e h = absurd h
      part_old j (Some (whole at t)) e h = absurd h
      part_old j (Some (all_lent i)) e h = absurd h
      part_old j (Some (box_lent at born i)) e h = other_held j (box_lent at born i) e (λ alike. cc)
      part_old j (Some (parts_lent at tag born i n rest)) e h =
          other_held j (parts_lent at tag born i n rest) e (λ alike. cc)
      part_old j (Some watching) e h = absurd h

  shut_own : Names held core.root (core.root frame x) (λ h. h ≡ shut z)
  shut_own = record { frame = frame; name = x; is = refl; holds = rw (self_base (name_of frame x)) }

  -- the new loan is lent as its row says
  own_lent : (v : Via) → LendsAll v k → Shuts v (core.root frame x)
      → ((holder : ℕ) → v ≡ lent_through holder k
      → (at : Place) × (core.forest holder ≡ Some (whole at (a_writer k))) × (k ≡ holder → ⊥))
      → IsLent forest held core.root
      (λ id. in_forest id (suc core.top) forest + (in_writer id core.top + in_list id core.trees)) core.top z v
  own_lent v (inl e) at holds =
      let there : k ≡ core.root frame x = subst (λ w. Shuts w (core.root frame x)) e at in
      subst (λ w. IsLent forest held core.root
      (λ id. in_forest id (suc core.top) forest + (in_writer id core.top + in_list id core.trees)) core.top z w) (sym e)
      (at_parent, subst (λ i. Names held core.root i (λ h. h ≡ shut z)) (sym there) shut_own)
  own_lent v (inr pair) at holds =
      let there : pair.0 ≡ core.root frame x = subst (λ w. Shuts w (core.root frame x)) pair.1 at in
      let held' = holds pair.0 pair.1 in
      subst (λ w. IsLent forest held core.root
      (λ id. in_forest id (suc core.top) forest + (in_writer id core.top + in_list id core.trees)) core.top z w)
      (sym pair.1) (
        held'.0,
        as_was pair.0 (under_top pair.0 (whole held'.0 (a_writer k)) held'.1, held'.2) ∙ held'.1,
        at_parent,
        subst (λ i. Names held core.root i (λ h. h ≡ shut z)) (sym there) shut_own,
      )

  module _ (holds : (holder : ℕ) → via ≡ lent_through holder k
      → (at : Place) × (core.forest holder ≡ Some (whole at (a_writer k))) × (k ≡ holder → ⊥)) where
    lent : (g : ℕ) (l : Loan) → table g ≡ Some l → IsHere (forest g)
        → IsLent forest held core.root
        (λ id. in_forest id (suc core.top) forest + (in_writer id core.top + in_list id core.trees)) g l.token l.via
    lent g l has there = by (row_cases g l has)
      where
        by : ((core.top ≡ g) × (loan ≡ l)) ⊎ ((core.top ≡ g → ⊥) × (s g ≡ Some l))
            → IsLent forest held core.root
            (λ id. in_forest id (suc core.top) forest + (in_writer id core.top + in_list id core.trees)) g l.token l.via
        by (inl both) =
            subst (λ i. IsLent forest held core.root
            (λ id. in_forest id (suc core.top) forest + (in_writer id core.top + in_list id core.trees)) i l.token l.via)
            both.0
            (subst (λ (n : Loan). IsLent forest held core.root
            (λ id. in_forest id (suc core.top) forest + (in_writer id core.top + in_list id core.trees))
            core.top n.token n.via) both.1 (own_lent via lends shuts holds))
        by (inr both) =
            lent_moves core.forest forest hold held core.root core.root
            (λ id. in_forest id core.top core.forest + in_list id core.trees)
            (λ id. in_forest id (suc core.top) forest + (in_writer id core.top + in_list id core.trees)) g
            (keeps g both.0) l.token l.via (core.lent g l both.1 (before g both.0 there))

    live : (g : ℕ) (l : Loan) → table g ≡ Some l → IsLoan l.via → scope l.token ≡ true → IsHere (forest g)
    live g l has loan' scoped = by (row_cases g l has)
      where
        by : ((core.top ≡ g) × (loan ≡ l)) ⊎ ((core.top ≡ g → ⊥) × (s g ≡ Some l)) → IsHere (forest g)
        by (inl both) = subst (λ i. IsHere (forest i)) both.0 (subst IsHere (sym at_top) tt)
        by (inr both) = stay g l both.1 loan' (core.live g l both.1 loan' scoped)

    is_active : (g : ℕ) (l : Loan) → table g ≡ Some l → IsLoan l.via → IsHere (forest g) → act l.token ≡ true
    is_active g l has loan' there = by (row_cases g l has)
      where
        by : ((core.top ≡ g) × (loan ≡ l)) ⊎ ((core.top ≡ g → ⊥) × (s g ≡ Some l)) → act l.token ≡ true
        by (inl both) = subst (λ (n : Loan). act n.token ≡ true) both.1 active
        by (inr both) = core.active g l both.1 loan' (before g both.0 there)

    older : (g : ℕ) (l : Loan) (j : ℕ) → table g ≡ Some l → parent_of l.via ≡ Some j → j < g
    older g l j has from = by (row_cases g l has)
      where
        by : ((core.top ≡ g) × (loan ≡ l)) ⊎ ((core.top ≡ g → ⊥) × (s g ≡ Some l)) → j < g
        by (inl both) =
            let own' : parent_of via ≡ Some j = subst (λ (n : Loan). parent_of n.via ≡ Some j) (sym both.1) from in
            let same : Some k ≡ Some j = sym (lends_parent via k lends) ∙ own' in
            let is' : k ≡ j = cc in
            let less = below in
            let at = both.0 in
            omega arith
        by (inr both) = core.older g l j both.1 from

    ordered : (g : ℕ) (l : Loan) (j : ℕ) (n : Loan) → table g ≡ Some l → parent_of l.via ≡ Some j → table j ≡ Some n
        → IsLoan n.via → n.token ≤ l.token
    ordered g l j n has from has2 loan' = by (row_cases g l has) (row_cases j n has2)
      where
        by : ((core.top ≡ g) × (loan ≡ l)) ⊎ ((core.top ≡ g → ⊥) × (s g ≡ Some l))
            → ((core.top ≡ j) × (loan ≡ n)) ⊎ ((core.top ≡ j → ⊥) × (s j ≡ Some n)) → n.token ≤ l.token
        by (inl both) (inl other) =
            let less = older g l j has from in
            let one = both.0 in
            let two = other.0 in
            absurd (omega arith)
        by (inl both) (inr other) =
            let own' : parent_of via ≡ Some j = subst (λ (n2 : Loan). parent_of n2.via ≡ Some j) (sym both.1) from in
            let same : Some k ≡ Some j = sym (lends_parent via k lends) ∙ own' in
            let is' : k ≡ j = cc in
            let has3 : s j ≡ Some lk = subst (λ i. s i ≡ Some lk) is' row in
            let has4 : s j ≡ Some n = other.1 in
            let alike : lk ≡ n = cc in
            subst (λ (l2 : Loan). n.token ≤ l2.token) both.1
            (subst (λ (n2 : Loan). IsLoan n2.via → n2.token ≤ z) alike order loan')
        by (inr both) (inl other) =
            let less = core.older g l j both.1 from in
            let under' = row_under g l both.1 in
            let one = other.0 in
            absurd (omega arith)
        by (inr both) (inr other) = core.order g l j n both.1 from other.1 loan'

    ticked : (g : ℕ) (l : Loan) → table g ≡ Some l → l.token ≤ clock
    ticked g l has = by (row_cases g l has)
      where
        by : ((core.top ≡ g) × (loan ≡ l)) ⊎ ((core.top ≡ g → ⊥) × (s g ≡ Some l)) → l.token ≤ clock
        by (inl both) = subst (λ (n : Loan). n.token ≤ clock) both.1 (core.acted z active)
        by (inr both) = core.ticked g l both.1

    lent_core : Core types clock scope act held type
        ((reference b lk.to, meaning.writes lk.type (token z)) ∷ under) table m
    lent_core = record {
      forest = forest;
      top = suc core.top;
      root = core.root;
      trees = a_writer core.top ∷ core.trees;
      shown = (
        (loan, row_self core.top loan s, refl),
        (loan, row_self core.top loan s, lends_write via k lends, refl),
        shown_grows types s table grows m under core.trees core.shown,
      );
      once = once;
      rooted = rooted;
      names = names;
      lent = lent;
      live = live;
      active = is_active;
      known = λ j above. row_other core.top j loan s (λ same. omega arith) ∙ core.known j (omega arith);
      older = older;
      order = ordered;
      ticked = ticked;
      acted = core.acted;
      scoped = core.scoped;
    }

    pub lent_all : Lent types clock scope act hold type under s m core frame x b z lk via
    unfolding lent_core
    lent_all = record { after = lent_core; counts = λ id. moved id }
