-- A name is lent to read: it stays whole, and is watched until the token ends.
use Rattle.std.proofs.Common.{◌≡◌, ◌⊎◌, inl, inr, ℕ, suc, ◌+◌, ◌≤◌, ◌<◌, Bool, true, false, List, [], ◌∷◌}
use Rattle.std.proofs.Common.{refl, sym, ap, subst, ◌∙◌, arith, if◌then◌else◌}
use Rattle.std.specs.Prelude.{Option, Some, None}
use Rattle.std.proofs.lemmas.Bool.{cases_eq, cases_lt}
use Rattle.au_effects.specs.References.{name_along}
use Rattle.au_effects.specs.Values.{name_of, reference}
use Rattle.au_places.specs.Memories.{Memory}
use Rattle.au_places.specs.Places.{Id, writer, same_base}
use Rattle.au_places.proofs.PlaceLemmas.{self_base}
use Rattle.au_running_types.specs.Running.{token}
use Rattle.au_types.specs.Types as meaning
use Rattle.au_types.specs.Types.{Meaning}
use Rattle.au_memory.specs.Trees.{a_reader}
use Rattle.au_memory.specs.Loans.{Types, Loan, Table, Grows, reading, IsLoan, LeadsTo, parent_of, start_of}
use Rattle.au_memory.specs.Forests.{Held, Forest, Hold, Holds, Made, Core, whole, all_lent, watching, empty}
use Rattle.au_memory.specs.Forests.{ready, shut, watched, with_root, in_root, in_forest, in_list, IsFull, IsHere}
use Rattle.au_memory.specs.Forests.{IsLent, IsNameRow, IsPartLent, IsRooted, IsWatched, IsWhole, NameStands}
use Rattle.au_memory.proofs.GrowthLemmas.{has_grows}
use Rattle.au_memory.proofs.TotalLemmas.{root_other, root_self, total_out}
use Rattle.au_memory.proofs.UsableLemmas.{root_below}
use Rattle.au_lending.specs.Holding.{with_hold, with_row}
use Rattle.au_lending.specs.Laws.{Read, also_watched, read_row, IsReadable}
use Rattle.au_lending.proofs.FillLemmas.{row_grows, row_other, row_self, shown_grows}
use Rattle.au_lending.proofs.MoveLemmas.{Keeps, lent_moves, name_moves, parent_loan, root_moves, shuts_loan}
use Rattle.au_lending.proofs.MoveLemmas.{part_stays}
use Rattle.au_lending.proofs.RowLemmas.{Found, find, row_of, same_names, watched_full}
use Rattle.au_lending.proofs.ValueLemmas.{lent_counts}

-- ---- how a readable name stands

readable_full : (h : Hold) → IsReadable h → IsFull h
readable_full empty r = r
readable_full ready r = tt
readable_full (shut z) r = absurd r
readable_full (watched zs) r = tt

watched_more : (h : Hold) (z y : ℕ) → IsWatched y h → IsWatched y (also_watched z h)
watched_more empty z y w = absurd w
watched_more ready z y w = absurd w
watched_more (shut z2) z y w = absurd w
watched_more (watched zs) z y w = inr w

watched_now : (h : Hold) (z : ℕ) → IsReadable h → IsWatched z (also_watched z h)
watched_now empty z r = absurd r
watched_now ready z r = inl refl
watched_now (shut y) z r = absurd r
watched_now (watched zs) z r = inl refl

now_full : (h : Hold) (z : ℕ) → IsReadable h → IsFull (also_watched z h)
now_full empty z r = absurd r
now_full ready z r = tt
now_full (shut y) z r = absurd r
now_full (watched zs) z r = tt

not_shut : (h : Hold) (z : ℕ) → IsReadable h → h ≡ shut z → ⊥
not_shut h z r e = subst IsReadable e r

module _ (types : Types) (clock : ℕ) (scope act : ℕ → Bool) (hold : Holds) (type : ℕ → ℕ → Meaning)
    (under : Made) (s : Table) (m : Memory (List ℕ)) (core : Core types clock scope act hold type under s m)
    (frame x : ℕ) (is : IsReadable (hold frame x)) (b z : ℕ) (active : act z ≡ true) where
  full : IsFull (hold frame x)
  full = readable_full (hold frame x) is

  whole_of : (h : Hold) → IsReadable h → NameStands types s core.forest m core.root frame x (type frame x) h
      → IsWhole (core.forest (core.root frame x))
  whole_of empty r stands = absurd r
  whole_of ready r stands = stands.1
  whole_of (shut y) r stands = absurd r
  whole_of (watched zs) r stands = stands.1

  own_row : IsNameRow s (core.root frame x) frame x (type frame x)
  own_row = row_of types clock scope act hold type under s m core frame x full

  found : Found types clock scope act hold type under s m core frame x
  found = find types clock scope act hold type under s m core frame x own_row
      (whole_of (hold frame x) is (core.names frame x))

  abbrev k : ℕ
  k = core.root frame x

  abbrev loan : Loan
  loan = read_row b z frame x (type frame x) k found.tree

  abbrev forest : Forest
  forest = with_root core.top (Some watching) core.forest

  abbrev table : Table
  table = with_row core.top loan s

  abbrev held : Holds
  held = with_hold frame x (also_watched z (hold frame x)) hold

  grows : Grows s table
  grows = row_grows core.top loan s (core.known core.top (omega arith))

  below : k < core.top
  below = root_below types clock scope act hold type under s m core k (whole (name_along frame x []) found.tree) found.here

  under_top : (j : ℕ) (h : Held) → core.forest j ≡ Some h → core.top ≡ j → ⊥
  under_top j h e same =
      let less = root_below types clock scope act hold type under s m core j h e in omega arith

  as_was : (j : ℕ) → (core.top ≡ j → ⊥) → forest j ≡ core.forest j
  as_was j differ = root_other core.top j (Some watching) core.forest differ

  at_top : forest core.top ≡ Some watching
  at_top = root_self core.top (Some watching) core.forest

  stay : (g : ℕ) (l : Loan) → s g ≡ Some l → IsLoan l.via → IsHere (core.forest g) → IsHere (forest g)
  stay g l has loan' there = by (cases_eq core.top g)
    where
      by : (core.top ≡ g) ⊎ (core.top ≡ g → ⊥) → IsHere (forest g)
      by (inl same) = subst (λ i. IsHere (forest i)) same (subst IsHere (sym at_top) tt)
      by (inr differ) = subst IsHere (sym (as_was g differ)) there

  -- ---- rows

  row_cases : (j : ℕ) (l : Loan) → table j ≡ Some l
      → ((core.top ≡ j) × (loan ≡ l)) ⊎ ((core.top ≡ j → ⊥) × (s j ≡ Some l))
  row_cases j l has = by (cases_eq core.top j)
    where
      by : (core.top ≡ j) ⊎ (core.top ≡ j → ⊥)
          → ((core.top ≡ j) × (loan ≡ l)) ⊎ ((core.top ≡ j → ⊥) × (s j ≡ Some l))
      by (inl same) =
          let there : table j ≡ Some loan = subst (λ i. table i ≡ Some loan) same (row_self core.top loan s) in
          let alike : loan ≡ l = cc in
          inl (same, alike)
      by (inr differ) = inr (differ, sym (row_other core.top j loan s differ) ∙ has)

  row_under : (j : ℕ) (l : Loan) → s j ≡ Some l → j < core.top
  row_under j l has = by (cases_lt j core.top)
    where
      by : (j < core.top) ⊎ (core.top ≤ j) → j < core.top
      by (inl less) = less
      by (inr more) = let none = core.known j more in let wrong : None ≡ Some l = sym none ∙ has in cc

  -- ---- counts

  moved : (id : Id) → in_forest id (suc core.top) forest + in_list id core.trees
      ≡ in_forest id core.top core.forest + in_list id core.trees
  moved id =
      let out = total_out id core.top core.top (Some watching) core.forest (omega arith) in
      let self = ap (in_root id) at_top in
      omega arith

  -- ---- roots

  new_root : (l : Loan) × (table core.top ≡ Some l) × IsRooted types table forest m core.top l watching
  new_root = (
    loan,
    row_self core.top loan s,
    (
      k,
      found.tree,
      refl,
      has_grows types s table grows found.tree (type frame x) found.typed,
      (own_row.row, grows.row k own_row.row own_row.has, own_row.at),
    ),
  )

  rooted : (j : ℕ) (h : Held) → forest j ≡ Some h → (l : Loan) × (table j ≡ Some l) × IsRooted types table forest m j l h
  rooted j h e = by (cases_eq core.top j)
    where
      by : (core.top ≡ j) ⊎ (core.top ≡ j → ⊥) → (l : Loan) × (table j ≡ Some l) × IsRooted types table forest m j l h
      by (inl same) =
          let there : forest j ≡ Some watching = subst (λ i. forest i ≡ Some watching) same at_top in
          let alike : watching ≡ h = cc in
          subst (λ i. (l : Loan) × (table i ≡ Some l) × IsRooted types table forest m i l h) same
          (subst (λ d. (l : Loan) × (table core.top ≡ Some l) × IsRooted types table forest m core.top l d) alike new_root)
      by (inr differ) =
          let old : core.forest j ≡ Some h = sym (as_was j differ) ∙ e in
          let r = core.rooted j h old in (
            r.0,
            grows.row j r.0 r.1,
            root_moves types s table core.forest forest m m grows j r.0 h
                (λ g l has from there. stay g l has (parent_loan l.via j from) there)
                (λ some. refl) (λ at t v eq shown. shown) (λ at tag born i n rest parts eq shown. shown) r.2,
          )

  -- ---- names

  fresh : (a y : ℕ) → IsFull (hold a y) → core.top ≡ core.root a y → ⊥
  fresh a y there same =
      let mine = row_of types clock scope act hold type under s m core a y there in
      let none = core.known (core.root a y) (omega arith) in
      let wrong : None ≡ Some mine.row = sym none ∙ mine.has in
      cc

  old_name : (a y : ℕ) (h : Hold) → hold a y ≡ h → NameStands types s core.forest m core.root a y (type a y) h
      → NameStands types table forest m core.root a y (type a y) h
  old_name a y empty e stands = stands
  old_name a y ready e stands =
      name_moves types s table core.forest forest m m grows core.root core.root a y (type a y) ready
      (λ g l has shuts there. stay g l has (shuts_loan l.via (core.root a y) shuts) there) refl (λ none. refl)
      (λ own w. (w.0, w.1, as_was (core.root a y) (fresh a y (subst IsFull (sym e) tt)) ∙ w.2)) stands
  old_name a y (shut y2) e stands =
      name_moves types s table core.forest forest m m grows core.root core.root a y (type a y) (shut y2)
      (λ g l has shuts there. stay g l has (shuts_loan l.via (core.root a y) shuts) there) refl (λ none. refl)
      (λ own w. (w.0, w.1, as_was (core.root a y) (fresh a y (subst IsFull (sym e) tt)) ∙ w.2)) stands
  old_name a y (watched zs) e stands =
      name_moves types s table core.forest forest m m grows core.root core.root a y (type a y) (watched zs)
      (λ g l has shuts there. stay g l has (shuts_loan l.via (core.root a y) shuts) there) refl (λ none. refl)
      (λ own w. (w.0, w.1, as_was (core.root a y) (fresh a y (subst IsFull (sym e) tt)) ∙ w.2)) stands

  -- a readable name stands as before, and is watched for one token more
  own_name : (h : Hold) → IsReadable h → NameStands types table forest m core.root frame x (type frame x) h
      → NameStands types table forest m core.root frame x (type frame x) (also_watched z h)
  own_name empty r stands = absurd r
  own_name ready r stands = stands
  own_name (shut y) r stands = absurd r
  own_name (watched zs) r stands = stands

  names : (a y : ℕ) → NameStands types table forest m core.root a y (type a y) (held a y)
  names a y = by (same_base (name_of frame x) (name_of a y)) refl
    where
      by : (t : Bool) → same_base (name_of frame x) (name_of a y) ≡ t
          → NameStands types table forest m core.root a y (type a y)
          (if t then also_watched z (hold frame x) else hold a y)
      by true e =
          let both = same_names frame x a y e in
          subst (λ c. NameStands types table forest m core.root c y (type c y) (also_watched z (hold frame x))) both.0
          (subst (λ w. NameStands types table forest m core.root frame w (type frame w) (also_watched z (hold frame x)))
          both.1 (own_name (hold frame x) is (old_name frame x (hold frame x) refl (core.names frame x))))
      by false e = old_name a y (hold a y) refl (core.names a y)

  -- ---- loans

  stays : (a y : ℕ) → same_base (name_of frame x) (name_of a y) ≡ false → held a y ≡ hold a y
  stays a y e = rw e

  -- a name that is shut is another one
  shut_stays : (a y y2 : ℕ) → hold a y ≡ shut y2 → held a y ≡ shut y2
  shut_stays a y y2 e = by (same_base (name_of frame x) (name_of a y)) refl
    where
      by : (t : Bool) → same_base (name_of frame x) (name_of a y) ≡ t
          → (if t then also_watched z (hold frame x) else hold a y) ≡ shut y2
      by true same =
          let both = same_names frame x a y same in
          let here : hold frame x ≡ shut y2 =
          subst (λ c. hold c x ≡ shut y2) (sym both.0) (subst (λ w. hold a w ≡ shut y2) (sym both.1) e) in
          absurd (not_shut (hold frame x) y2 is here)
      by false same = e

  watched_stays : (a y y2 : ℕ) → IsWatched y2 (hold a y) → IsWatched y2 (held a y)
  watched_stays a y y2 w = by (same_base (name_of frame x) (name_of a y)) refl
    where
      by : (t : Bool) → same_base (name_of frame x) (name_of a y) ≡ t
          → IsWatched y2 (if t then also_watched z (hold frame x) else hold a y)
      by true same =
          let both = same_names frame x a y same in
          watched_more (hold frame x) z y2
          (subst (λ c. IsWatched y2 (hold c x)) (sym both.0) (subst (λ v. IsWatched y2 (hold a v)) (sym both.1) w))
      by false same = w

  full_stays : (a y : ℕ) → IsFull (hold a y) → IsFull (held a y)
  full_stays a y there = by (same_base (name_of frame x) (name_of a y)) refl
    where
      by : (t : Bool) → same_base (name_of frame x) (name_of a y) ≡ t
          → IsFull (if t then also_watched z (hold frame x) else hold a y)
      by true same = now_full (hold frame x) z is
      by false same = there

  keeps : (g : ℕ) → (core.top ≡ g → ⊥)
      → Keeps core.forest forest hold held core.root core.root
      (λ id. in_forest id core.top core.forest + in_list id core.trees)
      (λ id. in_forest id (suc core.top) forest + in_list id core.trees) g
  keeps g differ = record {
    shuts = λ a y y2 e. (shut_stays a y y2 e, refl);
    watches = λ a y y2 w. (watched_stays a y y2 w, refl);
    fulls = λ a y at there. (full_stays a y there, refl);
    lents = λ j i e. as_was j (under_top j (all_lent i) e);
    parts = λ j h. part_stays g (core.forest j) (forest j) (as_was j (part_old j (core.forest j) refl h)) h;
    holders = λ j y2 whose. as_was j (λ same.
        fresh whose.frame whose.name (subst IsFull (sym whose.holds) tt) (same ∙ sym whose.is));
    seen = λ j y2 whose. as_was j (λ same.
        fresh whose.frame whose.name (watched_full (hold whose.frame whose.name) y2 whose.holds)
        (same ∙ sym whose.is));
    own = λ e. as_was g differ;
    counts = λ j h. let all = moved (writer j) in omega arith;
  }
    where
      part_old : (j : ℕ) (o : Option Held) → core.forest j ≡ o → IsPartLent g o → core.top ≡ j → ⊥
      part_old j None e h same = h
      part_old j (Some d) e h same = under_top j d e same

  own_lent : IsLent forest held core.root (λ id. in_forest id (suc core.top) forest + in_list id core.trees)
      core.top z (reading k found.tree)
  own_lent = (
    name_along frame x [],
    as_was k (λ same. let less = below in omega arith) ∙ found.here,
    at_top,
    record {
      frame = frame;
      name = x;
      is = refl;
      holds = subst (IsWatched z) (let e : held frame x ≡ also_watched z (hold frame x) =
          rw (self_base (name_of frame x)) in sym e) (watched_now (hold frame x) z is);
    },
  )

  lent : (g : ℕ) (l : Loan) → table g ≡ Some l → IsHere (forest g)
      → IsLent forest held core.root (λ id. in_forest id (suc core.top) forest + in_list id core.trees) g l.token l.via
  lent g l has there = by (row_cases g l has)
    where
      by : ((core.top ≡ g) × (loan ≡ l)) ⊎ ((core.top ≡ g → ⊥) × (s g ≡ Some l))
          → IsLent forest held core.root (λ id. in_forest id (suc core.top) forest + in_list id core.trees)
          g l.token l.via
      by (inl both) =
          subst (λ i. IsLent forest held core.root
          (λ id. in_forest id (suc core.top) forest + in_list id core.trees) i l.token l.via) both.0
          (subst (λ (n : Loan). IsLent forest held core.root
          (λ id. in_forest id (suc core.top) forest + in_list id core.trees) core.top n.token n.via) both.1 own_lent)
      by (inr both) =
          lent_moves core.forest forest hold held core.root core.root
          (λ id. in_forest id core.top core.forest + in_list id core.trees)
          (λ id. in_forest id (suc core.top) forest + in_list id core.trees) g (keeps g both.0) l.token l.via
          (core.lent g l both.1 (subst IsHere (as_was g both.0) there))

  live : (g : ℕ) (l : Loan) → table g ≡ Some l → IsLoan l.via → scope l.token ≡ true → IsHere (forest g)
  live g l has loan' on = by (row_cases g l has)
    where
      by : ((core.top ≡ g) × (loan ≡ l)) ⊎ ((core.top ≡ g → ⊥) × (s g ≡ Some l)) → IsHere (forest g)
      by (inl both) = subst (λ i. IsHere (forest i)) both.0 (subst IsHere (sym at_top) tt)
      by (inr both) = stay g l both.1 loan' (core.live g l both.1 loan' on)

  is_active : (g : ℕ) (l : Loan) → table g ≡ Some l → IsLoan l.via → IsHere (forest g) → act l.token ≡ true
  is_active g l has loan' there = by (row_cases g l has)
    where
      by : ((core.top ≡ g) × (loan ≡ l)) ⊎ ((core.top ≡ g → ⊥) × (s g ≡ Some l)) → act l.token ≡ true
      by (inl both) = subst (λ (n : Loan). act n.token ≡ true) both.1 active
      by (inr both) = core.active g l both.1 loan' (subst IsHere (as_was g both.0) there)

  older : (g : ℕ) (l : Loan) (j : ℕ) → table g ≡ Some l → parent_of l.via ≡ Some j → j < g
  older g l j has from = by (row_cases g l has)
    where
      by : ((core.top ≡ g) × (loan ≡ l)) ⊎ ((core.top ≡ g → ⊥) × (s g ≡ Some l)) → j < g
      by (inl both) =
          let own : parent_of (reading k found.tree) ≡ Some j =
          subst (λ (n : Loan). parent_of n.via ≡ Some j) (sym both.1) from in
          let same : k ≡ j = cc in
          let less = below in
          let at = both.0 in
          omega arith
      by (inr both) = core.older g l j both.1 from

  ordered : (g : ℕ) (l : Loan) (j : ℕ) (n : Loan) → table g ≡ Some l → parent_of l.via ≡ Some j → table j ≡ Some n
      → IsLoan n.via → n.token ≤ l.token
  ordered g l j n has from has2 loan' = by (row_cases g l has) (row_cases j n has2)
    where
      by : ((core.top ≡ g) × (loan ≡ l)) ⊎ ((core.top ≡ g → ⊥) × (s g ≡ Some l))
          → ((core.top ≡ j) × (loan ≡ n)) ⊎ ((core.top ≡ j → ⊥) × (s j ≡ Some n)) → n.token ≤ l.token
      by (inl both) (inl other) =
          let less = older g l j has from in
          let one = both.0 in
          let two = other.0 in
          absurd (omega arith)
      by (inl both) (inr other) =
          let own : parent_of (reading k found.tree) ≡ Some j =
          subst (λ (n2 : Loan). parent_of n2.via ≡ Some j) (sym both.1) from in
          let same : k ≡ j = cc in
          let mine : s j ≡ Some own_row.row = subst (λ i. s i ≡ Some own_row.row) same own_row.has in
          let has3 : s j ≡ Some n = other.1 in
          let alike : own_row.row ≡ n = cc in
          let via' : n.via ≡ own_row.row.via = ap (λ (o : Loan). o.via) (sym alike) in
          absurd (subst IsLoan (via' ∙ own_row.is_named) loan')
      by (inr both) (inl other) =
          let less = core.older g l j both.1 from in
          let under' = row_under g l both.1 in
          let one = other.0 in
          absurd (omega arith)
      by (inr both) (inr other) = core.order g l j n both.1 from other.1 loan'

  ticked : (g : ℕ) (l : Loan) → table g ≡ Some l → l.token ≤ clock
  ticked g l has = by (row_cases g l has)
    where
      by : ((core.top ≡ g) × (loan ≡ l)) ⊎ ((core.top ≡ g → ⊥) × (s g ≡ Some l)) → l.token ≤ clock
      by (inl both) = subst (λ (n : Loan). n.token ≤ clock) both.1 (core.acted z active)
      by (inr both) = core.ticked g l both.1

  leads : LeadsTo types table core.top [] loan (start_of types loan found.tree)
  leads = record { row = row_self core.top loan s; from = k; tree = found.tree; via = refl; there = refl }

  read_core : Core types clock scope act held type
      ((reference b (name_along frame x []), meaning.reads (type frame x) (token z)) ∷ under) table m
  read_core = record {
    forest = forest;
    top = suc core.top;
    root = core.root;
    trees = a_reader core.top [] ∷ core.trees;
    shown = (
      (loan, start_of types loan found.tree, leads, refl),
      (loan, start_of types loan found.tree, leads, refl),
      shown_grows types s table grows m under core.trees core.shown,
    );
    once = λ id. let all = moved id in let once = core.once id in omega arith;
    rooted = rooted;
    names = names;
    lent = lent_more;
    live = live;
    active = is_active;
    known = λ j above. row_other core.top j loan s (λ same. omega arith) ∙ core.known j (omega arith);
    older = older;
    order = ordered;
    ticked = ticked;
    acted = core.acted;
    scoped = core.scoped;
  }
    where
      lent_more : (g : ℕ) (l : Loan) → table g ≡ Some l → IsHere (forest g)
          → IsLent forest held core.root
          (λ id. in_forest id (suc core.top) forest + in_list id (a_reader core.top [] ∷ core.trees)) g l.token l.via
      lent_more g l has there =
          lent_counts forest held core.root (λ id. in_forest id (suc core.top) forest + in_list id core.trees)
          (λ id. in_forest id (suc core.top) forest + in_list id (a_reader core.top [] ∷ core.trees))
          (λ j. omega arith) g l.token l.via (lent g l has there)

  read_counts : (id : Id) → in_forest id (suc core.top) forest + in_list id (a_reader core.top [] ∷ core.trees)
      ≡ in_forest id core.top core.forest + in_list id core.trees
  read_counts id = let all = moved id in omega arith

  pub read : Read types clock scope act hold type under s m core frame x b z
  unfolding read_core
  read = record {
    tree = found.tree;
    value = found.value;
    there = found.there;
    shown = found.shown;
    typed = found.typed;
    after = read_core;
    counts = λ id. read_counts id;
  }
