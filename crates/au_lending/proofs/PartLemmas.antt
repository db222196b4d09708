-- A part of what a loan holds is lent to write: its tree goes over to a new loan, and the loan's own reference is gone.
use Rattle.std.proofs.Common.{◌≡◌, ◌⊎◌, inl, inr, ℕ, suc, ◌+◌, ◌≤◌, ◌<◌, ◌==◌, Bool, true, false, List, ◌∷◌}
use Rattle.std.proofs.Common.{refl, sym, ap, subst, ◌∙◌, arith}
use Rattle.std.specs.Prelude.{Option, Some, None}
use Rattle.std.proofs.lemmas.Bool.{cases_eq, cases_lt, eqb-true, ne_eqb}
use Rattle.au_effects.specs.Values.{Place, reference}
use Rattle.au_places.specs.Memories.{Memory, held_at}
use Rattle.au_places.specs.Places.{Id, birth, cell, writer, in_place, one_if}
use Rattle.au_running_types.specs.Running.{token}
use Rattle.au_types.specs.Types as meaning
use Rattle.au_types.specs.Types.{Meaning}
use Rattle.au_memory.specs.Trees.{Value, Tree, a_writer, in_tree, in_writer}
use Rattle.au_memory.specs.Loans.{Types, Loan, Table, Grows, part_of, IsLoan, IsWriter, parent_of}
use Rattle.au_memory.specs.Shown.{Shows, Has}
use Rattle.au_memory.specs.Forests.{Held, Forest, Holds, Made, Core, AreShown, whole, all_lent, watching}
use Rattle.au_memory.specs.Forests.{with_root, in_root, in_forest, in_list, in_held}
use Rattle.au_memory.specs.Forests.{IsFull, IsHere, IsLent, IsNameRow, IsPartLent, IsRooted, NameStands}
use Rattle.au_memory.proofs.GrowthLemmas.{has_grows, shows_grows}
use Rattle.au_memory.proofs.TotalLemmas.{root_other, root_self, total_out, total_put}
use Rattle.au_memory.proofs.UsableLemmas.{root_below, writer_is_loan}
use Rattle.au_lending.specs.Holding.{with_row}
use Rattle.au_lending.specs.Laws.{part_row}
use Rattle.au_lending.proofs.FillLemmas.{row_grows, row_other, row_self, shown_grows}
use Rattle.au_lending.proofs.LendLemmas.{unlent}
use Rattle.au_lending.proofs.MoveLemmas.{Keeps, lent_moves, name_moves, root_moves}
use Rattle.au_lending.proofs.RowLemmas.{no_loan, row_of, watched_full}

module _ (types : Types) (clock : ℕ) (scope act : ℕ → Bool) (hold : Holds) (type : ℕ → ℕ → Meaning)
    (under : Made) (s : Table) (m : Memory (List ℕ)) (core : Core types clock scope act hold type under s m) where
  -- What is asked of a loan, of what it holds before and after, of the part that is lent, and of the values under way
  -- that stay.
  pub record Parting : Type 0 where
    pub g : ℕ
    pub l : Loan
    pub row : s g ≡ Some l
    pub writes : IsWriter l.via
    pub was : Held
    pub kept : Held
    pub here : core.forest g ≡ Some was
    pub at : Place
    pub tree : Tree
    pub of : Meaning
    pub v : Value
    pub typed : Has types s tree of
    pub there : held_at m at ≡ Some v
    pub shown : Shows types s m v tree
    pub splits : (id : Id) → in_held id was ≡ in_held id kept + (in_place id at + in_tree id tree)
    pub is_part : IsPartLent core.top (Some kept)
    pub others : (j : ℕ) → IsPartLent j (Some was) → IsPartLent j (Some kept)
    pub not_lent : (j : ℕ) → was ≡ all_lent j → ⊥
    pub not_watching : was ≡ watching → ⊥
    pub now : Made
    pub rest : List Tree
    pub rest_shown : AreShown types s m now rest
    pub less_trees : (id : Id) → in_list id rest ≤ in_list id core.trees
    pub gone : in_forest (writer g) core.top core.forest + in_list (writer g) rest ≡ 0

module _ (types : Types) (clock : ℕ) (scope act : ℕ → Bool) (hold : Holds) (type : ℕ → ℕ → Meaning)
    (under : Made) (s : Table) (m : Memory (List ℕ)) (core : Core types clock scope act hold type under s m)
    (p : Parting types clock scope act hold type under s m core) where
  abbrev g : ℕ
  g = p.g

  abbrev l : Loan
  l = p.l

  abbrev was : Held
  was = p.was

  abbrev kept : Held
  kept = p.kept

  abbrev at : Place
  at = p.at

  abbrev tree : Tree
  tree = p.tree

  abbrev of : Meaning
  of = p.of

  abbrev v : Value
  v = p.v

  abbrev now : Made
  now = p.now

  abbrev rest : List Tree
  rest = p.rest

  abbrev loan : Loan
  loan = part_row g l at of

  abbrev own : Held
  own = whole at tree

  abbrev given : Forest
  given = with_root g (Some kept) core.forest

  abbrev pub part_forest : Forest
  part_forest = with_root core.top (Some own) given

  abbrev pub part_table : Table
  part_table = with_row core.top loan s

  abbrev before_count : Id → ℕ
  before_count id = in_forest id core.top core.forest + in_list id core.trees

  abbrev after_count : Id → ℕ
  after_count id = in_forest id (suc core.top) part_forest + (in_writer id core.top + in_list id rest)

  below : g < core.top
  below = root_below types clock scope act hold type under s m core g was p.here

  pub part_grows : Grows s part_table
  part_grows = row_grows core.top loan s (core.known core.top (omega arith))

  is_loan : IsLoan l.via
  is_loan = writer_is_loan l.via p.writes

  active : act l.token ≡ true
  active = core.active g l p.row is_loan (subst IsHere (sym p.here) tt)

  -- ---- roots as they were

  as_was : (j : ℕ) → (core.top ≡ j → ⊥) → (g ≡ j → ⊥) → part_forest j ≡ core.forest j
  as_was j one two = root_other core.top j (Some own) given one ∙ root_other g j (Some kept) core.forest two

  pub at_top : part_forest core.top ≡ Some own
  at_top = root_self core.top (Some own) given

  pub at_parent : part_forest g ≡ Some kept
  at_parent = root_other core.top g (Some own) given (λ same. let less = below in omega arith)
      ∙ root_self g (Some kept) core.forest

  under_top : (j : ℕ) (h : Held) → core.forest j ≡ Some h → core.top ≡ j → ⊥
  under_top j h e same =
      let less = root_below types clock scope act hold type under s m core j h e in omega arith

  -- a root that holds something else isn't the one of which a part is lent
  no_parent : (j : ℕ) (h : Held) → core.forest j ≡ Some h → (was ≡ h → ⊥) → g ≡ j → ⊥
  no_parent j h e differ same =
      let one : core.forest j ≡ Some was = subst (λ i. core.forest i ≡ Some was) same p.here in
      let alike : was ≡ h = cc in
      differ alike

  pub part_stay : (j : ℕ) → IsHere (core.forest j) → IsHere (part_forest j)
  part_stay j old = by (cases_eq core.top j) (cases_eq g j)
    where
      by : (core.top ≡ j) ⊎ (core.top ≡ j → ⊥) → (g ≡ j) ⊎ (g ≡ j → ⊥) → IsHere (part_forest j)
      by (inl same) c = subst (λ i. IsHere (part_forest i)) same (subst IsHere (sym at_top) tt)
      by (inr differ) (inl same) = subst (λ i. IsHere (part_forest i)) same (subst IsHere (sym at_parent) tt)
      by (inr differ) (inr other) = subst IsHere (sym (as_was j differ other)) old

  before : (j : ℕ) → (core.top ≡ j → ⊥) → IsHere (part_forest j) → IsHere (core.forest j)
  before j differ new = by (cases_eq g j)
    where
      by : (g ≡ j) ⊎ (g ≡ j → ⊥) → IsHere (core.forest j)
      by (inl same) = subst (λ i. IsHere (core.forest i)) same (subst IsHere (sym p.here) tt)
      by (inr other) = subst IsHere (as_was j differ other) new

  -- ---- rows

  row_cases : (j : ℕ) (n : Loan) → part_table j ≡ Some n
      → ((core.top ≡ j) × (loan ≡ n)) ⊎ ((core.top ≡ j → ⊥) × (s j ≡ Some n))
  row_cases j n has = by (cases_eq core.top j)
    where
      by : (core.top ≡ j) ⊎ (core.top ≡ j → ⊥)
          → ((core.top ≡ j) × (loan ≡ n)) ⊎ ((core.top ≡ j → ⊥) × (s j ≡ Some n))
      by (inl same) =
          let one : part_table j ≡ Some loan = subst (λ i. part_table i ≡ Some loan) same (row_self core.top loan s) in
          let alike : loan ≡ n = cc in
          inl (same, alike)
      by (inr differ) = inr (differ, sym (row_other core.top j loan s differ) ∙ has)

  row_under : (j : ℕ) (n : Loan) → s j ≡ Some n → j < core.top
  row_under j n has = by (cases_lt j core.top)
    where
      by : (j < core.top) ⊎ (core.top ≤ j) → j < core.top
      by (inl less) = less
      by (inr more) = let none = core.known j more in let wrong : None ≡ Some n = sym none ∙ has in cc

  -- ---- counts

  pub part_moved : (id : Id)
      → after_count id ≡ (in_forest id core.top core.forest + in_list id rest) + in_writer id core.top
  part_moved id =
      let out = total_out id core.top core.top (Some own) given (omega arith) in
      let put = total_put id core.top g (Some kept) core.forest below in
      let self = ap (in_root id) at_top in
      let old = ap (in_root id) p.here in
      let split = p.splits id in
      omega arith

  pub once : (id : Id) → after_count id ≤ 1
  once (birth i) =
      let all = part_moved (birth i) in
      let old = core.once (birth i) in
      let less = p.less_trees (birth i) in
      omega arith
  once (cell base path) =
      let all = part_moved (cell base path) in
      let old = core.once (cell base path) in
      let less = p.less_trees (cell base path) in
      omega arith
  once (writer j) = by (core.top == j) refl
    where
      by : (t : Bool) → (core.top == j) ≡ t → after_count (writer j) ≤ 1
      by true e =
          let all = part_moved (writer j) in
          let one : in_writer (writer j) core.top ≡ 1 = ap one_if e in
          let same : core.top ≡ j = eqb-true core.top j e in
          let none = unlent types clock scope act hold type under s m core j (core.known j (omega arith)) in
          let less = p.less_trees (writer j) in
          omega arith
      by false e =
          let all = part_moved (writer j) in
          let nought : in_writer (writer j) core.top ≡ 0 = ap one_if e in
          let old = core.once (writer j) in
          let less = p.less_trees (writer j) in
          omega arith

  fewer : (j : ℕ) → (core.top ≡ j → ⊥) → after_count (writer j) ≤ before_count (writer j)
  fewer j differ =
      let all = part_moved (writer j) in
      let none : in_writer (writer j) core.top ≡ 0 = ap one_if (ne_eqb core.top j differ) in
      let less = p.less_trees (writer j) in
      omega arith

  pub part_gone : after_count (writer g) ≡ 0
  part_gone =
      let all = part_moved (writer g) in
      let less = below in
      let none : in_writer (writer g) core.top ≡ 0 = ap one_if (ne_eqb core.top g (λ same. omega arith)) in
      let own' = p.gone in
      omega arith

  -- ---- names

  -- a name that holds something has a root that was there, and isn't the loan's
  fresh : (a y : ℕ) → IsNameRow s (core.root a y) a y (type a y) → core.top ≡ core.root a y → ⊥
  fresh a y mine same =
      let none = core.known (core.root a y) (omega arith) in
      let wrong : None ≡ Some mine.row = sym none ∙ mine.has in
      cc

  apart : (a y : ℕ) → IsNameRow s (core.root a y) a y (type a y) → g ≡ core.root a y → ⊥
  apart a y mine same =
      no_loan s g a y (type a y) l (subst (λ i. IsNameRow s i a y (type a y)) (sym same) mine) p.row is_loan

  name_was : (a y : ℕ) → IsNameRow s (core.root a y) a y (type a y)
      → part_forest (core.root a y) ≡ core.forest (core.root a y)
  name_was a y mine = as_was (core.root a y) (fresh a y mine) (apart a y mine)

  pub names : (a y : ℕ) → NameStands types part_table part_forest m core.root a y (type a y) (hold a y)
  names a y =
      name_moves types s part_table core.forest part_forest m m part_grows core.root core.root a y (type a y) (hold a y)
      (λ i n has shuts old. part_stay i old) refl (λ none. refl)
      (λ mine w. (w.0, w.1, name_was a y mine ∙ w.2)) (core.names a y)

  -- ---- loans

  keeps : (i : ℕ) → (core.top ≡ i → ⊥)
      → Keeps core.forest part_forest hold hold core.root core.root before_count after_count i
  keeps i differ = record {
    shuts = λ a y y2 e. (e, refl);
    watches = λ a y y2 w. (w, refl);
    fulls = λ a y at' full. (full, refl);
    lents = λ j k e. as_was j (under_top j (all_lent k) e) (no_parent j (all_lent k) e (p.not_lent k));
    parts = λ j h. part_kept j (core.forest j) refl h;
    holders = λ j y2 whose. named_was j whose.frame whose.name whose.is (subst IsFull (sym whose.holds) tt);
    seen = λ j y2 whose.
        named_was j whose.frame whose.name whose.is
        (watched_full (hold whose.frame whose.name) y2 whose.holds);
    own = λ e. as_was i differ (no_parent i watching e p.not_watching);
    counts = λ j h. fewer j (part_here j (core.forest j) refl h);
  }
    where
      named_was : (j a y : ℕ) → core.root a y ≡ j → IsFull (hold a y) → part_forest j ≡ core.forest j
      named_was j a y is full =
          subst (λ k. part_forest k ≡ core.forest k) is
          (name_was a y (row_of types clock scope act hold type under s m core a y full))

      part_here : (j : ℕ) (o : Option Held) → core.forest j ≡ o → IsPartLent i o → core.top ≡ j → ⊥
      part_here j None e h same = h
      part_here j (Some d) e h same = under_top j d e same

      part_kept : (j : ℕ) (o : Option Held) → core.forest j ≡ o → IsPartLent i o → IsPartLent i (part_forest j)
      part_kept j o e h = by (cases_eq g j)
        where
          by : (g ≡ j) ⊎ (g ≡ j → ⊥) → IsPartLent i (part_forest j)
          by (inl same) =
              let one : core.forest j ≡ Some was = subst (λ k. core.forest k ≡ Some was) same p.here in
              let two : o ≡ Some was = sym e ∙ one in
              let new : part_forest j ≡ Some kept = subst (λ k. part_forest k ≡ Some kept) same at_parent in
              subst (IsPartLent i) (sym new) (p.others i (subst (IsPartLent i) two h))
          by (inr other) =
              subst (IsPartLent i) (sym (as_was j (part_here j o e h) other)) (subst (IsPartLent i) (sym e) h)

  own_lent : IsLent part_forest hold core.root after_count core.top l.token (part_of g)
  own_lent = (subst (IsPartLent core.top) (sym at_parent) p.is_part, part_gone)

  pub lent : (i : ℕ) (n : Loan) → part_table i ≡ Some n → IsHere (part_forest i)
      → IsLent part_forest hold core.root after_count i n.token n.via
  lent i n has new = by (row_cases i n has)
    where
      by : ((core.top ≡ i) × (loan ≡ n)) ⊎ ((core.top ≡ i → ⊥) × (s i ≡ Some n))
          → IsLent part_forest hold core.root after_count i n.token n.via
      by (inl both) =
          subst (λ j. IsLent part_forest hold core.root after_count j n.token n.via) both.0
          (subst (λ (o : Loan). IsLent part_forest hold core.root after_count core.top o.token o.via) both.1 own_lent)
      by (inr both) =
          lent_moves core.forest part_forest hold hold core.root core.root before_count after_count i
          (keeps i both.0) n.token n.via (core.lent i n both.1 (before i both.0 new))

  pub live : (i : ℕ) (n : Loan) → part_table i ≡ Some n → IsLoan n.via → scope n.token ≡ true → IsHere (part_forest i)
  live i n has loan' scoped = by (row_cases i n has)
    where
      by : ((core.top ≡ i) × (loan ≡ n)) ⊎ ((core.top ≡ i → ⊥) × (s i ≡ Some n)) → IsHere (part_forest i)
      by (inl both) = subst (λ j. IsHere (part_forest j)) both.0 (subst IsHere (sym at_top) tt)
      by (inr both) = part_stay i (core.live i n both.1 loan' scoped)

  pub is_active : (i : ℕ) (n : Loan) → part_table i ≡ Some n → IsLoan n.via → IsHere (part_forest i) → act n.token ≡ true
  is_active i n has loan' new = by (row_cases i n has)
    where
      by : ((core.top ≡ i) × (loan ≡ n)) ⊎ ((core.top ≡ i → ⊥) × (s i ≡ Some n)) → act n.token ≡ true
      by (inl both) = subst (λ (o : Loan). act o.token ≡ true) both.1 active
      by (inr both) = core.active i n both.1 loan' (before i both.0 new)

  from_parent : (n : Loan) (j : ℕ) → loan ≡ n → parent_of n.via ≡ Some j → g ≡ j
  from_parent n j e from =
      let mine : Some g ≡ Some j = subst (λ (o : Loan). parent_of o.via ≡ Some j) (sym e) from in cc

  pub older : (i : ℕ) (n : Loan) (j : ℕ) → part_table i ≡ Some n → parent_of n.via ≡ Some j → j < i
  older i n j has from = by (row_cases i n has)
    where
      by : ((core.top ≡ i) × (loan ≡ n)) ⊎ ((core.top ≡ i → ⊥) × (s i ≡ Some n)) → j < i
      by (inl both) =
          let same = from_parent n j both.1 from in
          let less = below in
          let top = both.0 in
          omega arith
      by (inr both) = core.older i n j both.1 from

  pub ordered : (i : ℕ) (n : Loan) (j : ℕ) (q : Loan) → part_table i ≡ Some n → parent_of n.via ≡ Some j
      → part_table j ≡ Some q → IsLoan q.via → q.token ≤ n.token
  ordered i n j q has from has2 loan' = by (row_cases i n has) (row_cases j q has2)
    where
      by : ((core.top ≡ i) × (loan ≡ n)) ⊎ ((core.top ≡ i → ⊥) × (s i ≡ Some n))
          → ((core.top ≡ j) × (loan ≡ q)) ⊎ ((core.top ≡ j → ⊥) × (s j ≡ Some q)) → q.token ≤ n.token
      by (inl both) (inl other) =
          let less = older i n j has from in
          let one = both.0 in
          let two = other.0 in
          absurd (omega arith)
      by (inl both) (inr other) =
          let same = from_parent n j both.1 from in
          let has3 : s j ≡ Some l = subst (λ k. s k ≡ Some l) same p.row in
          let has4 : s j ≡ Some q = other.1 in
          let alike : q ≡ l = cc in
          let mine : l.token ≡ n.token = ap (λ (o : Loan). o.token) both.1 in
          let theirs : q.token ≡ l.token = ap (λ (o : Loan). o.token) alike in
          omega arith
      by (inr both) (inl other) =
          let less = core.older i n j both.1 from in
          let under' = row_under i n both.1 in
          let one = other.0 in
          absurd (omega arith)
      by (inr both) (inr other) = core.order i n j q both.1 from other.1 loan'

  pub ticked : (i : ℕ) (n : Loan) → part_table i ≡ Some n → n.token ≤ clock
  ticked i n has = by (row_cases i n has)
    where
      by : ((core.top ≡ i) × (loan ≡ n)) ⊎ ((core.top ≡ i → ⊥) × (s i ≡ Some n)) → n.token ≤ clock
      by (inl both) = subst (λ (o : Loan). o.token ≤ clock) both.1 (core.acted l.token active)
      by (inr both) = core.ticked i n both.1

  -- ---- what each root is

  module _ (root_kept : IsRooted types part_table part_forest m g l kept) where
    pub rooted : (j : ℕ) (h : Held) → part_forest j ≡ Some h
        → (n : Loan) × (part_table j ≡ Some n) × IsRooted types part_table part_forest m j n h
    rooted j h e = by (cases_eq core.top j) (cases_eq g j)
      where
        by : (core.top ≡ j) ⊎ (core.top ≡ j → ⊥) → (g ≡ j) ⊎ (g ≡ j → ⊥)
            → (n : Loan) × (part_table j ≡ Some n) × IsRooted types part_table part_forest m j n h
        by (inl same) c =
            let one : part_forest j ≡ Some own = subst (λ i. part_forest i ≡ Some own) same at_top in
            let alike : own ≡ h = cc in
            subst (λ i. (n : Loan) × (part_table i ≡ Some n) × IsRooted types part_table part_forest m i n h) same
            (subst (λ d. (n : Loan) × (part_table core.top ≡ Some n)
            × IsRooted types part_table part_forest m core.top n d) alike (
              loan,
              row_self core.top loan s,
              (
                v,
                refl,
                has_grows types s part_table part_grows tree of p.typed,
                p.there,
                shows_grows types s part_table part_grows m tree v p.shown,
              ),
            ))
        by (inr differ) (inl same) =
            let one : part_forest j ≡ Some kept = subst (λ i. part_forest i ≡ Some kept) same at_parent in
            let alike : kept ≡ h = cc in
            subst (λ i. (n : Loan) × (part_table i ≡ Some n) × IsRooted types part_table part_forest m i n h) same
            (subst (λ d. (n : Loan) × (part_table g ≡ Some n) × IsRooted types part_table part_forest m g n d) alike
            (l, part_grows.row g l p.row, root_kept))
        by (inr differ) (inr other) =
            let old : core.forest j ≡ Some h = sym (as_was j differ other) ∙ e in
            let r = core.rooted j h old in (
              r.0,
              part_grows.row j r.0 r.1,
              root_moves types s part_table core.forest part_forest m m part_grows j r.0 h
                  (λ i n has from old'. part_stay i old') (λ some. refl) (λ to t w eq sh. sh)
                  (λ to tag born i n more parts eq sh. sh) r.2,
            )

    unfoldable pub part_core : Core types clock scope act hold type
        ((reference l.borrow at, meaning.writes of (token l.token)) ∷ now) part_table m
    part_core = record {
      forest = part_forest;
      top = suc core.top;
      root = core.root;
      trees = a_writer core.top ∷ rest;
      shown = (
        (loan, row_self core.top loan s, refl),
        (loan, row_self core.top loan s, tt, refl),
        shown_grows types s part_table part_grows m now rest p.rest_shown,
      );
      once = once;
      rooted = rooted;
      names = names;
      lent = lent;
      live = live;
      active = is_active;
      known = λ j above. row_other core.top j loan s (λ same. omega arith) ∙ core.known j (omega arith);
      older = older;
      order = ordered;
      ticked = ticked;
      acted = core.acted;
      scoped = core.scoped;
    }
