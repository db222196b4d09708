-- A part that was lent goes back to the loan of which it is a part.
use Rattle.std.proofs.Common.{◌≡◌, ◌⊎◌, inl, inr, ℕ, zero, suc, ◌+◌, ◌≤◌, ◌<◌, Bool, true, false, List, [], ◌∷◌}
use Rattle.std.proofs.Common.{refl, sym, ap, subst, ◌∙◌, arith}
use Rattle.std.specs.Prelude.{Option, Some, None, drop, length, slice_get}
use Rattle.std.proofs.lemmas.Bool.{cases_eq, cases_lt}
use Rattle.au_effects.specs.Parts.{nth_field}
use Rattle.au_effects.specs.Values.{Fields, Place, box, content_of, field_then, made, no_fields}
use Rattle.au_places.specs.Memories.{Memory, held_at, later}
use Rattle.au_places.proofs.MemoryLemmas.{all_held}
use Rattle.au_places.proofs.PlaceLemmas.{split_place}
use Rattle.au_places.specs.Places.{Id, writer, content_place, in_node, in_place, part_at}
use Rattle.au_types.specs.Types.{Meaning}
use Rattle.au_memory.specs.Trees.{Value, Tree, Trees, a_box, a_made, a_writer, tree_then, in_birth, in_tree, in_trees}
use Rattle.au_memory.specs.Loans.{Types, Loan, Table, Via, named, lent_of, lent_through, part_of, reading, IsLoan}
use Rattle.au_memory.specs.Loans.{parent_of}
use Rattle.au_memory.specs.Shown.{ShowsAll, Has, HasAll}
use Rattle.au_memory.specs.Forests.{empty, ready, shut, watched, Hold}
use Rattle.au_memory.specs.Forests.{Held, Forest, Holds, Made, Core, whole, all_lent, box_lent, parts_lent, watching}
use Rattle.au_memory.specs.Forests.{with_root, in_root, in_forest, in_list, in_held}
use Rattle.au_memory.specs.Forests.{IsFull, IsHere, IsLent, IsNameRow, IsPart, IsPartLent, IsRooted, NameStands, Shuts}
use Rattle.au_memory.proofs.GrowthLemmas.{grows_self}
use Rattle.au_memory.proofs.PointLemmas.{part_stands}
use Rattle.au_memory.proofs.TotalLemmas.{root_other, root_self, total_put}
use Rattle.au_memory.proofs.UsableLemmas.{root_below}
use Rattle.au_lending.specs.Parting.{Rejoined}
use Rattle.au_lending.proofs.MoveLemmas.{Keeps, lent_moves, name_moves, root_moves}
use Rattle.au_lending.proofs.RowLemmas.{no_loan, row_of, watched_full}

module _ (types : Types) (clock : ℕ) (scope act : ℕ → Bool) (hold : Holds) (type : ℕ → ℕ → Meaning)
    (under : Made) (s : Table) (m : Memory (List ℕ)) (core : Core types clock scope act hold type under s m) where
  -- What is asked of a part, whole again, and of what it goes back to.
  pub record Rejoining : Type 0 where
    pub g : ℕ
    pub l : Loan
    pub row : s g ≡ Some l
    pub tree : Tree
    pub here : core.forest g ≡ Some (whole l.to tree)
    pub closed : scope l.token ≡ false
    pub k : ℕ
    pub from : l.via ≡ part_of k
    pub lk : Loan
    pub parent : s k ≡ Some lk
    pub is_loan : IsLoan lk.via
    pub was : Held
    pub back : Held
    pub there : core.forest k ≡ Some was
    pub joins : (id : Id) → in_held id back ≡ in_held id was + (in_place id l.to + in_tree id tree)
    pub others : (j : ℕ) → (g ≡ j → ⊥) → IsPartLent j (Some was) → IsPartLent j (Some back)
    pub not_lent : (j : ℕ) → was ≡ all_lent j → ⊥
    pub not_watching : was ≡ watching → ⊥

module _ (types : Types) (clock : ℕ) (scope act : ℕ → Bool) (hold : Holds) (type : ℕ → ℕ → Meaning)
    (under : Made) (s : Table) (m : Memory (List ℕ)) (core : Core types clock scope act hold type under s m)
    (p : Rejoining types clock scope act hold type under s m core) where
  abbrev own : Held
  own = whole p.l.to p.tree

  abbrev given : Forest
  given = with_root p.k (Some p.back) core.forest

  abbrev pub joined_forest : Forest
  joined_forest = with_root p.g None given

  abbrev count : Id → ℕ
  count id = in_forest id core.top core.forest + in_list id core.trees

  abbrev after_count : Id → ℕ
  after_count id = in_forest id core.top joined_forest + in_list id core.trees

  loan : IsLoan p.l.via
  loan = subst IsLoan (sym p.from) tt

  less : p.k < p.g
  less = core.older p.g p.l p.k p.row (ap parent_of p.from)

  apart : p.g ≡ p.k → ⊥
  apart same = let below = less in omega arith

  as_was : (j : ℕ) → (p.g ≡ j → ⊥) → (p.k ≡ j → ⊥) → joined_forest j ≡ core.forest j
  as_was j one two = root_other p.g j None given one ∙ root_other p.k j (Some p.back) core.forest two

  gone : joined_forest p.g ≡ None
  gone = root_self p.g None given

  pub at_back : joined_forest p.k ≡ Some p.back
  at_back = root_other p.g p.k None given apart ∙ root_self p.k (Some p.back) core.forest

  -- a root that holds something else is neither
  no_own : (j : ℕ) (h : Held) → core.forest j ≡ Some h → (own ≡ h → ⊥) → p.g ≡ j → ⊥
  no_own j h e differ same =
      let there : core.forest j ≡ Some own = subst (λ i. core.forest i ≡ Some own) same p.here in
      let alike : own ≡ h = cc in
      differ alike

  no_parent : (j : ℕ) (h : Held) → core.forest j ≡ Some h → (p.was ≡ h → ⊥) → p.k ≡ j → ⊥
  no_parent j h e differ same =
      let there : core.forest j ≡ Some p.was = subst (λ i. core.forest i ≡ Some p.was) same p.there in
      let alike : p.was ≡ h = cc in
      differ alike

  no_name : (a y : ℕ) → IsFull (hold a y) → p.g ≡ core.root a y → ⊥
  no_name a y full same =
      no_loan s p.g a y (type a y) p.l
      (subst (λ i. IsNameRow s i a y (type a y)) (sym same)
      (row_of types clock scope act hold type under s m core a y full)) p.row loan

  no_named : (a y : ℕ) → IsFull (hold a y) → p.k ≡ core.root a y → ⊥
  no_named a y full same =
      no_loan s p.k a y (type a y) p.lk
      (subst (λ i. IsNameRow s i a y (type a y)) (sym same)
      (row_of types clock scope act hold type under s m core a y full)) p.parent p.is_loan

  name_was : (a y : ℕ) → IsFull (hold a y) → joined_forest (core.root a y) ≡ core.forest (core.root a y)
  name_was a y full = as_was (core.root a y) (no_name a y full) (no_named a y full)

  pub joined_stay : (j : ℕ) → (p.g ≡ j → ⊥) → IsHere (core.forest j) → IsHere (joined_forest j)
  joined_stay j differ old = by (cases_eq p.k j)
    where
      by : (p.k ≡ j) ⊎ (p.k ≡ j → ⊥) → IsHere (joined_forest j)
      by (inl same) = subst (λ i. IsHere (joined_forest i)) same (subst IsHere (sym at_back) tt)
      by (inr other) = subst IsHere (sym (as_was j differ other)) old

  before : (j : ℕ) → IsHere (joined_forest j) → (p.g ≡ j → ⊥) × IsHere (core.forest j)
  before j new = by (cases_eq p.g j) (cases_eq p.k j)
    where
      by : (p.g ≡ j) ⊎ (p.g ≡ j → ⊥) → (p.k ≡ j) ⊎ (p.k ≡ j → ⊥) → (p.g ≡ j → ⊥) × IsHere (core.forest j)
      by (inl same) c = absurd (subst IsHere (subst (λ i. joined_forest i ≡ None) same gone) new)
      by (inr differ) (inl same) =
          (differ, subst (λ i. IsHere (core.forest i)) same (subst IsHere (sym p.there) tt))
      by (inr differ) (inr other) = (differ, subst IsHere (as_was j differ other) new)

  below : p.g < core.top
  below = root_below types clock scope act hold type under s m core p.g own p.here

  moved : (id : Id) → after_count id ≡ count id
  moved id =
      let under' = less in
      let one = total_put id core.top p.g None given below in
      let two = total_put id core.top p.k (Some p.back) core.forest (let b = below in omega arith) in
      let mine = ap (in_root id) (root_other p.k p.g (Some p.back) core.forest (λ same. apart (sym same)) ∙ p.here) in
      let parent = ap (in_root id) p.there in
      let all = p.joins id in
      omega arith

  -- it is the part of no other root
  child : (j i : ℕ) (n : Loan) → (p.k ≡ j → ⊥) → s i ≡ Some n → parent_of n.via ≡ Some j → p.g ≡ i → ⊥
  child j i n other has from same =
      let mine : s i ≡ Some p.l = subst (λ c. s c ≡ Some p.l) same p.row in
      let alike : n ≡ p.l = cc in
      let one : parent_of p.l.via ≡ Some j = subst (λ (o : Loan). parent_of o.via ≡ Some j) alike from in
      let two : parent_of p.l.via ≡ Some p.k = ap parent_of p.from in
      let three : Some p.k ≡ Some j = sym two ∙ one in
      let four : p.k ≡ j = cc in
      other four

  names : (a y : ℕ) → NameStands types s joined_forest m core.root a y (type a y) (hold a y)
  names a y =
      name_moves types s s core.forest joined_forest m m (grows_self s) core.root core.root a y (type a y) (hold a y)
      waits refl (λ none. refl) (λ mine w. (w.0, w.1, as_was (core.root a y) (no_row mine) (no_parent_row mine) ∙ w.2))
      (core.names a y)
    where
      waits : (i : ℕ) (n : Loan) → s i ≡ Some n → Shuts n.via (core.root a y) → IsHere (core.forest i)
          → IsHere (joined_forest i)
      waits i n has shuts old = joined_stay i (λ same.
          let mine : s i ≡ Some p.l = subst (λ c. s c ≡ Some p.l) same p.row in
          let alike : n ≡ p.l = cc in
          let one = subst (λ (o : Loan). Shuts o.via (core.root a y)) alike shuts in
          subst (λ v. Shuts v (core.root a y)) p.from one) old

      no_row : IsNameRow s (core.root a y) a y (type a y) → p.g ≡ core.root a y → ⊥
      no_row mine same =
          no_loan s p.g a y (type a y) p.l (subst (λ i. IsNameRow s i a y (type a y)) (sym same) mine) p.row loan

      no_parent_row : IsNameRow s (core.root a y) a y (type a y) → p.k ≡ core.root a y → ⊥
      no_parent_row mine same =
          no_loan s p.k a y (type a y) p.lk (subst (λ i. IsNameRow s i a y (type a y)) (sym same) mine) p.parent
          p.is_loan

  keeps : (i : ℕ) → (p.g ≡ i → ⊥)
      → Keeps core.forest joined_forest hold hold core.root core.root count after_count i
  keeps i differ = record {
    shuts = λ a y y2 e. (e, refl);
    watches = λ a y y2 w. (w, refl);
    fulls = λ a y at full. (full, refl);
    lents = λ j k e. as_was j (no_own j (all_lent k) e (λ alike. cc)) (no_parent j (all_lent k) e (p.not_lent k));
    parts = λ j h. part_kept j (core.forest j) refl h;
    holders = λ j y2 whose. named_was j whose.frame whose.name whose.is (subst IsFull (sym whose.holds) tt);
    seen = λ j y2 whose.
        named_was j whose.frame whose.name whose.is
        (watched_full (hold whose.frame whose.name) y2 whose.holds);
    own = λ e. as_was i differ (no_parent i watching e p.not_watching);
    counts = λ j h. let all = moved (writer j) in omega arith;
  }
    where
      named_was : (j a y : ℕ) → core.root a y ≡ j → IsFull (hold a y) → joined_forest j ≡ core.forest j
      named_was j a y is full = subst (λ k. joined_forest k ≡ core.forest k) is (name_was a y full)

      no_part : (j : ℕ) (o : Option Held) → core.forest j ≡ o → IsPartLent i o → p.g ≡ j → ⊥
      no_part j None e h = absurd h
      no_part j (Some (whole at t)) e h = absurd h
      no_part j (Some (all_lent n)) e h = absurd h
      no_part j (Some (box_lent at born n)) e h = no_own j (box_lent at born n) e (λ alike. cc)
      no_part j (Some (parts_lent at tag born n c rest)) e h =
          no_own j (parts_lent at tag born n c rest) e (λ alike. cc)
      no_part j (Some watching) e h = absurd h

      part_kept : (j : ℕ) (o : Option Held) → core.forest j ≡ o → IsPartLent i o → IsPartLent i (joined_forest j)
      part_kept j o e h = by (cases_eq p.k j)
        where
          by : (p.k ≡ j) ⊎ (p.k ≡ j → ⊥) → IsPartLent i (joined_forest j)
          by (inl same) =
              let one : core.forest j ≡ Some p.was = subst (λ k. core.forest k ≡ Some p.was) same p.there in
              let two : o ≡ Some p.was = sym e ∙ one in
              let new : joined_forest j ≡ Some p.back = subst (λ k. joined_forest k ≡ Some p.back) same at_back in
              subst (IsPartLent i) (sym new) (p.others i differ (subst (IsPartLent i) two h))
          by (inr other) =
              subst (IsPartLent i) (sym (as_was j (no_part j o e h) other)) (subst (IsPartLent i) (sym e) h)

  module _ (root_back : IsRooted types s joined_forest m p.k p.lk p.back) where
    rooted : (j : ℕ) (h : Held) → joined_forest j ≡ Some h
        → (n : Loan) × (s j ≡ Some n) × IsRooted types s joined_forest m j n h
    rooted j h e = by (cases_eq p.g j) (cases_eq p.k j)
      where
        by : (p.g ≡ j) ⊎ (p.g ≡ j → ⊥) → (p.k ≡ j) ⊎ (p.k ≡ j → ⊥)
            → (n : Loan) × (s j ≡ Some n) × IsRooted types s joined_forest m j n h
        by (inl same) c =
            let none : joined_forest j ≡ None = subst (λ i. joined_forest i ≡ None) same gone in
            let wrong : None ≡ Some h = sym none ∙ e in
            absurd cc
        by (inr differ) (inl same) =
            let there : joined_forest j ≡ Some p.back = subst (λ i. joined_forest i ≡ Some p.back) same at_back in
            let alike : p.back ≡ h = cc in
            subst (λ i. (n : Loan) × (s i ≡ Some n) × IsRooted types s joined_forest m i n h) same
            (subst (λ d. (n : Loan) × (s p.k ≡ Some n) × IsRooted types s joined_forest m p.k n d) alike
            (p.lk, p.parent, root_back))
        by (inr differ) (inr other) =
            let old : core.forest j ≡ Some h = sym (as_was j differ other) ∙ e in
            let r = core.rooted j h old in (
              r.0,
              r.1,
              root_moves types s s core.forest joined_forest m m (grows_self s) j r.0 h
                  (λ i n has from here. joined_stay i (child j i n other has from) here)
                  (λ some. refl) (λ at t v eq shown. shown) (λ at tag born i n rest parts eq shown. shown) r.2,
            )

    joined_core : Core types clock scope act hold type under s m
    joined_core = record {
      forest = joined_forest;
      top = core.top;
      root = core.root;
      trees = core.trees;
      shown = core.shown;
      once = λ id. let same = moved id in let once = core.once id in omega arith;
      rooted = rooted;
      names = names;
      lent = λ i n has new.
          let was = before i new in
          lent_moves core.forest joined_forest hold hold core.root core.root count after_count i (keeps i was.0)
          n.token n.via (core.lent i n has was.1);
      live = λ i n has loan' on. joined_stay i (λ same.
          let mine : s i ≡ Some p.l = subst (λ c. s c ≡ Some p.l) same p.row in
          let alike : n ≡ p.l = cc in
          let off : scope n.token ≡ false = subst (λ (o : Loan). scope o.token ≡ false) (sym alike) p.closed in
          let wrong : true ≡ false = sym on ∙ off in
          cc) (core.live i n has loan' on);
      active = λ i n has loan' new. core.active i n has loan' (before i new).1;
      known = core.known;
      older = core.older;
      order = core.order;
      ticked = core.ticked;
      acted = core.acted;
      scoped = core.scoped;
    }

    pub rejoined : Rejoined types clock scope act hold type under s m core p.g
    unfolding joined_core
    rejoined = record {
      after = joined_core;
      were = before;
      counts = moved;
    }

-- ---- one of several

pub get_some : (of : List Meaning) (j : ℕ) → j < length of → (t : Meaning) × (slice_get of j ≡ Some t)
get_some [] j less = absurd (omega arith)
get_some (t ∷ ts) zero less = (t, refl)
get_some (t ∷ ts) (suc j) less = get_some ts j (omega arith)

get_drop : (j : ℕ) (of : List Meaning) (t : Meaning) → slice_get of j ≡ Some t → drop j of ≡ t ∷ drop (suc j) of
get_drop j [] t e = absurd cc
get_drop zero (u ∷ us) t e = let same : u ≡ t = cc in ap (λ w. w ∷ us) same
get_drop (suc j) (u ∷ us) t e = get_drop j us t e

nth_later : (j : ℕ) (parts : Fields (List ℕ)) (v : Value) → nth_field j parts ≡ Some v
    → later j parts ≡ field_then v (later (suc j) parts)
nth_later j no_fields v e = absurd cc
nth_later zero (field_then w rest) v e = let same : w ≡ v = cc in ap (λ u. field_then u rest) same
nth_later (suc j) (field_then w rest) v e = nth_later j rest v e

module _ (types : Types) (clock : ℕ) (scope act : ℕ → Bool) (hold : Holds) (type : ℕ → ℕ → Meaning)
    (under : Made) (s : Table) (m : Memory (List ℕ)) (core : Core types clock scope act hold type under s m)
    (g : ℕ) (l : Loan) (tree : Tree) (k : ℕ) (row : s g ≡ Some l) (here : core.forest g ≡ Some (whole l.to tree))
    (from : l.via ≡ part_of k) (closed : scope l.token ≡ false)
    (newest : (j : ℕ) (n : Loan) → s j ≡ Some n → n.via ≡ part_of k → IsHere (core.forest j) → j ≤ g)
    (lk : Loan) (parent : s k ≡ Some lk) (is_loan : IsLoan lk.via) where
  mine : IsRooted types s core.forest m g l (whole l.to tree)
  mine =
      let r = core.rooted g (whole l.to tree) here in
      let has : s g ≡ Some r.0 = r.1 in
      let same : r.0 ≡ l = cc in
      subst (λ (n : Loan). IsRooted types s core.forest m g n (whole l.to tree)) same r.2

  parents : (h : Held) → core.forest k ≡ Some h → IsRooted types s core.forest m k lk h
  parents h e =
      let r = core.rooted k h e in
      let has : s k ≡ Some r.0 = r.1 in
      let same : r.0 ≡ lk = cc in
      subst (λ (n : Loan). IsRooted types s core.forest m k n h) same r.2

  -- ---- the content of a box

  module _ (to : Place) (born : ℕ) (there : core.forest k ≡ Some (box_lent to born g)) where
    abbrev boxes : IsRooted types s core.forest m k lk (box_lent to born g)
    boxes = parents (box_lent to born g) there

    box_row : boxes.4.row ≡ l
    box_row = let has : s g ≡ Some boxes.4.row = boxes.4.has in cc

    at_content : l.to ≡ content_place born
    at_content = ap (λ (n : Loan). n.to) (sym box_row) ∙ boxes.4.at

    of_content : l.type ≡ boxes.0
    of_content = ap (λ (n : Loan). n.type) (sym box_row) ∙ boxes.4.typed

    box_not_lent : (j : ℕ) → box_lent to born g ≡ all_lent j → ⊥
    box_not_lent j e = cc

    box_not_watching : box_lent to born g ≡ watching → ⊥
    box_not_watching e = cc

    box_joins : (id : Id) → in_held id (whole to (a_box born tree))
        ≡ in_held id (box_lent to born g) + (in_place id l.to + in_tree id tree)
    box_joins id = let at = ap (in_place id) at_content in omega arith

    abbrev box_rejoining : Rejoining types clock scope act hold type under s m core
    box_rejoining = record {
      g = g;
      l = l;
      row = row;
      tree = tree;
      here = here;
      closed = closed;
      k = k;
      from = from;
      lk = lk;
      parent = parent;
      is_loan = is_loan;
      was = box_lent to born g;
      back = whole to (a_box born tree);
      there = there;
      joins = box_joins;
      others = λ j differ h. absurd (differ (sym h));
      not_lent = box_not_lent;
      not_watching = box_not_watching;
    }

    box_rejoins : Rejoined types clock scope act hold type under s m core g
    box_rejoins = rejoined types clock scope act hold type under s m core box_rejoining (
      box born,
      boxes.1,
      (boxes.0, boxes.2, subst (λ u. Has types s tree u) of_content mine.2),
      boxes.3,
      (
        mine.0,
        refl,
        sym (all_held m (content_of born)) ∙ subst (λ q. held_at m q ≡ Some mine.0) at_content mine.3,
        mine.4,
      ),
    )

  -- ---- the last of several parts

  module _ (to : Place) (tag : ℕ) (born : Option ℕ) (first j : ℕ) (rest : Trees)
      (there : core.forest k ≡ Some (parts_lent to tag born first (suc j) rest)) (is : g ≡ first + j) where
    abbrev lasts : IsRooted types s core.forest m k lk (parts_lent to tag born first (suc j) rest)
    lasts = parents (parts_lent to tag born first (suc j) rest) there

    abbrev of : List Meaning
    of = lasts.0

    abbrev parts : Fields (List ℕ)
    parts = lasts.1

    item : (t : Meaning) × (slice_get of j ≡ Some t)
    item = let enough = lasts.6 in get_some of j (omega arith)

    last_part : IsPart types s core.forest m k lk.token g (part_at j to) item.0
    last_part = subst (λ i. IsPart types s core.forest m k lk.token i (part_at j to) item.0) (sym is)
        (lasts.10 j item.0 (omega arith) item.1)

    last_row : last_part.row ≡ l
    last_row = let has : s g ≡ Some last_part.row = last_part.has in cc

    at_part : l.to ≡ part_at j to
    at_part = ap (λ (n : Loan). n.to) (sym last_row) ∙ last_part.at

    of_part : l.type ≡ item.0
    of_part = ap (λ (n : Loan). n.type) (sym last_row) ∙ last_part.typed

    all_typed : HasAll types s (tree_then tree rest) (drop j of)
    all_typed = subst (λ us. HasAll types s (tree_then tree rest) us) (sym (get_drop j of item.0 item.1))
        (subst (λ u. Has types s tree u) of_part mine.2, lasts.7)

    value_at : nth_field j parts ≡ Some mine.0
    value_at = sym (part_stands m to j (made tag born parts) lasts.9)
        ∙ subst (λ q. held_at m q ≡ Some mine.0) at_part mine.3

    all_shown : ShowsAll types s m (later j parts) (tree_then tree rest)
    all_shown = subst (λ fs. ShowsAll types s m fs (tree_then tree rest)) (sym (nth_later j parts mine.0 value_at))
        (mine.4, lasts.8)

    joins : (id : Id) → in_node j id to + (in_birth id born + (in_tree id tree + in_trees id rest))
        ≡ in_held id (parts_lent to tag born first (suc j) rest) + (in_place id l.to + in_tree id tree)
    joins id =
        let split = split_place id to j in
        let at = ap (in_place id) at_part in
        omega arith

    parts_not_lent : (i : ℕ) → parts_lent to tag born first (suc j) rest ≡ all_lent i → ⊥
    parts_not_lent i e = cc

    parts_not_watching : parts_lent to tag born first (suc j) rest ≡ watching → ⊥
    parts_not_watching e = cc

    -- a part other than the last is before it
    earlier : (i : ℕ) → i < suc j → (i ≡ j → ⊥) → i < j
    earlier i less differ = by (cases_lt i j)
      where
        by : (i < j) ⊎ (j ≤ i) → i < j
        by (inl under') = under'
        by (inr over) = absurd (differ (omega arith))

    -- so it stays lent
    still : (back : Held) → ((i : ℕ) → i < j → IsPartLent (first + i) (Some back)) → (n : ℕ) → (g ≡ n → ⊥)
        → (i : ℕ) → i < suc j → n ≡ first + i → IsPartLent n (Some back)
    still back others n differ i less at =
        subst (λ c. IsPartLent c (Some back)) (sym at)
        (others i (earlier i less (λ same. differ (is ∙ ap (λ c. first + c) (sym same) ∙ sym at))))

    abbrev rejoining : (back : Held)
        → ((id : Id) → in_held id back ≡ in_node j id to + (in_birth id born + (in_tree id tree + in_trees id rest)))
        → ((i : ℕ) → i < j → IsPartLent (first + i) (Some back))
        → Rejoining types clock scope act hold type under s m core
    rejoining back counts others = record {
      g = g;
      l = l;
      row = row;
      tree = tree;
      here = here;
      closed = closed;
      k = k;
      from = from;
      lk = lk;
      parent = parent;
      is_loan = is_loan;
      was = parts_lent to tag born first (suc j) rest;
      back = back;
      there = there;
      joins = λ id. counts id ∙ joins id;
      others = λ n differ h. still back others n differ h.0 h.1 h.2;
      not_lent = parts_not_lent;
      not_watching = parts_not_watching;
    }

  -- where it was the only one the value is whole again
  module _ (to : Place) (tag : ℕ) (born : Option ℕ) (first : ℕ) (rest : Trees)
      (there : core.forest k ≡ Some (parts_lent to tag born first 1 rest)) (is : g ≡ first + 0) where
    whole_again : Rejoined types clock scope act hold type under s m core g
    whole_again =
        let r = lasts to tag born first 0 rest there is in
        rejoined types clock scope act hold type under s m core
        (rejoining to tag born first 0 rest there is (whole to (a_made tag born (tree_then tree rest)))
        (λ id. omega arith) (λ i less. absurd (omega arith))) (
          made tag born r.1,
          r.2,
          (r.0, r.3, r.4, all_typed to tag born first 0 rest there is),
          r.9,
          (r.1, refl, all_shown to tag born first 0 rest there is),
        )

  module _ (to : Place) (tag : ℕ) (born : Option ℕ) (first j : ℕ) (rest : Trees)
      (there : core.forest k ≡ Some (parts_lent to tag born first (suc (suc j)) rest)) (is : g ≡ first + suc j) where
    fewer_counts : (id : Id) → in_held id (parts_lent to tag born first (suc j) (tree_then tree rest))
        ≡ in_node (suc j) id to + (in_birth id born + (in_tree id tree + in_trees id rest))
    fewer_counts id = omega arith

    abbrev fewer_parts : Rejoining types clock scope act hold type under s m core
    fewer_parts = rejoining to tag born first (suc j) rest there is (parts_lent to tag born first (suc j) (tree_then tree rest))
        fewer_counts (λ i less. (i, less, refl))

    abbrev olds : IsRooted types s core.forest m k lk (parts_lent to tag born first (suc (suc j)) rest)
    olds = lasts to tag born first (suc j) rest there is

    fewer_lent : Rejoined types clock scope act hold type under s m core g
    fewer_lent =
        rejoined types clock scope act hold type under s m core fewer_parts (
          olds.0,
          olds.1,
          olds.2,
          olds.3,
          olds.4,
          omega arith,
          (let enough = olds.6 in omega arith),
          all_typed to tag born first (suc j) rest there is,
          all_shown to tag born first (suc j) rest there is,
          olds.9,
          λ i t less at.
              let part = olds.10 i t (omega arith) at in
              record {
                row = part.row;
                has = part.has;
                of_token = part.of_token;
                at = part.at;
                typed = part.typed;
                from = part.from;
                is_open = joined_stay types clock scope act hold type under s m core fewer_parts (first + i)
                    (λ same. let at' = is in omega arith) part.is_open;
              },
        )

  -- ---- either

  by_held : (o : Option Held) → core.forest k ≡ o → IsPartLent g o
      → Rejoined types clock scope act hold type under s m core g
  by_held None e h = absurd h
  by_held (Some (whole to t)) e h = absurd h
  by_held (Some (all_lent n)) e h = absurd h
  by_held (Some (box_lent to born n)) e h =
      box_rejoins to born (e ∙ ap (λ i. Some (box_lent to born i)) (sym h))
  by_held (Some (parts_lent to tag born first c rest)) e h = by c h.0 e h.1 h.2
    where
      by : (c j : ℕ) → core.forest k ≡ Some (parts_lent to tag born first c rest) → j < c → g ≡ first + j
          → Rejoined types clock scope act hold type under s m core g
      by zero j e less is = absurd (omega arith)
      by (suc n) j e less is = at_last n j (last n j e less is) e is
        where
          -- no part after it is here
          last : (n j : ℕ) → core.forest k ≡ Some (parts_lent to tag born first (suc n) rest) → j < suc n
              → g ≡ first + j → n ≡ j
          last n j e less is = by_less (cases_lt j n)
            where
              r : IsRooted types s core.forest m k lk (parts_lent to tag born first (suc n) rest)
              r = parents (parts_lent to tag born first (suc n) rest) e

              by_less : (j < n) ⊎ (n ≤ j) → n ≡ j
              by_less (inl below) =
                  let enough = r.6 in
                  let t = get_some r.0 (suc j) (omega arith) in
                  let part = r.10 (suc j) t.0 (omega arith) t.1 in
                  let most = newest (first + suc j) part.row part.has part.from part.is_open in
                  absurd (omega arith)
              by_less (inr above) = omega arith

          at_last : (n j : ℕ) → n ≡ j → core.forest k ≡ Some (parts_lent to tag born first (suc n) rest)
              → g ≡ first + j → Rejoined types clock scope act hold type under s m core g
          at_last n zero same e is =
              whole_again to tag born first rest
              (subst (λ c. core.forest k ≡ Some (parts_lent to tag born first (suc c) rest)) same e) is
          at_last n (suc j) same e is =
              fewer_lent to tag born first j rest
              (subst (λ c. core.forest k ≡ Some (parts_lent to tag born first (suc c) rest)) same e) is
  by_held (Some watching) e h = absurd h

-- what has a part lent isn't the root of a name: that is whole, or lent as a whole
module _ (types : Types) (clock : ℕ) (scope act : ℕ → Bool) (hold : Holds) (type : ℕ → ℕ → Meaning)
    (under : Made) (s : Table) (m : Memory (List ℕ)) (core : Core types clock scope act hold type under s m)
    (g k : ℕ) (part : IsPartLent g (core.forest k)) where
  not_whole : (to : Place) (t : Tree) → core.forest k ≡ Some (whole to t) → ⊥
  not_whole to t e = subst (IsPartLent g) e part

  not_all : (j : ℕ) → core.forest k ≡ Some (all_lent j) → ⊥
  not_all j e = subst (IsPartLent g) e part

  no_shutter : (j z : ℕ) (via : Via) → Shuts via k
      → IsLent core.forest hold core.root (λ id. in_forest id core.top core.forest + in_list id core.trees) j z via → ⊥
  no_shutter j z named shuts lent = shuts
  no_shutter j z (lent_of i) shuts lent = not_all j (subst (λ n. core.forest n ≡ Some (all_lent j)) shuts lent.0)
  no_shutter j z (lent_through holder i) shuts lent =
      not_whole lent.0 (a_writer i) (subst (λ n. core.forest n ≡ Some (whole lent.0 (a_writer i))) shuts lent.1)
  no_shutter j z (part_of i) shuts lent = shuts
  no_shutter j z (reading i tree) shuts lent = shuts

  no_stand : (a y : ℕ) (t : Meaning) (h : Hold) → core.root a y ≡ k → IsFull h
      → NameStands types s core.forest m core.root a y t h → ⊥
  no_stand a y t empty is full stands = full
  no_stand a y t ready is full stands =
      let w = stands.1 in not_whole w.0 w.1 (subst (λ n. core.forest n ≡ Some (whole w.0 w.1)) is w.2)
  no_stand a y t (shut z) is full stands =
      let w = stands.1 in
      no_shutter w.0 w.1.token w.1.via (subst (Shuts w.1.via) is w.5) (core.lent w.0 w.1 w.2 w.4)
  no_stand a y t (watched zs) is full stands =
      let w = stands.1 in not_whole w.0 w.1 (subst (λ n. core.forest n ≡ Some (whole w.0 w.1)) is w.2)

  pub part_here : IsHere (core.forest k)
  part_here = by (core.forest k) part
    where
      by : (o : Option Held) → IsPartLent g o → IsHere o
      by None h = absurd h
      by (Some d) h = tt

  by_via : (lk : Loan) (via : Via) → s k ≡ Some lk → lk.via ≡ via → IsLoan via
  by_via lk named row e =
      let whose = subst (λ v. IsLent core.forest hold core.root
      (λ id. in_forest id core.top core.forest + in_list id core.trees) k lk.token v) e
      (core.lent k lk row part_here) in
      absurd (no_stand whose.frame whose.name (type whose.frame whose.name) (hold whose.frame whose.name) whose.is
      whose.holds (core.names whose.frame whose.name))
  by_via lk (lent_of i) row e = tt
  by_via lk (lent_through holder i) row e = tt
  by_via lk (part_of i) row e = tt
  by_via lk (reading i tree) row e = tt

  pub parted_loan : (lk : Loan) → s k ≡ Some lk → IsLoan lk.via
  parted_loan lk row = by_via lk lk.via row refl

module _ (types : Types) (clock : ℕ) (scope act : ℕ → Bool) (hold : Holds) (type : ℕ → ℕ → Meaning)
    (under : Made) (s : Table) (m : Memory (List ℕ)) (core : Core types clock scope act hold type under s m) where
  pub parent_row : (k : ℕ) (o : Option Held) → core.forest k ≡ o → IsHere o → (lk : Loan) × (s k ≡ Some lk)
  parent_row k None e here = absurd here
  parent_row k (Some h) e here = let r = core.rooted k h e in (r.0, r.1)

  -- a part ends
  pub part_ends : (g : ℕ) (l : Loan) (tree : Tree) (k : ℕ) → s g ≡ Some l → core.forest g ≡ Some (whole l.to tree)
      → l.via ≡ part_of k → scope l.token ≡ false
      → ((j : ℕ) (n : Loan) → s j ≡ Some n → n.via ≡ part_of k → IsHere (core.forest j) → j ≤ g)
      → Rejoined types clock scope act hold type under s m core g
  part_ends g l tree k row here from closed newest =
      let lent = subst (λ v. IsLent core.forest hold core.root
      (λ id. in_forest id core.top core.forest + in_list id core.trees) g l.token v) from
      (core.lent g l row (subst IsHere (sym here) tt)) in
      let lk = parent_row k (core.forest k) refl
      (part_here types clock scope act hold type under s m core g k lent.0) in
      by_held types clock scope act hold type under s m core g l tree k row here from closed newest lk.0 lk.1
      (parted_loan types clock scope act hold type under s m core g k lent.0 lk.0 lk.1) (core.forest k) refl lent.0
