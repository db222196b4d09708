-- A token ends: all its loans end, the newest first, and no name waits for it any more.
use Rattle.std.proofs.Common.{◌≡◌, ◌⊎◌, inl, inr, ℕ, zero, suc, ◌+◌, ◌≤◌, ◌<◌, ◌==◌, Bool, true, false, List, [], ◌∷◌}
use Rattle.std.proofs.Common.{refl, sym, ap, subst, ◌∙◌, arith, if◌then◌else◌}
use Rattle.std.specs.Prelude.{Option, Some, None}
use Rattle.std.proofs.lemmas.Bool.{cases_eq, cases_lt, eq-eqb, eqb-true, ne_eqb}
use Rattle.au_effects.specs.Values.{Place, name_of}
use Rattle.au_places.specs.Memories.{Memory}
use Rattle.au_places.specs.Places.{Id, writer, same_base}
use Rattle.au_types.specs.Types.{Meaning}
use Rattle.au_memory.specs.Trees.{Tree}
use Rattle.au_memory.specs.Loans.{Types, Loan, Table, Via, named, lent_of, lent_through, part_of, reading, IsLoan, IsWriter}
use Rattle.au_memory.specs.Loans.{parent_of}
use Rattle.au_memory.specs.Forests.{Held, Forest, Hold, Holds, Made, Names, Core, whole, all_lent, box_lent}
use Rattle.au_memory.specs.Forests.{parts_lent, watching, empty, ready, shut, watched, with_root, in_root, in_forest}
use Rattle.au_memory.specs.Forests.{in_list, IsAmong, IsFull, IsHere, IsLent, IsNameRow, IsPartLent, IsRooted}
use Rattle.au_memory.specs.Forests.{IsWatched, LendsAll, NameStands, Shuts}
use Rattle.au_memory.proofs.GrowthLemmas.{grows_self}
use Rattle.au_memory.proofs.TotalLemmas.{root_other, root_self, total_put}
use Rattle.au_memory.proofs.UsableLemmas.{root_below}
use Rattle.au_lending.specs.Ending.{TokenEnded, freed, left_watched, others_of, without}
use Rattle.au_lending.specs.Holding.{with_hold}
use Rattle.au_lending.specs.Parting.{Rejoined}
use Rattle.au_lending.proofs.EndLemmas.{ended}
use Rattle.au_lending.proofs.MoveLemmas.{Keeps, lends_parent, lent_moves, name_moves, parent_loan, part_stays}
use Rattle.au_lending.proofs.MoveLemmas.{root_moves, shuts_loan}
use Rattle.au_lending.proofs.LendLemmas.{lends_write}
use Rattle.au_lending.proofs.RejoinLemmas.{get_some, parent_row, part_ends, part_here}
use Rattle.au_lending.proofs.RowLemmas.{no_loan, row_of, same_names, watched_full}

-- ---- tokens

without_was : (z y : ℕ) (flags : ℕ → Bool) → without z flags y ≡ true → flags y ≡ true
without_was z y flags on = by (z == y) refl on
  where
    by : (b : Bool) → (z == y) ≡ b → (if b then false else flags y) ≡ true → flags y ≡ true
    by true e h = absurd cc
    by false e h = h

without_self : (z : ℕ) (flags : ℕ → Bool) → without z flags z ≡ false
without_self z flags = rw (eq-eqb z z refl)

without_other : (z y : ℕ) (flags : ℕ → Bool) → (z ≡ y → ⊥) → without z flags y ≡ flags y
without_other z y flags differ = rw (ne_eqb z y differ)

-- ---- a loan that reads ends

module _ (types : Types) (clock : ℕ) (scope act : ℕ → Bool) (hold : Holds) (type : ℕ → ℕ → Meaning)
    (under : Made) (s : Table) (m : Memory (List ℕ)) (core : Core types clock scope act hold type under s m)
    (g : ℕ) (l : Loan) (row : s g ≡ Some l) (k : ℕ) (seen : Tree) (reads : l.via ≡ reading k seen)
    (here : core.forest g ≡ Some watching) (closed : scope l.token ≡ false) where
  abbrev read_forest : Forest
  read_forest = with_root g None core.forest

  abbrev count : Id → ℕ
  count id = in_forest id core.top core.forest + in_list id core.trees

  abbrev after_count : Id → ℕ
  after_count id = in_forest id core.top read_forest + in_list id core.trees

  loan : IsLoan l.via
  loan = subst IsLoan (sym reads) tt

  as_was : (j : ℕ) → (g ≡ j → ⊥) → read_forest j ≡ core.forest j
  as_was j differ = root_other g j None core.forest differ

  gone : read_forest g ≡ None
  gone = root_self g None core.forest

  no_own : (j : ℕ) (h : Held) → core.forest j ≡ Some h → (watching ≡ h → ⊥) → g ≡ j → ⊥
  no_own j h e differ same =
      let there : core.forest j ≡ Some watching = subst (λ i. core.forest i ≡ Some watching) same here in
      let alike : watching ≡ h = cc in
      differ alike

  no_row : (a y : ℕ) → IsNameRow s (core.root a y) a y (type a y) → g ≡ core.root a y → ⊥
  no_row a y mine same =
      no_loan s g a y (type a y) l (subst (λ i. IsNameRow s i a y (type a y)) (sym same) mine) row loan

  stay : (j : ℕ) → (g ≡ j → ⊥) → IsHere (core.forest j) → IsHere (read_forest j)
  stay j differ old = subst IsHere (sym (as_was j differ)) old

  before : (j : ℕ) → IsHere (read_forest j) → (g ≡ j → ⊥) × IsHere (core.forest j)
  before j new = by (cases_eq g j)
    where
      by : (g ≡ j) ⊎ (g ≡ j → ⊥) → (g ≡ j → ⊥) × IsHere (core.forest j)
      by (inl same) = absurd (subst IsHere (subst (λ i. read_forest i ≡ None) same gone) new)
      by (inr differ) = (differ, subst IsHere (as_was j differ) new)

  moved : (id : Id) → after_count id ≡ count id
  moved id =
      let below = root_below types clock scope act hold type under s m core g watching here in
      let one = total_put id core.top g None core.forest below in
      let mine = ap (in_root id) here in
      omega arith

  -- what it sees is whole
  parent_whole : (to : Place) × (core.forest k ≡ Some (whole to seen))
  parent_whole =
      let lent = subst (λ v. IsLent core.forest hold core.root count g l.token v) reads
      (core.lent g l row (subst IsHere (sym here) tt)) in
      (lent.0, lent.1)

  -- so it came from no other root
  child : (j i : ℕ) (n : Loan) → (k ≡ j → ⊥) → s i ≡ Some n → parent_of n.via ≡ Some j → g ≡ i → ⊥
  child j i n other has from same =
      let mine : s i ≡ Some l = subst (λ c. s c ≡ Some l) same row in
      let alike : n ≡ l = cc in
      let one : parent_of l.via ≡ Some j = subst (λ (o : Loan). parent_of o.via ≡ Some j) alike from in
      let two : parent_of l.via ≡ Some k = ap parent_of reads in
      let three : Some k ≡ Some j = sym two ∙ one in
      let four : k ≡ j = cc in
      other four

  other_parent : (j : ℕ) (h : Held) → core.forest j ≡ Some h → (whole parent_whole.0 seen ≡ h → ⊥) → k ≡ j → ⊥
  other_parent j h e differ same =
      let there : core.forest j ≡ Some (whole parent_whole.0 seen) =
      subst (λ i. core.forest i ≡ Some (whole parent_whole.0 seen)) same parent_whole.1 in
      let alike : whole parent_whole.0 seen ≡ h = cc in
      differ alike

  root_stays : (j : ℕ) (n : Loan) (h : Held) → core.forest j ≡ Some h → (whole parent_whole.0 seen ≡ h → ⊥)
      → IsRooted types s core.forest m j n h → IsRooted types s read_forest m j n h
  root_stays j n h e differ r =
      root_moves types s s core.forest read_forest m m (grows_self s) j n h
      (λ i o has from old. stay i (child j i o (other_parent j h e differ) has from) old)
      (λ some. refl) (λ at t v eq shown. shown) (λ at tag born i c rest parts eq shown. shown) r

  by_held : (j : ℕ) (n : Loan) (h : Held) → core.forest j ≡ Some h → IsRooted types s core.forest m j n h
      → IsRooted types s read_forest m j n h
  by_held j n (whole to t) e r = r
  by_held j n (all_lent i) e r = root_stays j n (all_lent i) e (λ alike. cc) r
  by_held j n (box_lent to born i) e r = root_stays j n (box_lent to born i) e (λ alike. cc) r
  by_held j n (parts_lent to tag born i c rest) e r = root_stays j n (parts_lent to tag born i c rest) e (λ alike. cc) r
  by_held j n watching e r = r

  rooted : (j : ℕ) (h : Held) → read_forest j ≡ Some h
      → (n : Loan) × (s j ≡ Some n) × IsRooted types s read_forest m j n h
  rooted j h e =
      let was = before j (subst IsHere (sym e) tt) in
      let old : core.forest j ≡ Some h = sym (as_was j was.0) ∙ e in
      let r = core.rooted j h old in
      (r.0, r.1, by_held j r.0 h old r.2)

  names : (a y : ℕ) → NameStands types s read_forest m core.root a y (type a y) (hold a y)
  names a y =
      name_moves types s s core.forest read_forest m m (grows_self s) core.root core.root a y (type a y) (hold a y)
      (λ i n has shuts old. stay i (no_shut i n has shuts) old) refl (λ none. refl)
      (λ mine w. (w.0, w.1, as_was (core.root a y) (no_row a y mine) ∙ w.2)) (core.names a y)
    where
      no_shut : (i : ℕ) (n : Loan) → s i ≡ Some n → Shuts n.via (core.root a y) → g ≡ i → ⊥
      no_shut i n has shuts same =
          let mine : s i ≡ Some l = subst (λ c. s c ≡ Some l) same row in
          let alike : n ≡ l = cc in
          let one = subst (λ (o : Loan). Shuts o.via (core.root a y)) alike shuts in
          subst (λ v. Shuts v (core.root a y)) reads one

  keeps : (i : ℕ) → (g ≡ i → ⊥)
      → Keeps core.forest read_forest hold hold core.root core.root count after_count i
  keeps i differ = record {
    shuts = λ a y y2 e. (e, refl);
    watches = λ a y y2 w. (w, refl);
    fulls = λ a y at full. (full, refl);
    lents = λ j k e. as_was j (no_own j (all_lent k) e (λ alike. cc));
    parts = λ j h. part_stays i (core.forest j) (read_forest j) (as_was j (no_part j (core.forest j) refl h)) h;
    holders = λ j y2 whose. named_was j whose.frame whose.name whose.is (subst IsFull (sym whose.holds) tt);
    seen = λ j y2 whose.
        named_was j whose.frame whose.name whose.is
        (watched_full (hold whose.frame whose.name) y2 whose.holds);
    own = λ e. as_was i differ;
    counts = λ j h. let all = moved (writer j) in omega arith;
  }
    where
      named_was : (j a y : ℕ) → core.root a y ≡ j → IsFull (hold a y) → read_forest j ≡ core.forest j
      named_was j a y is full =
          subst (λ k. read_forest k ≡ core.forest k) is
          (as_was (core.root a y) (no_row a y (row_of types clock scope act hold type under s m core a y full)))

      no_part : (j : ℕ) (o : Option Held) → core.forest j ≡ o → IsPartLent i o → g ≡ j → ⊥
      no_part j None e h = absurd h
      no_part j (Some (whole at t)) e h = absurd h
      no_part j (Some (all_lent n)) e h = absurd h
      no_part j (Some (box_lent at born n)) e h = no_own j (box_lent at born n) e (λ alike. cc)
      no_part j (Some (parts_lent at tag born n c rest)) e h =
          no_own j (parts_lent at tag born n c rest) e (λ alike. cc)
      no_part j (Some watching) e h = absurd h

  read_core : Core types clock scope act hold type under s m
  read_core = record {
    forest = read_forest;
    top = core.top;
    root = core.root;
    trees = core.trees;
    shown = core.shown;
    once = λ id. let same = moved id in let once = core.once id in omega arith;
    rooted = rooted;
    names = names;
    lent = λ i n has new.
        let was = before i new in
        lent_moves core.forest read_forest hold hold core.root core.root count after_count i (keeps i was.0)
        n.token n.via (core.lent i n has was.1);
    live = λ i n has loan' on. stay i (λ same.
        let mine : s i ≡ Some l = subst (λ c. s c ≡ Some l) same row in
        let alike : n ≡ l = cc in
        let off : scope n.token ≡ false = subst (λ (o : Loan). scope o.token ≡ false) (sym alike) closed in
        let wrong : true ≡ false = sym on ∙ off in
        cc) (core.live i n has loan' on);
    active = λ i n has loan' new. core.active i n has loan' (before i new).1;
    known = core.known;
    older = core.older;
    order = core.order;
    ticked = core.ticked;
    acted = core.acted;
    scoped = core.scoped;
  }

  read_ended : Rejoined types clock scope act hold type under s m core g
  unfolding read_core
  read_ended = record { after = read_core; were = before; counts = moved }

-- ---- the newest loan of a token ends

module _ (types : Types) (clock : ℕ) (scope act : ℕ → Bool) (type : ℕ → ℕ → Meaning) (under : Made) (s : Table)
    (m : Memory (List ℕ)) (z : ℕ) where
  -- no loan of the token with this number or a higher one is here
  abbrev Below : ℕ → (hold : Holds) → Core types clock scope act hold type under s m → Type 0
  Below n hold core =
      (g : ℕ) (l : Loan) → s g ≡ Some l → IsLoan l.via → l.token ≡ z → IsHere (core.forest g) → g < n

  -- names stand as they did, or were shut for the token and are free
  abbrev Frees : Holds → Holds → Type 0
  Frees hold held = (a y : ℕ) → (held a y ≡ hold a y) ⊎ ((hold a y ≡ shut z) × (held a y ≡ ready))

  record Cleared (n : ℕ) (hold : Holds) (core : Core types clock scope act hold type under s m) : Type 0 where
    held : Holds
    after : Core types clock scope act held type under s m
    below : Below n held after
    frees : Frees hold held
    counts : (id : Id) → in_forest id after.top after.forest + in_list id after.trees
        ≡ in_forest id core.top core.forest + in_list id core.trees

  frees_then : (hold held last : Holds) → Frees hold held → Frees held last → Frees hold last
  frees_then hold held last one two a y = by (one a y) (two a y)
    where
      by : (held a y ≡ hold a y) ⊎ ((hold a y ≡ shut z) × (held a y ≡ ready))
          → (last a y ≡ held a y) ⊎ ((held a y ≡ shut z) × (last a y ≡ ready))
          → (last a y ≡ hold a y) ⊎ ((hold a y ≡ shut z) × (last a y ≡ ready))
      by (inl e) (inl e2) = inl (e2 ∙ e)
      by (inl e) (inr both) = inr (sym e ∙ both.0, both.1)
      by (inr both) (inl e2) = inr (both.0, e2 ∙ both.1)
      by (inr both) (inr more) = inr (both.0, more.1)

  frees_one : (hold : Holds) (frame x : ℕ) → hold frame x ≡ shut z → Frees hold (with_hold frame x ready hold)
  frees_one hold frame x was a y = by (same_base (name_of frame x) (name_of a y)) refl
    where
      by : (t : Bool) → same_base (name_of frame x) (name_of a y) ≡ t
          → ((if t then ready else hold a y) ≡ hold a y)
          ⊎ ((hold a y ≡ shut z) × ((if t then ready else hold a y) ≡ ready))
      by true e =
          let both = same_names frame x a y e in
          inr (subst (λ c. hold c y ≡ shut z) both.0 (subst (λ w. hold frame w ≡ shut z) both.1 was), refl)
      by false e = inl refl

  module _ (newest : (y : ℕ) → act y ≡ true → y ≤ z) (closed : scope z ≡ false) (n : ℕ) (hold : Holds)
      (core : Core types clock scope act hold type under s m) (most : Below (suc n) hold core)
      (l : Loan) (row : s n ≡ Some l) (is_loan : IsLoan l.via) (of_token : l.token ≡ z)
      (here : IsHere (core.forest n)) where
    off : scope l.token ≡ false
    off = subst (λ y. scope y ≡ false) (sym of_token) closed

    -- no loan that came from it is here
    no_child : (j : ℕ) (o : Loan) → s j ≡ Some o → IsHere (core.forest j) → parent_of o.via ≡ Some n → l.token ≤ o.token
        → ⊥
    no_child j o has opened' from less =
        let loan' = parent_loan o.via n from in
        let young = newest o.token (core.active j o has loan' opened') in
        let under' = most j o has loan' (omega arith) opened' in
        let over = core.older j o n has from in
        omega arith

    own_rooted : (h : Held) → core.forest n ≡ Some h → IsRooted types s core.forest m n l h
    own_rooted h e =
        let r = core.rooted n h e in
        let has : s n ≡ Some r.0 = r.1 in
        let same : r.0 ≡ l = cc in
        subst (λ (o : Loan). IsRooted types s core.forest m n o h) same r.2

    -- so one that writes is whole
    whole_by : (h : Held) → IsWriter l.via → core.forest n ≡ Some h → IsRooted types s core.forest m n l h
        → (tree : Tree) × (core.forest n ≡ Some (whole l.to tree))
    whole_by (whole to tree) writes e r = (tree, e ∙ ap (λ p. Some (whole p tree)) r.1)
    whole_by (all_lent j) writes e r =
        let from = lends_parent r.0.via n r.4 in
        absurd (no_child j r.0 r.1 r.5 from (core.order j r.0 n l r.1 from row is_loan))
    whole_by (box_lent to born j) writes e r =
        let part = r.4 in
        let same = part.of_token in
        absurd (no_child j part.row part.has part.is_open (ap parent_of part.from) (omega arith))
    whole_by (parts_lent to tag born first c rest) writes e r =
        let some = r.5 in
        let all = r.6 in
        let t = get_some r.0 0 (omega arith) in
        let part = r.10 0 t.0 (omega arith) t.1 in
        let same = part.of_token in
        absurd (no_child (first + 0) part.row part.has part.is_open (ap parent_of part.from) (omega arith))
    whole_by watching writes e r = absurd (subst IsWriter r.2 writes)

    whole_of : (o : Option Held) → core.forest n ≡ o → IsHere o → IsWriter l.via
        → (tree : Tree) × (core.forest n ≡ Some (whole l.to tree))
    whole_of None e there writes = absurd there
    whole_of (Some h) e there writes = whole_by h writes e (own_rooted h e)

    -- what comes after it is lower
    lower : (held : Holds) (after : Core types clock scope act held type under s m)
        → ((j : ℕ) → IsHere (after.forest j) → (n ≡ j → ⊥) × IsHere (core.forest j)) → Below n held after
    lower held after were g o has loan' of there =
        let was = were g there in
        let less = most g o has loan' of was.1 in
        less_or g less (λ same. was.0 (sym same))
      where
        less_or : (i : ℕ) → i < suc n → (i ≡ n → ⊥) → i < n
        less_or i less other = by (cases_lt i n)
          where
            by : (i < n) ⊎ (n ≤ i) → i < n
            by (inl under') = under'
            by (inr over) = absurd (other (omega arith))

    by_lent : (k : ℕ) → LendsAll l.via k → Cleared n hold core
    by_lent k lends =
        let tree = whole_of (core.forest n) refl here (lends_write l.via k lends) in
        let e = ended types clock scope act hold type under s m core n l row tree.0 tree.1 k lends off in
        record {
          held = with_hold e.frame e.name ready hold;
          after = e.after;
          below = lower (with_hold e.frame e.name ready hold) e.after e.were;
          frees = frees_one hold e.frame e.name (e.was ∙ ap shut of_token);
          counts = e.counts;
        }

    by_rejoined : Rejoined types clock scope act hold type under s m core n → Cleared n hold core
    by_rejoined e = record {
      held = hold;
      after = e.after;
      below = lower hold e.after e.were;
      frees = λ a y. inl refl;
      counts = e.counts;
    }

    -- parts of one root are of one token
    part_token : (k : ℕ) (lk : Loan) → s k ≡ Some lk → (o : Option Held) → core.forest k ≡ o → (i : ℕ) → IsPartLent i o
        → (ni : Loan) → s i ≡ Some ni → ni.token ≡ lk.token
    part_token k lk parent None e i h ni has = absurd h
    part_token k lk parent (Some (whole to t)) e i h ni has = absurd h
    part_token k lk parent (Some (all_lent j)) e i h ni has = absurd h
    part_token k lk parent (Some (box_lent to born j)) e i h ni has =
        let r = core.rooted k (box_lent to born j) e in
        let one : s k ≡ Some r.0 = r.1 in
        let same : r.0 ≡ lk = cc in
        let part = r.2.4 in
        let two : s i ≡ Some part.row = subst (λ c. s c ≡ Some part.row) (sym h) part.has in
        let alike : ni ≡ part.row = cc in
        ap (λ (q : Loan). q.token) alike ∙ part.of_token ∙ ap (λ (q : Loan). q.token) same
    part_token k lk parent (Some (parts_lent to tag born first c rest)) e i h ni has =
        let r = core.rooted k (parts_lent to tag born first c rest) e in
        let one : s k ≡ Some r.0 = r.1 in
        let same : r.0 ≡ lk = cc in
        let less = h.1 in
        let all = r.2.6 in
        let t = get_some r.2.0 h.0 (omega arith) in
        let part = r.2.10 h.0 t.0 h.1 t.1 in
        let two : s i ≡ Some part.row = subst (λ c. s c ≡ Some part.row) (sym h.2) part.has in
        let alike : ni ≡ part.row = cc in
        ap (λ (q : Loan). q.token) alike ∙ part.of_token ∙ ap (λ (q : Loan). q.token) same
    part_token k lk parent (Some watching) e i h ni has = absurd h

    is_part_of : (k i : ℕ) (ni : Loan) → s i ≡ Some ni → ni.via ≡ part_of k → IsHere (core.forest i)
        → IsPartLent i (core.forest k)
    is_part_of k i ni has from opened' =
        let lent = subst (λ v. IsLent core.forest hold core.root
        (λ id. in_forest id core.top core.forest + in_list id core.trees) i ni.token v) from
        (core.lent i ni has opened') in
        lent.0

    by_part : (k : ℕ) → l.via ≡ part_of k → Cleared n hold core
    by_part k from =
        let tree = whole_of (core.forest n) refl here (subst IsWriter (sym from) tt) in
        by_rejoined (part_ends types clock scope act hold type under s m core n l tree.0 k row tree.1 from off first_other)
      where
        first_other : (j : ℕ) (o : Loan) → s j ≡ Some o → o.via ≡ part_of k → IsHere (core.forest j) → j ≤ n
        first_other j o has from2 opened' =
            let mine = is_part_of k n l row from here in
            let theirs = is_part_of k j o has from2 opened' in
            let lk = parent_row types clock scope act hold type under s m core k (core.forest k) refl
            (part_here types clock scope act hold type under s m core n k mine) in
            let one = part_token k lk.0 lk.1 (core.forest k) refl n mine l row in
            let two = part_token k lk.0 lk.1 (core.forest k) refl j theirs o has in
            let less = most j o has (subst IsLoan (sym from2) tt) (two ∙ sym one ∙ of_token) opened' in
            omega arith

    by_read : (k : ℕ) (tree : Tree) → l.via ≡ reading k tree → Cleared n hold core
    by_read k tree reads =
        let lent = subst (λ v. IsLent core.forest hold core.root
        (λ id. in_forest id core.top core.forest + in_list id core.trees) n l.token v) reads
        (core.lent n l row here) in
        by_rejoined (read_ended types clock scope act hold type under s m core n l row k tree reads lent.2 off)

    by_via : (via : Via) → l.via ≡ via → Cleared n hold core
    by_via named e = absurd (subst IsLoan e is_loan)
    by_via (lent_of k) e = by_lent k (inl e)
    by_via (lent_through holder k) e = by_lent k (inr (holder, e))
    by_via (part_of k) e = by_part k e
    by_via (reading k tree) e = by_read k tree e

    one_ends : Cleared n hold core
    one_ends = by_via l.via refl

  -- ---- all of them

  module _ (newest : (y : ℕ) → act y ≡ true → y ≤ z) (closed : scope z ≡ false) where
    -- where the one of a number isn't here, all are lower
    skip : (n : ℕ) (hold : Holds) (core : Core types clock scope act hold type under s m) → Below (suc n) hold core
        → ((l : Loan) → s n ≡ Some l → IsLoan l.via → l.token ≡ z → IsHere (core.forest n) → ⊥) → Below n hold core
    skip n hold core most none g l has loan' of there = by (cases_lt g n)
      where
        by : (g < n) ⊎ (n ≤ g) → g < n
        by (inl under') = under'
        by (inr over) =
            let less = most g l has loan' of there in
            let same : g ≡ n = omega arith in
            absurd (none l (subst (λ i. s i ≡ Some l) same has) loan' of (subst (λ i. IsHere (core.forest i)) same there))

    clear_one : (n : ℕ) (hold : Holds) (core : Core types clock scope act hold type under s m) → Below (suc n) hold core
        → Cleared n hold core
    clear_one n hold core most = by_row (s n) refl
      where
        stays : ((l : Loan) → s n ≡ Some l → IsLoan l.via → l.token ≡ z → IsHere (core.forest n) → ⊥)
            → Cleared n hold core
        stays none = record {
          held = hold;
          after = core;
          below = skip n hold core most none;
          frees = λ a y. inl refl;
          counts = λ id. refl;
        }

        by_loan : (via : Via) (l : Loan) → s n ≡ Some l → l.via ≡ via → (IsLoan l.via → Cleared n hold core)
            → Cleared n hold core
        by_loan named l row e go = stays (λ o has loan' of there.
            let alike : o ≡ l = cc in
            subst IsLoan (ap (λ (q : Loan). q.via) alike ∙ e) loan')
        by_loan (lent_of k) l row e go = go (subst IsLoan (sym e) tt)
        by_loan (lent_through holder k) l row e go = go (subst IsLoan (sym e) tt)
        by_loan (part_of k) l row e go = go (subst IsLoan (sym e) tt)
        by_loan (reading k tree) l row e go = go (subst IsLoan (sym e) tt)

        by_here : (l : Loan) → s n ≡ Some l → IsLoan l.via → l.token ≡ z → (o : Option Held) → core.forest n ≡ o
            → Cleared n hold core
        by_here l row is_loan of None e = stays (λ q has loan' of' there. subst IsHere e there)
        by_here l row is_loan of (Some h) e =
            one_ends newest closed n hold core most l row is_loan of (subst IsHere (sym e) tt)

        by_token : (l : Loan) → s n ≡ Some l → (l.token ≡ z) ⊎ (l.token ≡ z → ⊥) → Cleared n hold core
        by_token l row (inl of) =
            by_loan l.via l row refl (λ is_loan. by_here l row is_loan of (core.forest n) refl)
        by_token l row (inr differ) = stays (λ o has loan' of there.
            let alike : o ≡ l = cc in
            differ (ap (λ (q : Loan). q.token) (sym alike) ∙ of))

        by_row : (o : Option Loan) → s n ≡ o → Cleared n hold core
        by_row None e = stays (λ l has loan' of there. let wrong : None ≡ Some l = sym e ∙ has in cc)
        by_row (Some l) e = by_token l e (cases_eq l.token z)

    clear : (n : ℕ) (hold : Holds) (core : Core types clock scope act hold type under s m) → Below n hold core
        → Cleared 0 hold core
    clear zero hold core most = record {
      held = hold;
      after = core;
      below = most;
      frees = λ a y. inl refl;
      counts = λ id. refl;
    }
    clear (suc n) hold core most =
        let one = clear_one n hold core most in
        let all = clear n one.held one.after one.below in
        record {
          held = all.held;
          after = all.after;
          below = all.below;
          frees = frees_then hold one.held all.held one.frees all.frees;
          counts = λ id. all.counts id ∙ one.counts id;
        }

-- ---- what no loan is of any more is off

among_others : (z y : ℕ) (zs : List ℕ) → (z ≡ y → ⊥) → IsAmong y zs → IsAmong y (others_of z zs)
among_others z y [] differ h = absurd h
among_others z y (c ∷ zs) differ h = by (z == c) refl h (λ rest. among_others z y zs differ rest)
  where
    by : (b : Bool) → (z == c) ≡ b → (y ≡ c) ⊎ IsAmong y zs → (IsAmong y zs → IsAmong y (others_of z zs))
        → IsAmong y (if b then others_of z zs else c ∷ others_of z zs)
    by true e (inl same) later = absurd (differ (eqb-true z c e ∙ sym same))
    by true e (inr rest) later = later rest
    by false e (inl same) later = inl same
    by false e (inr rest) later = inr (later rest)

still_watched : (y : ℕ) (zs : List ℕ) → IsAmong y zs → IsWatched y (left_watched zs)
still_watched y [] h = absurd h
still_watched y (c ∷ zs) h = h

left_full : (zs : List ℕ) → IsFull (left_watched zs)
left_full [] = tt
left_full (c ∷ zs) = tt

freed_watched : (z y : ℕ) (h : Hold) → (z ≡ y → ⊥) → IsWatched y h → IsWatched y (freed z h)
freed_watched z y empty differ w = absurd w
freed_watched z y ready differ w = absurd w
freed_watched z y (shut c) differ w = absurd w
freed_watched z y (watched zs) differ w = still_watched y (others_of z zs) (among_others z y zs differ w)

freed_full : (z : ℕ) (h : Hold) → IsFull h → IsFull (freed z h)
freed_full z empty full = absurd full
freed_full z ready full = tt
freed_full z (shut y) full = by (z == y)
  where
    by : (b : Bool) → IsFull (if b then ready else shut y)
    by true = tt
    by false = tt
freed_full z (watched zs) full = left_full (others_of z zs)

freed_shut : (z y : ℕ) → (z ≡ y → ⊥) → freed z (shut y) ≡ shut y
freed_shut z y differ = rw (ne_eqb z y differ)

freed_now : (z : ℕ) → freed z (shut z) ≡ ready
freed_now z = rw (eq-eqb z z refl)

module _ (types : Types) (clock : ℕ) (scope act : ℕ → Bool) (first held : Holds) (type : ℕ → ℕ → Meaning)
    (under : Made) (s : Table) (m : Memory (List ℕ)) (core : Core types clock scope act held type under s m) (z : ℕ)
    (off : scope z ≡ false) (none : (g : ℕ) (l : Loan) → s g ≡ Some l → IsLoan l.via → l.token ≡ z
    → IsHere (core.forest g) → ⊥)
    (frees : (a y : ℕ) → (held a y ≡ first a y) ⊎ ((first a y ≡ shut z) × (held a y ≡ ready))) where
  abbrev last : Holds
  last a y = freed z (first a y)

  abbrev totals : Id → ℕ
  totals id = in_forest id core.top core.forest + in_list id core.trees

  -- no name is shut for it
  not_shut : (a y : ℕ) (t : Meaning) → NameStands types s core.forest m core.root a y t (shut z) → ⊥
  not_shut a y t stands =
      let w = stands.1 in none w.0 w.1 w.2 (shuts_loan w.1.via (core.root a y) w.5) w.3 w.4

  stands_left : (a y : ℕ) (t : Meaning) (zs : List ℕ)
      → NameStands types s core.forest m core.root a y t ready
      → NameStands types s core.forest m core.root a y t (left_watched zs)
  stands_left a y t [] stands = stands
  stands_left a y t (c ∷ zs) stands = stands

  stands_freed : (a y : ℕ) (t : Meaning) (h : Hold) → NameStands types s core.forest m core.root a y t h
      → NameStands types s core.forest m core.root a y t (freed z h)
  stands_freed a y t empty stands = stands
  stands_freed a y t ready stands = stands
  stands_freed a y t (shut c) stands = by (cases_eq z c)
    where
      by : (z ≡ c) ⊎ (z ≡ c → ⊥) → NameStands types s core.forest m core.root a y t (freed z (shut c))
      by (inl same) =
          absurd (not_shut a y t (subst (λ i. NameStands types s core.forest m core.root a y t (shut i)) (sym same) stands))
      by (inr differ) =
          subst (λ h. NameStands types s core.forest m core.root a y t h) (sym (freed_shut z c differ)) stands
  stands_freed a y t (watched zs) stands = stands_left a y t (others_of z zs) stands

  all_names : (a y : ℕ) → NameStands types s core.forest m core.root a y (type a y) (last a y)
  all_names a y = by (frees a y)
    where
      by : (held a y ≡ first a y) ⊎ ((first a y ≡ shut z) × (held a y ≡ ready))
          → NameStands types s core.forest m core.root a y (type a y) (freed z (first a y))
      by (inl e) = stands_freed a y (type a y) (first a y)
          (subst (λ h. NameStands types s core.forest m core.root a y (type a y) h) e (core.names a y))
      by (inr both) =
          subst (λ h. NameStands types s core.forest m core.root a y (type a y) h)
          (sym (ap (freed z) both.0 ∙ freed_now z))
          (subst (λ h. NameStands types s core.forest m core.root a y (type a y) h) both.1 (core.names a y))

  -- ---- what is said of names of other tokens

  last_shut : (a y c : ℕ) → (z ≡ c → ⊥) → held a y ≡ shut c → last a y ≡ shut c
  last_shut a y c differ is = by (frees a y)
    where
      by : (held a y ≡ first a y) ⊎ ((first a y ≡ shut z) × (held a y ≡ ready)) → freed z (first a y) ≡ shut c
      by (inl e) = ap (freed z) (sym e ∙ is) ∙ freed_shut z c differ
      by (inr both) = let wrong : ready ≡ shut c = sym both.1 ∙ is in absurd cc

  last_watched : (a y c : ℕ) → (z ≡ c → ⊥) → IsWatched c (held a y) → IsWatched c (last a y)
  last_watched a y c differ w = by (frees a y)
    where
      by : (held a y ≡ first a y) ⊎ ((first a y ≡ shut z) × (held a y ≡ ready)) → IsWatched c (freed z (first a y))
      by (inl e) = freed_watched z c (first a y) differ (subst (IsWatched c) e w)
      by (inr both) = absurd (subst (IsWatched c) both.1 w)

  last_full : (a y : ℕ) → IsFull (held a y) → IsFull (last a y)
  last_full a y full = by (frees a y)
    where
      by : (held a y ≡ first a y) ⊎ ((first a y ≡ shut z) × (held a y ≡ ready)) → IsFull (freed z (first a y))
      by (inl e) = freed_full z (first a y) (subst IsFull e full)
      by (inr both) = subst IsFull (sym (ap (freed z) both.0 ∙ freed_now z)) tt

  names_shut : (k c : ℕ) → (z ≡ c → ⊥) → Names held core.root k (λ h. h ≡ shut c)
      → Names last core.root k (λ h. h ≡ shut c)
  names_shut k c differ whose = record {
    frame = whose.frame;
    name = whose.name;
    is = whose.is;
    holds = last_shut whose.frame whose.name c differ whose.holds;
  }

  lent_last : (g c : ℕ) → (z ≡ c → ⊥) → (via : Via) → IsLent core.forest held core.root totals g c via
      → IsLent core.forest last core.root totals g c via
  lent_last g c differ named h =
      record { frame = h.frame; name = h.name; is = h.is; holds = last_full h.frame h.name h.holds }
  lent_last g c differ (lent_of k) h = (h.0, names_shut k c differ h.1)
  lent_last g c differ (lent_through holder k) h = (h.0, h.1, h.2, names_shut holder c differ h.3)
  lent_last g c differ (part_of k) h = h
  lent_last g c differ (reading k tree) h = (
    h.0,
    h.1,
    h.2,
    record {
      frame = h.3.frame;
      name = h.3.name;
      is = h.3.is;
      holds = last_watched h.3.frame h.3.name c differ h.3.holds;
    },
  )

  -- the row of a name is of no token that counts here
  lent_named : (g c : ℕ) → IsLent core.forest held core.root totals g c named
      → IsLent core.forest last core.root totals g c named
  lent_named g c h =
      record { frame = h.frame; name = h.name; is = h.is; holds = last_full h.frame h.name h.holds }

  lent_any : (g : ℕ) (l : Loan) (via : Via) → l.via ≡ via → s g ≡ Some l → IsHere (core.forest g)
      → IsLent core.forest held core.root totals g l.token via → IsLent core.forest last core.root totals g l.token via
  lent_any g l named e row here h = lent_named g l.token h
  lent_any g l (lent_of k) e row here h =
      lent_last g l.token (λ same. none g l row (subst IsLoan (sym e) tt) (sym same) here) (lent_of k) h
  lent_any g l (lent_through holder k) e row here h =
      lent_last g l.token (λ same. none g l row (subst IsLoan (sym e) tt) (sym same) here) (lent_through holder k) h
  lent_any g l (part_of k) e row here h = h
  lent_any g l (reading k tree) e row here h =
      lent_last g l.token (λ same. none g l row (subst IsLoan (sym e) tt) (sym same) here) (reading k tree) h

  last_core : Core types clock scope (without z act) last type under s m
  last_core = record {
    forest = core.forest;
    top = core.top;
    root = core.root;
    trees = core.trees;
    shown = core.shown;
    once = core.once;
    rooted = core.rooted;
    names = all_names;
    lent = λ g l row here. lent_any g l l.via refl row here (core.lent g l row here);
    live = core.live;
    active = λ g l row loan' here.
        without_other z l.token act (λ same. none g l row loan' (sym same) here) ∙ core.active g l row loan' here;
    known = core.known;
    older = core.older;
    order = core.order;
    ticked = core.ticked;
    acted = λ y on. core.acted y (without_was z y act on);
    scoped = λ y on. without_other z y act (λ same.
        let mine : scope z ≡ true = subst (λ c. scope c ≡ true) (sym same) on in
        let wrong : true ≡ false = sym mine ∙ off in
        cc) ∙ core.scoped y on;
  }

-- ---- the end

module _ (types : Types) (clock : ℕ) (scope act : ℕ → Bool) (hold : Holds) (type : ℕ → ℕ → Meaning)
    (under : Made) (s : Table) (m : Memory (List ℕ)) (core : Core types clock scope act hold type under s m) (z : ℕ)
    (newest : (y : ℕ) → act y ≡ true → y ≤ z) where
  -- first it is out of scope
  unscoped : Core types clock (without z scope) act hold type under s m
  unscoped = record {
    forest = core.forest;
    top = core.top;
    root = core.root;
    trees = core.trees;
    shown = core.shown;
    once = core.once;
    rooted = core.rooted;
    names = core.names;
    lent = core.lent;
    live = λ g l row loan' on. core.live g l row loan' (without_was z l.token scope on);
    active = core.active;
    known = core.known;
    older = core.older;
    order = core.order;
    ticked = core.ticked;
    acted = core.acted;
    scoped = λ y on. core.scoped y (without_was z y scope on);
  }

  -- a row is below the top
  row_below : (g : ℕ) (l : Loan) → s g ≡ Some l → g < core.top
  row_below g l row = by (cases_lt g core.top)
    where
      by : (g < core.top) ⊎ (core.top ≤ g) → g < core.top
      by (inl under') = under'
      by (inr over) = let none = core.known g over in let wrong : None ≡ Some l = sym none ∙ row in cc

  pub token_ends : TokenEnded types clock scope act hold type under s m core z
  unfolding last_core unscoped
  token_ends =
      let c = clear types clock (without z scope) act type under s m z newest (without_self z scope) core.top hold
      unscoped (λ g l row loan' of here. row_below g l row) in
      record {
        after = last_core types clock (without z scope) act hold c.held type under s m c.after z (without_self z scope)
            (λ g l row loan' of here. let less = c.below g l row loan' of here in omega arith) c.frees;
        counts = λ id. c.counts id;
      }
