-- Borrows are exclusive: of the write references that are held for one borrow no two have overlapping places, and none
-- has one that overlaps that of a read borrow that is open.
use Rattle.std.proofs.Common.{◌≡◌, ◌⊎◌, inl, inr, ℕ, ◌+◌, ◌≤◌, ◌<◌, Bool, true, List, [], refl, sym, ap}
use Rattle.std.proofs.Common.{◌∙◌, subst, arith}
use Rattle.std.specs.Prelude.{Option, Some, None}
use Rattle.std.proofs.lemmas.Bool.{cases_eq}
use Rattle.au_effects.specs.Parts.{along, part}
use Rattle.au_effects.specs.References.{place_along}
use Rattle.au_effects.specs.Values.{Place, box, content_of, reference}
use Rattle.au_places.specs.Memories.{Memory, held_at}
use Rattle.au_places.specs.Places.{Id, cell_of, content_place, in_place, writer}
use Rattle.au_places.proofs.PlaceLemmas.{node_self}
use Rattle.au_types.specs.Types.{Meaning}
use Rattle.au_memory.specs.Loans.{IsLoan, IsWriter, Loan, Table, Types, Via, named, lent_of, lent_through, part_of, reading, parent_of}
use Rattle.au_memory.specs.Loans.{start_of}
use Rattle.au_memory.specs.Forests.{Core, Held, Holds, IsHere, IsLent, Made, all_lent, box_lent, in_forest, in_list, in_root}
use Rattle.au_memory.specs.Forests.{IsNameRow, IsPartLent, IsWatched, Names, parts_lent, watching, whole}
use Rattle.au_memory.specs.Shown.{Has, IsPlain, Shows}
use Rattle.au_memory.specs.Trees.{Tree, Trees, Value, a_plain, a_made, a_box, a_buffer, a_terminal, a_root, a_writer}
use Rattle.au_memory.specs.Trees.{a_reader, in_tree}
use Rattle.au_memory.proofs.TotalLemmas.{total_two}
use Rattle.au_memory.proofs.UsableLemmas.{root_below, writer_is_loan}
use Rattle.au_readers.specs.Exclusive.{BorrowsAreOrdered, IsHeldAt, IsLater, LiesUnder, OnlyWrites, Overlap, Spot, all_of, field_spot, in_box}
use Rattle.au_readers.specs.Exclusive.{in_content, on_from}
use Rattle.au_readers.specs.Sparing.{Sees}
use Rattle.au_readers.proofs.DescentLemmas.{Counted, Descends, Lends, ReadsNot, counted, first_of, further, in_line, itself, last_of}
use Rattle.au_readers.proofs.DescentLemmas.{onward, part_child, part_not_read, rooted_by}
use Rattle.au_readers.proofs.HeldLemmas.{IsOfReader, IsOfWriter, Referred, SeatIn, SeatedUnder, StandsIn, held_refers}
use Rattle.au_readers.proofs.HeldLemmas.{seat_along, stands_counted, stands_once}
use Rattle.au_readers.proofs.SeatLemmas.{box_child, part_seen, spot_of}
use Rattle.au_readers.proofs.SparingLemmas.{at_start, lent, not_writer, path_less, row, whose}
use Rattle.au_readers.proofs.SubtreeLemmas.{among_count, among_on, within_count, within_on}

-- a place counts once at what it is on from
pub path_counts : (to : Place) (path : List ℕ) → 1 ≤ in_place (cell_of (place_along to path)) to
path_counts to path =
    let own = node_self (place_along to path) 0 in
    let less = path_less (cell_of (place_along to path)) path to in
    omega (arith, own, less)

module _ (types : Types) (s : Table) (m : Memory (List ℕ)) where
  -- all that lies in a box counts in the tree of the box
  pub box_counts : (tree : Tree) (t : Meaning) (i : ℕ) (path : List ℕ) → Shows types s m (box i) tree → Has types s tree t
      → 1 ≤ in_tree (cell_of (place_along (content_place i) path)) tree
  box_counts (a_box its content) t i path shows has =
      let same : its ≡ i = let is = shows.1 in cc in
      subst (λ k. 1 ≤ in_tree (cell_of (place_along (content_place i) path)) (a_box k content)) (sym same)
      (let own = path_counts (content_place i) path in omega (arith, own))
  box_counts (a_plain w) t i path shows has = absurd (subst (λ x. IsPlain x t) (sym shows) has)
  box_counts (a_made tag its all) t i path shows has = let no = shows.1 in absurd cc
  box_counts (a_buffer its all) t i path shows has = let no = shows.1 in absurd cc
  box_counts (a_terminal its) t i path shows has = absurd cc
  box_counts (a_root its) t i path shows has = absurd cc
  box_counts (a_writer g) t i path shows has = let no = shows.2 in absurd cc
  box_counts (a_reader g steps) t i path shows has = let no = shows.3 in absurd cc

module _ (types : Types) (clock : ℕ) (scope act : ℕ → Bool) (hold : Holds) (type : ℕ → ℕ → Meaning)
    (under : Made) (s : Table) (m : Memory (List ℕ)) (core : Core types clock scope act hold type under s m) where
  abbrev DescendsTo : ℕ → ℕ → Type 0
  DescendsTo k d = Descends types clock scope act hold type under s m core k d

  abbrev Under : ℕ → Spot → Value → Type 0
  Under k spot v = SeatedUnder types clock scope act hold type under s m core k spot v

  abbrev SeatOf : Option Held → Spot → Value → Type 0
  SeatOf o spot v = SeatIn types clock scope act hold type under s m core o spot v

  abbrev CountedIn : Id → ℕ → Type 0
  CountedIn id k = Counted types clock scope act hold type under s m core id k

  whole_fuel : (k : ℕ) → core.top ≤ k + core.top
  whole_fuel k = omega arith

  -- the content of a box that is lent
  record LentBox (d i : ℕ) : Type 0 where
    g : ℕ
    row : Loan
    has : s g ≡ Some row
    at : row.to ≡ content_place i
    here : IsHere (core.forest g)
    reads_not : ReadsNot row.via
    lent_there : Lends types clock scope act hold type under s m core d g

  lent_box : (d i : ℕ) (to : Place) (born g : ℕ) → core.forest d ≡ Some (box_lent to born g) → held_at m to ≡ Some (box i)
      → LentBox d i
  lent_box d i to born g is there =
      let r = core.rooted d (box_lent to born g) is in
      let number : born ≡ i = let both = sym r.2.3 ∙ there in cc in
      let part = r.2.4 in record {
        g = g;
        row = part.row;
        has = part.has;
        at = part.at ∙ ap content_place number;
        here = part.is_open;
        reads_not = part_not_read part.row.via d part.from;
        lent_there = part_child types clock scope act hold type under s m core d r.0.token g (content_place born) r.2.0 part;
      }

  no_made : (d i : ℕ) (to : Place) (tag : ℕ) (born : Option ℕ) (g count : ℕ) (rest : Trees)
      → core.forest d ≡ Some (parts_lent to tag born g count rest) → held_at m to ≡ Some (box i) → ⊥
  no_made d i to tag born g count rest is there =
      let r = core.rooted d (parts_lent to tag born g count rest) is in
      let no = sym r.2.9 ∙ there in absurd cc

  -- what stands at a place in the content of a box that has a seat
  content_seat : (k d : ℕ) (spot : Spot) (i : ℕ) (path : List ℕ) (v : Value) → DescendsTo k d
      → SeatOf (core.forest d) spot (box i) → held_at m (place_along (content_place i) path) ≡ Some v
      → Under k (spot_of (place_along (content_place i) path)) v
  content_seat k d spot i path v way seat held = by (core.forest d) refl seat
    where
      there : Spot
      there = spot_of (place_along (content_place i) path)

      found : (o : Option Value) → m.at (content_of i) ≡ o → along o (part path) ≡ Some v
          → (w : Value) × (m.at (content_of i) ≡ Some w) × (part path w ≡ Some v)
      found None is e = absurd cc
      found (Some w) is e = (w, is, e)

      its : (w : Value) × (m.at (content_of i) ≡ Some w) × (part path w ≡ Some v)
      its = found (m.at (content_of i)) refl held

      own : (h : Held) → core.forest d ≡ Some h → SeatOf (Some h) there v → Under k there v
      own h is at = (d, way, subst (λ o. SeatOf o there v) (sym is) at)

      by : (o : Option Held) → core.forest d ≡ o → SeatOf o spot (box i) → Under k there v
      by (Some (whole to tree)) is (one, t, within, shows, has) =
          let child = box_child types s m one t i its.0 shows has its.1 in
          let seen = part_seen types s m path child.0 child.1 (all_of (in_box i)) its.0 v child.3 child.4 its.2 in
          own (whole to tree) is (
            seen.0,
            seen.1,
            within_on tree (spot_of to) one spot seen.0 there within
                (within_on one spot child.0 (all_of (in_box i)) seen.0 there (child.2 spot) seen.2),
            seen.3,
            seen.4,
          )
      by (Some (parts_lent to tag born g count rest)) is (inl (same, box_there)) =
          absurd (no_made d i to tag born g count rest is box_there)
      by (Some (parts_lent to tag born g count rest)) is (inr (one, t, within, shows, has)) =
          let child = box_child types s m one t i its.0 shows has its.1 in
          let seen = part_seen types s m path child.0 child.1 (all_of (in_box i)) its.0 v child.3 child.4 its.2 in
          own (parts_lent to tag born g count rest) is
          (inr (
            seen.0,
            seen.1,
            among_on rest count (field_spot (spot_of to)) one spot seen.0 there within
                (within_on one spot child.0 (all_of (in_box i)) seen.0 there (child.2 spot) seen.2),
            seen.3,
            seen.4,
          ))
      by (Some (box_lent to born g)) is (same, box_there) =
          let inner = lent_box d i to born g is box_there in
          let deeper = seat_along types clock scope act hold type under s m core core.top inner.g inner.row path v
          (whole_fuel inner.g) inner.has inner.here inner.reads_not
          (ap (λ p. held_at m (place_along p path)) inner.at ∙ held) in
          let at = subst (λ p. Under inner.g (spot_of (place_along p path)) v) inner.at deeper in (
            at.0,
            onward types clock scope act hold type under s m core k inner.g at.0 (further d inner.g way inner.lent_there)
                at.1,
            at.2,
          )
      by (Some (all_lent g)) is at = absurd at
      by (Some watching) is at = absurd at
      by None is at = absurd at

  -- all that lies in the content of a box that has a seat counts
  content_counts : (k d : ℕ) (spot : Spot) (i : ℕ) (path : List ℕ) → DescendsTo k d
      → SeatOf (core.forest d) spot (box i) → CountedIn (cell_of (place_along (content_place i) path)) k
  content_counts k d spot i path way seat = by (core.forest d) refl seat
    where
      id : Id
      id = cell_of (place_along (content_place i) path)

      own : (h : Held) → core.forest d ≡ Some h → 1 ≤ in_root id (Some h) → CountedIn id k
      own h is some = (d, way, subst (λ o. 1 ≤ in_root id o) (sym is) some)

      by : (o : Option Held) → core.forest d ≡ o → SeatOf o spot (box i) → CountedIn id k
      by (Some (whole to tree)) is (one, t, within, shows, has) =
          let some = box_counts types s m one t i path shows has in
          let less = within_count id tree (spot_of to) one spot within in
          own (whole to tree) is (omega (arith, some, less))
      by (Some (parts_lent to tag born g count rest)) is (inl (same, box_there)) =
          absurd (no_made d i to tag born g count rest is box_there)
      by (Some (parts_lent to tag born g count rest)) is (inr (one, t, within, shows, has)) =
          let some = box_counts types s m one t i path shows has in
          let less = among_count id rest count (field_spot (spot_of to)) one spot within in
          own (parts_lent to tag born g count rest) is (omega (arith, some, less))
      by (Some (box_lent to born g)) is (same, box_there) =
          let inner = lent_box d i to born g is box_there in
          let deeper = counted types clock scope act hold type under s m core id core.top inner.g inner.row
          (whole_fuel inner.g) inner.has inner.here inner.reads_not
          (subst (λ p. 1 ≤ in_place id p) (sym inner.at) (path_counts (content_place i) path)) in (
            deeper.0,
            onward types clock scope act hold type under s m core k inner.g deeper.0
                (further d inner.g way inner.lent_there) deeper.1,
            deeper.2,
          )
      by (Some (all_lent g)) is at = absurd at
      by (Some watching) is at = absurd at
      by None is at = absurd at

  -- ---- what lies under the place of a root

  module _ (k : ℕ) (l : Loan) (row_of : s k ≡ Some l) (here : IsHere (core.forest k)) (reads_not : ReadsNot l.via) where
    under_seat : (p : Place) (v : Value) → LiesUnder m l.to p → held_at m p ≡ Some v → Under k (spot_of p) v
    under_seat p v (on_from path) held =
        seat_along types clock scope act hold type under s m core core.top k l path v (whole_fuel k) row_of here reads_not held
    under_seat p v (in_content to i path under_it box_there) held =
        let seat = under_seat to (box i) under_it box_there in content_seat k seat.0 (spot_of to) i path v seat.1 seat.2 held

    under_counts : (p : Place) → LiesUnder m l.to p → CountedIn (cell_of p) k
    under_counts p (on_from path) =
        counted types clock scope act hold type under s m core (cell_of (place_along l.to path)) core.top k l (whole_fuel k)
        row_of here reads_not (path_counts l.to path)
    under_counts p (in_content to i path under_it box_there) =
        let seat = under_seat to (box i) under_it box_there in content_counts k seat.0 (spot_of to) i path seat.1 seat.2

    self_counts : CountedIn (cell_of l.to) k
    self_counts =
        counted types clock scope act hold type under s m core (cell_of l.to) core.top k l (whole_fuel k) row_of here
        reads_not (let own = node_self l.to 0 in omega (arith, own))

  -- ---- roots whose places overlap

  counted_below : (id : Id) (d : ℕ) → 1 ≤ in_root id (core.forest d) → d < core.top
  counted_below id d some = by (core.forest d) refl some
    where
      by : (o : Option Held) → core.forest d ≡ o → 1 ≤ in_root id o → d < core.top
      by None is none = absurd (omega (arith, none))
      by (Some h) is there = root_below types clock scope act hold type under s m core d h is

  one_root : (id : Id) (j k : ℕ) → CountedIn id j → CountedIn id k → DescendsTo j k ⊎ DescendsTo k j
  one_root id j k (d, way, some) (e, its, more) = by (cases_eq e d)
    where
      by : (e ≡ d) ⊎ (e ≡ d → ⊥) → DescendsTo j k ⊎ DescendsTo k j
      by (inl same) =
          in_line types clock scope act hold type under s m core j k d way (subst (λ x. DescendsTo k x) same its)
      by (inr differ) =
          let two = total_two id core.top d e core.forest differ (counted_below id d some) (counted_below id e more) in
          let most = core.once id in
          absurd (omega (arith, two, most, some, more))

  -- one of them was lent from the other
  overlap_in_line : (j k : ℕ) (l n : Loan) → s j ≡ Some l → s k ≡ Some n → IsHere (core.forest j)
      → IsHere (core.forest k) → ReadsNot l.via → ReadsNot n.via → Overlap m l.to n.to
      → DescendsTo j k ⊎ DescendsTo k j
  overlap_in_line j k l n row_j row_k here_j here_k writes_j writes_k (inl under_it) =
      one_root (cell_of n.to) j k (under_counts j l row_j here_j writes_j n.to under_it)
      (self_counts k n row_k here_k writes_k)
  overlap_in_line j k l n row_j row_k here_j here_k writes_j writes_k (inr under_it) =
      one_root (cell_of l.to) j k (self_counts j l row_j here_j writes_j)
      (under_counts k n row_k here_k writes_k l.to under_it)

  -- ---- write references of one borrow

  writer_not_read : (via : Via) → IsWriter via → ReadsNot via
  writer_not_read via writes from tree is = subst IsWriter is writes

  module _ (ordered : BorrowsAreOrdered s) where
    later_on : (via : Via) (b c : ℕ) → IsLater via b c → b ≤ c
    later_on named b c less = omega (arith, less)
    later_on (lent_of k) b c less = omega (arith, less)
    later_on (lent_through holder k) b c less = omega (arith, less)
    later_on (part_of k) b c same = omega (arith, same)
    later_on (reading k tree) b c less = omega (arith, less)

    parent_loan : (via : Via) (k : ℕ) → parent_of via ≡ Some k → IsLoan via
    parent_loan named k e = absurd cc
    parent_loan (lent_of j) k e = tt
    parent_loan (lent_through holder j) k e = tt
    parent_loan (part_of j) k e = tt
    parent_loan (reading j tree) k e = tt

    -- what is lent from a loan is of its borrow, or a later one
    descends_later : (k h : ℕ) (l : Loan) → s k ≡ Some l → IsLoan l.via → DescendsTo k h
        → (n : Loan) × (s h ≡ Some n) × IsLoan n.via × (l.borrow ≤ n.borrow)
    descends_later k h l row_k loan itself = (l, row_k, loan, omega arith)
    descends_later k h l row_k loan (further g other way (r, its, parent, here, writes)) =
        let above = descends_later k g l row_k loan way in
        let later = later_on r.via above.0.borrow r.borrow (ordered h r g above.0 its parent above.1 above.2) in
        let before = above.3 in
        (r, its, parent_loan r.via g parent, omega (arith, later, before))

    -- No loan of which a reference is held has lent what is of its own borrow.
    not_down : (g h : ℕ) (l n : Loan) → (g ≡ h → ⊥) → s g ≡ Some l → s h ≡ Some n → IsWriter l.via
        → 1 ≤ in_forest (writer g) core.top core.forest → l.borrow ≡ n.borrow → DescendsTo g h → ⊥
    not_down g h l n differ row_g row_h writes held same way =
        by (first_of types clock scope act hold type under s m core g h way)
      where
        loan : IsLoan l.via
        loan = writer_is_loan l.via writes

        later : (x : ℕ) (r : Loan) → s x ≡ Some r → IsLoan r.via → l.borrow < r.borrow → DescendsTo x h → ⊥
        later x r row_x its less more =
            let below = descends_later x h r row_x its more in
            let one : below.0 ≡ n = let there = below.1 in cc in
            let borrows = ap (λ (y : Loan). y.borrow) one in
            let up = below.3 in
            omega (arith, less, borrows, up, same)

        by_via : (x : ℕ) (r : Loan) (via : Via) → r.via ≡ via → s x ≡ Some r → parent_of via ≡ Some g
            → IsHere (core.forest x) → IsLater via l.borrow r.borrow
            → IsLent core.forest hold core.root (λ id. in_forest id core.top core.forest + in_list id core.trees) x r.token
            via → DescendsTo x h → ⊥
        by_via x r named is row_x parent here less lent more = absurd cc
        by_via x r (lent_of k) is row_x parent here less lent more =
            later x r row_x (subst IsLoan (sym is) tt) less more
        by_via x r (lent_through holder k) is row_x parent here less lent more =
            later x r row_x (subst IsLoan (sym is) tt) less more
        by_via x r (reading k tree) is row_x parent here less lent more =
            later x r row_x (subst IsLoan (sym is) tt) less more
        by_via x r (part_of k) is row_x parent here less lent more =
            let own : k ≡ g = cc in
            let none = subst (λ j. in_forest (writer j) core.top core.forest + in_list (writer j) core.trees ≡ 0) own lent.1 in
            omega (arith, none, held)

        by : (g ≡ h) ⊎ ((x : ℕ) × Lends types clock scope act hold type under s m core g x × DescendsTo x h) → ⊥
        by (inl one) = differ one
        by (inr (x, (r, row_x, parent, here, reads_not), more)) =
            by_via x r r.via refl row_x parent here (ordered x r g l row_x parent row_g loan) (core.lent x r row_x here) more

    -- Two loans of one borrow, of each of which a reference is held, are of places that don't overlap.
    pub writers_apart : (g h : ℕ) (l n : Loan) → (g ≡ h → ⊥) → s g ≡ Some l → s h ≡ Some n → IsWriter l.via
        → IsWriter n.via → scope l.token ≡ true → scope n.token ≡ true
        → 1 ≤ in_forest (writer g) core.top core.forest → 1 ≤ in_forest (writer h) core.top core.forest
        → l.borrow ≡ n.borrow → Overlap m l.to n.to → ⊥
    writers_apart g h l n differ row_g row_h writes_g writes_h scope_g scope_h held_g held_h same overlap =
        by (overlap_in_line g h l n row_g row_h (core.live g l row_g (writer_is_loan l.via writes_g) scope_g)
        (core.live h n row_h (writer_is_loan n.via writes_h) scope_h) (writer_not_read l.via writes_g)
        (writer_not_read n.via writes_h) overlap)
      where
        by : DescendsTo g h ⊎ DescendsTo h g → ⊥
        by (inl way) = not_down g h l n differ row_g row_h writes_g held_g same way
        by (inr way) = not_down h g n l (λ e. differ (sym e)) row_h row_g writes_h held_h (sym same) way

  -- ---- what read borrows see

  -- A loan that writes and one that reads, of tokens that are in scope, are of places that don't overlap.
  pub reads_apart : (g r : ℕ) (l n : Loan) → s g ≡ Some l → s r ≡ Some n → IsWriter l.via → (from : ℕ) (tree : Tree)
      → n.via ≡ reading from tree → scope l.token ≡ true → scope n.token ≡ true → Overlap m l.to n.to → ⊥
  reads_apart g r l n row_g row_r writes from tree via scope_g scope_r overlap =
      by (overlap_in_line g from l seen_row row_g named_row.has here_g here_from (writer_not_read l.via writes)
      (λ k u is. let no = sym named_row.is_named ∙ is in absurd cc)
      (subst (λ p. Overlap m l.to p) (sym place) overlap))
    where
      here_r : IsHere (core.forest r)
      here_r = core.live r n row_r (subst IsLoan (sym via) tt) scope_r

      here_g : IsHere (core.forest g)
      here_g = core.live g l row_g (writer_is_loan l.via writes) scope_g

      sees : Sees types clock scope act hold type under s m core r [] n (start_of types n tree)
      sees = record {
        leads = record { row = row_r; from = from; tree = tree; via = via; there = refl };
        is_open = here_r;
      }

      whole_there : (to : Place) × (core.forest from ≡ Some (whole to tree))
      whole_there =
          let its = lent types clock scope act hold type under s m core r n [] (start_of types n tree) sees in (its.0, its.1)

      here_from : IsHere (core.forest from)
      here_from = subst IsHere (sym whole_there.1) tt

      mine : Names hold core.root from (IsWatched n.token)
      mine = whose types clock scope act hold type under s m core r n [] (start_of types n tree) sees

      named_row : IsNameRow s from mine.frame mine.name (type mine.frame mine.name)
      named_row = row types clock scope act hold type under s m core r n [] (start_of types n tree) sees

      seen_row : Loan
      seen_row = named_row.row

      place : seen_row.to ≡ n.to
      place =
          let its = rooted_by types clock scope act hold type under s m core from seen_row (whole whole_there.0 tree)
          named_row.has whole_there.1 in
          sym its.1 ∙ at_start types clock scope act hold type under s m core r n [] (start_of types n tree) sees

      not_same : g ≡ from → ⊥
      not_same same =
          not_writer types clock scope act hold type under s m core r n [] (start_of types n tree) sees g l row_g writes same

      no_lent : (x : ℕ) → Lends types clock scope act hold type under s m core from x → ⊥
      no_lent x (q, row_x, parent, here, reads_not) = by_via q.via parent reads_not (core.lent x q row_x here)
        where
          by_via : (v : Via) → parent_of v ≡ Some from → ReadsNot v
              → IsLent core.forest hold core.root (λ id. in_forest id core.top core.forest + in_list id core.trees) x q.token
              v → ⊥
          by_via named parent_is reads_it_not its = absurd cc
          by_via (lent_of k) parent_is reads_it_not its =
              let own : k ≡ from = cc in
              let there = subst (λ j. core.forest j ≡ Some (all_lent x)) own its.0 in
              let no = sym there ∙ whole_there.1 in absurd cc
          by_via (lent_through holder k) parent_is reads_it_not its =
              let own : k ≡ from = cc in
              let there = subst (λ j. core.forest j ≡ Some (all_lent x)) own its.2 in
              let no = sym there ∙ whole_there.1 in absurd cc
          by_via (part_of k) parent_is reads_it_not its =
              let own : k ≡ from = cc in
              subst (λ o. IsPartLent x o) (ap core.forest own ∙ whole_there.1) its.0
          by_via (reading k u) parent_is reads_it_not its = reads_it_not k u refl

      by : DescendsTo g from ⊎ DescendsTo from g → ⊥
      by (inl way) = on (last_of types clock scope act hold type under s m core g from way)
        where
          on : (g ≡ from) ⊎ ((k : ℕ) × Lends types clock scope act hold type under s m core k from) → ⊥
          on (inl same) = not_same same
          on (inr (k, (q, row_x, parent, here, reads_not))) =
              let one : q ≡ seen_row = let its = named_row.has in cc in
              let no = subst (λ v. parent_of v ≡ Some k) (ap (λ (x : Loan). x.via) one ∙ named_row.is_named) parent in
              absurd cc
      by (inr way) = on (first_of types clock scope act hold type under s m core from g way)
        where
          on : (from ≡ g) ⊎ ((x : ℕ) × Lends types clock scope act hold type under s m core from x × DescendsTo x g) → ⊥
          on (inl same) = not_same (sym same)
          on (inr (x, lent_x, more)) = no_lent x lent_x

  -- ---- what is held

  module _ (b : ℕ) (only : OnlyWrites types clock scope act hold type under s m core b) where
    reader_not : IsOfReader types clock scope act hold type under s m core b → ⊥
    reader_not its =
        let loan = subst IsLoan (sym its.via) tt in
        subst IsWriter its.via (only its.loan its.row its.has loan its.borrow).0

    abbrev IsWriterOf : ℕ → Place → Type 0
    IsWriterOf g p = IsOfWriter types clock scope act hold type under s m core g b p

    scoped : (g : ℕ) (p : Place) (its : IsWriterOf g p) → scope its.row.token ≡ true
    scoped g p its = (only g its.row its.has (writer_is_loan its.row.via its.writes) its.borrow).1

    pub held_apart : BorrowsAreOrdered s → (one other : Spot) (p q : Place) → (one ≡ other → ⊥)
        → IsHeldAt m one (reference b p) → IsHeldAt m other (reference b q) → Overlap m p q → ⊥
    held_apart ordered one other p q differ first second overlap =
        by (held_refers types clock scope act hold type under s m core one b p first)
        (held_refers types clock scope act hold type under s m core other b q second)
      where
        on : (g h d e : ℕ) → StandsIn types clock scope act hold type under s m core (core.forest d) g one
            → StandsIn types clock scope act hold type under s m core (core.forest e) h other → IsWriterOf g p → IsWriterOf h q
            → (g ≡ h) ⊎ (g ≡ h → ⊥) → ⊥
        on g h d e stands also its theirs (inl same) =
            differ (stands_once types clock scope act hold type under s m core g d e one other stands
            (subst (λ k. StandsIn types clock scope act hold type under s m core (core.forest e) k other) (sym same) also))
        on g h d e stands also its theirs (inr apart) =
            writers_apart ordered g h its.row theirs.row apart its.has theirs.has its.writes theirs.writes (scoped g p its)
            (scoped h q theirs) (stands_counted types clock scope act hold type under s m core g d one stands)
            (stands_counted types clock scope act hold type under s m core h e other also) (its.borrow ∙ sym theirs.borrow)
            (subst (λ x. Overlap m x theirs.row.to) (sym its.at) (subst (Overlap m p) (sym theirs.at) overlap))

        by : Referred types clock scope act hold type under s m core one b p
            → Referred types clock scope act hold type under s m core other b q → ⊥
        by (inr its) theirs = reader_not its
        by (inl its) (inr theirs) = reader_not theirs
        by (inl (g, d, stands, its)) (inl (h, e, also, theirs)) = on g h d e stands also its theirs (cases_eq g h)

    pub held_spares : (spot : Spot) (p : Place) → IsHeldAt m spot (reference b p) → (r : ℕ) (n : Loan) (from : ℕ)
        (tree : Tree) → s r ≡ Some n → n.via ≡ reading from tree → scope n.token ≡ true → Overlap m p n.to → ⊥
    held_spares spot p held r n from tree row_r via in_scope overlap =
        by (held_refers types clock scope act hold type under s m core spot b p held)
      where
        by : Referred types clock scope act hold type under s m core spot b p → ⊥
        by (inr its) = reader_not its
        by (inl (g, d, stands, its)) =
            reads_apart g r its.row n its.has row_r its.writes from tree via (scoped g p its) in_scope
            (subst (λ x. Overlap m x n.to) (sym its.at) overlap)
