-- What is held in a memory stands in its forest.
use Rattle.std.proofs.Common.{◌≡◌, ◌⊎◌, inl, inr, ℕ, zero, suc, ◌+◌, ◌≤◌, ◌<◌, Bool, List, [], ◌∷◌, refl, sym, ap}
use Rattle.std.proofs.Common.{◌∙◌, subst, append_assoc, append-nil, arith}
use Rattle.std.specs.Prelude.{Option, Some, None, drop, slice_get}
use Rattle.std.proofs.lemmas.Bool.{cases_eq, cases_lt}
use Rattle.au_effects.specs.Parts.{along, nth_field, part}
use Rattle.au_effects.specs.References.{name_along, place_along}
use Rattle.au_effects.specs.Values.{Fields, Place, box, buffer, content_of, made, name_of, reference}
use Rattle.au_places.specs.Memories.{Memory, held_at, later}
use Rattle.au_places.specs.Places.{content_place, part_at, writer}
use Rattle.au_places.proofs.MemoryLemmas.{all_held}
use Rattle.au_types.specs.Types.{Meaning}
use Rattle.au_memory.specs.Loans.{IsWriter, Loan, Table, Types, Via}
use Rattle.au_memory.specs.Loans.{lent_of, lent_through, named, part_of, reading}
use Rattle.au_memory.specs.Forests.{Core, Held, Hold, Holds, IsHere, IsLent, IsNameRow, IsRooted, Made}
use Rattle.au_memory.specs.Forests.{NameStands, Shuts, all_lent, box_lent, empty, in_forest, in_list, in_root, parts_lent, ready}
use Rattle.au_memory.specs.Forests.{shut, watched, watching, whole}
use Rattle.au_memory.specs.Shown.{Has, IsPlain, Shows}
use Rattle.au_memory.specs.Trees.{Tree, Trees, Value, a_plain, a_made, a_box, a_buffer, a_terminal, a_root, a_writer}
use Rattle.au_memory.specs.Trees.{a_reader}
use Rattle.au_memory.proofs.CountLemmas.{writer_in}
use Rattle.au_memory.proofs.PointLemmas.{part_stands}
use Rattle.au_memory.proofs.TotalLemmas.{total_has, total_two}
use Rattle.au_memory.proofs.UsableLemmas.{root_below}
use Rattle.au_readers.specs.Exclusive.{IsHeldAt, Spot, all_of, field_spot, in_box, in_buffer, in_name, of_box, of_buffer}
use Rattle.au_readers.specs.Exclusive.{of_field, of_name}
use Rattle.au_readers.proofs.DescentLemmas.{Descends, Lends, ReadsNot, child_later, from_first, itself, lends_not_read}
use Rattle.au_readers.proofs.DescentLemmas.{lent_child, nth_there, part_child, part_not_read, rooted_by}
use Rattle.au_readers.proofs.SeatLemmas.{Seen, SeenAmong, box_child, field_child, held_along, item_child, later_nth, one_of}
use Rattle.au_readers.proofs.SeatLemmas.{part_seen, spot_along, spot_of}
use Rattle.au_readers.proofs.SubtreeLemmas.{Among, Within, among_count, among_on, nth_among, one_among, one_spot, within_count}
use Rattle.au_readers.proofs.SubtreeLemmas.{within_on, within_self}

beyond : (n i : ℕ) → n ≤ i → (j : ℕ) × (i ≡ n + j)
beyond zero i h = (i, omega arith)
beyond (suc n) zero h = absurd (omega (arith, h))
beyond (suc n) (suc i) h = let its = beyond n i (omega (arith, h)) in (its.0, omega (arith, its.1))

along_nil : (to : Place) → spot_of (place_along to []) ≡ spot_of to
along_nil to = ap (λ p. spot_of (record { base = to.base; path = p })) (append-nil to.path)

module _ (types : Types) (clock : ℕ) (scope act : ℕ → Bool) (hold : Holds) (type : ℕ → ℕ → Meaning)
    (under : Made) (s : Table) (m : Memory (List ℕ)) (core : Core types clock scope act hold type under s m) where
  -- A value at a spot is shown by a tree in a root, or it is one of which a root has lent parts.
  abbrev pub SeatIn : Option Held → Spot → Value → Type 0
  SeatIn (Some (whole to tree)) spot v = Seen types s m tree (spot_of to) spot v
  SeatIn (Some (box_lent to born g)) spot v = (spot ≡ spot_of to) × (held_at m to ≡ Some v)
  SeatIn (Some (parts_lent to tag born g count rest)) spot v =
      ((spot ≡ spot_of to) × (held_at m to ≡ Some v)) ⊎ SeenAmong types s m rest count (field_spot (spot_of to)) spot v
  SeatIn other spot v = ⊥

  -- so it is in a root, or in one that was lent from it
  abbrev pub SeatedUnder : ℕ → Spot → Value → Type 0
  SeatedUnder k spot v =
      (d : ℕ) × Descends types clock scope act hold type under s m core k d × SeatIn (core.forest d) spot v

  abbrev LendsTo : ℕ → ℕ → Type 0
  LendsTo k g = Lends types clock scope act hold type under s m core k g

  further_seat : (k g : ℕ) (spot : Spot) (v : Value) → LendsTo k g → SeatedUnder g spot v → SeatedUnder k spot v
  further_seat k g spot v lent (d, way, seat) = (d, from_first types clock scope act hold type under s m core k g d lent way, seat)

  own_seat : (k : ℕ) (h : Held) (spot : Spot) (v : Value) → core.forest k ≡ Some h → SeatIn (Some h) spot v
      → SeatedUnder k spot v
  own_seat k h spot v e seat = (k, itself, subst (λ o. SeatIn o spot v) (sym e) seat)

  abbrev IsParts : ℕ → Loan → Place → ℕ → Option ℕ → ℕ → ℕ → Trees → Type 0
  IsParts k l to tag born g count rest = IsRooted types s core.forest m k l (parts_lent to tag born g count rest)

  -- a part that is here
  rest_child : (k : ℕ) (l : Loan) (to : Place) (tag : ℕ) (born : Option ℕ) (g count : ℕ) (rest : Trees)
      (r : IsParts k l to tag born g count rest) (i : ℕ) (x : Value) → count ≤ i → nth_field i r.1 ≡ Some x
      → (one : Tree) × (t : Meaning)
      × ((other : Tree) (spot : Spot) → Within one (field_spot (spot_of to) i) other spot
      → Among rest count (field_spot (spot_of to)) other spot) × Shows types s m x one × Has types s one t
  rest_child k l to tag born g count rest r i x h e = by (beyond count i h)
    where
      by : (j : ℕ) × (i ≡ count + j)
          → (one : Tree) × (t : Meaning)
          × ((other : Tree) (spot : Spot) → Within one (field_spot (spot_of to) i) other spot
          → Among rest count (field_spot (spot_of to)) other spot) × Shows types s m x one × Has types s one t
      by (j, is) =
          let one = one_of types s m (later count r.1) rest (drop count r.0) j x r.8 r.7
          (sym (later_nth count j r.1) ∙ ap (λ n. nth_field n r.1) (sym is) ∙ e) in (
            one.0,
            one.1,
            λ other spot within. nth_among j count rest (field_spot (spot_of to)) one.0 other spot one.2
                (subst (λ n. Within one.0 (field_spot (spot_of to) n) other spot) is within),
            one.3,
            one.4,
          )

  -- one that is lent
  record LentPart (k : ℕ) (to : Place) (g i : ℕ) : Type 0 where
    row : Loan
    has : s (g + i) ≡ Some row
    at : row.to ≡ part_at i to
    here : IsHere (core.forest (g + i))
    reads_not : ReadsNot row.via
    lent : LendsTo k (g + i)

  lent_part : (k : ℕ) (l : Loan) (to : Place) (tag : ℕ) (born : Option ℕ) (g count : ℕ) (rest : Trees)
      → IsParts k l to tag born g count rest → (i : ℕ) → i < count → LentPart k to g i
  lent_part k l to tag born g count rest r i below =
      let most = r.6 in
      let t = nth_there r.0 i (omega (arith, below, most)) in
      let part = r.10 i t.0 below t.1 in record {
        row = part.row;
        has = part.has;
        at = part.at;
        here = part.is_open;
        reads_not = part_not_read part.row.via k part.from;
        lent = part_child types clock scope act hold type under s m core k l.token (g + i) (part_at i to) t.0 part;
      }

  -- ---- what stands at the end of a path from the place of a root

  abbrev Later : ℕ → Type 0
  Later fuel =
      (g : ℕ) (n : Loan) (path : List ℕ) (v : Value) → core.top ≤ g + fuel → s g ≡ Some n → IsHere (core.forest g)
      → ReadsNot n.via → held_at m (place_along n.to path) ≡ Some v → SeatedUnder g (spot_of (place_along n.to path)) v

  pub seat_along : (fuel k : ℕ) (l : Loan) (path : List ℕ) (v : Value) → core.top ≤ k + fuel → s k ≡ Some l
      → IsHere (core.forest k) → ReadsNot l.via → held_at m (place_along l.to path) ≡ Some v
      → SeatedUnder k (spot_of (place_along l.to path)) v
  seat_along zero k l path v long row here reads_not held = by_held (core.forest k) refl here
    where
      by_held : (o : Option Held) → core.forest k ≡ o → IsHere o → SeatedUnder k (spot_of (place_along l.to path)) v
      by_held None e there = absurd there
      by_held (Some h) e there =
          let below = root_below types clock scope act hold type under s m core k h e in absurd (omega (arith, long, below))
  seat_along (suc fuel) k l path v long row here reads_not held =
      by_held (core.forest k) refl here
      (λ g n its w longer has there no stands. seat_along fuel g n its w longer has there no stands)
    where
      longer_yet : (g : ℕ) → LendsTo k g → core.top ≤ g + fuel
      longer_yet g lent =
          let later = child_later types clock scope act hold type under s m core k g lent in omega (arith, long, later)

      -- what stands at the place itself
      at_place : (to : Place) (w : Value) → to ≡ l.to → held_at m to ≡ Some w → part path w ≡ Some v
      at_place to w is there =
          sym (held_along m l.to path w (subst (λ p. held_at m p ≡ Some w) is there)) ∙ held

      all_held_there : (to : Place) (w : Value) → to ≡ l.to → held_at m to ≡ Some w → (path ≡ [])
          → (spot_of (place_along l.to path) ≡ spot_of to) × (held_at m to ≡ Some v)
      all_held_there to w is there none = (
        ap (λ p. spot_of (place_along l.to p)) none ∙ along_nil l.to ∙ ap spot_of (sym is),
        there ∙ subst (λ p. part p w ≡ Some v) none (at_place to w is there),
      )

      by_form : (h : Held) → core.forest k ≡ Some h → IsRooted types s core.forest m k l h → Later fuel
          → SeatedUnder k (spot_of (place_along l.to path)) v
      by_form (whole to tree) e r more =
          own_seat k (whole to tree) (spot_of (place_along l.to path)) v e
          (subst (λ p. Seen types s m tree (spot_of p) (spot_of (place_along l.to path)) v) (sym r.1)
          (part_seen types s m path tree l.type (spot_of l.to) r.0 v r.4 r.2 (at_place to r.0 r.1 r.3)))
      by_form (all_lent g) e r more =
          let child = lent_child types clock scope act hold type under s m core k g r.0 r.1 r.4 r.5 in
          further_seat k g (spot_of (place_along l.to path)) v child
          (subst (λ p. SeatedUnder g (spot_of (place_along p path)) v) r.2
          (more g r.0 path v (longer_yet g child) r.1 r.5 (lends_not_read r.0.via k r.4)
          (subst (λ p. held_at m (place_along p path) ≡ Some v) (sym r.2) held)))
      by_form (box_lent to born g) e r more = on path refl
        where
          on : (p : List ℕ) → path ≡ p → SeatedUnder k (spot_of (place_along l.to path)) v
          on [] is =
              own_seat k (box_lent to born g) (spot_of (place_along l.to path)) v e (all_held_there to (box born) r.1 r.3 is)
          on (i ∷ p) is = let no = subst (λ q. part q (box born) ≡ Some v) is (at_place to (box born) r.1 r.3) in absurd cc
      by_form (parts_lent to tag born g count rest) e r more = on path refl
        where
          found : (o : Option Value) (p : List ℕ) → along o (part p) ≡ Some v
              → (x : Value) × (o ≡ Some x) × (part p x ≡ Some v)
          found None p e = absurd cc
          found (Some x) p e = (x, refl, e)

          same_place : (i : ℕ) (p : List ℕ) → path ≡ i ∷ p → place_along (part_at i to) p ≡ place_along l.to path
          same_place i p is =
              ap (λ q. place_along (part_at i q) p) r.2
              ∙ ap (λ q. record { base = l.to.base; path = q }) (append_assoc l.to.path (i ∷ []) p)
              ∙ ap (place_along l.to) (sym is)

          on : (p : List ℕ) → path ≡ p → SeatedUnder k (spot_of (place_along l.to path)) v
          on [] is =
              own_seat k (parts_lent to tag born g count rest) (spot_of (place_along l.to path)) v e
              (inl (all_held_there to (made tag born r.1) r.2 r.9 is))
          on (i ∷ p) is =
              let its = found (nth_field i r.1) p
              (subst (λ q. part q (made tag born r.1) ≡ Some v) is (at_place to (made tag born r.1) r.2 r.9)) in
              to_part its.0 its.1 its.2 (cases_lt i count)
            where
              to_part : (x : Value) → nth_field i r.1 ≡ Some x → part p x ≡ Some v → (i < count) ⊎ (count ≤ i)
                  → SeatedUnder k (spot_of (place_along l.to path)) v
              to_part x there rest_of (inl below) =
                  let part_here = lent_part k l to tag born g count rest r i below in
                  let place : place_along part_here.row.to p ≡ place_along l.to path =
                  ap (λ q. place_along q p) part_here.at ∙ same_place i p is in
                  further_seat k (g + i) (spot_of (place_along l.to path)) v part_here.lent
                  (subst (λ q. SeatedUnder (g + i) (spot_of q) v) place
                  (more (g + i) part_here.row p v (longer_yet (g + i) part_here.lent) part_here.has part_here.here
                  part_here.reads_not (subst (λ q. held_at m q ≡ Some v) (sym place) held)))
              to_part x there rest_of (inr above) =
                  let one = rest_child k l to tag born g count rest r i x above there in
                  let its = part_seen types s m p one.0 one.1 (field_spot (spot_of to) i) x v one.3 one.4 rest_of in
                  own_seat k (parts_lent to tag born g count rest) (spot_of (place_along l.to path)) v e
                  (inr (
                    its.0,
                    its.1,
                    subst (λ q. Among rest count (field_spot (spot_of to)) its.0 (spot_of q)) (same_place i p is)
                        (one.2 its.0 (spot_along (field_spot (spot_of to) i) p) its.2),
                    its.3,
                    its.4,
                  ))
      by_form watching e r more = absurd (reads_not r.0 r.1 r.2)

      by_held : (o : Option Held) → core.forest k ≡ o → IsHere o → Later fuel
          → SeatedUnder k (spot_of (place_along l.to path)) v
      by_held None e there more = absurd there
      by_held (Some h) e there more =
          by_form h e (rooted_by types clock scope act hold type under s m core k l h row e) more

  -- ---- what is held

  abbrev Seated : Spot → Value → Type 0
  Seated spot v = (d : ℕ) × SeatIn (core.forest d) spot v

  seated : (k : ℕ) (spot : Spot) (v : Value) → SeatedUnder k spot v → Seated spot v
  seated k spot v (d, way, seat) = (d, seat)

  open_root : (k : ℕ) (o : Option Held) → core.forest k ≡ o → IsHere o → IsHere (core.forest k)
  open_root k o e here = subst IsHere (sym e) here

  -- the root of a name that holds something
  name_root : (frame x : ℕ) (v : Value) → m.at (name_of frame x) ≡ Some v
      → IsNameRow s (core.root frame x) frame x (type frame x) × IsHere (core.forest (core.root frame x))
  name_root frame x v e = by (hold frame x) (core.names frame x)
    where
      by_via : (g z : ℕ) (via : Via)
          → IsLent core.forest hold core.root (λ id. in_forest id core.top core.forest + in_list id core.trees) g z via
          → Shuts via (core.root frame x) → IsHere (core.forest (core.root frame x))
      by_via g z (lent_of k) lent is =
          subst (λ (j : ℕ). IsHere (core.forest j)) is (open_root k (Some (all_lent g)) lent.0 tt)
      by_via g z (lent_through holder k) lent is =
          subst (λ (j : ℕ). IsHere (core.forest j)) is
          (open_root holder (Some (whole lent.0 (a_writer k))) lent.1 tt)
      by_via g z named lent is = absurd is
      by_via g z (part_of k) lent is = absurd is
      by_via g z (reading k tree) lent is = absurd is

      by : (h : Hold) → NameStands types s core.forest m core.root frame x (type frame x) h
          → IsNameRow s (core.root frame x) frame x (type frame x) × IsHere (core.forest (core.root frame x))
      by empty stands = absurd cc
      by ready stands =
          (stands.0, open_root (core.root frame x) (Some (whole stands.1.0 stands.1.1)) stands.1.2 tt)
      by (watched tokens) stands =
          (stands.0, open_root (core.root frame x) (Some (whole stands.1.0 stands.1.1)) stands.1.2 tt)
      by (shut z) stands =
          let g = stands.1.0 in
          let l = stands.1.1 in
          (stands.0, by_via g l.token l.via (core.lent g l stands.1.2 stands.1.4) stands.1.5)

  whole_fuel : (k : ℕ) → core.top ≤ k + core.top
  whole_fuel k = omega arith

  -- what stands at the place of a root
  seat_at : (k : ℕ) (l : Loan) (to : Place) (v : Value) → l.to ≡ to → s k ≡ Some l → IsHere (core.forest k)
      → ReadsNot l.via → held_at m to ≡ Some v → Seated (spot_of to) v
  seat_at k l to v at row here reads_not held =
      subst (λ q. Seated q v) (along_nil l.to ∙ ap spot_of at)
      (seated k (spot_of (place_along l.to [])) v
      (seat_along core.top k l [] v (whole_fuel k) row here reads_not
      (ap (λ p. held_at m (record { base = l.to.base; path = p })) (append-nil l.to.path)
      ∙ ap (held_at m) at ∙ held)))

  name_seat : (frame x : ℕ) (v : Value) → m.at (name_of frame x) ≡ Some v → Seated (all_of (in_name frame x)) v
  name_seat frame x v e =
      let its = name_root frame x v e in
      seat_at (core.root frame x) its.0.row (name_along frame x []) v its.0.at its.0.has its.1
      (λ from tree is. let no = sym its.0.is_named ∙ is in absurd cc)
      (all_held m (name_of frame x) ∙ e)

  -- a field of what has a seat
  field_seat : (at : Spot) (tag : ℕ) (born : Option ℕ) (parts : Fields (List ℕ)) (i : ℕ) (v : Value) (d : ℕ)
      → SeatIn (core.forest d) at (made tag born parts) → nth_field i parts ≡ Some v → Seated (field_spot at i) v
  field_seat at tag born parts i v d seat e = by (core.forest d) refl seat
    where
      own : (h : Held) → core.forest d ≡ Some h → SeatIn (Some h) (field_spot at i) v → Seated (field_spot at i) v
      own h is its = (d, subst (λ o. SeatIn o (field_spot at i) v) (sym is) its)

      by : (o : Option Held) → core.forest d ≡ o → SeatIn o at (made tag born parts) → Seated (field_spot at i) v
      by (Some (whole to tree)) is (one, t, within, shows, has) =
          let child = field_child types s m one t tag born parts i v shows has e in
          own (whole to tree) is (
            child.0,
            child.1,
            within_on tree (spot_of to) one at child.0 (field_spot at i) within (child.2 at),
            child.3,
            child.4,
          )
      by (Some (box_lent to its g)) is (same, there) =
          let r = core.rooted d (box_lent to its g) is in let no = sym r.2.3 ∙ there in absurd cc
      by (Some (parts_lent to its_tag its g count rest)) is (inr (one, t, within, shows, has)) =
          let child = field_child types s m one t tag born parts i v shows has e in
          own (parts_lent to its_tag its g count rest) is
          (inr (
            child.0,
            child.1,
            among_on rest count (field_spot (spot_of to)) one at child.0 (field_spot at i) within (child.2 at),
            child.3,
            child.4,
          ))
      by (Some (parts_lent to its_tag its g count rest)) is (inl (same, there)) = on (cases_lt i count)
        where
          rooted : (l : Loan) × (s d ≡ Some l) × IsRooted types s core.forest m d l (parts_lent to its_tag its g count rest)
          rooted = core.rooted d (parts_lent to its_tag its g count rest) is

          same_parts : parts ≡ rooted.2.1
          same_parts = let both = sym there ∙ rooted.2.9 in cc

          on : (i < count) ⊎ (count ≤ i) → Seated (field_spot at i) v
          on (inl below) =
              let its_part = lent_part d rooted.0 to its_tag its g count rest rooted.2 i below in
              subst (λ q. Seated (field_spot q i) v) (sym same)
              (seat_at (g + i) its_part.row (part_at i to) v its_part.at its_part.has its_part.here its_part.reads_not
              (part_stands m to i (made tag born parts) there ∙ e))
          on (inr above) =
              let one = rest_child d rooted.0 to its_tag its g count rest rooted.2 i v above
              (ap (nth_field i) (sym same_parts) ∙ e) in
              own (parts_lent to its_tag its g count rest) is
              (inr (
                one.0,
                one.1,
                subst (λ q. Among rest count (field_spot (spot_of to)) one.0 (field_spot q i)) (sym same)
                    (one.2 one.0 (field_spot (spot_of to) i) (within_self one.0 (field_spot (spot_of to) i))),
                one.3,
                one.4,
              ))
      by (Some (all_lent g)) is its = absurd its
      by (Some watching) is its = absurd its
      by None is its = absurd its

  -- what lies in a box that has a seat
  box_seat : (at : Spot) (i : ℕ) (v : Value) (d : ℕ) → SeatIn (core.forest d) at (box i) → m.at (content_of i) ≡ Some v
      → Seated (all_of (in_box i)) v
  box_seat at i v d seat e = by (core.forest d) refl seat
    where
      own : (h : Held) → core.forest d ≡ Some h → SeatIn (Some h) (all_of (in_box i)) v → Seated (all_of (in_box i)) v
      own h is its = (d, subst (λ o. SeatIn o (all_of (in_box i)) v) (sym is) its)

      by : (o : Option Held) → core.forest d ≡ o → SeatIn o at (box i) → Seated (all_of (in_box i)) v
      by (Some (whole to tree)) is (one, t, within, shows, has) =
          let child = box_child types s m one t i v shows has e in
          own (whole to tree) is (
            child.0,
            child.1,
            within_on tree (spot_of to) one at child.0 (all_of (in_box i)) within (child.2 at),
            child.3,
            child.4,
          )
      by (Some (box_lent to born g)) is (same, there) =
          let r = core.rooted d (box_lent to born g) is in
          let number : born ≡ i = let both = sym r.2.3 ∙ there in cc in
          let part = r.2.4 in
          seat_at g part.row (content_place i) v (part.at ∙ ap content_place number) part.has part.is_open
          (part_not_read part.row.via d part.from) (all_held m (content_of i) ∙ e)
      by (Some (parts_lent to tag born g count rest)) is (inl (same, there)) =
          let r = core.rooted d (parts_lent to tag born g count rest) is in let no = sym r.2.9 ∙ there in absurd cc
      by (Some (parts_lent to tag born g count rest)) is (inr (one, t, within, shows, has)) =
          let child = box_child types s m one t i v shows has e in
          own (parts_lent to tag born g count rest) is
          (inr (
            child.0,
            child.1,
            among_on rest count (field_spot (spot_of to)) one at child.0 (all_of (in_box i)) within (child.2 at),
            child.3,
            child.4,
          ))
      by (Some (all_lent g)) is its = absurd its
      by (Some watching) is its = absurd its
      by None is its = absurd its

  -- an element of a buffer that has a seat
  item_seat : (at : Spot) (b : ℕ) (items : List Value) (i : ℕ) (v : Value) (d : ℕ)
      → SeatIn (core.forest d) at (buffer b) → m.elements b ≡ Some items → slice_get items i ≡ Some v
      → Seated (all_of (in_buffer b i)) v
  item_seat at b items i v d seat e at_i = by (core.forest d) refl seat
    where
      own : (h : Held) → core.forest d ≡ Some h → SeatIn (Some h) (all_of (in_buffer b i)) v
          → Seated (all_of (in_buffer b i)) v
      own h is its = (d, subst (λ o. SeatIn o (all_of (in_buffer b i)) v) (sym is) its)

      by : (o : Option Held) → core.forest d ≡ o → SeatIn o at (buffer b) → Seated (all_of (in_buffer b i)) v
      by (Some (whole to tree)) is (one, t, within, shows, has) =
          let child = item_child types s m one t b items i v shows has e at_i in
          own (whole to tree) is (
            child.0,
            child.1,
            within_on tree (spot_of to) one at child.0 (all_of (in_buffer b i)) within (child.2 at),
            child.3,
            child.4,
          )
      by (Some (box_lent to born g)) is (same, there) =
          let r = core.rooted d (box_lent to born g) is in let no = sym r.2.3 ∙ there in absurd cc
      by (Some (parts_lent to tag born g count rest)) is (inl (same, there)) =
          let r = core.rooted d (parts_lent to tag born g count rest) is in let no = sym r.2.9 ∙ there in absurd cc
      by (Some (parts_lent to tag born g count rest)) is (inr (one, t, within, shows, has)) =
          let child = item_child types s m one t b items i v shows has e at_i in
          own (parts_lent to tag born g count rest) is
          (inr (
            child.0,
            child.1,
            among_on rest count (field_spot (spot_of to)) one at child.0 (all_of (in_buffer b i)) within (child.2 at),
            child.3,
            child.4,
          ))
      by (Some (all_lent g)) is its = absurd its
      by (Some watching) is its = absurd its
      by None is its = absurd its

  -- What is held has a seat.
  pub held_seat : (spot : Spot) (v : Value) → IsHeldAt m spot v → Seated spot v
  held_seat spot v (of_name frame x w e) = name_seat frame x w e
  held_seat spot v (of_field at tag born parts i w inner e) =
      let its = held_seat at (made tag born parts) inner in field_seat at tag born parts i w its.0 its.1 e
  held_seat spot v (of_box at i w inner e) =
      let its = held_seat at (box i) inner in box_seat at i w its.0 its.1 e
  held_seat spot v (of_buffer at b items i w inner e at_i) =
      let its = held_seat at (buffer b) inner in item_seat at b items i w its.0 its.1 e at_i

  -- ---- references

  -- the reference of a loan that writes stands at a spot
  abbrev pub StandsIn : Option Held → ℕ → Spot → Type 0
  StandsIn (Some (whole to tree)) g spot = Within tree (spot_of to) (a_writer g) spot
  StandsIn (Some (parts_lent to tag born h count rest)) g spot =
      Among rest count (field_spot (spot_of to)) (a_writer g) spot
  StandsIn other g spot = ⊥

  -- the loan of a reference: one that writes, or one that reads
  pub record IsOfWriter (g b : ℕ) (p : Place) : Type 0 where
    pub row : Loan
    pub has : s g ≡ Some row
    pub writes : IsWriter row.via
    pub borrow : row.borrow ≡ b
    pub at : row.to ≡ p

  pub record IsOfReader (b : ℕ) : Type 0 where
    pub loan : ℕ
    pub row : Loan
    pub has : s loan ≡ Some row
    pub from : ℕ
    pub tree : Tree
    pub via : row.via ≡ reading from tree
    pub borrow : row.borrow ≡ b

  abbrev Refers : Tree → ℕ → Place → Type 0
  Refers one b p = ((g : ℕ) × (one ≡ a_writer g) × IsOfWriter g b p) ⊎ IsOfReader b

  refers : (one : Tree) (t : Meaning) (b : ℕ) (p : Place) → Shows types s m (reference b p) one → Has types s one t
      → Refers one b p
  refers (a_writer g) t b p (l, row, is) (n, its, writes, typed) =
      let same : n ≡ l = cc in
      let alike : l.borrow ≡ b = cc in
      let at : l.to ≡ p = cc in
      inl (
        g,
        refl,
        record { row = l; has = row; writes = subst (λ (x : Loan). IsWriter x.via) same writes; borrow = alike; at = at },
      )
  refers (a_reader g steps) t b p (l, one, leads, is) has =
      let alike : l.borrow ≡ b = cc in
      inr (record {
        loan = g;
        row = l;
        has = leads.row;
        from = leads.from;
        tree = leads.tree;
        via = leads.via;
        borrow = alike;
      })
  refers (a_plain w) t b p shows has = absurd (subst (λ x. IsPlain x t) (sym shows) has)
  refers (a_made tag born all) t b p shows has = let no = shows.1 in absurd cc
  refers (a_box its content) t b p shows has = let no = shows.1 in absurd cc
  refers (a_buffer its all) t b p shows has = let no = shows.1 in absurd cc
  refers (a_terminal its) t b p shows has = absurd cc
  refers (a_root its) t b p shows has = absurd cc

  -- A reference that is held is that of a loan that writes, and stands in a root, or it is one that reads.
  abbrev pub Referred : Spot → ℕ → Place → Type 0
  Referred spot b p =
      ((g : ℕ) × (d : ℕ) × StandsIn (core.forest d) g spot × IsOfWriter g b p) ⊎ IsOfReader b

  seat_refers : (spot : Spot) (b : ℕ) (p : Place) (d : ℕ) → SeatIn (core.forest d) spot (reference b p) → Referred spot b p
  seat_refers spot b p d seat = by (core.forest d) refl seat
    where
      stands : (h : Held) (g : ℕ) → core.forest d ≡ Some h → StandsIn (Some h) g spot → StandsIn (core.forest d) g spot
      stands h g is its = subst (λ o. StandsIn o g spot) (sym is) its

      by : (o : Option Held) → core.forest d ≡ o → SeatIn o spot (reference b p) → Referred spot b p
      by (Some (whole to tree)) is (one, t, within, shows, has) = on (refers one t b p shows has)
        where
          on : Refers one b p → Referred spot b p
          on (inl (g, same, its)) =
              inl (
                g,
                d,
                stands (whole to tree) g is (subst (λ u. Within tree (spot_of to) u spot) same within),
                its,
              )
          on (inr its) = inr its
      by (Some (box_lent to born g)) is (same, there) =
          let r = core.rooted d (box_lent to born g) is in let no = sym r.2.3 ∙ there in absurd cc
      by (Some (parts_lent to tag born h count rest)) is (inl (same, there)) =
          let r = core.rooted d (parts_lent to tag born h count rest) is in let no = sym r.2.9 ∙ there in absurd cc
      by (Some (parts_lent to tag born h count rest)) is (inr (one, t, within, shows, has)) =
          on (refers one t b p shows has)
        where
          on : Refers one b p → Referred spot b p
          on (inl (g, same, its)) =
              inl (
                g,
                d,
                stands (parts_lent to tag born h count rest) g is
                    (subst (λ u. Among rest count (field_spot (spot_of to)) u spot) same within),
                its,
              )
          on (inr its) = inr its
      by (Some (all_lent g)) is its = absurd its
      by (Some watching) is its = absurd its
      by None is its = absurd its

  pub held_refers : (spot : Spot) (b : ℕ) (p : Place) → IsHeldAt m spot (reference b p) → Referred spot b p
  held_refers spot b p held = let its = held_seat spot (reference b p) held in seat_refers spot b p its.0 its.1

  -- ---- a loan's reference stands at one spot

  abbrev root_of : ℕ → ℕ → ℕ
  root_of g d = in_root (writer g) (core.forest d)

  stands_below : (g d : ℕ) (spot : Spot) → StandsIn (core.forest d) g spot → (d < core.top) × (1 ≤ root_of g d)
  stands_below g d spot stands = by (core.forest d) refl stands
    where
      own : (h : Held) → core.forest d ≡ Some h → 1 ≤ in_root (writer g) (Some h) → (d < core.top) × (1 ≤ root_of g d)
      own h is some = (
        root_below types clock scope act hold type under s m core d h is,
        subst (λ o. 1 ≤ in_root (writer g) o) (sym is) some,
      )

      by : (o : Option Held) → core.forest d ≡ o → StandsIn o g spot → (d < core.top) × (1 ≤ root_of g d)
      by (Some (whole to tree)) is its =
          let some = within_count (writer g) tree (spot_of to) (a_writer g) spot its in
          let self = writer_in g in
          own (whole to tree) is (omega (arith, some, self))
      by (Some (parts_lent to tag born h count rest)) is its =
          let some = among_count (writer g) rest count (field_spot (spot_of to)) (a_writer g) spot its in
          let self = writer_in g in
          own (parts_lent to tag born h count rest) is (omega (arith, some, self))
      by (Some (box_lent to born h)) is its = absurd its
      by (Some (all_lent h)) is its = absurd its
      by (Some watching) is its = absurd its
      by None is its = absurd its

  pub stands_counted : (g d : ℕ) (spot : Spot) → StandsIn (core.forest d) g spot
      → 1 ≤ in_forest (writer g) core.top core.forest
  stands_counted g d spot stands =
      let its = stands_below g d spot stands in
      let all = total_has (writer g) core.top d core.forest its.0 in
      let some = its.1 in
      omega (arith, all, some)

  pub stands_once : (g d e : ℕ) (one two : Spot) → StandsIn (core.forest d) g one → StandsIn (core.forest e) g two
      → one ≡ two
  stands_once g d e one two first second = by (cases_eq e d)
    where
      most : in_forest (writer g) core.top core.forest ≤ 1
      most = let all = core.once (writer g) in omega (arith, all)

      same_root : (o : Option Held) → in_root (writer g) o ≤ 1 → StandsIn o g one → StandsIn o g two → one ≡ two
      same_root (Some (whole to tree)) little a b = one_spot g tree (spot_of to) one two (omega (arith, little)) a b
      same_root (Some (parts_lent to tag born h count rest)) little a b =
          one_among g rest count (field_spot (spot_of to)) one two (omega (arith, little)) a b
      same_root (Some (box_lent to born h)) little a b = absurd a
      same_root (Some (all_lent h)) little a b = absurd a
      same_root (Some watching) little a b = absurd a
      same_root None little a b = absurd a

      by : (e ≡ d) ⊎ (e ≡ d → ⊥) → one ≡ two
      by (inl same) =
          let its = stands_below g d one first in
          let all = total_has (writer g) core.top d core.forest its.0 in
          same_root (core.forest d) (omega (arith, all, most)) first
          (subst (λ k. StandsIn (core.forest k) g two) same second)
      by (inr differ) =
          let its = stands_below g d one first in
          let also = stands_below g e two second in
          let both = total_two (writer g) core.top d e core.forest differ its.0 also.0 in
          let some = its.1 in
          let more = also.1 in
          absurd (omega (arith, both, some, more, most))
