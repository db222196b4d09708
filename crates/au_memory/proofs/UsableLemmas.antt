-- A write reference that is held, and whose token is in scope, may be used: its root is whole. And two that are
-- held lead to places of which neither covers the other.
use Rattle.std.proofs.Common.{◌≡◌, ◌⊎◌, inl, inr, ℕ, ◌+◌, ◌≤◌, ◌<◌, Bool, true, List, [], ◌∷◌, length}
use Rattle.std.proofs.Common.{refl, ap, subst, arith}
use Rattle.std.specs.Prelude.{Option, Some, None, slice_get}
use Rattle.std.proofs.lemmas.Bool.{cases_lt}
use Rattle.au_effects.specs.Values.{Place}
use Rattle.au_places.specs.Memories.{Memory, held_at}
use Rattle.au_places.specs.Places.{Id, writer, cell_of, in_place, content_place, part_at}
use Rattle.au_places.proofs.PlaceLemmas.{node_self}
use Rattle.au_types.specs.Types.{Meaning}
use Rattle.au_memory.specs.Trees.{Tree, a_writer}
use Rattle.au_memory.specs.Loans.{Types, Loan, Table, Via, named, lent_of, lent_through, part_of, reading}
use Rattle.au_memory.specs.Loans.{IsLoan, IsWriter}
use Rattle.au_memory.specs.Forests.{Held, Holds, Made, whole, all_lent, box_lent, parts_lent, watching}
use Rattle.au_memory.specs.Forests.{shut, IsHere, IsPart, IsRooted, Names, IsLent, NameStands, Core, Usable}
use Rattle.au_memory.specs.Forests.{in_root, in_forest, in_list}
use Rattle.au_memory.proofs.CountLemmas.{writer_in}
use Rattle.au_memory.proofs.TotalLemmas.{total_has, total_two}

pub writer_is_loan : (via : Via) → IsWriter via → IsLoan via
writer_is_loan named w = absurd w
writer_is_loan (lent_of k) w = tt
writer_is_loan (lent_through holder k) w = tt
writer_is_loan (part_of k) w = tt
writer_is_loan (reading k tree) w = absurd w

-- what there is one of at least is there
pub first_of_some : {A : Type 0} (xs : List A) → 1 ≤ length xs → (x : A) × (slice_get xs 0 ≡ Some x)
first_of_some [] h = absurd (omega arith)
first_of_some (x ∷ xs) h = (x, refl)

module _ (types : Types) (clock : ℕ) (scope act : ℕ → Bool) (hold : Holds) (type : ℕ → ℕ → Meaning)
    (under : Made) (s : Table) (m : Memory (List ℕ)) (core : Core types clock scope act hold type under s m) where
  -- how often an id counts in all
  abbrev pub count : Id → ℕ
  count id = in_forest id core.top core.forest + in_list id core.trees

  -- a root that is here is below the top
  pub root_below : (k : ℕ) (h : Held) → core.forest k ≡ Some h → k < core.top
  root_below k h e = by (cases_lt k core.top)
    where
      by : (k < core.top) ⊎ (core.top ≤ k) → k < core.top
      by (inl below) = below
      by (inr above) =
          let r = core.rooted k h e in
          let none = core.known k above in
          absurd cc

  -- the row of a name is none of a loan
  pub name_row : (frame x k : ℕ) (z : ℕ) (l : Loan) → core.root frame x ≡ k → hold frame x ≡ shut z → s k ≡ Some l
      → l.via ≡ named
  name_row frame x k z l is held row =
      let stands = subst (λ h. NameStands types s core.forest m core.root frame x (type frame x) h) held
      (core.names frame x) in
      let own = stands.0 in
      let there : s k ≡ Some own.row = subst (λ j. s j ≡ Some own.row) is own.has in
      let same : own.row ≡ l = cc in
      subst (λ (r : Loan). r.via ≡ named) same own.is_named

  -- A reference that is somewhere, and in no name that is shut.
  module _ (g : ℕ) (l : Loan) (row : s g ≡ Some l) (writes : IsWriter l.via) (held : 1 ≤ count (writer g))
      (open_held : (holder z : ℕ) (to : Place) → core.forest holder ≡ Some (whole to (a_writer g))
      → Names hold core.root holder (λ h. h ≡ shut z) → ⊥) where
    not_named : l.via ≡ named → ⊥
    not_named e = subst IsWriter e writes

    not_lent : (k z : ℕ) (via : Via) → (via ≡ lent_of g) ⊎ ((holder : ℕ) × (via ≡ lent_through holder g))
        → IsLent core.forest hold core.root count k z via → ⊥
    not_lent k z via (inl e) lent =
        let from = subst (λ v. IsLent core.forest hold core.root count k z v) e lent in
        not_named (name_row from.1.frame from.1.name g z l from.1.is from.1.holds row)
    not_lent k z via (inr pair) lent =
        let from = subst (λ v. IsLent core.forest hold core.root count k z v) pair.1 lent in
        open_held pair.0 z from.0 from.1 from.3

    not_part : (k y : ℕ) (to : Place) (t : Meaning) → IsPart types s core.forest m g y k to t → ⊥
    not_part k y to t part =
        let lent = core.lent k part.row part.has part.is_open in
        let from = subst (λ v. IsLent core.forest hold core.root count k part.row.token v) part.from lent in
        let none = from.1 in
        omega arith

    by_rooted : (h : Held) → core.forest g ≡ Some h → IsRooted types s core.forest m g l h
        → Usable types s core.forest m g l
    by_rooted (whole to tree) e r = record {
      tree = tree;
      value = r.0;
      here = subst (λ p. core.forest g ≡ Some (whole p tree)) r.1 e;
      typed = r.2;
      there = subst (λ p. held_at m p ≡ Some r.0) r.1 r.3;
      shown = r.4;
    }
    by_rooted (all_lent k) e r = absurd (not_lent k r.0.token r.0.via r.4 (core.lent k r.0 r.1 r.5))
    by_rooted (box_lent to born k) e r = absurd (not_part k l.token (content_place born) r.0 r.4)
    by_rooted (parts_lent to tag born k n rest) e r =
        let some = r.5 in
        let all = r.6 in
        let first = first_of_some r.0 (omega arith) in
        absurd (not_part (k + 0) l.token (part_at 0 to) first.0 (r.10 0 first.0 (omega arith) first.1))
    by_rooted watching e r = absurd (subst IsWriter r.2 writes)

    by_held : (o : Option Held) → core.forest g ≡ o → IsHere o → Usable types s core.forest m g l
    by_held None e here = absurd here
    by_held (Some h) e here =
        let r = core.rooted g h e in
        let has : s g ≡ Some r.0 = r.1 in
        let same : r.0 ≡ l = cc in
        by_rooted h e (subst (λ n. IsRooted types s core.forest m g n h) same r.2)

    pub usable_if : scope l.token ≡ true → Usable types s core.forest m g l
    usable_if scoped =
        by_held (core.forest g) refl (core.live g l row (writer_is_loan l.via writes) scoped)

  -- One that is under way lies in no name, since it would count twice.
  pub usable : (g : ℕ) (l : Loan) → s g ≡ Some l → IsWriter l.via → 1 ≤ in_list (writer g) core.trees
      → scope l.token ≡ true → Usable types s core.forest m g l
  usable g l row writes held scoped = usable_if g l row writes (omega arith) once scoped
    where
      once : (holder z : ℕ) (to : Place) → core.forest holder ≡ Some (whole to (a_writer g))
          → Names hold core.root holder (λ h. h ≡ shut z) → ⊥
      once holder z to e whose =
          let has = total_has (writer g) core.top holder core.forest (root_below holder (whole to (a_writer g)) e) in
          let there = ap (in_root (writer g)) e in
          let own = writer_in g in
          let most = core.once (writer g) in
          omega arith

  -- of two roots that are whole no place of the one is covered by the other's
  pub whole_apart : (g h : ℕ) (to at : Place) (t u : Tree) → (h ≡ g → ⊥) → core.forest g ≡ Some (whole to t)
      → core.forest h ≡ Some (whole at u) → in_place (cell_of to) at ≡ 0
  whole_apart g h to at t u differ e d =
      let two = total_two (cell_of to) core.top g h core.forest differ (root_below g (whole to t) e)
      (root_below h (whole at u) d) in
      let first = ap (in_root (cell_of to)) e in
      let second = ap (in_root (cell_of to)) d in
      let own = node_self to 0 in
      let once = core.once (cell_of to) in
      omega arith
