-- Roots that were lent from a root, and what counts in them.
use Rattle.std.proofs.Common.{◌≡◌, ◌⊎◌, inl, inr, ℕ, zero, suc, ◌+◌, ◌≤◌, ◌<◌, Bool, List, [], ◌∷◌, length, refl, sym, ap, ◌∙◌, subst}
use Rattle.std.proofs.Common.{arith}
use Rattle.std.specs.Prelude.{Option, Some, None, slice_get}
use Rattle.au_effects.specs.Values.{Place}
use Rattle.au_places.specs.Memories.{Memory}
use Rattle.au_places.specs.Places.{Id, in_node, in_place, part_at}
use Rattle.au_places.proofs.PlaceLemmas.{split_place}
use Rattle.au_types.specs.Types.{Meaning}
use Rattle.au_memory.specs.Loans.{Loan, Table, Types, Via, part_of, parent_of, reading}
use Rattle.au_memory.specs.Forests.{Core, Held, Holds, IsHere, IsPart, IsRooted, LendsAll, Made, all_lent, box_lent, in_root}
use Rattle.au_memory.specs.Forests.{parts_lent, watching, whole}
use Rattle.au_memory.specs.Trees.{Tree}
use Rattle.au_memory.proofs.UsableLemmas.{root_below}

-- ---- lists

pub nth_there : {A : Type 0} (xs : List A) (i : ℕ) → i < length xs → (x : A) × (slice_get xs i ≡ Some x)
nth_there [] i h = absurd (omega (arith, h))
nth_there (x ∷ xs) zero h = (x, refl)
nth_there (x ∷ xs) (suc i) h = nth_there xs i (omega (arith, h))

-- what counts at a place counts at what is left of it, or at one of its first parts
pub part_counts : (id : Id) (to : Place) (n : ℕ) → 1 ≤ in_place id to
    → (1 ≤ in_node n id to) ⊎ ((j : ℕ) × (j < n) × (1 ≤ in_place id (part_at j to)))
part_counts id to zero h = inl h
part_counts id to (suc n) h = by (part_counts id to n h)
  where
    last : (a b : ℕ) → 1 ≤ a + b → (1 ≤ a) ⊎ (1 ≤ b)
    last zero b h = inr (omega (arith, h))
    last (suc a) b h = inl (omega arith)

    by : (1 ≤ in_node n id to) ⊎ ((j : ℕ) × (j < n) × (1 ≤ in_place id (part_at j to)))
        → (1 ≤ in_node (suc n) id to) ⊎ ((j : ℕ) × (j < suc n) × (1 ≤ in_place id (part_at j to)))
    by (inr (j, below, there)) = inr (j, omega (arith, below), there)
    by (inl some) = on (last (in_node (suc n) id to) (in_place id (part_at n to)) (both some))
      where
        both : 1 ≤ in_node n id to → 1 ≤ in_node (suc n) id to + in_place id (part_at n to)
        both one = let split = split_place id to n in omega (arith, one, split)

        on : (1 ≤ in_node (suc n) id to) ⊎ (1 ≤ in_place id (part_at n to))
            → (1 ≤ in_node (suc n) id to) ⊎ ((j : ℕ) × (j < suc n) × (1 ≤ in_place id (part_at j to)))
        on (inl left) = inl left
        on (inr part) = inr (n, omega arith, part)

-- a root isn't one of a read borrow
abbrev pub ReadsNot : Via → Type 0
ReadsNot via = (from : ℕ) (tree : Tree) → via ≡ reading from tree → ⊥

pub lends_not_read : (via : Via) (k : ℕ) → LendsAll via k → ReadsNot via
lends_not_read via k (inl e) from tree is = let no = sym e ∙ is in absurd cc
lends_not_read via k (inr (holder, e)) from tree is = let no = sym e ∙ is in absurd cc

pub part_not_read : (via : Via) (k : ℕ) → via ≡ part_of k → ReadsNot via
part_not_read via k e from tree is = let no = sym e ∙ is in absurd cc

pub lends_parent : (via : Via) (k : ℕ) → LendsAll via k → parent_of via ≡ Some k
lends_parent via k (inl e) = ap parent_of e
lends_parent via k (inr (holder, e)) = ap parent_of e

module _ (types : Types) (clock : ℕ) (scope act : ℕ → Bool) (hold : Holds) (type : ℕ → ℕ → Meaning)
    (under : Made) (s : Table) (m : Memory (List ℕ)) (core : Core types clock scope act hold type under s m) where
  -- a root was lent from another to write, and is here
  abbrev pub Lends : ℕ → ℕ → Type 0
  Lends k g =
      (n : Loan) × (s g ≡ Some n) × (parent_of n.via ≡ Some k) × IsHere (core.forest g) × ReadsNot n.via

  -- so were others, one from the other
  pub data Descends (k : ℕ) : ℕ → Type 0 where
    itself : Descends k k
    further : (g h : ℕ) → Descends k g → Lends g h → Descends k h

  pub from_first : (k g h : ℕ) → Lends k g → Descends g h → Descends k h
  from_first k g h first itself = further k g itself first
  from_first k g h first (further one two way last) = further one h (from_first k g one first way) last

  pub onward : (k g h : ℕ) → Descends k g → Descends g h → Descends k h
  onward k g h way itself = way
  onward k g h way (further one two more last) = further one h (onward k g one way more) last

  -- the last of them, and the first
  pub last_of : (k h : ℕ) → Descends k h → (k ≡ h) ⊎ ((g : ℕ) × Lends g h)
  last_of k h itself = inl refl
  last_of k h (further one two way last) = inr (one, last)

  pub first_of : (k h : ℕ) → Descends k h → (k ≡ h) ⊎ ((g : ℕ) × Lends k g × Descends g h)
  first_of k h itself = inl refl
  first_of k h (further one two way last) = by (first_of k one way)
    where
      by : (k ≡ one) ⊎ ((g : ℕ) × Lends k g × Descends g one) → (k ≡ h) ⊎ ((g : ℕ) × Lends k g × Descends g h)
      by (inl same) = inr (h, subst (λ j. Lends j h) (sym same) last, itself)
      by (inr (g, lent, more)) = inr (g, lent, further one h more last)

  -- each was lent from one
  one_parent : (one two h : ℕ) → Lends one h → Lends two h → one ≡ two
  one_parent one two h (n, row, parent, here, writes) (l, its, other, there, also) =
      let same : n ≡ l = cc in
      let both : Some one ≡ Some two = sym parent ∙ ap (λ (x : Loan). parent_of x.via) same ∙ other in cc

  -- two of which one was lent from both: one of them was lent from the other
  pub in_line : (j k h : ℕ) → Descends j h → Descends k h → Descends j k ⊎ Descends k j
  in_line j k h itself other = inr other
  in_line j k h (further one last way lent) itself = inl (further one h way lent)
  in_line j k h (further one last way lent) (further two end its also) =
      in_line j k one way (subst (Descends k) (sym (one_parent one two h lent also)) its)

  -- the row of a root is what its root is by
  pub rooted_by : (k : ℕ) (l : Loan) (h : Held) → s k ≡ Some l → core.forest k ≡ Some h
      → IsRooted types s core.forest m k l h
  rooted_by k l h row e =
      let r = core.rooted k h e in
      let its : s k ≡ Some r.0 = r.1 in
      let same : r.0 ≡ l = cc in
      subst (λ n. IsRooted types s core.forest m k n h) same r.2

  pub lent_child : (k g : ℕ) (n : Loan) → s g ≡ Some n → LendsAll n.via k → IsHere (core.forest g) → Lends k g
  lent_child k g n row via here = (n, row, lends_parent n.via k via, here, lends_not_read n.via k via)

  pub part_child : (k z g : ℕ) (to : Place) (t : Meaning) → IsPart types s core.forest m k z g to t → Lends k g
  part_child k z g to t part =
      (part.row, part.has, ap parent_of part.from, part.is_open, part_not_read part.row.via k part.from)

  pub child_later : (k g : ℕ) → Lends k g → k < g
  child_later k g (n, row, parent, here, writes) = core.older g n k row parent

  -- ---- what counts in them

  abbrev pub Counted : Id → ℕ → Type 0
  Counted id k = (d : ℕ) × Descends k d × (1 ≤ in_root id (core.forest d))

  further_down : (id : Id) (k g : ℕ) → Lends k g → Counted id g → Counted id k
  further_down id k g lent (d, way, some) = (d, from_first k g d lent way, some)

  -- What counts at the place of a root counts in it, or in one that was lent from it.
  module _ (id : Id) where
    own_counts : (k : ℕ) (h : Held) → core.forest k ≡ Some h → 1 ≤ in_root id (Some h) → Counted id k
    own_counts k h e some = (k, itself, subst (λ o. 1 ≤ in_root id o) (sym e) some)

    -- for what is further down
    abbrev Later : ℕ → Type 0
    Later fuel =
        (g : ℕ) (n : Loan) → core.top ≤ g + fuel → s g ≡ Some n → IsHere (core.forest g) → ReadsNot n.via
        → 1 ≤ in_place id n.to → Counted id g

    pub counted : (fuel k : ℕ) (l : Loan) → core.top ≤ k + fuel → s k ≡ Some l → IsHere (core.forest k)
        → ReadsNot l.via → 1 ≤ in_place id l.to → Counted id k
    counted zero k l long row here reads_not some = by_held (core.forest k) refl here
      where
        by_held : (o : Option Held) → core.forest k ≡ o → IsHere o → Counted id k
        by_held None e there = absurd there
        by_held (Some h) e there =
            let below = root_below types clock scope act hold type under s m core k h e in absurd (omega (arith, long, below))
    counted (suc fuel) k l long row here reads_not some =
        by_held (core.forest k) refl here (λ g n longer its there not more. counted fuel g n longer its there not more)
      where
        longer_yet : (g : ℕ) → Lends k g → core.top ≤ g + fuel
        longer_yet g lent = let later = child_later k g lent in omega (arith, long, later)

        at_place : (to : Place) → to ≡ l.to → 1 ≤ in_place id to
        at_place to is = subst (λ p. 1 ≤ in_place id p) (sym is) some

        by_form : (h : Held) → core.forest k ≡ Some h → IsRooted types s core.forest m k l h → Later fuel → Counted id k
        by_form (whole to tree) e r later =
            let there = at_place to r.1 in own_counts k (whole to tree) e (omega (arith, there))
        by_form (all_lent g) e r later =
            let child = lent_child k g r.0 r.1 r.4 r.5 in
            further_down id k g child
            (later g r.0 (longer_yet g child) r.1 r.5 (lends_not_read r.0.via k r.4)
            (subst (λ p. 1 ≤ in_place id p) (sym r.2) some))
        by_form (box_lent to born g) e r later =
            let there = at_place to r.1 in own_counts k (box_lent to born g) e (omega (arith, there))
        by_form (parts_lent to tag born g count rest) e r later = on (part_counts id to count (at_place to r.2))
          where
            on : (1 ≤ in_node count id to) ⊎ ((j : ℕ) × (j < count) × (1 ≤ in_place id (part_at j to))) → Counted id k
            on (inl left) = own_counts k (parts_lent to tag born g count rest) e (omega (arith, left))
            on (inr (j, below, there)) =
                let most = r.6 in
                let t = nth_there r.0 j (omega (arith, below, most)) in
                let part = r.10 j t.0 below t.1 in
                let child = part_child k l.token (g + j) (part_at j to) t.0 part in
                further_down id k (g + j) child
                (later (g + j) part.row (longer_yet (g + j) child) part.has part.is_open
                (part_not_read part.row.via k part.from) (subst (λ p. 1 ≤ in_place id p) (sym part.at) there))
        by_form watching e r later = absurd (reads_not r.0 r.1 r.2)

        by_held : (o : Option Held) → core.forest k ≡ o → IsHere o → Later fuel → Counted id k
        by_held None e there later = absurd there
        by_held (Some h) e there later = by_form h e (rooted_by k l h row e) later
