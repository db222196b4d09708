-- The rows of names, and of loans.
use Rattle.std.proofs.Common.{◌≡◌, ℕ, ◌==◌, Bool, true, false, List, []}
use Rattle.std.proofs.Common.{refl, sym, ap, subst, ◌∙◌, arith, if◌then◌else◌}
use Rattle.std.specs.Prelude.{Some}
use Rattle.std.proofs.lemmas.Bool.{and_parts, eqb-true}
use Rattle.au_effects.specs.References.{name_along}
use Rattle.au_effects.specs.Values.{Place, name_of}
use Rattle.au_places.specs.Memories.{Memory, held_at}
use Rattle.au_places.specs.Places.{cell_of, covers, in_place, same_base}
use Rattle.au_places.proofs.MemoryLemmas.{all_held}
use Rattle.au_places.proofs.PlaceLemmas.{self_base}
use Rattle.au_types.specs.Types.{Meaning}
use Rattle.au_memory.specs.Trees.{Value, Tree}
use Rattle.au_memory.specs.Loans.{Types, Loan, Table, IsLoan}
use Rattle.au_memory.specs.Shown.{Shows, Has}
use Rattle.au_memory.specs.Forests.{Hold, Holds, Made, Core, whole, empty, ready, shut, watched}
use Rattle.au_memory.specs.Forests.{IsFull, IsNameRow, IsWatched, IsWhole, NameStands}
use Rattle.au_memory.proofs.CountLemmas.{none_left}

-- ---- names

pub same_names : (a x b y : ℕ) → same_base (name_of a x) (name_of b y) ≡ true → (a ≡ b) × (x ≡ y)
same_names a x b y e = let both = and_parts (a == b) (x == y) e in (eqb-true a b both.0, eqb-true x y both.1)

pub watched_full : (h : Hold) (z : ℕ) → IsWatched z h → IsFull h
watched_full empty z w = w
watched_full ready z w = tt
watched_full (shut y) z w = tt
watched_full (watched tokens) z w = tt

-- where a place isn't covered by a name it begins elsewhere
pub name_apart : (frame x : ℕ) (to : Place) → in_place (cell_of to) (name_along frame x []) ≡ 0
    → same_base (name_of frame x) to.base ≡ false
name_apart frame x to none = by (same_base (name_of frame x) to.base) refl none
  where
    by : (t : Bool) → same_base (name_of frame x) to.base ≡ t
        → (if t then covers 0 [] to.path else 0) ≡ 0 → same_base (name_of frame x) to.base ≡ false
    by true e h = let one = none_left to.path in absurd (omega arith)
    by false e h = e

-- ---- rows

-- one root is the row of one name
pub one_name : (s : Table) (g a x b y : ℕ) (t u : Meaning) → IsNameRow s g a x t → IsNameRow s g b y u
    → same_base (name_of a x) (name_of b y) ≡ true
one_name s g a x b y t u one two =
    let has : s g ≡ Some one.row = one.has in
    let other : s g ≡ Some two.row = two.has in
    let same : one.row ≡ two.row = cc in
    let at : name_along a x [] ≡ name_along b y [] = sym one.at ∙ ap (λ (l : Loan). l.to) same ∙ two.at in
    subst (λ (p : Place). same_base (name_of a x) p.base ≡ true) at (self_base (name_of a x))

-- and of no loan
pub no_loan : (s : Table) (g a x : ℕ) (t : Meaning) (l : Loan) → IsNameRow s g a x t → s g ≡ Some l → IsLoan l.via → ⊥
no_loan s g a x t l one row loan =
    let has : s g ≡ Some one.row = one.has in
    let same : one.row ≡ l = cc in
    subst IsLoan (ap (λ (n : Loan). n.via) (sym same) ∙ one.is_named) loan

module _ (types : Types) (clock : ℕ) (scope act : ℕ → Bool) (hold : Holds) (type : ℕ → ℕ → Meaning)
    (under : Made) (s : Table) (m : Memory (List ℕ)) (core : Core types clock scope act hold type under s m) where
  row_if : (a x : ℕ) (h : Hold) → IsFull h → NameStands types s core.forest m core.root a x (type a x) h
      → IsNameRow s (core.root a x) a x (type a x)
  row_if a x empty full stands = absurd full
  row_if a x ready full stands = stands.0
  row_if a x (shut z) full stands = stands.0
  row_if a x (watched tokens) full stands = stands.0

  -- a name that holds something has a row
  pub row_of : (a x : ℕ) → IsFull (hold a x) → IsNameRow s (core.root a x) a x (type a x)
  row_of a x full = row_if a x (hold a x) full (core.names a x)

  -- two names that hold something don't have one root
  pub one_root : (a x b y : ℕ) → IsFull (hold a x) → IsFull (hold b y) → core.root a x ≡ core.root b y
      → same_base (name_of a x) (name_of b y) ≡ true
  one_root a x b y one two same =
      one_name s (core.root b y) a x b y (type a x) (type b y)
      (subst (λ g. IsNameRow s g a x (type a x)) same (row_of a x one)) (row_of b y two)

  -- what a name holds that is whole: its tree, which has the type of the name and is shown by its value
  pub record Found (a x : ℕ) : Type 0 where
    pub tree : Tree
    pub value : Value
    pub here : core.forest (core.root a x) ≡ Some (whole (name_along a x []) tree)
    pub typed : Has types s tree (type a x)
    pub there : m.at (name_of a x) ≡ Some value
    pub shown : Shows types s m value tree

  pub find : (a x : ℕ) → IsNameRow s (core.root a x) a x (type a x) → IsWhole (core.forest (core.root a x)) → Found a x
  find a x own w =
      let r = core.rooted (core.root a x) (whole w.0 w.1) w.2 in
      let has : s (core.root a x) ≡ Some r.0 = r.1 in
      let mine : s (core.root a x) ≡ Some own.row = own.has in
      let same : r.0 ≡ own.row = cc in
      let at : w.0 ≡ name_along a x [] = r.2.1 ∙ ap (λ (l : Loan). l.to) same ∙ own.at in
      let of : r.0.type ≡ type a x = ap (λ (l : Loan). l.type) same ∙ own.typed in
      record {
        tree = w.1;
        value = r.2.0;
        here = w.2 ∙ ap (λ p. Some (whole p w.1)) at;
        typed = subst (λ t. Has types s w.1 t) of r.2.2;
        there = sym (all_held m (name_of a x)) ∙ subst (λ p. held_at m p ≡ Some r.2.0) at r.2.3;
        shown = r.2.4;
      }
