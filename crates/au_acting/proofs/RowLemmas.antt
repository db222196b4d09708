-- Rows that are added, and births that are counted.
use Rattle.std.proofs.Common.{◌≡◌, ◌⊎◌, inl, inr, ℕ, suc, ◌==◌, Bool, true, false, List, [], ◌∷◌, Option, Some}
use Rattle.std.proofs.Common.{if◌then◌else◌, refl, sym, ap, subst, ◌∙◌, arith}
use Rattle.std.proofs.lemmas.Bool.{eqb-true, le-ltb, ne_eqb}
use Rattle.std.specs.Prelude.{None}
use Rattle.au_effects.specs.References.{name_along}
use Rattle.au_events.specs.Counts.{one_if}
use Rattle.au_places.specs.Places as places
use Rattle.au_places.specs.Places.{birth}
use Rattle.au_effects.specs.Values.{Place}
use Rattle.au_types.specs.Types.{Meaning}
use Rattle.au_memory.specs.Loans.{Loan, Table, Via, named, lent_of, lent_through, part_of, reading, IsLoan, IsWriter}
use Rattle.au_memory.specs.Trees.{Tree, in_birth}
use Rattle.au_lending.specs.Holding.{name_row, with_row}
use Rattle.au_lending.specs.Laws.{lent_row, part_row, read_row}
use Rattle.au_lending.specs.Parting.{with_part_rows}
use Rattle.au_places.specs.Places.{part_at}
use Rattle.au_borrows.specs.Invariants.{is_writer}
use Rattle.au_borrows.specs.Laws.{AreOpened, AreParts, EndsBefore, IsNewPart, IsOpening}
use Rattle.au_borrows.specs.Told.{Fits, Told}
use Rattle.au_lending.proofs.FillLemmas.{row_grows, row_self}

-- ---- rows

pub parts_same : (s : Table) → AreParts s s
parts_same s = record { grows = record { row = λ g l row. row }; each = λ g l row loan. inl row }

-- a row of a table with one more is the new one, or was there
row_cases : (k : ℕ) (new : Loan) (s : Table) (g : ℕ) (l : Loan) → with_row k new s g ≡ Some l
    → ((g ≡ k) × (new ≡ l)) ⊎ (s g ≡ Some l)
row_cases k new s g l h = by (k == g) refl h
  where
    by : (b : Bool) → (k == g) ≡ b → (if b then Some new else s g) ≡ Some l → ((g ≡ k) × (new ≡ l)) ⊎ (s g ≡ Some l)
    by true e h = let same : new ≡ l = cc in inl (sym (eqb-true k g e), same)
    by false e h = inr h

ends_more : (s : Table) (k : ℕ) (new : Loan) → EndsBefore s k → EndsBefore (with_row k new s) (suc k)
ends_more s k new ends j less =
    ap (λ b. if b then Some new else s j) (ne_eqb k j (λ e. omega (arith, less, e))) ∙ ends j (omega (arith, less))

ends_later : (s : Table) (k : ℕ) → EndsBefore s k → EndsBefore s (suc k)
ends_later s k ends j less = ends j (omega (arith, less))

at_end : (s : Table) (k : ℕ) → EndsBefore s k → s k ≡ None
at_end s k ends = ends k (omega arith)

pub parts_named : (k frame x : ℕ) (t : Meaning) (s : Table) → EndsBefore s k
    → AreParts s (with_row k (name_row frame x t) s)
parts_named k frame x t s ends = record {
  grows = row_grows k (name_row frame x t) s (at_end s k ends);
  each = λ g l row loan. by g l loan (row_cases k (name_row frame x t) s g l row);
}
  where
    by : (g : ℕ) (l : Loan) → IsLoan l.via → ((g ≡ k) × (name_row frame x t ≡ l)) ⊎ (s g ≡ Some l)
        → (s g ≡ Some l) ⊎ IsNewPart s g l
    by g l loan (inl both) = absurd (subst (λ (n : Loan). IsLoan n.via) (sym both.1) loan)
    by g l loan (inr old) = inl old

pub parts_one : (s r : Table) (k from : ℕ) (p : Loan) (to : Place) (t : Meaning) → s from ≡ Some p → IsWriter p.via
    → EndsBefore s k → EndsBefore r k → AreParts s r → AreParts s (with_row k (part_row from p to t) r)
parts_one s r k from p to t has writes ends free all = record {
  grows = record {
    row = λ g l row. (row_grows k (part_row from p to t) r (at_end r k free)).row g l (all.grows.row g l row);
  };
  each = λ g l row loan. by g l loan (row_cases k (part_row from p to t) r g l row);
}
  where
    by : (g : ℕ) (l : Loan) → IsLoan l.via → ((g ≡ k) × (part_row from p to t ≡ l)) ⊎ (r g ≡ Some l)
        → (s g ≡ Some l) ⊎ IsNewPart s g l
    by g l loan (inl (at, same)) = inr (record {
      from = from;
      row = p;
      has = has;
      writes = writes;
      via = sym (ap (λ (o : Loan). o.via) same);
      token = ap (λ (o : Loan). o.token) same;
      borrow = ap (λ (o : Loan). o.borrow) same;
      fresh = subst (EndsBefore s) (sym at) ends;
    })
    by g l loan (inr old) = all.each g l old loan

pub parts_more : (s : Table) (from : ℕ) (p : Loan) → s from ≡ Some p → IsWriter p.via → (of : List Meaning)
    (top i : ℕ) (r : Table) → EndsBefore s top → EndsBefore r top → AreParts s r
    → AreParts s (with_part_rows top from p i of r)
parts_more s from p has writes [] top i r ends free all = all
parts_more s from p has writes (t ∷ ts) top i r ends free all =
    parts_more s from p has writes ts (suc top) (suc i) (with_row top (part_row from p (part_at i p.to) t) r)
    (ends_later s top ends) (ends_more r top (part_row from p (part_at i p.to) t) free)
    (parts_one s r top from p (part_at i p.to) t has writes ends free all)

-- a row of a borrow that is opened is the one that is new
opened_one : (k : ℕ) (z b : ℕ) (writes : Bool) (place : Place) (new : Loan) (s : Table) → EndsBefore s k
    → IsOpening z b writes new → new.to ≡ place → AreOpened z b writes place s (with_row k new s)
opened_one k z b writes place new s ends is at = record {
  grows = row_grows k new s (at_end s k ends);
  loan = k;
  row = new;
  has = row_self k new s;
  is = is;
  at = at;
  each = λ g l row loan. by g l (row_cases k new s g l row);
  fresh = ends;
}
  where
    by : (g : ℕ) (l : Loan) → ((g ≡ k) × (new ≡ l)) ⊎ (s g ≡ Some l)
        → (s g ≡ Some l) ⊎ ((g ≡ k) × IsOpening z b writes l)
    by g l (inl both) = inr (both.0, subst (IsOpening z b writes) both.1 is)
    by g l (inr old) = inl old

-- all of a name, or of what a reference in it leads to
abbrev pub LendsIt : Via → Type 0
LendsIt (lent_of k) = Unit {0}
LendsIt (lent_through holder k) = Unit {0}
LendsIt other = ⊥

lends_kind : (via : Via) → LendsIt via → is_writer via ≡ true
lends_kind (lent_of k) is = refl
lends_kind (lent_through holder k) is = refl
lends_kind named is = absurd is
lends_kind (part_of k) is = absurd is
lends_kind (reading k tree) is = absurd is

lends_loan : (via : Via) → LendsIt via → IsLoan via
lends_loan (lent_of k) is = tt
lends_loan (lent_through holder k) is = tt
lends_loan named is = absurd is
lends_loan (part_of k) is = absurd is
lends_loan (reading k tree) is = absurd is

pub opened_lent : (k b z : ℕ) (p : Loan) (via : Via) (s : Table) → LendsIt via → EndsBefore s k → (to : Place)
    → p.to ≡ to → AreOpened z b true to s (with_row k (lent_row b z p via) s)
opened_lent k b z p via s lends ends to at =
    opened_one k z b true to (lent_row b z p via) s ends
    (record {
      token = refl;
      borrow = refl;
      kind = lends_kind via lends;
      is_loan = lends_loan via lends;
      no_part = λ from is. subst LendsIt is lends;
    }) at

pub opened_read : (k b z frame x : ℕ) (t : Meaning) (root : ℕ) (tree : Tree) (s : Table) → EndsBefore s k
    → AreOpened z b false (name_along frame x []) s (with_row k (read_row b z frame x t root tree) s)
opened_read k b z frame x t root tree s ends =
    opened_one k z b false (name_along frame x []) (read_row b z frame x t root tree) s ends
    (record { token = refl; borrow = refl; kind = refl; is_loan = tt; no_part = λ from is. cc }) refl

-- ---- births

same_one : (b : Bool) → places.one_if b ≡ one_if b
same_one true = refl
same_one false = refl

-- how a birth counts
pub birth_one : (j i : ℕ) → in_birth (birth i) (Some j) ≡ one_if (j == i)
birth_one j i = same_one (j == i)

-- the next birth is held nowhere
pub next_unborn : {B : Type 0} (owner : B → Option (List ℕ)) (count : ℕ → ℕ) (w : Told B) → Fits owner count w
    → count w.next_birth ≡ 0
next_unborn owner count w fits =
    let a = fits.even w.next_birth in
    let b = fits.fresh w.next_birth in
    let c = ap one_if (le-ltb w.next_birth w.next_birth (omega arith)) in
    omega arith
