-- Loans go together with the borrows that lie open, from one action to the next.
use Rattle.std.proofs.Common.{◌≡◌, ◌⊎◌, inl, inr, ℕ, suc, ◌+◌, ◌≤◌, ◌<◌, ◌==◌, Bool, true, false, List, [], ◌∷◌, ◌++◌}
use Rattle.std.proofs.Common.{Option, Some, None, refl, sym, ap, subst, ◌∙◌, arith}
use Rattle.std.proofs.lemmas.Bool.{ne_eqb}
use Rattle.au_effects.specs.Values.{Place}
use Rattle.au_events.specs.Counts.{one_if}
use Rattle.au_memory.specs.Loans.{Loan, Table, Via, named, lent_of, lent_through, part_of, reading, IsLoan, IsWriter, parent_of}
use Rattle.au_memory.proofs.UsableLemmas.{writer_is_loan}
use Rattle.au_readers.specs.Exclusive.{IsLater}
use Rattle.au_borrows.specs.Invariants.{AreLinked, AreOwned, HasLoan, is_writer}
use Rattle.au_borrows.specs.Laws.{AreOpened, AreParts, IsNewPart, IsOpening}
use Rattle.au_borrows.specs.Orders.{Act, Lies, is_active}
use Rattle.au_borrows.specs.Told.{IsOpen, Open, times}
use Rattle.au_borrows.proofs.OrderLemmas.{active_cases, active_more, times_below}

lent_is_loan : (via : Via) (k : ℕ) → parent_of via ≡ Some k → IsLoan via
lent_is_loan named k e = absurd cc
lent_is_loan (lent_of j) k e = tt
lent_is_loan (lent_through holder j) k e = tt
lent_is_loan (part_of j) k e = tt
lent_is_loan (reading j tree) k e = tt

writes_so : (via : Via) → IsWriter via → is_writer via ≡ true
writes_so named writes = absurd writes
writes_so (lent_of j) writes = refl
writes_so (lent_through holder j) writes = refl
writes_so (part_of j) writes = refl
writes_so (reading j tree) writes = absurd writes

-- what is no part of a loan is of a later borrow
is_later : (via : Via) (b c : ℕ) → ((k : ℕ) → via ≡ part_of k → ⊥) → b < c → IsLater via b c
is_later named b c no_part less = less
is_later (lent_of j) b c no_part less = less
is_later (lent_through holder j) b c no_part less = less
is_later (part_of j) b c no_part less = absurd (no_part j refl)
is_later (reading j tree) b c no_part less = less

open_behind : (one : Open) (newer base : List Open) → IsOpen one base → IsOpen one (newer ++ base)
open_behind one [] base is = is
open_behind one (x ∷ newer) base is = inr (open_behind one newer base is)

module _ (acts : List Act) (lying : List Open) (next : ℕ) (s : Table) (linked : AreLinked acts lying next s)
    (older : (g : ℕ) (l : Loan) (k : ℕ) → s g ≡ Some l → parent_of l.via ≡ Some k → k < g) where
  -- a borrow's loan stays
  loan_stays : (q : Table) → ((g : ℕ) (l : Loan) → s g ≡ Some l → q g ≡ Some l) → (one : Open) → HasLoan s one
      → HasLoan q one
  loan_stays q grows one its = record {
    loan = its.loan;
    row = its.row;
    has = grows its.loan its.row its.has;
    is_loan = its.is_loan;
    borrow = its.borrow;
    at = its.at;
    writes = its.writes;
  }

  -- ---- parts of loans

  module _ (q : Table) (parts : AreParts s q) where
    part_kind : (g : ℕ) (l : Loan) (new : IsNewPart s g l) → is_writer l.via ≡ is_writer new.row.via
    part_kind g l new = ap is_writer new.via ∙ sym (writes_so new.row.via new.writes)

    from_loan : (g : ℕ) (l : Loan) (new : IsNewPart s g l) → IsLoan new.row.via
    from_loan g l new = writer_is_loan new.row.via new.writes

    pub parts_linked : AreLinked acts lying next q
    parts_linked = record {
      opened = λ g l row loan. opened g l (parts.each g l row loan) loan;
      alive = λ g l row loan some. alive g l (parts.each g l row loan) loan some;
      kind = λ g l one row loan is number. kind g l one (parts.each g l row loan) loan is number;
      ordered = λ g l k n row parent row_k loan_n.
          ordered g l k n row parent row_k loan_n (parts.each g l row (lent_is_loan l.via k parent))
          (parts.each k n row_k loan_n);
      seen = λ one is. loan_stays q parts.grows.row one (linked.seen one is);
    }
      where
        opened : (g : ℕ) (l : Loan) → (s g ≡ Some l) ⊎ IsNewPart s g l → IsLoan l.via → l.borrow < next
        opened g l (inl old) loan = linked.opened g l old loan
        opened g l (inr new) loan =
            subst (λ b. b < next) new.borrow (linked.opened new.from new.row new.has (from_loan g l new))

        alive : (g : ℕ) (l : Loan) → (s g ≡ Some l) ⊎ IsNewPart s g l → IsLoan l.via → 1 ≤ times l.borrow lying
            → is_active acts l.token ≡ true
        alive g l (inl old) loan some = linked.alive g l old loan some
        alive g l (inr new) loan some =
            subst (λ z. is_active acts z ≡ true) new.token
            (linked.alive new.from new.row new.has (from_loan g l new)
            (subst (λ b. 1 ≤ times b lying) (sym new.borrow) some))

        kind : (g : ℕ) (l : Loan) (one : Open) → (s g ≡ Some l) ⊎ IsNewPart s g l → IsLoan l.via → IsOpen one lying
            → one.number ≡ l.borrow → is_writer l.via ≡ one.writes
        kind g l one (inl old) loan is number = linked.kind g l one old loan is number
        kind g l one (inr new) loan is number =
            part_kind g l new
            ∙ linked.kind new.from new.row one new.has (from_loan g l new) is (number ∙ sym new.borrow)

        ordered : (g : ℕ) (l : Loan) (k : ℕ) (n : Loan) → q g ≡ Some l → parent_of l.via ≡ Some k → q k ≡ Some n
            → IsLoan n.via → (s g ≡ Some l) ⊎ IsNewPart s g l → (s k ≡ Some n) ⊎ IsNewPart s k n
            → IsLater l.via n.borrow l.borrow
        ordered g l k n row parent row_k loan_n (inl old) (inl old_k) =
            linked.ordered g l k n old parent old_k loan_n
        ordered g l k n row parent row_k loan_n (inl old) (inr new_k) =
            let before = older g l k old parent in
            let none = new_k.fresh g (omega (arith, before)) in absurd cc
        ordered g l k n row parent row_k loan_n (inr new) its_k =
            let of : new.from ≡ k = let e = sym (ap parent_of new.via) ∙ parent in cc in
            let there = subst (λ j. q j ≡ Some new.row) of (parts.grows.row new.from new.row new.has) in
            let same : new.row ≡ n = cc in
            subst (λ via. IsLater via n.borrow l.borrow) (sym new.via)
            (sym (ap (λ (x : Loan). x.borrow) same) ∙ new.borrow)

  -- ---- a borrow that is opened

  module _ (z : ℕ) (writes : Bool) (place : Place) (q : Table) (new : AreOpened z next writes place s q)
      (active : is_active acts z ≡ true)
      (later_older : (g : ℕ) (l : Loan) (k : ℕ) → q g ≡ Some l → parent_of l.via ≡ Some k → k < g) where
    abbrev Each : ℕ → Loan → Type 0
    Each g l = (s g ≡ Some l) ⊎ ((g ≡ new.loan) × IsOpening z next writes l)

    abbrev its_opening : Open
    its_opening = record { number = next; writes = writes; place = place }

    pub opened_linked : AreLinked acts (its_opening ∷ lying) (suc next) q
    opened_linked = record {
      opened = λ g l row loan. opened g l (new.each g l row loan) loan;
      alive = λ g l row loan some. alive g l (new.each g l row loan) loan some;
      kind = λ g l one row loan is number. kind g l one (new.each g l row loan) loan is number;
      ordered = λ g l k n row parent row_k loan_n.
          ordered g l k n row parent row_k loan_n (new.each g l row (lent_is_loan l.via k parent))
          (new.each k n row_k loan_n);
      seen = seen;
    }
      where
        opened : (g : ℕ) (l : Loan) → Each g l → IsLoan l.via → l.borrow < suc next
        opened g l (inl old) loan = let less = linked.opened g l old loan in omega (arith, less)
        opened g l (inr its) loan = let same = its.1.borrow in omega (arith, same)

        alive : (g : ℕ) (l : Loan) → Each g l → IsLoan l.via → 1 ≤ times l.borrow (its_opening ∷ lying)
            → is_active acts l.token ≡ true
        alive g l (inl old) loan some =
            let less = linked.opened g l old loan in
            let none = ap one_if (ne_eqb next l.borrow (λ e. omega (arith, less, e))) in
            linked.alive g l old loan (omega (arith, some, none))
        alive g l (inr its) loan some = subst (λ y. is_active acts y ≡ true) (sym its.1.token) active

        kind : (g : ℕ) (l : Loan) (one : Open) → Each g l → IsLoan l.via → IsOpen one (its_opening ∷ lying)
            → one.number ≡ l.borrow → is_writer l.via ≡ one.writes
        kind g l one (inl old) loan (inl same) number =
            let less = linked.opened g l old loan in
            let its = ap (λ (x : Open). x.number) same in
            absurd (omega (arith, less, its, number))
        kind g l one (inl old) loan (inr is) number = linked.kind g l one old loan is number
        kind g l one (inr its) loan (inl same) number = its.1.kind ∙ ap (λ (x : Open). x.writes) same
        kind g l one (inr its) loan (inr is) number =
            let its_loan = linked.seen one is in
            let less = linked.opened its_loan.loan its_loan.row its_loan.has its_loan.is_loan in
            let one_is = its_loan.borrow in
            let own = its.1.borrow in
            absurd (omega (arith, less, one_is, own, number))

        ordered : (g : ℕ) (l : Loan) (k : ℕ) (n : Loan) → q g ≡ Some l → parent_of l.via ≡ Some k → q k ≡ Some n
            → IsLoan n.via → Each g l → Each k n → IsLater l.via n.borrow l.borrow
        ordered g l k n row parent row_k loan_n (inl old) (inl old_k) =
            linked.ordered g l k n old parent old_k loan_n
        ordered g l k n row parent row_k loan_n (inl old) (inr its_k) =
            let before = older g l k old parent in
            let at = its_k.0 in
            let none = new.fresh g (omega (arith, before, at)) in absurd cc
        ordered g l k n row parent row_k loan_n (inr its) (inl old_k) =
            let less = linked.opened k n old_k loan_n in
            let own = its.1.borrow in
            is_later l.via n.borrow l.borrow its.1.no_part (omega (arith, less, own))
        ordered g l k n row parent row_k loan_n (inr its) (inr its_k) =
            let before = later_older g l k row parent in
            let at = its_k.0 in
            let own = its.0 in
            absurd (omega (arith, before, at, own))

        seen : (one : Open) → IsOpen one (its_opening ∷ lying) → HasLoan q one
        seen one (inl same) = record {
          loan = new.loan;
          row = new.row;
          has = new.has;
          is_loan = new.is.is_loan;
          borrow = new.is.borrow ∙ ap (λ (x : Open). x.number) same;
          at = new.at ∙ ap (λ (x : Open). x.place) same;
          writes = new.is.kind ∙ ap (λ (x : Open). x.writes) same;
        }
        seen one (inr is) = loan_stays q new.grows.row one (linked.seen one is)

  -- ---- tokens

  pub begun_linked : (a : Act) → AreLinked (a ∷ acts) lying next s
  begun_linked a = record {
    opened = linked.opened;
    alive = λ g l row loan some. active_more a acts l.token (linked.alive g l row loan some);
    kind = linked.kind;
    ordered = linked.ordered;
    seen = linked.seen;
  }

  -- what lay open before the newest token began is of older ones
  pub ended_linked : (a : Act) (rest : List Act) (newer : List Open) → acts ≡ a ∷ rest → lying ≡ newer ++ a.base
      → AreOwned acts lying s → ((b : ℕ) → times b lying ≤ 1) → AreLinked rest a.base next s
  ended_linked a rest newer is lies owned most = record {
    opened = linked.opened;
    alive = alive;
    kind = λ g l one row loan its number. linked.kind g l one row loan (still one its) number;
    ordered = linked.ordered;
    seen = λ one its. linked.seen one (still one its);
  }
    where
      still : (one : Open) → IsOpen one a.base → IsOpen one lying
      still one its = subst (IsOpen one) (sym lies) (open_behind one newer a.base its)

      alive : (g : ℕ) (l : Loan) → s g ≡ Some l → IsLoan l.via → 1 ≤ times l.borrow a.base
          → is_active rest l.token ≡ true
      alive g l row loan some =
          by (active_cases a rest l.token (subst (λ list. is_active list l.token ≡ true) is on))
        where
          on : is_active acts l.token ≡ true
          on =
              let all = times_below l.borrow lying newer a.base lies in
              linked.alive g l row loan (omega (arith, all, some))

          by : (a.token ≡ l.token) ⊎ (is_active rest l.token ≡ true) → is_active rest l.token ≡ true
          by (inr old) = old
          by (inl same) =
              under (subst (λ list. Lies list lying l.token l.borrow) is (owned g l row loan on))
            where
              under : Lies (a ∷ rest) lying l.token l.borrow → is_active rest l.token ≡ true
              under (inl both) =
                  let above = both.1 in
                  let all = times_below l.borrow lying above.newer a.base above.is in
                  let there = above.there in
                  let once = most l.borrow in
                  absurd (omega (arith, all, there, once, some))
              under (inr pair) = absurd (pair.0 (sym same))
