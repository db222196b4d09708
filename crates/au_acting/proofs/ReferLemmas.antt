-- References under way and in names are those of loans, which may be used.
use Rattle.std.proofs.Common.{◌≡◌, ℕ, Bool, true, List, ◌∷◌, Option, Some, sym, ap, subst, ◌∙◌}
use Rattle.au_effects.specs.Values.{Place, reference}
use Rattle.au_places.specs.Memories.{Memory}
use Rattle.au_running_types.specs.Running.{token}
use Rattle.au_types.specs.Types as meaning
use Rattle.au_types.specs.Types.{Meaning}
use Rattle.au_memory.specs.Forests.{Holds, Made, Core}
use Rattle.au_memory.specs.Loans.{Types, Loan, Table, IsLoan}
use Rattle.au_memory.specs.Shown.{Shows, Has, AreDeclared}
use Rattle.au_memory.specs.Trees.{Value, Tree}
use Rattle.au_memory.proofs.FormLemmas.{reader_form, writer_form}
use Rattle.au_memory.proofs.UsableLemmas.{writer_is_loan}
use Rattle.au_lending.proofs.FillLemmas.{first_shown}
use Rattle.au_borrows.specs.Invariants.{Inv}
use Rattle.au_borrows.specs.Orders.{Act, is_active}
use Rattle.au_borrows.specs.Told.{Told, with_use}
use Rattle.au_borrows.proofs.InvariantLemmas.{uses_on}

-- A value refers: it is the reference of a loan of this token.
pub record Refers (s : Table) (r : Value) (z : ℕ) : Type 0 where
  pub loan : ℕ
  pub row : Loan
  pub to : Place
  pub has : s loan ≡ Some row
  pub is_loan : IsLoan row.via
  pub of_token : row.token ≡ z
  pub is : r ≡ reference row.borrow to

module _ (types : Types) (forms : AreDeclared types) (s : Table) (m : Memory (List ℕ)) (r : Value) (t : Meaning)
    (z : ℕ) (tree : Tree) (sh : Shows types s m r tree) where
  writer_refers : Has types s tree (meaning.writes t (token z)) → Refers s r z
  writer_refers typed =
      let form = writer_form types forms s tree t (token z) typed in
      let shown = subst (λ u. Shows types s m r u) form.is sh in
      let mine : s form.loan ≡ Some form.row = form.has in
      let first : s form.loan ≡ Some shown.0 = shown.1 in
      let same : shown.0 ≡ form.row = cc in
      let e = form.typed in
      let of : z ≡ form.row.token = cc in
      record {
        loan = form.loan;
        row = form.row;
        to = form.row.to;
        has = form.has;
        is_loan = writer_is_loan form.row.via form.writes;
        of_token = sym of;
        is = shown.2 ∙ ap (λ (n : Loan). reference n.borrow n.to) same;
      }

  reader_refers : Has types s tree (meaning.reads t (token z)) → Refers s r z
  reader_refers typed =
      let form = reader_form types forms s tree t (token z) typed in
      let shown = subst (λ u. Shows types s m r u) form.is sh in
      let seen = shown.2 in
      let its = form.leads in
      let first : s form.loan ≡ Some shown.0 = seen.row in
      let mine : s form.loan ≡ Some form.row = its.row in
      let same : shown.0 ≡ form.row = cc in
      let e = form.typed in
      let of : z ≡ form.row.token = cc in
      record {
        loan = form.loan;
        row = form.row;
        to = shown.1.to;
        has = mine;
        is_loan = subst IsLoan (sym its.via) tt;
        of_token = sym of;
        is = shown.3 ∙ ap (λ (n : Loan). reference n.borrow shown.1.to) same;
      }

module _ (types : Types) (forms : AreDeclared types) (clock : ℕ) (scope act : ℕ → Bool) (hold : Holds)
    (type : ℕ → ℕ → Meaning) (r : Value) (t : Meaning) (z : ℕ) (under : Made) (s : Table) (m : Memory (List ℕ))
  where
    -- the newest value
    pub newest_writes : Core types clock scope act hold type ((r, meaning.writes t (token z)) ∷ under) s m
        → Refers s r z
    newest_writes core =
        let first = first_shown types s m r (meaning.writes t (token z)) under core.trees core.shown in
        writer_refers types forms s m r t z first.0 first.3 first.4

    pub newest_reads : Core types clock scope act hold type ((r, meaning.reads t (token z)) ∷ under) s m
        → Refers s r z
    newest_reads core =
        let first = first_shown types s m r (meaning.reads t (token z)) under core.trees core.shown in
        reader_refers types forms s m r t z first.0 first.3 first.4

    -- the one below it
    pub second_writes : (new : Value) (u : Meaning)
        → Core types clock scope act hold type ((new, u) ∷ (r, meaning.writes t (token z)) ∷ under) s m
        → Refers s r z
    second_writes new u core =
        let one = first_shown types s m new u ((r, meaning.writes t (token z)) ∷ under) core.trees core.shown in
        let two = first_shown types s m r (meaning.writes t (token z)) under one.1 one.5 in
        writer_refers types forms s m r t z two.0 two.3 two.4

-- the borrow of a reference whose token is active is used
pub used_first : (B : Type 0) (types : Types) (owner : B → Option (List ℕ)) (acts : List Act) (hold : Holds)
    (type : ℕ → ℕ → Meaning) (under : Made) (s : Table) (m : Memory (List ℕ)) (w : Told B)
    → Inv types owner acts hold type under s m w → (r : Value) (z : ℕ) (refers : Refers s r z)
    → is_active acts z ≡ true → Inv types owner acts hold type under s m (with_use refers.row.borrow w)
used_first B types owner acts hold type under s m w inv r z refers on =
    uses_on B types owner acts hold type under s m w inv refers.loan refers.row refers.has refers.is_loan
    (subst (λ y. is_active acts y ≡ true) (sym refers.of_token) on)

-- two references that are one value are of one borrow
pub same_borrow : (r : Value) (b c : ℕ) (to at : Place) → r ≡ reference b to → r ≡ reference c at → b ≡ c
same_borrow r b c to at first second = cc
