-- Tokens begin and end, and what holds at the end.
use Rattle.std.proofs.Common.{◌≡◌, ℕ, suc, ◌+◌, ◌<◌, ◌==◌, Bool, true, false, List, [], ◌∷◌, ◌++◌}
use Rattle.std.proofs.Common.{Option, Some, if◌then◌else◌, refl, sym, subst, arith}
use Rattle.std.specs.Prelude.{None}
use Rattle.std.proofs.lemmas.Bool.{eqb-true}
use Rattle.au_places.specs.Memories.{Memory}
use Rattle.au_places.specs.Places.{birth}
use Rattle.au_types.specs.Types.{Meaning}
use Rattle.au_memory.specs.Forests.{Held, Holds, Made, Core, AreShown, IsFull, IsHere, IsLent, NameStands, empty}
use Rattle.au_memory.specs.Forests.{shut, in_forest, in_list, in_root}
use Rattle.au_memory.specs.Loans.{Types, Loan, Table, Via, named, lent_of, lent_through, part_of, reading, IsLoan}
use Rattle.au_memory.specs.Trees.{Tree}
use Rattle.au_lending.specs.Ending.{freed, without}
use Rattle.au_lending.proofs.FillLemmas.{total_none}
use Rattle.au_lending.proofs.TokenEndLemmas.{token_ends}
use Rattle.au_lending.proofs.TokenLemmas.{begun}
use Rattle.au_borrows.specs.Invariants.{Inv}
use Rattle.au_borrows.specs.Orders.{Act, AreSorted, is_active}
use Rattle.au_borrows.specs.Told.{Open, Told, with_closings}
use Rattle.au_borrows.proofs.InvariantLemmas.{begins_on, ends_on, ends_well}
use Rattle.au_acting.specs.Ending.{Begins, Ends, Finishes, Tells}
use Rattle.au_acting.specs.Safe.{IsSafe}
use Rattle.au_acting.proofs.NameLemmas.{at_most}

-- ---- flags

-- what is active without the newest token is what was active before it
left_active : (a : Act) (older : List Act) → AreSorted (a ∷ older) → (y : ℕ)
    → without a.token (is_active (a ∷ older)) y ≡ is_active older y
left_active a older sorted y = by (a.token == y) refl
  where
    not_older : a.token ≡ y → (c : Bool) → is_active older y ≡ c → false ≡ c
    not_older same true on = let less : y < a.token = sorted.0 y on in absurd (omega arith)
    not_older same false on = refl

    by : (b : Bool) → (a.token == y) ≡ b
        → (if b then false else (if b then true else is_active older y)) ≡ is_active older y
    by true e = not_older (eqb-true a.token y e) (is_active older y) refl
    by false e = refl

module _ (B : Type 0) (types : Types) (owner : B → Option (List ℕ)) (acts : List Act) (hold : Holds)
    (type : ℕ → ℕ → Meaning) (under : Made) (m : Memory (List ℕ)) (w : Told B) where
  -- ---- a token begins

  module _ (s : Table) (inv : Inv types owner acts hold type under s m w) where
    new_token : (c : Bool) → is_active acts (suc inv.clock) ≡ c → is_active acts (suc inv.clock) ≡ false
    new_token true on = let most = inv.core.acted (suc inv.clock) on in absurd (omega arith)
    new_token false off = off

    not_shut : (frame x : ℕ) → hold frame x ≡ shut (suc inv.clock) → ⊥
    not_shut frame x is =
        let stands = subst (λ h. NameStands types s inv.core.forest m inv.core.root frame x (type frame x) h) is
        (inv.core.names frame x) in
        let loan = stands.1 in
        let most = inv.core.ticked loan.0 loan.1 loan.2 in
        let own : loan.1.token ≡ suc inv.clock = loan.3 in
        absurd (omega arith)

  pub begins : Begins B types owner acts hold type under m w
  begins state =
      let s = state.rows in
      let inv = state.inv in
      let done = begun types inv.clock (is_active acts) (is_active acts) hold type under s m inv.core in (
        suc inv.clock,
        new_token s inv (is_active acts (suc inv.clock)) refl,
        not_shut s inv,
        record {
          rows = s;
          inv = begins_on B types owner acts hold type under s m w inv (suc inv.clock) (suc inv.clock) (omega arith)
              done.after (λ i. done.counts (birth i));
        },
      )

  pub tells : Tells B types owner acts hold type under m w
  tells state = (state.inv.fits.lives, state.inv.fits.inside, state.inv.fits.homes)

-- ---- the newest token ends

module _ (B : Type 0) (types : Types) (owner : B → Option (List ℕ)) (a : Act) (older : List Act) (hold : Holds)
    (type : ℕ → ℕ → Meaning) (under : Made) (s : Table) (m : Memory (List ℕ)) (w : Told B)
    (inv : Inv types owner (a ∷ older) hold type under s m w) where
  -- memory with these tokens active
  record Left (flags : ℕ → Bool) : Type 0 where
    after : Core types inv.clock flags flags (λ frame x. freed a.token (hold frame x)) type under s m
    same : (i : ℕ) → in_forest (birth i) after.top after.forest + in_list (birth i) after.trees
        ≡ in_forest (birth i) inv.core.top inv.core.forest + in_list (birth i) inv.core.trees

  left : Left (without a.token (is_active (a ∷ older)))
  left =
      let done = token_ends types inv.clock (is_active (a ∷ older)) (is_active (a ∷ older)) hold type under s m inv.core
      a.token (λ y on. at_most a older inv.sorted y on) in
      record { after = done.after; same = λ i. done.counts (birth i) }

  alike : without a.token (is_active (a ∷ older)) ≡ is_active older
  alike = λ i y. left_active a older inv.sorted y i

  ended : (newer : List Open) × (w.lying ≡ newer ++ a.base)
      × IsSafe types owner older (λ frame x. freed a.token (hold frame x)) type under m (with_closings newer a.base w)
  ended =
      let below = inv.stacked.0 in
      let now = subst (λ flags. Left flags) alike left in (
        below.newer,
        below.is,
        record {
          rows = s;
          inv = ends_on B types owner (a ∷ older) hold type under s m w inv a older inv.clock
              (λ frame x. freed a.token (hold frame x)) below.newer refl below.is now.after now.same;
        },
      )

module _ (B : Type 0) (types : Types) (owner : B → Option (List ℕ)) (acts : List Act) (hold : Holds)
    (type : ℕ → ℕ → Meaning) (under : Made) (m : Memory (List ℕ)) (w : Told B) where
  pub ends : Ends B types owner acts hold type under m w
  ends a older acts_are state =
      let now = subst (λ list. IsSafe types owner list hold type under m w) acts_are state in
      ended B types owner a older hold type under now.rows m w now.inv

-- ---- the end of a run

no_values : (types : Types) (s : Table) (m : Memory (List ℕ)) (i : ℕ) (ts : List Tree) → AreShown types s m [] ts
    → in_list (birth i) ts ≡ 0
no_values types s m i [] shown = refl
no_values types s m i (t ∷ ts) shown = absurd shown

module _ (B : Type 0) (types : Types) (owner : B → Option (List ℕ)) (hold : Holds) (type : ℕ → ℕ → Meaning) (s : Table)
    (m : Memory (List ℕ)) (w : Told B) (inv : Inv types owner [] hold type [] s m w)
    (all : (frame x : ℕ) → hold frame x ≡ empty) where
  no_loan : (k : ℕ) (l : Loan) → s k ≡ Some l → IsHere (inv.core.forest k) → IsLoan l.via → ⊥
  no_loan k l row here loan = let on : false ≡ true = inv.core.active k l row loan here in absurd cc

  no_root : (k : ℕ) (l : Loan) → s k ≡ Some l → IsHere (inv.core.forest k) → (via : Via) → l.via ≡ via → ⊥
  no_root k l row here named is =
      let names = subst (λ v. IsLent inv.core.forest hold inv.core.root
      (λ id. in_forest id inv.core.top inv.core.forest + in_list id inv.core.trees) k l.token v) is
      (inv.core.lent k l row here) in
      subst IsFull (all names.frame names.name) names.holds
  no_root k l row here (lent_of from) is = no_loan k l row here (subst IsLoan (sym is) tt)
  no_root k l row here (lent_through holder from) is = no_loan k l row here (subst IsLoan (sym is) tt)
  no_root k l row here (part_of from) is = no_loan k l row here (subst IsLoan (sym is) tt)
  no_root k l row here (reading from tree) is = no_loan k l row here (subst IsLoan (sym is) tt)

  nothing_at : (i k : ℕ) (held : Option Held) → inv.core.forest k ≡ held → in_root (birth i) held ≡ 0
  nothing_at i k None is = refl
  nothing_at i k (Some h) is =
      let row = inv.core.rooted k h is in
      absurd (no_root k row.0 row.1 (subst IsHere (sym is) tt) row.0.via refl)

  nothing : (i : ℕ) → in_forest (birth i) inv.core.top inv.core.forest + in_list (birth i) inv.core.trees ≡ 0
  nothing i =
      let roots = total_none (birth i) inv.core.top inv.core.forest
      (λ k below. nothing_at i k (inv.core.forest k) refl) in
      let values = no_values types s m i inv.core.trees inv.core.shown in
      omega arith

module _ (B : Type 0) (types : Types) (owner : B → Option (List ℕ)) (acts : List Act) (hold : Holds)
    (type : ℕ → ℕ → Meaning) (under : Made) (m : Memory (List ℕ)) (w : Told B) where
  pub finishes : Finishes B types owner acts hold type under m w
  finishes acts_are under_is all state =
      let first = subst (λ list. IsSafe types owner list hold type under m w) acts_are state in
      let now = subst (λ made. IsSafe types owner [] hold type made m w) under_is first in
      let end = ends_well B types owner [] hold type [] now.rows m w now.inv in
      (end.0 (nothing B types owner hold type now.rows m w now.inv all), end.1)
