-- The invariant goes on from one action to the next.
use Rattle.std.proofs.Common.{◌≡◌, ◌⊎◌, inl, inr, ℕ, ◌+◌, ◌<◌, ◌≤◌, Bool, true, List, [], ◌∷◌, Option, Some}
use Rattle.std.proofs.Common.{if◌then◌else◌, refl, sym, ap, subst, arith}
use Rattle.std.proofs.lemmas.Bool.{eq-eqb}
use Rattle.au_effects.specs.Values.{Place}
use Rattle.au_places.specs.Memories.{Memory}
use Rattle.au_places.specs.Places.{birth}
use Rattle.au_types.specs.Types.{Meaning}
use Rattle.au_memory.specs.Forests.{Core, Holds, Made, in_forest, in_list}
use Rattle.au_memory.specs.Loans.{Types, Loan, Table}
use Rattle.au_memory.proofs.UsableLemmas.{writer_is_loan}
use Rattle.au_borrows.specs.Invariants.{AreLinked, AreOwned, Inv}
use Rattle.au_borrows.specs.Laws.{AreOpened, AreParts, BearsOn, BeginsOn, EndsOn, EndsWell, IsNewPart, IsOpening, KeepsOn, OpensOn}
use Rattle.au_borrows.specs.Laws.{SpendsOn}
use Rattle.au_borrows.specs.Laws.{UsesOn}
use Rattle.au_borrows.specs.Orders.{Act, AreSorted, AreStacked, Lies, is_active}
use Rattle.au_borrows.specs.Told.{Open, Told, times, with_closings}
use Rattle.au_borrows.proofs.LinkLemmas.{begun_linked, ended_linked, opened_linked, parts_linked}
use Rattle.au_borrows.proofs.FitLemmas.{all_closed, ends_once, fits_born, fits_ended, fits_opened, fits_same, fits_spent}
use Rattle.au_borrows.proofs.FitLemmas.{fits_used, lying_after, next_after}
use Rattle.au_borrows.proofs.OrderLemmas.{active_cases, active_more, lies_more, lies_now, lies_older, lies_times}
use Rattle.au_borrows.proofs.OrderLemmas.{stacked_more}

module _ (B : Type 0) (types : Types) (owner : B → Option (List ℕ)) (acts : List Act) (hold : Holds)
    (type : ℕ → ℕ → Meaning) (under : Made) (s : Table) (m : Memory (List ℕ)) (w : Told B)
    (inv : Inv types owner acts hold type under s m w) where
  abbrev count : ℕ → ℕ
  count i = in_forest (birth i) inv.core.top inv.core.forest + in_list (birth i) inv.core.trees

  -- how often a borrow lies open
  most_once : (b : ℕ) → times b w.lying ≤ 1
  most_once b =
      let a = inv.fits.open_now b in
      let c = inv.fits.inside.opened b in
      omega (arith, a, c)

  parts_owned : (q : Table) → AreParts s q → AreOwned acts w.lying q
  parts_owned q parts g l row loan on = by (parts.each g l row loan)
    where
      by : (s g ≡ Some l) ⊎ IsNewPart s g l → Lies acts w.lying l.token l.borrow
      by (inl old) = inv.owned g l old loan on
      by (inr new) =
          subst (λ b. Lies acts w.lying l.token b) new.borrow
          (subst (λ z. Lies acts w.lying z new.row.borrow) new.token
          (inv.owned new.from new.row new.has (writer_is_loan new.row.via new.writes)
          (subst (λ z. is_active acts z ≡ true) (sym new.token) on)))

  module _ (clock : ℕ) (others : Holds) (kinds : ℕ → ℕ → Meaning) (now : Made) (q : Table) (n : Memory (List ℕ))
      (after : Core types clock (is_active acts) (is_active acts) others kinds now q n) where
    abbrev later : ℕ → ℕ
    later i = in_forest (birth i) after.top after.forest + in_list (birth i) after.trees

    pub keeps_on : KeepsOn B types owner acts hold type under s m w inv clock others kinds now q n after
    keeps_on same parts = record {
      clock = clock;
      core = after;
      fits = fits_same owner count w inv.fits later same;
      stacked = inv.stacked;
      sorted = inv.sorted;
      owned = parts_owned q parts;
      linked = parts_linked acts w.lying w.next_borrow s inv.linked inv.core.older q parts;
    }

    pub bears_on : BearsOn B types owner acts hold type under s m w inv clock others kinds now q n after
    bears_on of home more fitting parts = record {
      clock = clock;
      core = after;
      fits = fits_born owner count w inv.fits of home later more fitting;
      stacked = inv.stacked;
      sorted = inv.sorted;
      owned = parts_owned q parts;
      linked = parts_linked acts w.lying w.next_borrow s inv.linked inv.core.older q parts;
    }

    pub spends_on : SpendsOn B types owner acts hold type under s m w inv clock others kinds now q n after
    spends_on j fewer parts = record {
      clock = clock;
      core = after;
      fits = fits_spent owner count w inv.fits j later fewer;
      stacked = inv.stacked;
      sorted = inv.sorted;
      owned = parts_owned q parts;
      linked = parts_linked acts w.lying w.next_borrow s inv.linked inv.core.older q parts;
    }

  -- a loan of the borrow that is opened lies above all others
  opened_owned : (a : Act) (older : List Act) (q : Table) (writes : Bool) (place : Place) → acts ≡ a ∷ older
      → AreOpened a.token w.next_borrow writes place s q
      → AreOwned acts (record { number = w.next_borrow; writes = writes; place = place } ∷ w.lying) q
  opened_owned a older q writes place is new g l row loan on = by (new.each g l row loan)
    where
      lying : List Open
      lying = record { number = w.next_borrow; writes = writes; place = place } ∷ w.lying

      by : (s g ≡ Some l) ⊎ ((g ≡ new.loan) × IsOpening a.token w.next_borrow writes l)
          → Lies acts lying l.token l.borrow
      by (inl old) =
          lies_more acts w.lying l.token l.borrow (record { number = w.next_borrow; writes = writes; place = place })
          (inv.owned g l old loan on)
      by (inr both) =
          let here : Lies (a ∷ older) lying a.token w.next_borrow =
          lies_now a older w.lying (record { number = w.next_borrow; writes = writes; place = place })
          (subst (λ list. AreStacked list w.lying) is inv.stacked) in
          subst (λ list. Lies list lying l.token l.borrow) (sym is)
          (subst (λ z. Lies (a ∷ older) lying z l.borrow) (sym both.1.token)
          (subst (λ b. Lies (a ∷ older) lying a.token b) (sym both.1.borrow) here))

  newest_on : (a : Act) (older : List Act) → acts ≡ a ∷ older → is_active acts a.token ≡ true
  newest_on a older is =
      subst (λ list. is_active list a.token ≡ true) (sym is)
      (ap (λ b. if b then true else is_active older a.token) (eq-eqb a.token a.token refl))

  pub opens_on : OpensOn B types owner acts hold type under s m w inv
  opens_on a older clock others kinds now q n writes place is after same new = record {
    clock = clock;
    core = after;
    fits = fits_opened owner (λ i. in_forest (birth i) after.top after.forest + in_list (birth i) after.trees) w
        (fits_same owner count w inv.fits
        (λ i. in_forest (birth i) after.top after.forest + in_list (birth i) after.trees) same) writes place;
    stacked = stacked_more acts w.lying (record { number = w.next_borrow; writes = writes; place = place }) inv.stacked;
    sorted = inv.sorted;
    owned = opened_owned a older q writes place is new;
    linked = opened_linked acts w.lying w.next_borrow s inv.linked inv.core.older a.token writes place q new
        (newest_on a older is) after.older;
  }

  pub uses_on : UsesOn B types owner acts hold type under s m w inv
  uses_on g l row loan on = record {
    clock = inv.clock;
    core = inv.core;
    fits = fits_used owner count w inv.fits l.borrow
        (lies_times acts w.lying l.token l.borrow inv.stacked (inv.owned g l row loan on));
    stacked = inv.stacked;
    sorted = inv.sorted;
    owned = inv.owned;
    linked = inv.linked;
  }

  -- a token that is newer than the clock
  begun_owned : (a : Act) → a.base ≡ w.lying → ((g : ℕ) (l : Loan) → s g ≡ Some l → l.token ≡ a.token → ⊥)
      → AreOwned (a ∷ acts) w.lying s
  begun_owned a base fresh g l row loan on = by (active_cases a acts l.token on)
    where
      by : (a.token ≡ l.token) ⊎ (is_active acts l.token ≡ true) → Lies (a ∷ acts) w.lying l.token l.borrow
      by (inl same) = absurd (fresh g l row (sym same))
      by (inr old) =
          inr (fresh g l row, subst (λ b. Lies acts b l.token l.borrow) (sym base) (inv.owned g l row loan old))

  newer_all : (z : ℕ) → inv.clock < z → (y : ℕ) → is_active acts y ≡ true → y < z
  newer_all z less y on = let most = inv.core.acted y on in omega arith

  unused : (z : ℕ) → inv.clock < z → (g : ℕ) (l : Loan) → s g ≡ Some l → l.token ≡ z → ⊥
  unused z less g l row same = let most = inv.core.ticked g l row in omega arith

  pub begins_on : BeginsOn B types owner acts hold type under s m w inv
  begins_on z clock less after same = record {
    clock = clock;
    core = after;
    fits = fits_same owner count w inv.fits
        (λ i. in_forest (birth i) after.top after.forest + in_list (birth i) after.trees) same;
    stacked = (record { newer = []; is = refl }, inv.stacked);
    sorted = (newer_all z less, inv.sorted);
    owned = begun_owned (record { token = z; base = w.lying }) refl (unused z less);
    linked = begun_linked acts w.lying w.next_borrow s inv.linked inv.core.older (record { token = z; base = w.lying });
  }

  -- the loans of older tokens lie below
  ended_owned : (a : Act) (older : List Act) → acts ≡ a ∷ older → AreOwned older a.base s
  ended_owned a older is g l row loan on =
      let sorted' = subst AreSorted is inv.sorted in
      let less = sorted'.0 l.token on in
      let on' : is_active acts l.token ≡ true =
      subst (λ list. is_active list l.token ≡ true) (sym is) (active_more a older l.token on) in
      let lies : Lies (a ∷ older) w.lying l.token l.borrow =
      subst (λ list. Lies list w.lying l.token l.borrow) is (inv.owned g l row loan on') in
      lies_older a older w.lying l.token l.borrow (λ same. omega arith) lies

  pub ends_on : EndsOn B types owner acts hold type under s m w inv
  ends_on a older clock others newer is lies after same =
      let left = lying_after newer a.base w lies in
      let stacked' = subst (λ list. AreStacked list w.lying) is inv.stacked in
      let sorted' = subst AreSorted is inv.sorted in
      record {
        clock = clock;
        core = after;
        fits = fits_ended owner (λ i. in_forest (birth i) after.top after.forest + in_list (birth i) after.trees)
            newer a.base w lies (fits_same owner count w inv.fits
            (λ i. in_forest (birth i) after.top after.forest + in_list (birth i) after.trees) same);
        stacked = subst (λ l. AreStacked older l) (sym left) stacked'.1;
        sorted = sorted'.1;
        owned = subst (λ l. AreOwned older l s) (sym left) (ended_owned a older is);
        linked = subst (λ n. AreLinked older (with_closings newer a.base w).lying n s) (sym (next_after newer a.base w))
            (subst (λ l. AreLinked older l w.next_borrow s) (sym left)
            (ended_linked acts w.lying w.next_borrow s inv.linked inv.core.older a older newer is lies inv.owned
            most_once));
      }

  pub ends_well : EndsWell B types owner acts hold type under s m w inv
  ends_well = (λ none. ends_once owner count w inv.fits none, λ none. all_closed owner count w inv.fits none)
