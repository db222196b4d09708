-- What is told fits, event by event.
use Rattle.std.proofs.Common.{◌≡◌, ◌⊎◌, inl, inr, ℕ, suc, ◌+◌, ◌≤◌, ◌<◌, ◌==◌, Bool, true, false, List, [], ◌∷◌, ◌++◌}
use Rattle.std.proofs.Common.{Option, nat_lt, refl, ap, subst, arith}
use Rattle.std.proofs.lemmas.Bool.{cases_eq, cases_lt, eq-eqb, le-ltb, lt-ltb, ne_eqb}
use Rattle.au_effects.specs.Worlds.{Deed, born, closed, consumed, opened, used}
use Rattle.au_events.specs.Counts.{births, closings, ends, one_if, openings, tells_birth, tells_closing, tells_end}
use Rattle.au_events.specs.Counts.{tells_opening}
use Rattle.au_events.specs.Events.{AllClosed, AtMostOnce, Inside, Once, OwnMade}
use Rattle.au_events.specs.Laws.{FitsHome}
use Rattle.au_events.proofs.BirthLemmas.{bounded, lives_ended, lives_pushed}
use Rattle.au_events.proofs.BorrowLemmas.{uses_pushed}
use Rattle.au_events.proofs.CountLemmas.{summed_push}
use Rattle.au_events.proofs.HomeLemmas.{homes_pushed}
use Rattle.au_effects.specs.Values.{Place}
use Rattle.au_borrows.specs.Told.{Fits, Open, Told, times, with_birth, with_closing, with_closings, with_end, with_opening}
use Rattle.au_borrows.specs.Told.{with_use}

-- ---- numbers that are given in order

one_most : (b : Bool) → one_if b ≤ 1
one_most true = omega arith
one_most false = omega arith

next_one : (i n : ℕ) → one_if (nat_lt i n) + one_if (n == i) ≡ one_if (nat_lt i (suc n))
next_one i n = by (cases_eq n i) (cases_lt i n)
  where
    by : (n ≡ i) ⊎ (n ≡ i → ⊥) → (i < n) ⊎ (n ≤ i)
        → one_if (nat_lt i n) + one_if (n == i) ≡ one_if (nat_lt i (suc n))
    by (inl same) (inl less) = absurd (omega arith)
    by (inl same) (inr over) =
        let a = ap one_if (eq-eqb n i same) in
        let b = ap one_if (le-ltb i n over) in
        let c = ap one_if (lt-ltb i (suc n) (omega arith)) in
        omega arith
    by (inr differ) (inl less) =
        let a = ap one_if (ne_eqb n i differ) in
        let b = ap one_if (lt-ltb i n less) in
        let c = ap one_if (lt-ltb i (suc n) (omega arith)) in
        omega arith
    by (inr differ) (inr over) =
        let a = ap one_if (ne_eqb n i differ) in
        let b = ap one_if (le-ltb i n over) in
        let c = ap one_if (le-ltb i (suc n) (omega arith)) in
        omega arith

-- ---- events that leave something as it is

module _ {B : Type 0} (es : List (Deed B)) (e : Deed B) where
  -- an event that tells of no birth
  lives_stay : AtMostOnce es → ((i : ℕ) → tells_birth i e ≡ 0) → ((i : ℕ) → tells_end i e ≡ 0)
      → AtMostOnce (es ++ e ∷ [])
  lives_stay all no_birth no_end = lives_pushed es e all (λ i.
      let both = bounded es all i in
      let a = no_birth i in
      let b = no_end i in
      let c = both.0 in
      let d = both.1 in
      record { fresh = omega arith; alive = omega arith })

  homes_stay : (owner : B → Option (List ℕ)) → OwnMade owner es
      → ((i : ℕ) (of : B) (home : List ℕ) → e ≡ born i of home → ⊥) → OwnMade owner (es ++ e ∷ [])
  homes_stay owner all none = homes_pushed owner es e all (λ i of home own is h. absurd (none i of home is))

  -- an event that tells of no borrow
  uses_stay : Inside es → ((b : ℕ) → tells_opening b e ≡ 0) → ((b : ℕ) → tells_closing b e ≡ 0)
      → ((b : ℕ) → e ≡ used b → ⊥) → Inside (es ++ e ∷ [])
  uses_stay all no_opening no_closing no_use = uses_pushed es e all (λ b.
      let a = no_opening b in
      let c = no_closing b in
      let o = all.opened b in
      let d = all.closed b in
      record { opens = omega arith; closes = omega arith; uses = λ same. absurd (no_use b same) })

-- ---- what is told

module _ {B : Type 0} (owner : B → Option (List ℕ)) (count : ℕ → ℕ) (w : Told B) (fits : Fits owner count w) where
  pub fits_same : (other : ℕ → ℕ) → ((i : ℕ) → other i ≡ count i) → Fits owner other w
  fits_same other same = record {
    even = λ i. let a = same i in let b = fits.even i in omega arith;
    fresh = fits.fresh;
    lives = fits.lives;
    inside = fits.inside;
    homes = fits.homes;
    begun = fits.begun;
    open_now = fits.open_now;
  }

  -- a birth of the next number
  pub fits_born : (of : B) (home : List ℕ) (other : ℕ → ℕ) → ((i : ℕ) → other i ≡ count i + one_if (w.next_birth == i))
      → FitsHome owner (born w.next_birth of home) → Fits owner other (with_birth of home w)
  fits_born of home other more fitting = record {
    even = λ i.
        let a = births_more i in
        let b = summed_push (tells_end i) w.events (born w.next_birth of home) in
        let c = more i in
        let d = fits.even i in
        omega arith;
    fresh = λ i. let a = births_more i in let b = fits.fresh i in let c = next_one i w.next_birth in omega arith;
    lives = lives_pushed w.events (born w.next_birth of home) fits.lives (λ i.
        let b = fits.fresh i in
        let c = next_one i w.next_birth in
        let d = one_most (nat_lt i (suc w.next_birth)) in
        let e = fits.even i in
        record { fresh = omega arith; alive = omega arith });
    inside = uses_stay w.events (born w.next_birth of home) fits.inside (λ b. refl) (λ b. refl) (λ b same. cc);
    homes = homes_pushed owner w.events (born w.next_birth of home) fits.homes fitting;
    begun = λ b.
        let a = summed_push (tells_opening b) w.events (born w.next_birth of home) in
        let c = fits.begun b in
        omega arith;
    open_now = λ b.
        let a = summed_push (tells_opening b) w.events (born w.next_birth of home) in
        let d = summed_push (tells_closing b) w.events (born w.next_birth of home) in
        let c = fits.open_now b in
        omega arith;
  }
    where
      births_more : (i : ℕ) → births i (w.events ++ born w.next_birth of home ∷ [])
          ≡ births i w.events + one_if (w.next_birth == i)
      births_more i = summed_push (tells_birth i) w.events (born w.next_birth of home)

  -- a birth that is held is consumed
  pub fits_spent : (j : ℕ) (other : ℕ → ℕ) → ((i : ℕ) → other i + one_if (j == i) ≡ count i)
      → Fits owner other (with_end j w)
  fits_spent j other fewer = record {
    even = λ i.
        let a = ends_more i in
        let b = summed_push (tells_birth i) w.events (consumed j) in
        let c = fewer i in
        let d = fits.even i in
        omega arith;
    fresh = λ i.
        let b = summed_push (tells_birth i) w.events (consumed j) in
        let c = fits.fresh i in
        omega arith;
    lives = lives_pushed w.events (consumed j) fits.lives (λ i.
        let b = fits.fresh i in
        let d = one_most (nat_lt i w.next_birth) in
        let c = fewer i in
        let e = fits.even i in
        record { fresh = omega arith; alive = omega arith });
    inside = uses_stay w.events (consumed j) fits.inside (λ b. refl) (λ b. refl) (λ b same. cc);
    homes = homes_stay w.events (consumed j) owner fits.homes (λ i of home same. cc);
    begun = λ b.
        let a = summed_push (tells_opening b) w.events (consumed j) in
        let c = fits.begun b in
        omega arith;
    open_now = λ b.
        let a = summed_push (tells_opening b) w.events (consumed j) in
        let d = summed_push (tells_closing b) w.events (consumed j) in
        let c = fits.open_now b in
        omega arith;
  }
    where
      ends_more : (i : ℕ) → ends i (w.events ++ consumed j ∷ []) ≡ ends i w.events + one_if (j == i)
      ends_more i = summed_push (tells_end i) w.events (consumed j)

  -- what tells of no birth leaves the balance
  module _ (e : Deed B) (no_birth : (i : ℕ) → tells_birth i e ≡ 0) (no_end : (i : ℕ) → tells_end i e ≡ 0) where
    even_stays : (i : ℕ) → count i + ends i (w.events ++ e ∷ []) ≡ births i (w.events ++ e ∷ [])
    even_stays i =
        let a = summed_push (tells_birth i) w.events e in
        let b = summed_push (tells_end i) w.events e in
        let c = no_birth i in
        let d = no_end i in
        let old = fits.even i in
        omega arith

    fresh_stays : (i : ℕ) → births i (w.events ++ e ∷ []) ≡ one_if (nat_lt i w.next_birth)
    fresh_stays i =
        let a = summed_push (tells_birth i) w.events e in
        let c = no_birth i in
        let old = fits.fresh i in
        omega arith

  -- the next borrow is opened
  pub fits_opened : (writes : Bool) (place : Place) → Fits owner count (with_opening writes place w)
  fits_opened writes place = record {
    even = even_stays (opened w.next_borrow) (λ i. refl) (λ i. refl);
    fresh = fresh_stays (opened w.next_borrow) (λ i. refl) (λ i. refl);
    lives = lives_stay w.events (opened w.next_borrow) fits.lives (λ i. refl) (λ i. refl);
    inside = uses_pushed w.events (opened w.next_borrow) fits.inside (λ b.
        let a = fits.begun b in
        let c = next_one b w.next_borrow in
        let d = one_most (nat_lt b (suc w.next_borrow)) in
        let f = fits.inside.closed b in
        record { opens = omega arith; closes = omega arith; uses = λ same. absurd cc });
    homes = homes_stay w.events (opened w.next_borrow) owner fits.homes (λ i of home same. cc);
    begun = λ b.
        let a = openings_more b in
        let c = fits.begun b in
        let d = next_one b w.next_borrow in
        omega arith;
    open_now = λ b.
        let a = openings_more b in
        let d = summed_push (tells_closing b) w.events (opened w.next_borrow) in
        let c = fits.open_now b in
        omega arith;
  }
    where
      openings_more : (b : ℕ) → openings b (w.events ++ opened w.next_borrow ∷ [])
          ≡ openings b w.events + one_if (w.next_borrow == b)
      openings_more b = summed_push (tells_opening b) w.events (opened w.next_borrow)

  -- a borrow that lies open is open
  pub is_open : (b : ℕ) → 1 ≤ times b w.lying → (1 ≤ openings b w.events) × (closings b w.events ≡ 0)
  is_open b there =
      let a = fits.open_now b in
      let c = fits.begun b in
      let d = one_most (nat_lt b w.next_borrow) in
      (omega arith, omega arith)

  -- one that lies open is used
  pub fits_used : (b : ℕ) → 1 ≤ times b w.lying → Fits owner count (with_use b w)
  fits_used b there = record {
    even = even_stays (used b) (λ i. refl) (λ i. refl);
    fresh = fresh_stays (used b) (λ i. refl) (λ i. refl);
    lives = lives_stay w.events (used b) fits.lives (λ i. refl) (λ i. refl);
    inside = uses_pushed w.events (used b) fits.inside (λ c.
        let o = fits.inside.opened c in
        let d = fits.inside.closed c in
        record { opens = omega arith; closes = omega arith; uses = λ same. is_same c same });
    homes = homes_stay w.events (used b) owner fits.homes (λ i of home same. cc);
    begun = λ c.
        let a = summed_push (tells_opening c) w.events (used b) in
        let d = fits.begun c in
        omega arith;
    open_now = λ c.
        let a = summed_push (tells_opening c) w.events (used b) in
        let d = summed_push (tells_closing c) w.events (used b) in
        let e = fits.open_now c in
        omega arith;
  }
    where
      is_same : (c : ℕ) → ◌≡◌ {A = Deed B} (used b) (used c)
          → (1 ≤ openings c w.events) × (closings c w.events ≡ 0)
      is_same c same =
          let alike : b ≡ c = cc in
          subst (λ d. (1 ≤ openings d w.events) × (closings d w.events ≡ 0)) alike (is_open b there)

  -- the newest that lies open is closed
  pub fits_closed : (b : Open) (left : List Open) → w.lying ≡ b ∷ left → Fits owner count (with_closing b left w)
  fits_closed b left lies = record {
    even = even_stays (closed b.number) (λ i. refl) (λ i. refl);
    fresh = fresh_stays (closed b.number) (λ i. refl) (λ i. refl);
    lives = lives_stay w.events (closed b.number) fits.lives (λ i. refl) (λ i. refl);
    inside = uses_pushed w.events (closed b.number) fits.inside (λ c.
        let o = fits.inside.opened c in
        let a = fits.open_now c in
        let d = ap (times c) lies in
        record { opens = omega arith; closes = omega arith; uses = λ same. absurd cc });
    homes = homes_stay w.events (closed b.number) owner fits.homes (λ i of home same. cc);
    begun = λ c.
        let a = summed_push (tells_opening c) w.events (closed b.number) in
        let d = fits.begun c in
        omega arith;
    open_now = λ c.
        let a = summed_push (tells_opening c) w.events (closed b.number) in
        let d = closings_more c in
        let e = fits.open_now c in
        let f = ap (times c) lies in
        omega arith;
  }
    where
      closings_more : (c : ℕ) → closings c (w.events ++ closed b.number ∷ []) ≡ closings c w.events + one_if (b.number == c)
      closings_more c = summed_push (tells_closing c) w.events (closed b.number)

  -- ---- the end

  pub ends_once : ((i : ℕ) → count i ≡ 0) → Once w.events
  ends_once none = lives_ended w.events fits.lives (λ i. let a = none i in let b = fits.even i in omega arith)

  pub all_closed : w.lying ≡ [] → AllClosed w.events
  all_closed none b some =
      let a = fits.open_now b in
      let c = ap (times b) none in
      omega arith

-- ---- several are closed

pub fits_ended : {B : Type 0} (owner : B → Option (List ℕ)) (count : ℕ → ℕ) (newer left : List Open) (w : Told B)
    → w.lying ≡ newer ++ left → Fits owner count w → Fits owner count (with_closings newer left w)
fits_ended owner count [] left w lies fits = fits
fits_ended owner count (b ∷ rest) left w lies fits =
    fits_ended owner count rest left (with_closing b (rest ++ left) w) refl (fits_closed owner count w fits b (rest ++ left) lies)

pub lying_after : {B : Type 0} (newer left : List Open) (w : Told B) → w.lying ≡ newer ++ left
    → (with_closings newer left w).lying ≡ left
lying_after [] left w lies = lies
lying_after (b ∷ rest) left w lies = lying_after rest left (with_closing b (rest ++ left) w) refl

pub next_after : {B : Type 0} (newer left : List Open) (w : Told B) → (with_closings newer left w).next_borrow ≡ w.next_borrow
next_after [] left w = refl
next_after (b ∷ rest) left w = next_after rest left (with_closing b (rest ++ left) w)
