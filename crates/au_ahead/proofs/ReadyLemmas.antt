-- What a step asks of a variable, and what is left behind each action.
use Rattle.std.proofs.Common.{◌≡◌, ◌⊎◌, inl, inr, ℕ, ◌≤◌, ◌<◌, ◌==◌, Bool, true, false, not, ◌&&◌, ◌||◌}
use Rattle.std.proofs.Common.{refl, arith, if◌then◌else◌}
use Rattle.std.proofs.lemmas.Bool.{and_parts, or_cases, eqb-true, cases_lt}
use Rattle.au_lives.specs.declared.lives.LifeKind.{LifeKind}
use Rattle.au_lives.specs.declared.lives.LifeKind.TheVariants as kinds
use Rattle.au_lives.specs.Lives.{Fate, going, broken, Hold, unlent, read_lent, write_lent, hidden, is_quiet}
use Rattle.au_lives.specs.Lives.{is_exactly, is_untouched, is_ordinary, is_allowed, if_spent, verdict}
use Rattle.au_lives.specs.Mentions.{Counts, counts, plus, one_consumption, one_write_borrow, one_read_borrow}
use Rattle.au_lives.specs.Mentions.{one_look}
use Rattle.au_ahead.specs.Ready.{Stand, away, ready, shut, watched, stand_of, IsUnmet, IsQuiet}
use Rattle.au_ahead.specs.Ready.{Ready, IsOpen}

-- ---- tests of counts

exactly : (c w r l : ℕ) (k : Counts) → is_exactly (counts c w r l) k ≡ true
    → (k.consumed ≡ c) × (k.written ≡ w) × (k.read ≡ r) × (k.looked ≡ l)
exactly c w r l k e =
    let a = and_parts (k.consumed == c) ((k.written == w) && ((k.read == r) && (k.looked == l))) e in
    let b = and_parts (k.written == w) ((k.read == r) && (k.looked == l)) a.1 in
    let d = and_parts (k.read == r) (k.looked == l) b.1 in
    (eqb-true k.consumed c a.0, eqb-true k.written w b.0, eqb-true k.read r d.0, eqb-true k.looked l d.1)

quiet_is : (k : Counts) → is_quiet k ≡ true → IsQuiet k
quiet_is k e =
    let a = and_parts (k.consumed == 0) (k.written == 0) e in
    (eqb-true k.consumed 0 a.0, eqb-true k.written 0 a.1)

ordinary_is : (k : Counts) → is_ordinary k ≡ true → Ready ready k
ordinary_is k e =
    by (or_cases (is_quiet k) (is_exactly (counts 0 1 0 0) k || is_exactly (counts 1 0 0 0) k) e)
  where
    other : (is_exactly (counts 0 1 0 0) k ≡ true) ⊎ (is_exactly (counts 1 0 0 0) k ≡ true) → Ready ready k
    other (inl h) = inr (inl (exactly 0 1 0 0 k h))
    other (inr h) = inr (inr (exactly 1 0 0 0 k h))

    by : (is_quiet k ≡ true) ⊎ ((is_exactly (counts 0 1 0 0) k || is_exactly (counts 1 0 0 0) k) ≡ true)
        → Ready ready k
    by (inl h) = inl (quiet_is k h)
    by (inr h) = other (or_cases (is_exactly (counts 0 1 0 0) k) (is_exactly (counts 1 0 0 0) k) h)

-- ---- verdicts

if_good : (a : Bool) (f : Fate) (v : Bool) (kind : LifeKind) → (if a then f else broken kind) ≡ going v
    → (a ≡ true) × (f ≡ going v)
if_good true f v kind h = (refl, h)
if_good false f v kind h = absurd cc

spent_is : (k : Counts) (v : Bool) → if_spent k ≡ going v → IsUnmet k
spent_is k v h = exactly 0 0 0 0 k (if_good (is_untouched k) (going true) v kinds.Again h).0

pub step_ready : (h : Hold) (k : Counts) (spent v : Bool) → (h ≡ hidden → ⊥) → verdict h k spent ≡ going v
    → Ready (stand_of h spent) k
step_ready h k true v seen e = spent_is k v e
step_ready h k false v seen e =
    by h seen ordinary.0 allowed.0
  where
    ordinary : (is_ordinary k ≡ true) × ((if is_allowed h k then going (not (k.consumed == 0)) else broken kinds.Borrowed)
        ≡ going v)
    ordinary = if_good (is_ordinary k) (if is_allowed h k then going (not (k.consumed == 0)) else broken kinds.Borrowed) v
        kinds.Clash e

    allowed : (is_allowed h k ≡ true) × (going (not (k.consumed == 0)) ≡ going v)
    allowed = if_good (is_allowed h k) (going (not (k.consumed == 0))) v kinds.Borrowed ordinary.1

    by : (h : Hold) → (h ≡ hidden → ⊥) → is_ordinary k ≡ true → is_allowed h k ≡ true → Ready (stand_of h false) k
    by unlent seen a b = ordinary_is k a
    by read_lent seen a b = quiet_is k b
    by write_lent seen a b = exactly 0 0 0 0 k b
    by hidden seen a b = absurd (seen refl)

-- ---- actions

pub consumes : (st : Stand) (r : Counts) → Ready st (plus one_consumption r) → (st ≡ ready) × Ready away r
consumes away r h = absurd (omega arith)
consumes shut r h = absurd (omega arith)
consumes watched r h = absurd (omega arith)
consumes ready r (inl h) = absurd (omega arith)
consumes ready r (inr (inl h)) = absurd (omega arith)
consumes ready r (inr (inr h)) = (refl, (omega arith, omega arith, omega arith, omega arith))

pub lends : (st : Stand) (r : Counts) → Ready st (plus one_write_borrow r) → (st ≡ ready) × Ready shut r
lends away r h = absurd (omega arith)
lends shut r h = absurd (omega arith)
lends watched r h = absurd (omega arith)
lends ready r (inl h) = absurd (omega arith)
lends ready r (inr (inl h)) = (refl, (omega arith, omega arith, omega arith, omega arith))
lends ready r (inr (inr h)) = absurd (omega arith)

pub reads : (st : Stand) (r : Counts) → Ready st (plus one_read_borrow r) → IsOpen st × Ready watched r
reads away r h = absurd (omega arith)
reads shut r h = absurd (omega arith)
reads watched r h = (tt, (omega arith, omega arith))
reads ready r (inl h) = (tt, (omega arith, omega arith))
reads ready r (inr (inl h)) = absurd (omega arith)
reads ready r (inr (inr h)) = absurd (omega arith)

pub looks : (st : Stand) (r : Counts) → Ready st (plus one_look r) → IsOpen st × Ready st r
looks away r h = absurd (omega arith)
looks shut r h = absurd (omega arith)
looks watched r h = (tt, (omega arith, omega arith))
looks ready r (inl h) = (tt, inl (omega arith, omega arith))
looks ready r (inr (inl h)) = absurd (omega arith)
looks ready r (inr (inr h)) = absurd (omega arith)

-- ---- parts that are skipped

pub skipped : (st : Stand) (k r : Counts) → Ready st (plus k r) → Ready st r
skipped away k r h = (omega arith, omega arith, omega arith, omega arith)
skipped shut k r h = (omega arith, omega arith, omega arith, omega arith)
skipped watched k r h = (omega arith, omega arith)
skipped ready k r (inl h) = inl (omega arith, omega arith)
skipped ready k r (inr (inl h)) = by (cases_lt 0 r.written)
  where
    by : (0 < r.written) ⊎ (r.written ≤ 0) → Ready ready r
    by (inl some) = inr (inl (omega arith, omega arith, omega arith, omega arith))
    by (inr none) = inl (omega arith, omega arith)
skipped ready k r (inr (inr h)) = by (cases_lt 0 r.consumed)
  where
    by : (0 < r.consumed) ⊎ (r.consumed ≤ 0) → Ready ready r
    by (inl some) = inr (inr (omega arith, omega arith, omega arith, omega arith))
    by (inr none) = inl (omega arith, omega arith)
