-- What a step that doesn't break a life does to how a name stands.
use Rattle.std.proofs.Common.{◌≡◌, ◌⊎◌, inl, inr, ℕ, zero, suc, ◌==◌, Bool, true, false, not, refl, sym, ap}
use Rattle.std.proofs.Common.{◌∙◌}
use Rattle.std.proofs.Common.{arith, if◌then◌else◌}
use Rattle.std.proofs.lemmas.Bool.{eqb-true}
use Rattle.au_ahead.specs.Ahead.{OnGood}
use Rattle.au_ahead.specs.Ready.{Ready, stand_of}
use Rattle.au_ahead.proofs.ReadyLemmas.{step_ready}
use Rattle.au_lives.specs.declared.lives.LifeKind.{LifeKind}
use Rattle.au_lives.specs.declared.lives.LifeKind.TheVariants as kinds
use Rattle.au_lives.specs.Lives as life
use Rattle.au_lives.specs.Lives.{Fate, broken, going, is_allowed, is_ordinary}
use Rattle.au_lives.specs.Lives.{is_untouched}
use Rattle.au_lives.specs.Lives.{unless_hidden, verdict}
use Rattle.au_lives.specs.Mentions.{Counts}
use Rattle.au_memory.specs.Forests.{Hold, empty, ready, shut, watched}
use Rattle.au_running_lives.specs.Lives.{spent, stand}
use Rattle.au_judged_bodies.specs.NamesAheadStanding.{hold_of, left}

-- whether a variable is consumed behind a step that meets it so
abbrev pub spent_by : Counts → Bool → Bool
spent_by c u = if c.consumed == 0 then u else true

pub good_is : (f : Fate) (R : Bool → Type 0) → OnGood f R → (v : Bool) × (f ≡ going v) × R v
good_is (going v) R h = (v, refl, h)
good_is (broken kind) R h = absurd h

same_going : (a b : Bool) → ◌≡◌ {A = Fate} (going a) (going b) → a ≡ b
same_going a b e = cc

if_good : (a : Bool) (f : Fate) (v : Bool) (kind : LifeKind) → (if a then f else broken kind) ≡ going v
    → (a ≡ true) × (f ≡ going v)
if_good true f v kind h = (refl, h)
if_good false f v kind h = absurd cc

both_true : (b : Bool) → true ≡ (if b then true else true)
both_true true = refl
both_true false = refl

not_is : (b : Bool) → not b ≡ (if b then false else true)
not_is true = refl
not_is false = refl

-- whether it is consumed then
pub verdict_gives : (h : life.Hold) (c : Counts) (u v : Bool) → verdict h c u ≡ going v → v ≡ spent_by c u
verdict_gives h c true v e =
    let same = same_going true v (if_good (is_untouched c) (going true) v kinds.Again e).1 in
    sym same ∙ both_true (c.consumed == 0)
verdict_gives h c false v e =
    let inner = if is_allowed h c then going (not (c.consumed == 0)) else broken kinds.Borrowed in
    let first = if_good (is_ordinary c) inner v kinds.Clash e in
    let second = if_good (is_allowed h c) (going (not (c.consumed == 0))) v kinds.Borrowed first.1 in
    let same = same_going (not (c.consumed == 0)) v second.1 in
    sym same ∙ not_is (c.consumed == 0)

pub unspent : (c : Counts) (u : Bool) → c.consumed ≡ 0 → spent_by c u ≡ u
unspent c u none = ap (λ (n : ℕ). if n == 0 then u else true) none

-- how its name stands then
pub spends : (n : ℕ) (u : Bool) (h : Hold) → spent n (left u h) ≡ left (if n == 0 then u else true) h
spends zero u h = refl
spends (suc n) u h = by (suc n == 0) refl
  where
    by : (b : Bool) → (suc n == 0) ≡ b → empty ≡ left (if b then u else true) h
    by true e = let never : suc n ≡ 0 = eqb-true (suc n) 0 e in absurd (omega (arith, never))
    by false e = refl

pub spends_nothing : (n : ℕ) → spent n empty ≡ empty
spends_nothing zero = refl
spends_nothing (suc n) = refl

-- ---- how it stands

pub seen : (h : Hold) → hold_of h ≡ life.hidden → ⊥
seen empty e = absurd cc
seen ready e = absurd cc
seen (shut z) e = absurd cc
seen (watched tokens) e = absurd cc

pub not_hidden : (h : Hold) (c : Counts) → unless_hidden (hold_of h) c ≡ c
not_hidden empty c = refl
not_hidden ready c = refl
not_hidden (shut z) c = refl
not_hidden (watched tokens) c = refl

stands_so : (u : Bool) (h : Hold) (c : Counts) → Ready (stand_of (hold_of h) u) c → Ready (stand (left u h)) c
stands_so true h c r = r
stands_so false empty c r = r
stands_so false ready c r = r
stands_so false (shut z) c r = r
stands_so false (watched tokens) c r = r

pub verdict_ready : (h : Hold) (c : Counts) (u v : Bool) → verdict (hold_of h) c u ≡ going v
    → Ready (stand (left u h)) c
verdict_ready h c u v e = stands_so u h c (step_ready (hold_of h) c u v (seen h) e)

-- what is lent isn't consumed
pub lent_stays : (h : Hold) (c : Counts) (v : Bool) → verdict (hold_of h) c false ≡ going v
    → (h ≡ ready) ⊎ (spent_by c false ≡ false)
lent_stays h c v e = by h (verdict_ready h c false v e)
  where
    by : (h : Hold) → Ready (stand (left false h)) c → (h ≡ ready) ⊎ (spent_by c false ≡ false)
    by empty r = inr (unspent c false r.0)
    by ready r = inl refl
    by (shut z) r = inr (unspent c false r.0)
    by (watched tokens) r = inr (unspent c false r.0)

-- a step behind which it is as before doesn't consume it
pub kept_by : (h : Hold) (c : Counts) (u : Bool) → Ready (stand (left u h)) c → spent_by c u ≡ u
    → c.consumed ≡ 0
kept_by h c true r same = r.0
kept_by h c false r same = by (c.consumed == 0) refl same
  where
    by : (b : Bool) → (c.consumed == 0) ≡ b → (if b then false else true) ≡ false → c.consumed ≡ 0
    by true e same = eqb-true c.consumed 0 e
    by false e same = absurd cc
