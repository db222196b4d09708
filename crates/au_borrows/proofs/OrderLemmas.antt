-- The order of tokens and of borrows.
use Rattle.std.proofs.Common.{◌≡◌, ◌⊎◌, inl, inr, ℕ, ◌+◌, ◌≤◌, ◌==◌, Bool, true, false, if◌then◌else◌, List, [], ◌∷◌}
use Rattle.std.proofs.Common.{◌++◌, refl, ap, ◌∙◌, arith}
use Rattle.std.proofs.lemmas.Bool.{eq-eqb, eqb-true}
use Rattle.au_events.specs.Counts.{one_if}
use Rattle.au_borrows.specs.Orders.{Act, AreStacked, Lies, is_active}
use Rattle.au_borrows.specs.Told.{Open, times}

-- ---- lists of borrows

pub times_join : (b : ℕ) (xs ys : List Open) → times b (xs ++ ys) ≡ times b xs + times b ys
times_join b [] ys = omega arith
times_join b (x ∷ xs) ys = let rest = times_join b xs ys in omega arith

pub times_below : (b : ℕ) (lying newer base : List Open) → lying ≡ newer ++ base
    → times b lying ≡ times b newer + times b base
times_below b lying newer base is = ap (times b) is ∙ times_join b newer base

-- a borrow that lies for a token lies open
pub lies_times : (acts : List Act) (lying : List Open) (z b : ℕ) → AreStacked acts lying → Lies acts lying z b
    → 1 ≤ times b lying
lies_times [] lying z b stacked lies = absurd lies
lies_times (a ∷ rest) lying z b stacked (inl both) =
    let above = both.1 in
    let all = times_below b lying above.newer a.base above.is in
    let there = above.there in
    omega arith
lies_times (a ∷ rest) lying z b stacked (inr pair) =
    let below = stacked.0 in
    let all = times_below b lying below.newer a.base below.is in
    let there = lies_times rest a.base z b stacked.1 pair.1 in
    omega arith

-- ---- one more borrow

pub lies_more : (acts : List Act) (lying : List Open) (z b : ℕ) (n : Open) → Lies acts lying z b → Lies acts (n ∷ lying) z b
lies_more [] lying z b n lies = absurd lies
lies_more (a ∷ rest) lying z b n (inl both) =
    let above = both.1 in
    let there = above.there in
    inl (
      both.0,
      record {
        newer = n ∷ above.newer;
        is = ap (λ l. n ∷ l) above.is;
        there = omega arith;
      },
    )
lies_more (a ∷ rest) lying z b n (inr pair) = inr pair

pub lies_now : (a : Act) (rest : List Act) (lying : List Open) (b : Open) → AreStacked (a ∷ rest) lying
    → Lies (a ∷ rest) (b ∷ lying) a.token b.number
lies_now a rest lying b stacked =
    let below = stacked.0 in
    let own : one_if (b.number == b.number) ≡ 1 = ap one_if (eq-eqb b.number b.number refl) in
    inl (
      refl,
      record {
        newer = b ∷ below.newer;
        is = ap (λ l. b ∷ l) below.is;
        there = omega arith;
      },
    )

pub stacked_more : (acts : List Act) (lying : List Open) (n : Open) → AreStacked acts lying → AreStacked acts (n ∷ lying)
stacked_more [] lying n stacked = tt
stacked_more (a ∷ rest) lying n stacked =
    let below = stacked.0 in
    (record { newer = n ∷ below.newer; is = ap (λ l. n ∷ l) below.is }, stacked.1)

-- ---- tokens

-- a token that is active is the newest, or was active before
pub active_cases : (a : Act) (rest : List Act) (z : ℕ) → is_active (a ∷ rest) z ≡ true
    → (a.token ≡ z) ⊎ (is_active rest z ≡ true)
active_cases a rest z h = by (a.token == z) refl h
  where
    by : (b : Bool) → (a.token == z) ≡ b → (if b then true else is_active rest z) ≡ true
        → (a.token ≡ z) ⊎ (is_active rest z ≡ true)
    by true e h = inl (eqb-true a.token z e)
    by false e h = inr h

pub active_more : (a : Act) (rest : List Act) (z : ℕ) → is_active rest z ≡ true → is_active (a ∷ rest) z ≡ true
active_more a rest z h = by (a.token == z)
  where
    by : (b : Bool) → (if b then true else is_active rest z) ≡ true
    by true = refl
    by false = h

-- what lies for an older token than the newest lies below what the newest began with
pub lies_older : (a : Act) (rest : List Act) (lying : List Open) (z b : ℕ) → (z ≡ a.token → ⊥)
    → Lies (a ∷ rest) lying z b → Lies rest a.base z b
lies_older a rest lying z b differ (inl both) = absurd (differ both.0)
lies_older a rest lying z b differ (inr pair) = pair.1
