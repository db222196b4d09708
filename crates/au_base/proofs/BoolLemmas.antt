-- Truth values: what `lemmas.Bool` of std doesn't have.
use Rattle.std.proofs.Common.{◌≡◌, Bool, true, false, ◌&&◌, ◌||◌, cond, ◌⊎◌, inl, inr, refl, sym}

-- the first of two that both hold
pub and_first : (a b : Bool) → (a && b) ≡ true → a ≡ true
and_first true b h = refl
and_first false b h = h

-- the second of two that both hold
pub and_second : (a b : Bool) → (a && b) ≡ true → b ≡ true
and_second true b h = h
and_second false b h = absurd cc

-- with one that holds
pub and_true : (b : Bool) → (b && true) ≡ b
and_true true = refl
and_true false = refl

-- with one that doesn't hold
pub and_false : (b : Bool) → (b && false) ≡ false
and_false true = refl
and_false false = refl

-- or one that doesn't hold
pub or_false : (b : Bool) → (b || false) ≡ b
or_false true = refl
or_false false = refl

-- the first of two that don't both fail, where the second does
pub first_holds : (b : Bool) → (b || false) ≡ true → b ≡ true
first_holds true h = refl
first_holds false h = h

-- none is both
pub never_both : {A : Type 0} (b : Bool) → b ≡ true → b ≡ false → A
never_both true h k = absurd cc
never_both false h k = absurd cc

-- two that follow from each other are one
pub same_truth : (a b : Bool) → (a ≡ true → b ≡ true) → (b ≡ true → a ≡ true) → a ≡ b
same_truth true b there back = sym (there refl)
same_truth false true there back = back refl
same_truth false false there back = refl

-- which way a test went
pub cond_cases : {A : Type 0} (b : Bool) (x y z : A) → cond b x y ≡ z
    → ((b ≡ true) × (x ≡ z)) ⊎ ((b ≡ false) × (y ≡ z))
cond_cases true x y z h = inl (refl, h)
cond_cases false x y z h = inr (refl, h)
