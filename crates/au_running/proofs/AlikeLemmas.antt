-- Runs of code with as many events.
use Rattle.std.proofs.Common.{◌≡◌, ℕ, ◌+◌, ◌-◌, ◌≤◌, Bool, true, false, List, [], ◌∷◌, ◌++◌, length, refl, sym}
use Rattle.std.proofs.Common.{ap, subst, ◌∙◌, arith, nat_lt, ltb-true, ltb-false, length-append}
use Rattle.std.proofs.lemmas.List.{append-nil}
use Rattle.au_low.specs.Runs.{low_run}
use Rattle.au_low.specs.declared.code.Code.{Code}
use Rattle.au_lowered.proofs.GrowthLemmas.{run_grown}
use Rattle.au_meaning.specs.Laws.{Begins}

-- a list is another of its length, if it begins that
pub begins_all : {A : Type 0} (xs ys : List A) → Begins xs ys → length xs ≡ length ys → xs ≡ ys
begins_all {A} xs ys begins same = by begins.0 begins.1
  where
    by : (more : List A) → ys ≡ xs ++ more → xs ≡ ys
    by [] is = sym (is ∙ append-nil xs)
    by (x ∷ more) is =
        let longer = ap length is ∙ length-append xs (x ∷ more) in absurd (omega (arith, same, longer))

-- the events of one run with so many steps and with more, where they are as many
fewer_alike : (keeps : Bool) (code : Code) (input : List ℕ) (few many : ℕ) → few ≤ many
    → length (low_run keeps code input few).events ≡ length (low_run keeps code input many).events
    → (low_run keeps code input few).events ≡ (low_run keeps code input many).events
fewer_alike keeps code input few many less same =
    let all : few + (many - few) ≡ many = omega (arith, less) in
    let grown : Begins (low_run keeps code input few).events (low_run keeps code input many).events =
    subst (λ k. Begins (low_run keeps code input few).events (low_run keeps code input k).events) all
    (run_grown keeps code input few (many - few)).events in
    begins_all (low_run keeps code input few).events (low_run keeps code input many).events grown same

pub alike_at : (keeps : Bool) (code : Code) (input : List ℕ) (one other : ℕ)
    → length (low_run keeps code input one).events ≡ length (low_run keeps code input other).events
    → (low_run keeps code input one).events ≡ (low_run keeps code input other).events
alike_at keeps code input one other same = by (nat_lt one other) refl
  where
    by : (less : Bool) → nat_lt one other ≡ less
        → (low_run keeps code input one).events ≡ (low_run keeps code input other).events
    by true is =
        let less = ltb-true one other is in
        fewer_alike keeps code input one other (omega (arith, less)) same
    by false is =
        sym (fewer_alike keeps code input other one (ltb-false one other is) (sym same))
