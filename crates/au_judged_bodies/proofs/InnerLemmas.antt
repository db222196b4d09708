-- Blocks inside of others: what holds where they end, given that what lies ahead in them is walked.
use Rattle.std.proofs.Common.{◌≡◌, ℕ, ◌+◌, ◌<◌, ◌≤◌, Bool, true, false, List}
use Rattle.std.proofs.Common.{refl, ap, subst, arith, if◌then◌else◌}
use Rattle.au_ahead.specs.Ahead.{AheadAll, Ends}
use Rattle.au_ahead.proofs.MoreLemmas.{more_all}
use Rattle.au_lives.specs.declared.lives.Sort.{Sort}
use Rattle.au_memory.specs.Forests.{Hold, empty, ready}
use Rattle.au_meaning.specs.Names.{Scope, names_in_block}
use Rattle.au_meaning.specs.Views.{View}
use Rattle.au_syntax.specs.Plain.{Bytes, plain_statements}
use Rattle.au_syntax.specs.Statements.{Statements}
use Rattle.au_running_lives.specs.Lives as run
use Rattle.au_running_lives.specs.Lives.{Over, Standing}
use Rattle.au_judged_bodies.specs.Lived.{loose_by}
use Rattle.au_judged_bodies.specs.NamesAheadStanding.{hold_of, is_named, left, standing}
use Rattle.au_judged_bodies.proofs.BornLemmas.{Grows}
use Rattle.au_judged_bodies.proofs.ScopeLemmas.{Extends, Holds, Numbered, at_number, extends_on}
use Rattle.au_judged_bodies.proofs.NamesAheadStandLemmas.{ended, reset, reset_same, reset_well}
use Rattle.au_judged_bodies.proofs.StepLemmas.{Well}

-- what is asked of names where a block ends: of those before it what is asked behind it, and of its own that
-- they have ended
abbrev pub Beyond : (ℕ → Sort) → ℕ → (Bytes → ℕ → Bool → Type 0) → Bytes → ℕ → Bool → Type 0
Beyond sorts base P x k t = (k < base → P x k t) × (base ≤ k → Ends (sorts k) t)

module _ {I T C : Type 0} (see : View I T C) (sorts : ℕ → Sort) where
  -- how names get through statements is what each variable gets through
  abbrev pub Walks : ℕ → Scope → Statements Bytes T C → Type 1
  Walks number scope b =
      (zs : List ℕ) (lent : ℕ → Hold) (gone : ℕ → Bool) (P : Bytes → ℕ → Bool → Type 0) (Q : Standing
      → Type 0)
      → Well scope zs lent gone
      → Holds scope (λ x k. AheadAll x (sorts k) (plain_statements (λ (b : Bytes). b) b) (hold_of (lent k))
      (P x k) (gone k))
      → ((x : Bytes) (k : ℕ) → number ≤ k → (t : Bool) → Ends (sorts k) t → P x k t)
      → ((more : Scope) (last : ℕ → Bool) → Grows number (number + names_in_block b) scope more
      → Well more zs lent last
      → Holds more (λ x k. P x k (last k)) → Q (standing more lent last))
      → run.AheadAll see (loose_by sorts) number scope zs b Q (standing scope lent gone)

  -- what is asked behind a block is asked so of names before it
  pub before_it : (base : ℕ) (scope : Scope) (b : Statements Bytes T C) (lent : ℕ → Hold) (gone : ℕ → Bool)
      (P : Bytes → ℕ → Bool → Type 0) → Numbered base scope
      → Holds scope (λ x k. AheadAll x (sorts k) (plain_statements (λ (b : Bytes). b) b) (hold_of (lent k))
      (P x k) (gone k))
      → Holds scope (λ x k. AheadAll x (sorts k) (plain_statements (λ (b : Bytes). b) b) (hold_of (lent k))
      (Beyond sorts base P x k) (gone k))
  before_it base scope b lent gone P numbered lives x v there =
      let k = v.number in
      let less : k < base = numbered.below x v there in
      more_all x (sorts k) (plain_statements (λ (b : Bytes). b) b) (hold_of (lent k)) (P x k)
      (Beyond sorts base P x k)
      (λ t p. (λ before. p, λ far. absurd (omega (arith, less, far)))) (gone k) (lives x v there)

  -- A block that begins with these names, among them its own from the base on.
  pub inner : (base : ℕ) (scope : Scope) (number : ℕ) (more : Scope) (b : Statements Bytes T C) (count : ℕ)
      → Numbered base scope → Extends base scope more → base ≤ number
      → number + names_in_block b ≡ base + count
      → Walks number more b → (zs : List ℕ) (lent : ℕ → Hold) (gone : ℕ → Bool) (P : Bytes → ℕ → Bool
      → Type 0)
      (Q : Standing → Type 0) → ((k : ℕ) → is_named k scope ≡ false → lent k ≡ ready) → Well more zs lent gone
      → Holds more (λ x k. AheadAll x (sorts k) (plain_statements (λ (b : Bytes). b) b) (hold_of (lent k))
      (Beyond sorts base P x k) (gone k))
      → ((last : ℕ → Bool) → Well scope zs lent last → Holds scope (λ x k. P x k (last k))
      → Q (standing scope lent last))
      → run.AheadAll see (loose_by sorts) number more zs b (Over see (loose_by sorts) base count Q)
      (standing more lent gone)
  inner base scope number more b count numbered extends far many walks zs lent gone P Q idle well lives go =
      walks zs lent gone (Beyond sorts base P) (Over see (loose_by sorts) base count Q) well lives
      (λ x k from t e. (λ less. absurd (omega (arith, less, far, from)), λ above. e)) closes
    where
      closes : (end : Scope) (last : ℕ → Bool) → Grows number (number + names_in_block b) more end
          → Well end zs lent last
          → Holds end (λ x k. Beyond sorts base P x k (last k))
          → Over see (loose_by sorts) base count Q (standing end lent last)
      closes end last grows well2 holds =
          let all = extends_on base number scope more end far extends grows.extends in
          let known : Numbered (base + count) end = subst (λ (n : ℕ). Numbered n end) many grows.numbered in
          ended base scope end zs lent last numbered all idle well2 count known see sorts Q
          (λ x v there. (holds x v there).1)
          (go (reset scope last) (reset_well base scope end zs lent last numbered all idle well2)
          (λ x v there. subst (P x v.number)
          (reset_same base scope end zs lent last numbered all idle well2 x v there)
          ((holds x v (all.names x v there)).0 (numbered.below x v there))))

  -- one with no names of its own where it begins
  pub inner_block : (base : ℕ) (scope : Scope) (b : Statements Bytes T C) → Numbered base scope
      → Walks base scope b
      → (zs : List ℕ) (lent : ℕ → Hold) (gone : ℕ → Bool) (P : Bytes → ℕ → Bool → Type 0) (Q : Standing
      → Type 0)
      → Well scope zs lent gone
      → Holds scope (λ x k. AheadAll x (sorts k) (plain_statements (λ (b : Bytes). b) b) (hold_of (lent k))
      (P x k) (gone k))
      → ((last : ℕ → Bool) → Well scope zs lent last → Holds scope (λ x k. P x k (last k))
      → Q (standing scope lent last))
      → run.AheadAll see (loose_by sorts) base scope zs b (Over see (loose_by sorts) base
      (names_in_block b) Q)
      (standing scope lent gone)
  inner_block base scope b numbered walks zs lent gone P Q well lives go =
      inner base scope base scope b (names_in_block b) numbered
      (record { names = λ x v there. there; numbers = λ k less. refl })
      (omega arith) refl walks zs lent gone P Q
      (λ k lacks. (well.idle k lacks).0) well (before_it base scope b lent gone P numbered lives) go

-- each variable is consumed as before, so names stand as before
pub stand_same : (number : ℕ) (scope : Scope) (lent : ℕ → Hold) (gone last : ℕ → Bool) → Numbered number scope
    → Holds scope (λ x k. last k ≡ gone k) → (k : ℕ) → standing scope lent last k ≡ standing scope lent gone k
stand_same number scope lent gone last numbered same k = by (is_named k scope) refl
  where
    by : (b : Bool) → is_named k scope ≡ b
        → (if b then left (last k) (lent k) else empty) ≡ (if b then left (gone k) (lent k) else empty)
    by true sure =
        ap (λ (u : Bool). left u (lent k)) (at_number number scope numbered
        (λ n. last n ≡ gone n) same k sure)
    by false lacks = refl
