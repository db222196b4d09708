-- One step, said of all names at once.
use Rattle.std.proofs.Common.{◌≡◌, ◌⊎◌, inl, inr, ℕ, ◌==◌, Bool, true, false, List, Option, Some, None}
use Rattle.std.proofs.Common.{refl, sym, ap, subst, ◌∙◌, if◌then◌else◌}
use Rattle.au_ahead.specs.Ahead.{OnGood}
use Rattle.au_ahead.specs.Ready.{Ready}
use Rattle.au_ahead.specs.Ready as stands
use Rattle.au_lives.specs.declared.lives.Sort.{Sort}
use Rattle.au_lives.specs.Lives.{going, is_free, unless_hidden, verdict}
use Rattle.au_lives.specs.Mentions.{Counts, counts_in, unmentioned, where_named}
use Rattle.au_lives.specs.Paths.{whole}
use Rattle.au_lives.specs.Walks.{does}
use Rattle.au_memory.specs.Forests.{Hold, empty, ready}
use Rattle.au_meaning.specs.Names.{Scope, Variable, variable_of}
use Rattle.au_meaning.specs.Views.{View}
use Rattle.au_syntax.specs.Expressions.{Expression}
use Rattle.au_syntax.specs.Plain.{Bytes, plain_expression}
use Rattle.au_running_lives.specs.Lives.{AreReady, Standing, Steps, after_whole, freed_each, spent}
use Rattle.au_running_lives.specs.Lives.{stand}
use Rattle.au_running_lives.specs.Uses.{uses, where_of}
use Rattle.au_running_lives.proofs.CountLemmas.{counts_agree, met}
use Rattle.au_judged_bodies.specs.Lived.{SaysSorts}
use Rattle.au_judged_bodies.specs.NamesAheadStanding.{hold_of, is_named, left, standing}
use Rattle.au_judged_bodies.proofs.ScopeLemmas.{Holds, Numbered, at_number, named}
use Rattle.au_judged_bodies.proofs.UseLemmas.{unmet, unused}
use Rattle.au_judged_bodies.proofs.VerdictLemmas.{good_is, kept_by, lent_stays, not_hidden, spends}
use Rattle.au_judged_bodies.proofs.VerdictLemmas.{spends_nothing, spent_by}
use Rattle.au_judged_bodies.proofs.VerdictLemmas.{unspent, verdict_gives, verdict_ready}

-- What is lent, and what is consumed, where borrow statements of these tokens are open: what isn't in scope
-- is neither; what is lent isn't consumed; and it waits for these tokens.
pub record Well (scope : Scope) (zs : List ℕ) (lent : ℕ → Hold) (gone : ℕ → Bool) : Type 0 where
  pub idle : (k : ℕ) → is_named k scope ≡ false → (lent k ≡ ready) × (gone k ≡ false)
  pub kept : (k : ℕ) → (lent k ≡ ready) ⊎ (gone k ≡ false)
  pub awaited : (k : ℕ) → freed_each zs (lent k) ≡ ready

-- ---- a step that meets names so

module _ (number : ℕ) (scope : Scope) (zs : List ℕ) (lent : ℕ → Hold) (gone : ℕ
    → Bool) (numbered : Numbered number scope)
    (well : Well scope zs lent gone) (c : ℕ → Counts)
    (others : (k : ℕ) → is_named k scope ≡ false → c k ≡ unmentioned) (R : Bytes → ℕ → Bool → Type 0)
    (good : Holds scope (λ x k. OnGood (verdict (hold_of (lent k)) (c k) (gone k)) (R x k))) where
  abbrev then_gone : ℕ → Bool
  then_gone k = spent_by (c k) (gone k)

  told : (k : ℕ) → is_named k scope ≡ true → (v : Bool) × (verdict (hold_of (lent k)) (c k)
      (gone k) ≡ going v)
  told k sure =
      at_number number scope numbered (λ n. (v : Bool) × (verdict (hold_of (lent n)) (c n)
      (gone n) ≡ going v))
      (λ x v there.
      let g = good_is (verdict (hold_of (lent v.number)) (c v.number) (gone v.number)) (R x v.number)
      (good x v there) in
      (g.0, g.1)) k sure

  pub step_asks : AreReady (standing scope lent gone) c
  step_asks k = by (is_named k scope) refl
    where
      by : (b : Bool) → is_named k scope ≡ b → Ready (stand (if b then left (gone k) (lent k) else empty))
          (c k)
      by true sure = let t = told k sure in verdict_ready (lent k) (c k) (gone k) t.0 t.1
      by false lacks = subst (λ (d : Counts). Ready stands.away d) (sym (others k lacks))
          (refl, refl, refl, refl)

  pub step_leaves : (k : ℕ) → spent (c k).consumed
      (standing scope lent gone k) ≡ standing scope lent then_gone k
  step_leaves k = by (is_named k scope)
    where
      by : (b : Bool) → spent (c k).consumed (if b then left (gone k) (lent k) else empty)
          ≡ (if b then left (then_gone k) (lent k) else empty)
      by true = spends (c k).consumed (gone k) (lent k)
      by false = spends_nothing (c k).consumed

  pub step_holds : Holds scope (λ x k. R x k (then_gone k))
  step_holds x v there =
      let k = v.number in
      let g = good_is (verdict (hold_of (lent k)) (c k) (gone k)) (R x k) (good x v there) in
      subst (R x k) (verdict_gives (hold_of (lent k)) (c k) (gone k) g.0 g.1) g.2

  still : (k : ℕ) → is_named k scope ≡ false → then_gone k ≡ gone k
  still k lacks = unspent (c k) (gone k) (ap (λ (d : Counts). d.consumed) (others k lacks))

  pub step_well : Well scope zs lent then_gone
  step_well = record {
    idle = λ k lacks. ((well.idle k lacks).0, still k lacks ∙ (well.idle k lacks).1);
    kept = λ k. lends k (well.kept k);
    awaited = well.awaited;
  }
    where
      lends : (k : ℕ) → (lent k ≡ ready) ⊎ (gone k ≡ false) → (lent k ≡ ready) ⊎ (then_gone k ≡ false)
      lends k (inl is) = inl is
      lends k (inr is) = by (is_named k scope) refl
        where
          so : (lent k ≡ ready) ⊎ (spent_by (c k) false ≡ false) → (lent k ≡ ready) ⊎ (then_gone k ≡ false)
          so (inl free) = inl free
          so (inr same) = inr (ap (spent_by (c k)) is ∙ same)

          by : (b : Bool) → is_named k scope ≡ b → (lent k ≡ ready) ⊎ (then_gone k ≡ false)
          by true sure =
              let t = told k sure in
              so (lent_stays (lent k) (c k) t.0
              (subst (λ (u : Bool). verdict (hold_of (lent k)) (c k) u ≡ going t.0) is t.1))
          by false lacks = inl (well.idle k lacks).0

-- ---- whole expressions

-- which variables are consumed behind a whole expression
abbrev pub gone_after : {I T C : Type 0} → View I T C → Scope → (ℕ → Bool) → Expression Bytes T C → ℕ → Bool
gone_after see scope gone e k = spent_by (uses see k scope e) (gone k)

-- A whole expression may be evaluated, and then names stand so, and this holds of each.
pub record Whole {I T C : Type 0} (see : View I T C) (loose : ℕ
    → Bool) (scope : Scope) (zs : List ℕ) (lent : ℕ → Hold)
    (gone : ℕ → Bool) (e : Expression Bytes T C) (R : Bytes → ℕ → Bool → Type 0) : Type 0 where
  pub asks : AreReady (standing scope lent gone) (λ k. uses see k scope e)
  pub leaves : after_whole see loose scope e (standing scope lent gone) ≡ standing scope lent
      (gone_after see scope gone e)
  pub well : Well scope zs lent (gone_after see scope gone e)
  pub holds : Holds scope (λ x k. R x k (gone_after see scope gone e k))

module _ {I T C : Type 0} (see : View I T C) (sorts : ℕ → Sort) (loose : ℕ
    → Bool) (number : ℕ) (scope : Scope)
    (zs : List ℕ) (lent : ℕ → Hold) (gone : ℕ → Bool) (e : Expression Bytes T C) (R : Bytes → ℕ → Bool
    → Type 0) where
  pub whole_step : Numbered number scope → Well scope zs lent gone → SaysSorts sorts see scope e
      → Holds scope (λ x k. OnGood (does x (sorts k) (whole (plain_expression (λ (b : Bytes). b) e)) (hold_of
      (lent k))
      (gone k)) (R x k))
      → Whole see loose scope zs lent gone e R
  whole_step numbered well says lives =
      let counts = λ (k : ℕ). uses see k scope e in record {
        asks = step_asks number scope zs lent gone numbered well counts others R good;
        leaves = λ i k. step_leaves number scope zs lent gone numbered well counts others R good k i;
        well = step_well number scope zs lent gone numbered well counts others R good;
        holds = step_holds number scope zs lent gone numbered well counts others R good;
      }
    where
      others : (k : ℕ) → is_named k scope ≡ false → uses see k scope e ≡ unmentioned
      others k lacks = unused k scope lacks see e

      good : Holds scope (λ x k. OnGood (verdict (hold_of (lent k)) (uses see k scope e) (gone k)) (R x k))
      good x v there =
          let k = v.number in
          let counted = counts_in x (is_free (sorts k)) (plain_expression (λ (b : Bytes). b) e) in
          let same : unless_hidden (hold_of (lent k)) counted ≡ uses see k scope e =
          not_hidden (lent k) counted
          ∙ sym (counts_agree see x (is_free (sorts k)) scope v e there numbered.unique (says x v there)) in
          subst (λ (c : Counts). OnGood (verdict (hold_of (lent k)) c (gone k)) (R x k)) same
          (lives x v there)

  -- so it steps, and goes on from there
  pub goes_on : (Q : Standing → Type 0) → Whole see loose scope zs lent gone e R
      → Q (standing scope lent (gone_after see scope gone e))
      → Steps see loose scope e (standing scope lent gone) Q
  goes_on Q w q = (w.asks, subst Q (sym w.leaves) q)

  -- where each variable is as it was, none is consumed
  pub keeps_all : Numbered number scope → Whole see loose scope zs lent gone e R
      → Holds scope (λ x k. gone_after see scope gone e k ≡ gone k) → (k : ℕ)
      → (uses see k scope e).consumed ≡ 0
  keeps_all numbered w same k = by (is_named k scope) refl
    where
      asked : Holds scope (λ x n. (uses see n scope e).consumed ≡ 0)
      asked x v there =
          let n = v.number in
          let here : Ready (stand (left (gone n) (lent n))) (uses see n scope e) =
          subst (λ (b : Bool). Ready (stand (if b then left (gone n) (lent n) else empty))
          (uses see n scope e))
          (named scope x v there) (w.asks n) in
          kept_by (lent n) (uses see n scope e) (gone n) here (same x v there)

      by : (b : Bool) → is_named k scope ≡ b → (uses see k scope e).consumed ≡ 0
      by true sure = at_number number scope numbered (λ n. (uses see n scope e).consumed ≡ 0) asked k sure
      by false lacks = ap (λ (d : Counts). d.consumed) (unused k scope lacks see e)

-- ---- a variable by its name

module _ (number : ℕ) (scope : Scope) (zs : List ℕ) (lent : ℕ → Hold) (gone : ℕ → Bool)
    (numbered : Numbered number scope) (well : Well scope zs lent gone) (y : Bytes) (one : Counts)
    (quiet : one.consumed ≡ 0) (R : Bytes → ℕ → Bool → Type 0)
    (lives : Holds scope (λ x k. OnGood (verdict (hold_of (lent k))
    (unless_hidden (hold_of (lent k)) (where_named x y one)) (gone k)) (R x k))) where
  good : {I T C : Type 0} (see : View I T C)
      → Holds scope (λ x k. OnGood (verdict (hold_of (lent k)) (where_of k (variable_of scope y) one)
      (gone k)) (R x k))
  good see x v there =
      let k = v.number in
      let same : unless_hidden (hold_of (lent k)) (where_named x y one) ≡ where_of k
      (variable_of scope y) one =
      not_hidden (lent k) (where_named x y one)
      ∙ sym (met see x false scope v there numbered.unique y one) in
      subst (λ (c : Counts). OnGood (verdict (hold_of (lent k)) c (gone k)) (R x k)) same (lives x v there)

  others : (k : ℕ) → is_named k scope ≡ false → where_of k (variable_of scope y) one ≡ unmentioned
  others k lacks = unmet k scope lacks y one

  none : (k : ℕ) (o : Option Variable) → (where_of k o one).consumed ≡ 0
  none k None = refl
  none k (Some w) = by (w.number == k)
    where
      by : (b : Bool) → (if b then one else unmentioned).consumed ≡ 0
      by true = quiet
      by false = refl

  pub name_asks : {I T C : Type 0} (see : View I T C)
      → AreReady (standing scope lent gone) (λ k. where_of k (variable_of scope y) one)
  name_asks see =
      step_asks number scope zs lent gone numbered well (λ k. where_of k (variable_of scope y) one) others R
      (good see)

  pub name_holds : {I T C : Type 0} (see : View I T C) → Holds scope (λ x k. R x k (gone k))
  name_holds see x v there =
      let k = v.number in
      subst (R x k) (unspent (where_of k (variable_of scope y) one) (gone k) (none k (variable_of scope y)))
      (step_holds number scope zs lent gone numbered well (λ k. where_of k (variable_of scope y) one) others R
      (good see) x v there)
