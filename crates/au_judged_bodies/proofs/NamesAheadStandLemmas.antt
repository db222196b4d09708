-- How names stand where some are declared, and where a block ends.
use Rattle.std.proofs.Common.{◌≡◌, ◌⊎◌, inl, inr, ℕ, zero, suc, ◌+◌, ◌<◌, ◌≤◌, ◌==◌, Bool, true, false, List}
use Rattle.std.proofs.Common.{[], ◌∷◌}
use Rattle.std.proofs.Common.{length, Option, Some, option_map, refl, sym, ap, subst, ◌∙◌, arith}
use Rattle.std.proofs.Common.{if◌then◌else◌}
use Rattle.std.proofs.lemmas.Bool.{cases_lt, eq-eqb, eqb-true, false_from_ne_true}
use Rattle.au_ahead.specs.Ahead.{Ends}
use Rattle.au_lives.specs.declared.lives.Sort.{Sort}
use Rattle.au_lives.specs.declared.lives.Sort.TheVariants as sort
use Rattle.au_memory.specs.Forests.{Hold, empty, ready}
use Rattle.au_type_texts.specs.Types.{ClosedType}
use Rattle.au_effects.specs.Parts.{along}
use Rattle.au_meaning.specs.Names.{Scope, Variable, bound_name, field_of, variable_of, with_bound, with_name}
use Rattle.au_meaning.specs.Views.{Field, View}
use Rattle.au_syntax.specs.Plain.{Bytes}
use Rattle.au_syntax.specs.Types.{Bound}
use Rattle.au_running_lives.specs.Lives.{IsOver, Over, Standing, put, put_each}
use Rattle.au_judged_bodies.specs.Lived.{loose_by, may_drop}
use Rattle.au_judged_bodies.specs.NamesAheadStanding.{is_named, left, standing}
use Rattle.au_judged_bodies.proofs.ScopeLemmas.{Extends, Holds, Numbered, at_number, beyond_named, named}
use Rattle.au_judged_bodies.proofs.StepLemmas.{Well}

-- ---- what is put

put_other : {A : Type 0} (n k : ℕ) (a : A) (all : ℕ → A) → (n ≡ k → ⊥) → put n a all k ≡ all k
put_other n k a all differ =
    ap (λ (b : Bool). if b then a else all k) (false_from_ne_true (n == k) (λ same. differ
    (eqb-true n k same)))

pub put_own : {A : Type 0} (n : ℕ) (a : A) (all : ℕ → A) → put n a all n ≡ a
put_own n a all = ap (λ (b : Bool). if b then a else all n) (eq-eqb n n refl)

before : {A : Type 0} (n count k : ℕ) (a : A) (all : ℕ → A) → k < n → put_each n count a all k ≡ all k
before n zero k a all less = refl
before n (suc count) k a all less =
    before (suc n) count k a (put n a all) (omega (arith, less))
    ∙ put_other n k a all (λ same. omega (arith, less, same))

among : {A : Type 0} (n count k : ℕ) (a : A) (all : ℕ → A) → n ≤ k → k < n + count
    → put_each n count a all k ≡ a
among n zero k a all from less = absurd (omega (arith, from, less))
among n (suc count) k a all from less =
    by (cases_lt n k) (λ (more : n < k). among (suc n) count k a (put n a all) (omega (arith, more)) (omega
    (arith, less)))
  where
    by : (n < k) ⊎ (k ≤ n) → (n < k → put_each (suc n) count a (put n a all) k ≡ a)
        → put_each (suc n) count a (put n a all) k ≡ a
    by (inl more) rest = rest more
    by (inr at) rest =
        let same : n ≡ k = omega (arith, at, from) in
        before (suc n) count k a (put n a all) (omega (arith, same))
        ∙ subst (λ (j : ℕ). put n a all j ≡ a) same (put_own n a all)

behind : {A : Type 0} (n count k : ℕ) (a : A) (all : ℕ → A) → n + count ≤ k → put_each n count a all k ≡ all k
behind n zero k a all from = refl
behind n (suc count) k a all from =
    behind (suc n) count k a (put n a all) (omega (arith, from))
    ∙ put_other n k a all (λ same. omega (arith, from, same))

-- ---- names that are declared hold values

-- the type of the variable to which a field is bound
abbrev pub of_field : Option (List Field) → Bound Bytes → Option ClosedType
of_field fields b = option_map (λ (one : ℕ × ClosedType). one.1) (along fields (field_of b.name.name.name))

module _ (lent : ℕ → Hold) (gone : ℕ → Bool) where
  pub born : (number : ℕ) (scope : Scope) (n : Bytes) (of : Option ClosedType) → lent number ≡ ready
      → gone number ≡ false
      → standing (with_name n number of scope) lent gone ≡ put number ready (standing scope lent gone)
  born number scope n of free whole = λ i k. by k (number == k) refl i
    where
      by : (k : ℕ) (b : Bool) → (number == k) ≡ b
          → (if (if b then true else is_named k scope) then left (gone k) (lent k) else empty)
          ≡ (if b then ready else standing scope lent gone k)
      by k true same =
          let is : number ≡ k = eqb-true number k same in
          let held : left (gone number) (lent number) ≡ ready = ap (λ (u : Bool). left u
          (lent number)) whole ∙ free in
          subst (λ (j : ℕ). left (gone j) (lent j) ≡ ready) is held
      by k false same = refl

  pub all_born : (fields : Option (List Field)) (number : ℕ) (binds : List (Bound Bytes)) (scope : Scope)
      → ((k : ℕ) → number ≤ k → (lent k ≡ ready) × (gone k ≡ false))
      → standing (with_bound fields number binds scope) lent gone
      ≡ put_each number (length binds) ready (standing scope lent gone)
  all_born fields number [] scope idle = refl
  all_born fields number (b ∷ rest) scope idle =
      let here = idle number (omega arith) in
      let more = with_bound fields number (b ∷ []) scope in
      let next : number + 1 ≡ suc number = omega arith in
      all_born fields (number + 1) rest more (λ k far. idle k (omega (arith, far)))
      ∙ (ap (λ (h : Standing). put_each (number + 1) (length rest) ready h) (born number scope
      (bound_name b.name) (of_field fields b) here.0 here.1)
      ∙ ap (λ (n : ℕ). put_each n (length rest) ready (put number ready (standing scope lent gone))) next)

-- ---- the end of a block

over_empty : (b : Bool) → IsOver b empty
over_empty true = inl refl
over_empty false = refl

pub over_left : (s : Sort) (u : Bool) (h : Hold) → h ≡ ready → Ends s u → IsOver (may_drop s) (left u h)
over_left s true h free e = over_empty (may_drop s)
over_left sort.Free false h free e = inr free
over_left sort.WriteReference false h free e = inr free
over_left sort.Linear false h free e = absurd e

pub over_nothing : (s : Sort) → IsOver (may_drop s) empty
over_nothing s = over_empty (may_drop s)

-- what is consumed of the names that are still in scope
abbrev pub reset : Scope → (ℕ → Bool) → ℕ → Bool
reset scope gone k = if is_named k scope then gone k else false

module _ (base : ℕ) (scope more : Scope) (zs : List ℕ) (lent : ℕ → Hold) (gone : ℕ
    → Bool) (numbered : Numbered base scope)
    (extends : Extends base scope more) (idle : (k : ℕ) → is_named k scope ≡ false → lent k ≡ ready)
    (well : Well more zs lent gone) where
  pub reset_well : Well scope zs lent (reset scope gone)
  reset_well = record {
    idle = λ k lacks. (idle k lacks, ap (λ (b : Bool). if b then gone k else false) lacks);
    kept = λ k. by k (well.kept k);
    awaited = well.awaited;
  }
    where
      same : (k : ℕ) (b : Bool) → gone k ≡ false → (if b then gone k else false) ≡ false
      same k true is = is
      same k false is = refl

      by : (k : ℕ) → (lent k ≡ ready) ⊎ (gone k ≡ false) → (lent k ≡ ready) ⊎ (reset scope gone k ≡ false)
      by k (inl is) = inl is
      by k (inr is) = inr (same k (is_named k scope) is)

  pub reset_same : (x : Bytes) (v : Variable) → variable_of scope x ≡ Some v
      → gone v.number ≡ reset scope gone v.number
  reset_same x v there =
      sym (ap (λ (b : Bool). if b then gone v.number else false) (named scope x v there))

  module _ (count : ℕ) (known : Numbered (base + count) more) where
    -- names of the block are emptied
    pub emptied : put_each base count empty (standing more lent gone) ≡ standing scope lent (reset scope gone)
    emptied = λ i k. by k (cases_lt k base) i
      where
        inside : (k : ℕ) (b : Bool) → (if b then left (gone k) (lent k) else empty)
            ≡ (if b then left (if b then gone k else false) (lent k) else empty)
        inside k true = refl
        inside k false = refl

        nothing : (k : ℕ) → base ≤ k → empty ≡ standing scope lent (reset scope gone) k
        nothing k far =
            sym (ap (λ (b : Bool). if b then left (reset scope gone k) (lent k) else empty)
            (beyond_named base scope numbered k far))

        high : (k : ℕ) → base ≤ k → (k < base + count) ⊎ (base + count ≤ k)
            → put_each base count empty (standing more lent gone) k ≡ empty
        high k far (inl less) = among base count k empty (standing more lent gone) far less
        high k far (inr beyond) =
            behind base count k empty (standing more lent gone) beyond
            ∙ ap (λ (b : Bool). if b then left (gone k) (lent k) else empty)
            (beyond_named (base + count) more known k beyond)

        by : (k : ℕ) → (k < base) ⊎ (base ≤ k)
            → put_each base count empty (standing more lent gone) k ≡ standing scope lent (reset scope gone) k
        by k (inl less) =
            before base count k empty (standing more lent gone) less
            ∙ (ap (λ (b : Bool). if b then left (gone k) (lent k) else empty) (extends.numbers k less)
            ∙ inside k (is_named k scope))
        by k (inr far) = high k far (cases_lt k (base + count)) ∙ nothing k far

    -- where their variables have ended
    pub ended : {I T C : Type 0} (see : View I T C) (sorts : ℕ → Sort) (Q : Standing → Type 0)
        → Holds more (λ x k. base ≤ k → Ends (sorts k) (gone k)) → Q (standing scope lent (reset scope gone))
        → Over see (loose_by sorts) base count Q (standing more lent gone)
    ended see sorts Q ends q = (λ k far less. over k far (is_named k more) refl, subst Q (sym emptied) q)
      where
        over : (k : ℕ) → base ≤ k → (b : Bool) → is_named k more ≡ b
            → IsOver (may_drop (sorts k)) (if b then left (gone k) (lent k) else empty)
        over k far true sure =
            over_left (sorts k) (gone k) (lent k) (idle k (beyond_named base scope numbered k far))
            (at_number (base + count) more known (λ n. base ≤ n → Ends (sorts n) (gone n)) ends k sure far)
        over k far false lacks = over_nothing (sorts k)
