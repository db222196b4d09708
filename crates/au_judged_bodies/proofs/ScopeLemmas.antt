-- Scopes whose names are apart and numbered, and what more names make of them.
use Rattle.std.proofs.Common.{◌≡◌, ◌⊎◌, inl, inr, ℕ, ◌+◌, ◌<◌, ◌≤◌, ◌==◌, Bool, true, false, [], ◌∷◌}
use Rattle.std.proofs.Common.{Option, Some, None, refl, sym, ap, subst, ◌∙◌, arith, if◌then◌else◌}
use Rattle.std.proofs.lemmas.Bool.{eq-eqb, eqb-true, false_from_ne_true}
use Rattle.std.specs.Str.{bytes_eq}
use Rattle.au_base.proofs.TextLemmas.{bytes_same, bytes_self}
use Rattle.au_type_texts.specs.Types.{ClosedType}
use Rattle.au_meaning.specs.Names.{Scope, Variable, variable_of, with_name}
use Rattle.au_syntax.specs.Plain.{Bytes}
use Rattle.au_running_lives.specs.Counted.{AreOneToOne}
use Rattle.au_judged_bodies.specs.NamesAheadStanding.{is_named}

-- Names in scope are told apart by their numbers, which are below this one, and none is hidden.
pub record Numbered (number : ℕ) (scope : Scope) : Type 0 where
  pub unique : AreOneToOne scope
  pub below : (x : Bytes) (v : Variable) → variable_of scope x ≡ Some v → v.number < number
  pub found : (k : ℕ) → is_named k scope ≡ true
      → (x : Bytes) × (v : Variable) × (variable_of scope x ≡ Some v) × (v.number ≡ k)

-- what is in scope is in another scope too, which has no more names below a number
pub record Extends (number : ℕ) (scope more : Scope) : Type 0 where
  pub names : (x : Bytes) (v : Variable) → variable_of scope x ≡ Some v → variable_of more x ≡ Some v
  pub numbers : (k : ℕ) → k < number → is_named k more ≡ is_named k scope

-- something holds of each name in scope
abbrev pub Holds : Scope → (Bytes → ℕ → Type 0) → Type 0
Holds scope F = (x : Bytes) (v : Variable) → variable_of scope x ≡ Some v → F x v.number

-- ---- single names

or_true : (a b : Bool) → b ≡ true → (if a then true else b) ≡ true
or_true true b e = refl
or_true false b e = e

same_some : (v w : Variable) → ◌≡◌ {A = Option Variable} (Some v) (Some w) → v ≡ w
same_some v w e = cc

-- a name in scope has its number there
pub named : (scope : Scope) (x : Bytes) (v : Variable) → variable_of scope x ≡ Some v
    → is_named v.number scope ≡ true
named [] x v there = absurd cc
named (r ∷ scope) x v there = by (bytes_eq r.name x) there (named scope x v)
  where
    by : (b : Bool) → (if b then Some r else variable_of scope x) ≡ Some v
        → (variable_of scope x ≡ Some v → is_named v.number scope ≡ true)
        → is_named v.number (r ∷ scope) ≡ true
    by true there rest =
        let same : r ≡ v = same_some r v there in
        ap (λ (b : Bool). if b then true else is_named v.number scope)
        (eq-eqb r.number v.number (ap (λ (w : Variable). w.number) same))
    by false there rest = or_true (r.number == v.number) (is_named v.number scope) (rest there)

pub unnamed : (scope : Scope) (x : Bytes) (v : Variable) (k : ℕ) → is_named k scope ≡ false
    → variable_of scope x ≡ Some v
    → v.number ≡ k → ⊥
unnamed scope x v k gone there same =
    let sure : is_named k scope ≡ true =
    subst (λ (n : ℕ). is_named n scope ≡ true) same (named scope x v there) in
    let clash : true ≡ false = sym sure ∙ gone in absurd cc

-- a new name is none of those in scope
pub apart : (scope : Scope) (n x : Bytes) (v : Variable) → variable_of scope n ≡ None
    → variable_of scope x ≡ Some v
    → bytes_eq n x ≡ false
apart scope n x v new there =
    false_from_ne_true (bytes_eq n x) (λ same.
    let here : variable_of scope n ≡ Some v =
    subst (λ (y : Bytes). variable_of scope y ≡ Some v) (sym (bytes_same n x same)) there in
    let clash : ◌≡◌ {A = Option Variable} None (Some v) = sym new ∙ here in absurd cc)

module _ (number : ℕ) (scope : Scope) (numbered : Numbered number scope) where
  -- numbers from this one on are none of names in scope
  pub beyond_named : (k : ℕ) → number ≤ k → is_named k scope ≡ false
  beyond_named k far = false_from_ne_true (is_named k scope) (λ sure.
      let f = numbered.found k sure in
      let less : f.1.number < number = numbered.below f.0 f.1 f.2 in
      let same : f.1.number ≡ k = f.3 in absurd (omega (arith, less, same, far)))

  -- what holds of each name in scope holds of its number
  pub at_number : (F : ℕ → Type 0) → ((x : Bytes) (v : Variable) → variable_of scope x ≡ Some v
      → F v.number) → (k : ℕ)
      → is_named k scope ≡ true → F k
  at_number F holds k sure = let f = numbered.found k sure in subst F f.3 (holds f.0 f.1 f.2)

  pub higher : (more : ℕ) → number ≤ more → Numbered more scope
  higher more far = record {
    unique = numbered.unique;
    below = λ x v there. let less : v.number < number = numbered.below x v there in omega (arith, less, far);
    found = numbered.found;
  }

-- ---- one name more

module _ (number : ℕ) (scope : Scope) (n : Bytes) (of : Option ClosedType) where
  abbrev more : Scope
  more = with_name n number of scope

  -- it is the new one, or one that was there
  either_name : (x : Bytes) (v : Variable) → variable_of more x ≡ Some v
      → ((n ≡ x) × (v.number ≡ number)) ⊎ (variable_of scope x ≡ Some v)
  either_name x v there = by (bytes_eq n x) refl there
    where
      by : (b : Bool) → bytes_eq n x ≡ b
          → (if b then Some (record { name = n; number = number; of = of }) else variable_of scope x) ≡ Some v
          → ((n ≡ x) × (v.number ≡ number)) ⊎ (variable_of scope x ≡ Some v)
      by true same there =
          let is = same_some (record { name = n; number = number; of = of }) v there in
          inl (bytes_same n x same, sym (ap (λ (w : Variable). w.number) is))
      by false same there = inr there

  pub holds_more : (F : Bytes → ℕ → Type 0) → Holds scope F → F n number → Holds more F
  holds_more F old new x v there = by (either_name x v there)
    where
      by : ((n ≡ x) × (v.number ≡ number)) ⊎ (variable_of scope x ≡ Some v) → F x v.number
      by (inl is) = subst (λ (k : ℕ). F x k) (sym is.1) (subst (λ (y : Bytes). F y number) is.0 new)
      by (inr is) = old x v is

  module _ (numbered : Numbered number scope) (new : variable_of scope n ≡ None) where
    stays : (x : Bytes) (v : Variable) → variable_of scope x ≡ Some v → variable_of more x ≡ Some v
    stays x v there =
        ap (λ (b : Bool). if b then Some
        (record { name = n; number = number; of = of }) else variable_of scope x)
        (apart scope n x v new there) ∙ there

    pub extends_more : Extends number scope more
    extends_more = record {
      names = stays;
      numbers = λ k less. ap (λ (b : Bool). if b then true else is_named k scope)
          (false_from_ne_true (number == k) (λ same.
          let is : number ≡ k = eqb-true number k same in omega (arith, is, less)));
    }

    pub more_numbered : Numbered (number + 1) more
    more_numbered = record {
      unique = λ x y v w here there same.
          two x y v w (either_name x v here) (either_name y w there) same;
      below = λ x v there. low x v (either_name x v there);
      found = λ k sure. by k (number == k) refl sure;
    }
      where
        two : (x y : Bytes) (v w : Variable) → ((n ≡ x) × (v.number ≡ number)) ⊎
            (variable_of scope x ≡ Some v)
            → ((n ≡ y) × (w.number ≡ number)) ⊎ (variable_of scope y ≡ Some w) → v.number ≡ w.number → x ≡ y
        two x y v w (inl a) (inl b) same = sym a.0 ∙ b.0
        two x y v w (inl a) (inr b) same =
            let less : w.number < number = numbered.below y w b in
            let is : v.number ≡ number = a.1 in absurd (omega (arith, less, is, same))
        two x y v w (inr a) (inl b) same =
            let less : v.number < number = numbered.below x v a in
            let is : w.number ≡ number = b.1 in absurd (omega (arith, less, is, same))
        two x y v w (inr a) (inr b) same = numbered.unique x y v w a b same

        low : (x : Bytes) (v : Variable) → ((n ≡ x) × (v.number ≡ number)) ⊎ (variable_of scope x ≡ Some v)
            → v.number < number + 1
        low x v (inl a) = let is : v.number ≡ number = a.1 in omega (arith, is)
        low x v (inr a) = let less : v.number < number = numbered.below x v a in omega (arith, less)

        by : (k : ℕ) (b : Bool) → (number == k) ≡ b → (if b then true else is_named k scope) ≡ true
            → (x : Bytes) × (v : Variable) × (variable_of more x ≡ Some v) × (v.number ≡ k)
        by k true same sure = (
          n,
          record { name = n; number = number; of = of },
          ap (λ (b : Bool). if b then Some
              (record { name = n; number = number; of = of }) else variable_of scope n)
              (bytes_self n),
          eqb-true number k same,
        )
        by k false same sure =
            let f = numbered.found k sure in (f.0, f.1, stays f.0 f.1 f.2, f.3)

-- ---- scopes that go on

pub extends_self : (number : ℕ) (scope : Scope) → Extends number scope scope
extends_self number scope = record { names = λ x v there. there; numbers = λ k less. refl }

pub extends_on : (a b : ℕ) (s t u : Scope) → a ≤ b → Extends a s t → Extends b t u → Extends a s u
extends_on a b s t u far first second = record {
  names = λ x v there. second.names x v (first.names x v there);
  numbers = λ k less.
      let more : k < b = omega (arith, less, far) in second.numbers k more ∙ first.numbers k less;
}
