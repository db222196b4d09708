-- The variables of a function begin with its parameters.
use Rattle.std.proofs.Common.{◌≡◌, ℕ, suc, ◌+◌, Bool, false, List, [], ◌∷◌, length, Some}
use Rattle.std.proofs.Common.{inl, refl, ap, subst, ◌∙◌, arith}
use Rattle.au_lives.specs.declared.lives.Sort.{Sort}
use Rattle.au_ahead.specs.Ahead.{AheadAll}
use Rattle.au_lives.specs.Lives.{GoodLife, unlent}
use Rattle.au_memory.specs.Forests.{Hold, empty, ready}
use Rattle.au_meaning.specs.Meanings.{scope_of}
use Rattle.au_meaning.specs.Names.{Scope, with_name, with_parameters}
use Rattle.au_meaning.specs.Views.{Field, Function, View}
use Rattle.au_syntax.specs.Plain.{Bytes, plain_statements}
use Rattle.au_syntax.specs.Statements.{Statements}
use Rattle.au_running_lives.specs.Lives as run
use Rattle.au_running_lives.specs.Lives.{Standing, put, put_each}
use Rattle.au_judged_bodies.specs.Lived.{Lives, LivesAreAhead, SaysSorts, loose_by}
use Rattle.au_judged_bodies.specs.Parts.{EachParameter}
use Rattle.au_judged_bodies.specs.NamesAheadStanding.{standing}
use Rattle.au_judged_bodies.proofs.BornLemmas.{begins}
use Rattle.au_judged_bodies.proofs.ScopeLemmas.{Holds, Numbered, holds_more, more_numbered}
use Rattle.au_judged_bodies.proofs.NamesAheadStandLemmas.{born}
use Rattle.au_judged_bodies.proofs.StepLemmas.{Well}
use Rattle.au_judged_bodies.proofs.ReturnLemmas.{leaves_all}
use Rattle.au_judged_bodies.proofs.WalkLemmas.{walk_all}

pub nothing_named : (number : ℕ) → Numbered number []
nothing_named number = record {
  unique = λ x y v w here there same. absurd cc;
  below = λ x v there. absurd cc;
  found = λ k named. absurd cc;
}

module _ {I T C : Type 0} (see : View I T C) (sorts : ℕ → Sort) (block : Statements Bytes T C) where
  pub parameters_numbered : (number : ℕ) (scope : Scope) (given : List Field) → Numbered number scope
      → EachParameter see (SaysSorts sorts see) (Lives sorts see) number scope given block
      → Numbered (number + length given) (with_parameters number given scope)
  parameters_numbered number scope [] numbered each =
      let same : number ≡ number + 0 = omega arith in subst (λ (n : ℕ). Numbered n scope) same numbered
  parameters_numbered number scope (p ∷ rest) numbered each =
      let more = with_name p.name number (Some p.of) scope in
      let same : (number + 1) + length rest ≡ number + suc (length rest) = omega arith in
      subst (λ (n : ℕ). Numbered n (with_parameters (number + 1) rest more)) same
      (parameters_numbered (number + 1) more rest
      (more_numbered number scope p.name (Some p.of) numbered each.0.0) each.1)

  pub parameters_hold : (number : ℕ) (scope : Scope) (given : List Field) (F : Bytes → ℕ → Type 0)
      → ((x : Bytes) (k : ℕ) → GoodLife x (sorts k) (plain_statements (λ (b : Bytes). b) block) → F x k)
      → EachParameter see (SaysSorts sorts see) (Lives sorts see) number scope given block → Holds scope F
      → Holds (with_parameters number given scope) F
  parameters_hold number scope [] F new each old = old
  parameters_hold number scope (p ∷ rest) F new each old =
      parameters_hold (number + 1) (with_name p.name number (Some p.of) scope) rest F new each.1
      (holds_more number scope p.name (Some p.of) F old (new p.name number each.0.1))

all_given : (lent : ℕ → Hold) (gone : ℕ → Bool) (number : ℕ) (scope : Scope) (given : List Field)
    → ((k : ℕ) → lent k ≡ ready) → ((k : ℕ) → gone k ≡ false)
    → standing (with_parameters number given scope) lent gone
    ≡ put_each number (length given) ready (standing scope lent gone)
all_given lent gone number scope [] free whole = refl
all_given lent gone number scope (p ∷ rest) free whole =
    let next : number + 1 ≡ suc number = omega arith in
    all_given lent gone (number + 1) (with_name p.name number (Some p.of) scope) rest free whole
    ∙ (ap (λ (h : Standing). put_each (number + 1) (length rest) ready h)
    (born lent gone number scope p.name (Some p.of) (free number) (whole number))
    ∙ ap (λ (n : ℕ). put_each n (length rest) ready (put number ready (standing scope lent gone))) next)

pub lives_ahead : {I T C : Type 0} (sorts : ℕ → Sort) (f : Function I T C) → LivesAreAhead sorts f
lives_ahead sorts f lived returns =
    let lent = λ (k : ℕ). ready in
    let gone = λ (k : ℕ). false in
    let P = λ (x : Bytes) (k : ℕ) (t : Bool). Unit {0} in
    let numbered = parameters_numbered f.view sorts f.body f.first [] f.parameters
    (nothing_named f.first) lived.parameters in
    let well : Well (scope_of f) [] lent gone =
    record { idle = λ k lacks. (refl, refl); kept = λ k. inl refl; awaited = λ k. refl } in
    let lives = parameters_hold f.view sorts f.body f.first [] f.parameters
    (λ x k. AheadAll x (sorts k) (plain_statements (λ (b : Bytes). b) f.body) unlent (λ t. Unit {0}) false)
    (λ x k good. begins x (sorts k) ready false (λ t. Unit {0}) refl refl
    (λ t e. tt) f.body good) lived.parameters
    (λ x v there. absurd cc) in
    let start = put_each f.first (length f.parameters) ready (λ k. empty) in
    leaves_all f.view (loose_by sorts) (f.first + length f.parameters) (scope_of f) [] f.body (λ g. Unit {0})
    (λ g. ⊥) start
    returns
    (subst (λ (h : Standing). run.AheadAll f.view (loose_by sorts) (f.first + length f.parameters)
    (scope_of f) [] f.body
    (λ g. Unit {0}) h)
    (all_given lent gone f.first [] f.parameters (λ k. refl) (λ k. refl))
    (walk_all f.view sorts (f.first + length f.parameters)
    (scope_of f) f.body numbered lived.body [] lent gone P
    (λ g. Unit {0}) well lives (λ x k far t e. tt) (λ more last grows end holds. tt)))
