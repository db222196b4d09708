-- What the search gives, in the words of the rules.
use Rattle.std.proofs.Common.{◌≡◌, refl, sym, ap, ◌∙◌, Result, Ok, Err, IfOk, MatchResult}
use Rattle.au_noting.specs.declared.faults.Fault as told
use Rattle.au_noting.specs.declared.faults.Fault.TheVariants as fault
use Rattle.au_noting.specs.Giving.{Gives, cause_said}
use Rattle.au_typing.specs.Scopes.{Scope}
use Rattle.au_syntax.specs.Plain.{PlainExpression}
use Rattle.au_typing.specs.Faults as faults
use Rattle.au_typing.specs.Faults.{Noting}
use Rattle.au_typing.specs.Good.{IsNoting}
use Rattle.au_typing.specs.Notes.{Mode, NotedExpression, erase}
use Rattle.au_typing.specs.Search.{note_expression}
use Rattle.au_typing.proofs.Found.{found}
use Rattle.au_typing.proofs.Sound.{sound}
use Rattle.au_typing.proofs.Steps.{ok_same}

module _ {X : Type 0} (scope : Scope) (e : PlainExpression) (mode : Mode) (view : X → NotedExpression) where
  -- what is answered is a good noting
  pub answers_good : (r : Result X told.Fault) → Gives view r (note_expression scope e mode) →
      IfOk r (λ made. IsNoting scope e mode (view made))
  answers_good (Ok x) h = sound scope e mode (view x) h
  answers_good (Err f) h = tt

  is_found : (a : NotedExpression) → IsNoting scope e mode a → note_expression scope e mode ≡ Ok a
  is_found a n =
      sym (ap (note_expression scope (erase a)) n.1
      ∙ ap (λ (p : PlainExpression). note_expression scope p mode) n.2) ∙ found scope a n.0

  no_fault : (f : faults.Fault) (a : NotedExpression) → note_expression scope e mode ≡ Err f →
      note_expression scope e mode ≡ Ok a → ⊥
  no_fault f a stops gives =
      let both : ◌≡◌ {A = Noting NotedExpression} (Err f) (Ok a) = sym stops ∙ gives in
      cc

  -- a good noting is what is answered, unless memory runs out
  pub answers_only : (r : Result X told.Fault) → Gives view r (note_expression scope e mode) →
      (a : NotedExpression) → IsNoting scope e mode a →
      MatchResult r (λ made. view made ≡ a) (λ f. f ≡ fault.Memory)
  answers_only (Ok x) h a n = ok_same (view x) a (sym h ∙ is_found a n)
  answers_only (Err (fault.Why w)) h a n = absurd (no_fault (faults.why (cause_said w)) a h (is_found a n))
  answers_only (Err (fault.Limit passed)) h a n = absurd (no_fault (faults.limit passed) a h (is_found a n))
  answers_only (Err fault.Memory) h a n = refl
