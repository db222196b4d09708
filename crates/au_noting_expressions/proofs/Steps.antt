-- Steps of the search, and what stops them.
use Rattle.std.proofs.Common.{◌≡◌, refl, sym, ap, subst, ◌∙◌, Result, Ok, Err}
use Rattle.au_noting.specs.declared.faults.Fault as told
use Rattle.au_noting.specs.declared.faults.Fault.TheVariants as fault
use Rattle.au_noting.specs.Giving.{Gives, Stops, cause_said}
use Rattle.au_noting_expressions.specs.Arguments.{ReadCode}
use Rattle.au_typing.specs.Scopes.{Scope}
use Rattle.au_syntax.specs.contracts.parsed.ParsedPhase.TheImpl.{ghosts as parsed}
use Rattle.au_syntax.specs.Plain.{PlainExpression}
use Rattle.au_syntax.specs.Views.{expression}
use Rattle.au_typing.specs.Faults as faults
use Rattle.au_typing.specs.Faults.{Noting, ◌>>=◌}
use Rattle.au_typing.specs.Notes.{Mode}
use Rattle.au_typing.specs.Search.{note_expression}

-- what stops a step stops what stands around it
pub stops_in : {A B : Type 0} (e : told.Fault) (m : Noting A) (n : Noting B) →
    ((f : faults.Fault) → m ≡ Err f → n ≡ Err f) → Stops e m → Stops e n
stops_in (fault.Why w) m n k h = k (faults.why (cause_said w)) h
stops_in (fault.Limit passed) m n k h = k (faults.limit passed) h
stops_in fault.Memory m n k h = tt

-- what stops the first of two steps stops both
pub stops_first : {A B : Type 0} (e : told.Fault) (m : Noting A) (k : A → Noting B) → Stops e m → Stops e (m >>= k)
stops_first e m k h = stops_in e m (m >>= k) (λ f is. ap (λ r. r >>= k) is) h

pub stops_at : {A : Type 0} (e : told.Fault) (m n : Noting A) → m ≡ n → Stops e m → Stops e n
stops_at e m n p h = subst (Stops e) p h

-- a call answers the same of an equal search
pub gives_at : {X A : Type 0} (view : X → A) (r : Result X told.Fault) (m n : Noting A) → m ≡ n →
    Gives view r m → Gives view r n
gives_at view r m n p h = subst (Gives view r) p h

-- two steps and a third are one step and the other two
pub step_after : {A B C : Type 0} (r : Noting A) (f : A → Noting B) (g : B → Noting C) →
    (r >>= λ x. f x >>= g) ≡ ((r >>= f) >>= g)
step_after (Ok x) f g = refl
step_after (Err e) f g = refl

-- a form of expressions, as the code has it, is noted as the search notes it
pub seen : (scope : Scope) (mode : Mode) (e x : ReadCode) (t : PlainExpression) → e ≡ x → expression parsed x
    ≡ t → note_expression scope t mode ≡ note_expression scope (expression parsed e) mode
seen scope mode e x t is says =
    sym (ap (λ (y : ReadCode). note_expression scope (expression parsed y) mode) is
    ∙ ap (λ (y : PlainExpression). note_expression scope y mode) says)

-- what follows a step that goes on
pub then_on : {A B : Type 0} (m : Noting A) (k : A → Noting B) (x : A) → m ≡ Ok x → k x ≡ (m >>= k)
then_on m k x h = sym (ap (λ r. r >>= k) h)
