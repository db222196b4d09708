-- A scope that has grown by variables, and how it is brought back to what it was.
use Rattle.std.proofs.Common.{arith, ◌≡◌, ◌-◌, ◌++◌, Bool, false, List, [], ◌∷◌, Ok, Err, length, refl, ap}
use Rattle.std.proofs.Common.{sym, ◌∙◌, append_assoc, length-append}
use Rattle.std.proofs.lemmas.List.{drop_at}
use Rattle.au_typing.specs.InScope.{after, is_var, with_bound, with_reference, with_typed}
use Rattle.au_judgements.specs.Leaving.{IsGrown}
use Rattle.au_names.specs.Importing.{given_name}
use Rattle.au_noting.specs.Scopes.{closed_in, without}
use Rattle.au_typing.specs.Scopes.{Scope, Variable}
use Rattle.au_syntax.specs.Plain.{Bytes}
use Rattle.au_syntax.specs.Statements.{Statement, skip, declare, destructure, assign, assign_through}
use Rattle.au_syntax.specs.Statements.{conditional, conditional_else, case_of, while_loop, for_loop}
use Rattle.au_syntax.specs.Statements.{borrow_in, borrow_typed, discard, return_of}
use Rattle.au_syntax.specs.Types.{Bound}
use Rattle.au_types.specs.Types.{Meaning}
use Rattle.au_typing.specs.Faults.{Noting}
use Rattle.au_typing.specs.Lookups.{written_type}

-- ---- growing

-- a scope as it is has grown by nothing
pub grown_none : (sc : Scope) → IsGrown sc sc
grown_none sc = ([], refl)

-- what has grown twice has grown
pub grown_twice : (a b c : Scope) → IsGrown a b → IsGrown b c → IsGrown a c
grown_twice a b c first second = (
  second.0 ++ first.0,
  second.1
      ∙ ap (λ (sc : Scope). record sc { variables = second.0 ++ sc.variables }) first.1
      ∙ ap (λ (all : List Variable). record a { variables = all }) (sym (append_assoc second.0 first.0 a.variables)),
)

-- a variable with the type that is written with it
pub typed_grown : (name : Bytes) (assignable : Bool) (of : Noting Meaning) (sc : Scope) →
    IsGrown sc (with_typed name assignable of sc)
typed_grown name assignable (Ok t) sc = (record { name = name; of = t; assignable = assignable } ∷ [], refl)
typed_grown name assignable (Err fault) sc = ([], refl)

-- variables that are bound to fields
pub bound_grown : (binds : List (Bound Bytes)) (sc : Scope) → IsGrown sc (with_bound binds sc)
bound_grown [] sc = ([], refl)
bound_grown (b ∷ rest) sc =
    let one : Scope = with_typed (given_name b.name) false (written_type sc b.of) sc in
    grown_twice sc one (with_bound rest one) (typed_grown (given_name b.name) false (written_type sc b.of) sc)
    (bound_grown rest one)

-- what a statement declares
pub after_grown : {T C : Type 0} (s : Statement Bytes T C) (sc : Scope) → IsGrown sc (after s sc)
after_grown (skip at) sc = ([], refl)
after_grown (declare at binding name t e) sc = typed_grown name.name (is_var binding) (written_type sc t) sc
after_grown (destructure at binds e) sc = bound_grown binds sc
after_grown (assign at n path e) sc = ([], refl)
after_grown (assign_through at n path e) sc = ([], refl)
after_grown (conditional at tests) sc = ([], refl)
after_grown (conditional_else at tests block) sc = ([], refl)
after_grown (case_of at e all) sc = ([], refl)
after_grown (while_loop at e block) sc = ([], refl)
after_grown (for_loop at n first last block) sc = ([], refl)
after_grown (borrow_in at kind x r region block stop) sc = ([], refl)
after_grown (borrow_typed at r t mode x block stop) sc = ([], refl)
after_grown (discard at e) sc = ([], refl)
after_grown (return_of at e) sc = ([], refl)

-- ---- leaving

-- where as many variables are left as there were, the scope is as it was
pub grown_left : (old new : Scope) → IsGrown old new → without (length new.variables - length old.variables) new ≡ old
grown_left old new grown =
    let long : length grown.0 ≡ length (grown.0 ++ old.variables) - length old.variables =
    omega (arith, length-append grown.0 old.variables) in
    ap (λ (sc : Scope). without (length sc.variables - length old.variables) sc) grown.1
    ∙ ap (λ (all : List Variable). record old { variables = all }) (drop_at grown.0 old.variables _ long)

-- behind the block of a borrow statement the scope is as it was
pub reference_left : (name region : Bytes) (of : Meaning) (sc : Scope) →
    closed_in (without 1 (with_reference name region of sc)) ≡ sc
reference_left name region of sc = refl
