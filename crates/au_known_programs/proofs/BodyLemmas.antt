-- What is in scope at the start of a body is known.
use Rattle.std.proofs.Common.{◌≡◌, List, [], ◌∷◌, Option, None, Some, Ok, Err, refl, ap, subst}
use Rattle.std.proofs.lemmas.Option.{none-some, same_Some}
use Rattle.au_syntax.specs.Modules.{Constrained, Header}
use Rattle.au_syntax.specs.Plain.{Bytes}
use Rattle.au_syntax.specs.Types.{Labelled, WrittenType}
use Rattle.au_judged_types.specs.Bounds.{Bounded}
use Rattle.au_typing.specs.Bodies.{body_scope, generics_in, outer_scope, with_parameters, with_result}
use Rattle.au_typing.specs.Faults.{Noting, ◌>>=◌}
use Rattle.au_typing.specs.InScope.{fixed_variable, with_variable}
use Rattle.au_typing.specs.Lookups.{parameters_in, written_type}
use Rattle.au_typing.specs.Scopes.{Outside, Scope}
use Rattle.au_known_types.specs.Known.{OutsideIsKnown, ScopeIsKnown}
use Rattle.au_known_types.proofs.KnownLemmas.{unit_known}
use Rattle.au_known_types.proofs.NotedLemmas.{written_known}
use Rattle.au_known_types.proofs.ScopeLemmas.{variable_added}

abbrev kept : {A : Type 0} → Noting A → Option A
kept (Ok x) = Some x
kept (Err fault) = None

bind_ok : {A B : Type 0} (one : Noting A) (step : A → Noting B) (y : B) → (one >>= step) ≡ Ok y
    → (x : A) × (one ≡ Ok x) × (step x ≡ Ok y)
bind_ok (Ok x) step y e = (x, refl, e)
bind_ok (Err fault) step y e = absurd (none-some y (ap kept e))

module _ (outside : Outside) (generics : List Bounded) (known : OutsideIsKnown outside) where
  outer_known : ScopeIsKnown (outer_scope outside generics)
  outer_known = record {
    outside = known;
    variables = λ name v e. absurd (none-some v e);
    lasting = λ name v e. absurd (none-some v e);
    result = (
      unit_known outside.heads (parameters_in (outer_scope outside generics)) [],
      refl,
    );
  }

parameters_known : (ps : List (Labelled Bytes)) (sc scope : Scope) → ScopeIsKnown sc
    → with_parameters ps sc ≡ Ok scope → ScopeIsKnown scope
parameters_known [] sc scope known e = subst ScopeIsKnown (same_Some sc scope (ap kept e)) known
parameters_known (p ∷ rest) sc scope known e =
    let its = bind_ok (written_type sc p.of)
    (λ of. with_parameters rest (with_variable (fixed_variable p.name.name of) sc)) scope e in
    let written = written_known sc p.of its.0 its.1 in
    parameters_known rest (with_variable (fixed_variable p.name.name its.0) sc) scope
    (variable_added (fixed_variable p.name.name its.0) sc known written.0 written.1) its.2

result_known : (t : WrittenType) (sc scope : Scope) → ScopeIsKnown sc → with_result t sc ≡ Ok scope
    → ScopeIsKnown scope
result_known t sc scope known e =
    let its = bind_ok (written_type sc t) (λ of. Ok (record sc { result = of })) scope e in
    subst ScopeIsKnown (same_Some (record sc { result = its.0 }) scope (ap kept its.2))
    (record {
      outside = known.outside;
      variables = known.variables;
      lasting = known.lasting;
      result = written_known sc t its.0 its.1;
    })

pub body_known : (outside : Outside) (generics : List (Constrained Bytes)) (header : Header Bytes) (scope : Scope)
    → OutsideIsKnown outside → body_scope outside generics header ≡ Ok scope → ScopeIsKnown scope
body_known outside generics header scope known e =
    let its = bind_ok (with_parameters header.parameters (outer_scope outside (generics_in outside generics)))
    (λ sc. with_result header.result sc) scope e in
    result_known header.result its.0 scope
    (parameters_known header.parameters (outer_scope outside (generics_in outside generics)) its.0
    (outer_known outside (generics_in outside generics) known) its.1) its.2
