-- The types that calls put stand over the type parameters in scope, where what each body sees stands.
use Rattle.std.proofs.Common.{◌≡◌, ℕ, List, [], ◌∷◌, Option, None, Some, Ok, Err, refl, sym, ap, ◌∙◌, subst}
use Rattle.std.specs.Prelude.{unwrap_or}
use Rattle.std.proofs.lemmas.Option.{none-some, same_Some}
use Rattle.au_syntax.specs.declared.modules.Part.TheVariants.{Body}
use Rattle.au_syntax.specs.Modules.{Constrained, Header}
use Rattle.au_syntax.specs.Plain.{Bytes}
use Rattle.au_syntax.specs.Types.{Labelled, WrittenType}
use Rattle.au_types.specs.Types.{of_type}
use Rattle.au_matching.specs.Bindings.{value_of}
use Rattle.au_matching.specs.Substituted.{type_for}
use Rattle.au_matching.specs.Forming.{StandsOver, is_formed}
use Rattle.au_judged_types.specs.Bounds.{Bounded, parameters}
use Rattle.au_modules.specs.Programs.{ModuleParts}
use Rattle.au_names.specs.HeadsOf.{heads_of}
use Rattle.au_names.specs.Standing.{standing_at}
use Rattle.au_rules.specs.Good.{AllDeclarationsAreGood}
use Rattle.au_typing.specs.Scopes.{Outside, Scope}
use Rattle.au_typing.specs.Outsides.{outside_of}
use Rattle.au_typing.specs.Faults.{Noting}
use Rattle.au_typing.specs.Lookups.{written_type}
use Rattle.au_typing.specs.Notes.{Note}
use Rattle.au_typing.specs.Bodies.{body_scope, generics_in, outer_scope, with_parameters, with_result}
use Rattle.au_typing.specs.InScope.{fixed_variable, with_variable}
use Rattle.au_typing.specs.Trees.{NotedParts}
use Rattle.au_typing.proofs.Steps.{bind_ok}
use Rattle.au_accepted.specs.Faults.{IsDerived}
use Rattle.au_closing_laws.specs.Calls.{outside_at, put_for}
use Rattle.au_closing_laws.specs.Premises.{PutTypesStand}
use Rattle.au_closing_laws.specs.Standing.{OutsideStands}
use Rattle.au_closing_laws.proofs.BodyLemmas.{good_standing}
use Rattle.au_closing_laws.proofs.FitLemmas.{stands_for}
use Rattle.au_closing_laws.proofs.GenericsLemmas.{bounds_meant}
use Rattle.au_closing_laws.proofs.NotedStandLemmas.{ScopeStands, in_block, variable_added, written_stands}

-- ---- the scope of a body

abbrev kept : {A : Type 0} → Noting A → Option A
kept (Ok x) = Some x
kept (Err why) = None

module _ (outside : Outside) (generics : List Bounded) (known : OutsideStands outside) where
  outer_stands : ScopeStands outside generics known (outer_scope outside generics)
  unfolding is_formed
  outer_stands = record {
    of_outside = refl;
    of_generics = refl;
    variables =
        λ name v e. absurd (none-some v e);
    result = refl;
  }

  parameters_stand : (ps : List (Labelled Bytes)) (sc scope : Scope) → ScopeStands outside generics known sc →
      with_parameters ps sc ≡ Ok scope → ScopeStands outside generics known scope
  parameters_stand [] sc scope stands e = subst (ScopeStands outside generics known)
      (same_Some sc scope (ap kept e)) stands
  parameters_stand (p ∷ rest) sc scope stands e =
      let its = bind_ok (written_type sc p.of)
      (λ of. with_parameters rest (with_variable (fixed_variable p.name.name of) sc)) scope e in
      parameters_stand rest (with_variable (fixed_variable p.name.name its.0) sc) scope
      (variable_added outside generics known (fixed_variable p.name.name its.0) sc stands
      (written_stands outside generics known sc stands p.of its.0 its.1)) its.2

  result_stands : (t : WrittenType) (sc scope : Scope) → ScopeStands outside generics known sc →
      with_result t sc ≡ Ok scope → ScopeStands outside generics known scope
  result_stands t sc scope stands e =
      let its = bind_ok (written_type sc t) (λ of. Ok (record sc { result = of })) scope e in
      subst (ScopeStands outside generics known) (same_Some (record sc { result = its.0 }) scope (ap kept its.2))
      (record {
        of_outside = stands.of_outside;
        of_generics = stands.of_generics;
        variables =
            stands.variables;
        result = written_stands outside generics known sc stands t its.0 its.1;
      })

-- what a good body has in scope stands
body_stands : (outside : Outside) (generics : List (Constrained Bytes)) (header : Header Bytes)
    (known : OutsideStands outside) (scope : Scope) → body_scope outside generics header ≡ Ok scope
    → ScopeStands outside (generics_in outside generics) known scope
body_stands outside generics header known scope e =
    let its = bind_ok (with_parameters header.parameters (outer_scope outside (generics_in outside generics)))
    (λ sc. with_result header.result sc) scope e in
    result_stands outside (generics_in outside generics) known header.result its.0 scope
    (parameters_stand outside (generics_in outside generics) known header.parameters
    (outer_scope outside (generics_in outside generics)) its.0
    (outer_stands outside (generics_in outside generics) known) its.1) its.2

-- ---- programs

pub put_types_stand : (program : List ModuleParts) (noted : List NotedParts) → IsDerived program noted →
    AllDeclarationsAreGood program → ((place : ℕ) → OutsideStands (outside_of program place Body)) →
    PutTypesStand program noted
put_types_stand program noted derived declared known target body there call listed one p universe is =
    let outside = outside_at program body in
    let generics = generics_in outside body.generics in
    let good = good_standing (outside_of program) noted derived.good program target.name
    (standing_at program target.at) body there in
    let fine = in_block outside generics (known body.place) body.block good.scope
    (body_stands outside body.generics body.header (known body.place) good.scope good.formed) good.good call
    listed in
    let gives = stands_for one.scope call.0 call.1 one.takes one.args one.good p universe is.declared is.is_type in
    let noted_so = ap (λ (n : Note). unwrap_or n.call []) one.good.is_noted in
    let value = ap (value_of p) noted_so ∙ gives.1 in
    subst (λ bs. StandsOver (heads_of program) (parameters bs) (put_for call.0 p))
    (sym (bounds_meant program noted declared derived target body there))
    (subst (StandsOver (heads_of program) (parameters generics)) (sym (ap (λ o. type_for o p) value))
    (fine p (of_type gives.0) value))
