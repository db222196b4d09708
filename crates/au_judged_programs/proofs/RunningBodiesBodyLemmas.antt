-- A good body of a checked program, in a frame.
use Rattle.std.proofs.Common.{◌≡◌, ℕ, suc, ◌+◌, Bool, List, [], ◌∷◌, length, map, Option, None, Some, Ok, Err}
use Rattle.std.proofs.Common.{refl, sym, ap}
use Rattle.std.proofs.Common.{◌∙◌, subst}
use Rattle.std.specs.Option.{option_map}
use Rattle.std.proofs.lemmas.Option.{none-some, same_Some}
use Rattle.au_syntax.specs.declared.modules.Part.TheVariants.{Body}
use Rattle.au_syntax.specs.Modules.{Constrained, Header}
use Rattle.au_syntax.specs.Plain.{Bytes}
use Rattle.au_syntax.specs.Types.{Labelled, WrittenType}
use Rattle.au_types.specs.Meant.{meant}
use Rattle.au_base.specs.declared.kinds.IntKind.{IntKind}
use Rattle.au_types.specs.Types.{Meaning, integer}
use Rattle.au_matching.specs.Bindings.{Bindings, value_of}
use Rattle.au_matching.specs.Substituted.{region_for}
use Rattle.au_judged_types.specs.Bounds.{parameters}
use Rattle.au_judged_types.specs.Meanings.{class_meant, written_params}
use Rattle.au_judged_types.specs.Reasons.{Outcome, means, fails}
use Rattle.au_judged_types.proofs.AgreementLemmas.{judged_is_meant}
use Rattle.au_type_texts.specs.Given.{Given, closed_or_unit, closed_under}
use Rattle.au_type_texts.specs.Types.{ClosedType}
use Rattle.au_written_types.specs.Written.{IsRegionName}
use Rattle.au_modules.specs.Programs.{ModuleParts}
use Rattle.au_names.specs.HeadsOf.{heads_of}
use Rattle.au_judged_bodies.specs.Typing.Bodies.{GoodBody, body_scope, generics_in, outer_scope, with_parameters}
use Rattle.au_judged_bodies.specs.Typing.Bodies.{with_result}
use Rattle.au_judged_bodies.specs.Faults.{Noting, ◌>>=◌}
use Rattle.au_judged_bodies.specs.InScope.{fixed_variable, with_variable}
use Rattle.au_judged_bodies.specs.Lookups.{outcome_noted, written_means, written_type}
use Rattle.au_judged_bodies.specs.Outsides.{outside_of}
use Rattle.au_judged_bodies.specs.Scopes.{Outside, Scope}
use Rattle.au_judged_bodies.specs.Trees.{NotedParts}
use Rattle.au_judged_bodies.specs.Written.{types_at}
use Rattle.au_judged_bodies.specs.ClosedTrees.Parts.{field_under}
use Rattle.au_judged_bodies.specs.Bodies.{BodyOf}
use Rattle.au_judged_bodies.specs.Instances.{Instance}
use Rattle.au_meaning.specs.Names as meaning
use Rattle.au_meaning.specs.Views.{Field, View}
use Rattle.au_judged_bodies.specs.Generic.{field_seen, parameters_under}
use Rattle.au_judged_bodies.specs.Tables.{types_of}
use Rattle.au_known_programs.proofs.OutsideLemmas.{meant_parameters, outside_known}
use Rattle.au_running_types.specs.Running.{running}
use Rattle.au_judged_bodies.specs.Blocks.{with_types}
use Rattle.au_judged_bodies.specs.Held.{IsPermitted, Permits}
use Rattle.au_judged_bodies.specs.Covering.{MayHold}
use Rattle.au_judged_bodies.specs.Known.{Callables, InScope}
use Rattle.au_judged_bodies.specs.Besides.{BesidesAll}
use Rattle.au_judged_bodies.specs.Frames.{TypesAreUsable}
use Rattle.au_judged_bodies.specs.Notes.{Note}
use Rattle.au_judged_bodies.specs.Rounds.{PlaceFits, RoundFits}
use Rattle.au_judged_bodies.proofs.BlockLemmas.{all_run}
use Rattle.au_judged_bodies.specs.Begun.{AreMeant, BodyBegins, fields_given, kinds_given}
use Rattle.au_judged_bodies.proofs.TypedBodiesBodyLemmas.{body_begins}
use Rattle.au_judged_programs.specs.RoundProgramsBodies.{AreGoodHere, CallsRunHere, ConstantsStand}
use Rattle.au_judged_programs.proofs.RoundLemmas.{round_fits}
use Rattle.au_judged_programs.specs.CheckedChecked.{IsChecked}
use Rattle.au_judged_programs.proofs.DefinitionLemmas.{definitions_fit}
use Rattle.au_judged_programs.proofs.FitLemmas.{declarations_fit}
use Rattle.au_judged_programs.specs.RunningBodiesBodies.{BodyRuns, generics_of, view_of}

abbrev kept : Noting Meaning → Option Meaning
kept (Ok t) = Some t
kept (Err fault) = None

abbrev scope_kept : Noting Scope → Option Scope
scope_kept (Ok sc) = Some sc
scope_kept (Err fault) = None

-- with parameters in scope, a written type means what it does without
writes_alike : (ps : List (Labelled Bytes)) (sc last : Scope) → with_parameters ps sc ≡ Ok last → (t : WrittenType)
    → written_type last t ≡ written_type sc t
writes_alike [] sc last e t = ap (λ one. written_type one t) (sym (same_Some sc last (ap scope_kept e)))
writes_alike (p ∷ rest) sc last e t =
    by (written_type sc p.of) e
    (λ of later. writes_alike rest (with_variable (fixed_variable p.name.name of) sc) last later t)
  where
    by : (o : Noting Meaning)
        → (o >>= λ of. with_parameters rest (with_variable (fixed_variable p.name.name of) sc)) ≡ Ok last
        → ((of : Meaning) → with_parameters rest (with_variable (fixed_variable p.name.name of) sc) ≡ Ok last
        → written_type last t ≡ written_type sc t)
        → written_type last t ≡ written_type sc t
    by (Err fault) e later = absurd (none-some last (ap scope_kept e))
    by (Ok of) e later = later of e

-- the result of a body is what is written for it
result_written : (outside : Outside) (generics : List (Constrained Bytes)) (header : Header Bytes) (scope : Scope)
    → body_scope outside generics header ≡ Ok scope
    → written_type (outer_scope outside (generics_in outside generics)) header.result ≡ Ok scope.result
result_written outside generics header scope formed =
    by (with_parameters header.parameters (outer_scope outside (generics_in outside generics))) refl formed
  where
    last : (sc : Scope) (o : Noting Meaning) → (o >>= λ of. Ok (record sc { result = of })) ≡ Ok scope
        → o ≡ Ok scope.result
    last sc (Err fault) e = absurd (none-some scope (ap scope_kept e))
    last sc (Ok of) e = ap (λ (one : Scope). Ok one.result) (same_Some (record sc { result = of }) scope
        (ap scope_kept e))

    by : (o : Noting Scope)
        → with_parameters header.parameters (outer_scope outside (generics_in outside generics)) ≡ o
        → (o >>= λ sc. with_result header.result sc) ≡ Ok scope
        → written_type (outer_scope outside (generics_in outside generics)) header.result ≡ Ok scope.result
    by (Err fault) is e = absurd (none-some scope (ap scope_kept e))
    by (Ok sc) is e =
        sym (writes_alike header.parameters (outer_scope outside (generics_in outside generics)) sc is header.result)
        ∙ last sc (written_type sc header.result) e

-- a written type that is judged to mean something means it
pub meant_so : (sc : Scope) (t : WrittenType) (of : Meaning) → written_type sc t ≡ Ok of
    → meant sc.regions (parameters sc.generics) sc.outside.visible sc.outside.heads t ≡ Some of
meant_so sc t of e = by (written_means sc t) refl e
  where
    by : (o : Outcome Meaning) → written_means sc t ≡ o → outcome_noted o ≡ Ok of
        → meant sc.regions (parameters sc.generics) sc.outside.visible sc.outside.heads t ≡ Some of
    by (fails reason) is e = absurd (none-some of (ap kept e))
    by (means u) is e =
        (judged_is_meant sc.outside.heads (parameters sc.generics) sc.regions sc.outside.visible t u is).0
        ∙ ap kept e

as_many : (sc : Scope) (given : Given) (ps : List (Labelled Bytes)) (ofs : List Meaning) → AreMeant sc ps ofs
    → length (fields_given given ps ofs) ≡ length ofs
as_many sc given [] [] are = refl
as_many sc given (p ∷ rest) (of ∷ others) are = ap suc (as_many sc given rest others are.1)
as_many sc given [] (of ∷ others) are = absurd are
as_many sc given (p ∷ rest) [] are = absurd are

module _ (program : List ModuleParts) (place : ℕ) (generics : List (Constrained Bytes)) (given : Given) where
  abbrev outer : Scope
  outer = outer_scope (outside_of program place Body) (generics_in (outside_of program place Body) generics)

  pub params_alike : parameters (generics_in (outside_of program place Body) generics) ≡ written_params generics
  params_alike =
      meant_parameters
      (class_meant (written_params generics) (outside_of program place Body).visible
      (outside_of program place Body).heads) generics

  -- the parameters that the meaning sees are those that are written
  given_alike : (ps : List (Labelled Bytes)) (ofs : List Meaning) → AreMeant outer ps ofs
      → map field_seen (map (field_under (types_at program place Body) (heads_of program) (written_params generics)
      given)
      ps) ≡ fields_given given ps ofs
  given_alike [] [] are = refl
  given_alike (p ∷ rest) (of ∷ others) are =
      let is : meant [] (written_params generics) (types_at program place Body) (heads_of program) p.of ≡ Some of =
      ap (λ qs. meant [] qs (types_at program place Body) (heads_of program) p.of) (sym params_alike)
      ∙ meant_so outer p.of of are.0 in
      λ i. record {
        name = p.name.name;
        of = ap (λ o. closed_or_unit (option_map (closed_under given) o)) is i;
      } ∷ given_alike rest others are.1 i
  given_alike [] (of ∷ others) are = absurd are
  given_alike (p ∷ rest) [] are = absurd are

module _ (program : List ModuleParts) (noted : List NotedParts) (body : BodyOf) (given : Given)
    (owner : ClosedType → Option (List ℕ)) {I K : Type 0} (see : View I Note (Unit {0})) (known : Callables I K)
    (may_hand : Meaning → Type 0) {V W : Type 0} (permits : Permits V W) (key : V) where
  -- a body runs as it is seen in a view that fits
  pub seen_runs : IsChecked program noted
      → (good : GoodBody (outside_of program body.place Body) body.generics body.header body.block)
      → RoundFits (types_of program) owner see known may_hand (outside_of program body.place Body)
      (generics_of program noted body given) given
      (AreGoodHere program noted body.place (generics_of program noted body given) given)
      → ((kind : IntKind) → IsPermitted permits key (integer kind))
      → (loose active : ℕ → Bool) (first : ℕ) (s : Bindings) (names : ℕ → Meaning)
      → AreGoodHere program noted body.place (generics_of program noted body given) given s
      → ((name : List ℕ) → IsRegionName [] (parameters (generics_of program noted body given)) name
      → InScope active (region_for (value_of name s) name))
      → TypesAreUsable active (parameters (generics_of program noted body given)) s
      → BesidesAll see loose
      (MayHold permits key (AreGoodHere program noted body.place (generics_of program noted body given) given))
      may_hand (first + length (parameters_under program noted given body))
      good.scope (meaning.with_parameters first (parameters_under program noted given body) []) body.block
      → BodyRuns program noted body given owner see known permits key loose active first s names
  seen_runs checked good round counts loose active first s names stands regions within besides = record {
    ofs = begun.ofs;
    result = good.scope.result;
    takes = begun.are;
    gives = result_written (outside_of program body.place Body) body.generics body.header good.scope good.formed;
    many = ap length alike ∙ counted;
    runs = all_run (types_of program) owner see known may_hand given
        (AreGoodHere program noted body.place (generics_of program noted body given) given) loose
        (running s 0 good.scope.result) permits key counts body.block active
        (first + length (parameters_under program noted given body)) good.scope
        (meaning.with_parameters first (parameters_under program noted given body) []) s
        (with_types first (kinds_given s begun.ofs) names) place good.good besides;
  }
    where
      begun : BodyBegins (types_of program) owner see known may_hand given
          (AreGoodHere program noted body.place (generics_of program noted body given) given) active first s names
          (outer_scope (outside_of program body.place Body) (generics_of program noted body given))
          body.header.parameters
          good.scope
      begun = body_begins (types_of program) owner see known may_hand given
          (AreGoodHere program noted body.place (generics_of program noted body given) given)
          (outside_of program body.place Body) body.generics body.header good.scope good.formed
          (outside_known program
          (definitions_fit program checked.gathered checked.named checked.kept checked.declared)
          (declarations_fit program noted checked) body.place Body)
          round active first s names stands regions within

      alike : parameters_under program noted given body ≡ fields_given given body.header.parameters begun.ofs
      alike = given_alike program body.place body.generics given body.header.parameters begun.ofs begun.are

      counted : length (fields_given given body.header.parameters begun.ofs) ≡ length begun.ofs
      counted = as_many (outer_scope (outside_of program body.place Body) (generics_of program noted body given)) given
          body.header.parameters begun.ofs begun.are

      Placed : ℕ → List Field → Type 0
      Placed n fields = PlaceFits (types_of program) owner see known may_hand given
          (AreGoodHere program noted body.place (generics_of program noted body given) given)
          (running s 0 good.scope.result) active (first + n) good.scope (meaning.with_parameters first fields []) s
          (with_types first (kinds_given s begun.ofs) names)

      place : Placed (length (parameters_under program noted given body)) (parameters_under program noted given body)
      place = subst (λ fields. Placed (length fields) fields) (sym alike)
          (subst (λ n. Placed n (fields_given given body.header.parameters begun.ofs)) (sym counted) begun.place)

module _ (program : List ModuleParts) (noted : List NotedParts) (body : BodyOf) (given : Given)
    (owner : ClosedType → Option (List ℕ)) {K : Type 0} (known : Callables Instance K) (may_hand : Meaning → Type 0)
    {V W : Type 0}
    (permits : Permits V W) (key : V) where
  pub body_runs : IsChecked program noted
      → (good : GoodBody (outside_of program body.place Body) body.generics body.header body.block)
      → ConstantsStand program noted body.place (generics_of program noted body given) given
      → CallsRunHere program noted body.place (generics_of program noted body given) given owner known may_hand
      → ((kind : IntKind) → IsPermitted permits key (integer kind))
      → (loose active : ℕ → Bool) (first : ℕ) (s : Bindings) (names : ℕ → Meaning)
      → AreGoodHere program noted body.place (generics_of program noted body given) given s
      → ((name : List ℕ) → IsRegionName [] (parameters (generics_of program noted body given)) name
      → InScope active (region_for (value_of name s) name))
      → TypesAreUsable active (parameters (generics_of program noted body given)) s
      → BesidesAll (view_of program noted body given) loose
      (MayHold permits key (AreGoodHere program noted body.place (generics_of program noted body given) given))
      may_hand (first + length (parameters_under program noted given body))
      good.scope (meaning.with_parameters first (parameters_under program noted given body) []) body.block
      → BodyRuns program noted body given owner (view_of program noted body given) known permits key loose active first
      s names
  body_runs checked good constants calls counts =
      seen_runs program noted body given owner (view_of program noted body given) known may_hand permits key checked
      good
      (round_fits program noted body.place (generics_of program noted body given) given owner known may_hand checked
      constants calls) counts
