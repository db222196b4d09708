-- The sorts of a function are those of the types that its variables have in scope.
use Rattle.std.proofs.Common.{◌≡◌, List, [], ◌∷◌, map, reverse, refl, sym, ap, subst, ◌∙◌, Ok, Option, Some}
use Rattle.std.proofs.Common.{None}
use Rattle.std.specs.Prelude.{slice_get}
use Rattle.std.proofs.lemmas.List.{append-nil}
use Rattle.au_base.proofs.ListLemmas.{both_appended}
use Rattle.au_formed.specs.Text.{Spot, visible_at, visible_in}
use Rattle.au_judged_types.specs.Bounds.{parameters}
use Rattle.au_judged_types.specs.Meanings.{with_classes, class_meant, written_params}
use Rattle.au_lives.specs.declared.lives.Sort.{Sort}
use Rattle.au_promises.specs.Mentions.{generic_parameter, type_parameters}
use Rattle.au_modules.specs.Programs.{ModuleParts}
use Rattle.au_names.specs.HeadsOf.{heads_of}
use Rattle.au_names.specs.Meanings.{declared_by}
use Rattle.au_typing.specs.Outsides.{outside_of}
use Rattle.au_typing.specs.Written.{seen_in}
use Rattle.au_program_lives.specs.LinearFaults as lives
use Rattle.au_program_lives.specs.LinearFaults.{spot_types}
use Rattle.au_typing.specs.Scopes.{Outside, Scope, Variable}
use Rattle.au_program_lives.specs.Sorts.{parameter_sorts, sorts, sorts_of}
use Rattle.au_syntax.specs.Modules.{Constrained, Header}
use Rattle.au_syntax.specs.Plain.{Bytes}
use Rattle.au_syntax.specs.Types.{Labelled}
use Rattle.au_types.specs.declared.spaces.Space.TheVariants.{Types}
use Rattle.au_types.specs.declared.parameters.Parameter.{Parameter}
use Rattle.au_types.specs.declared.types.DeclAt.{DeclAt}
use Rattle.au_types.specs.Types.{Meaning}
use Rattle.au_typing.specs.Faults.{Noting}
use Rattle.au_typing.specs.Lookups.{written_type}
use Rattle.au_typing.proofs.Steps.{bind_ok, ok_same}
use Rattle.au_typing.specs.Bodies.{GoodBody, body_scope, generics_in, outer_scope, with_parameters, with_result}
use Rattle.au_typing.specs.InScope.{fixed_variable, with_variable}
use Rattle.au_typing.specs.Trees.{NotedStatements, erase_block}
use Rattle.au_laws.specs.Derived.{derived_sorts, function_sorts, sorts_of_types, types_in}
use Rattle.au_laws.proofs.DeclaredLemmas.{Declares, before, beside, written_asks}
use Rattle.au_laws.proofs.DerivedLemmas.{block_derived}

-- ---- parameters

parameters_declare : (ps : List (Labelled Bytes)) (sc : Scope) (vs : List Variable) (inner : Scope) →
    with_parameters ps (beside vs sc) ≡ Ok inner →
    Declares sc vs inner (parameter_sorts ps (types_in sc))
parameters_declare [] sc vs inner h = record { new = []; is = sym (ok_same (beside vs sc) inner h); asks = refl }
parameters_declare (p ∷ rest) sc vs inner h =
    let found : (of : Meaning) × (written_type sc p.of ≡ Ok of)
    × (with_parameters rest (with_variable (fixed_variable p.name.name of) (beside vs sc)) ≡ Ok inner) =
    bind_ok (written_type sc p.of)
    (λ (of : Meaning). with_parameters rest (with_variable (fixed_variable p.name.name of) (beside vs sc)))
    inner h
    in
    let one : Variable = fixed_variable p.name.name found.0 in
    subst (λ (s : Sort). Declares sc vs inner (s ∷ parameter_sorts rest (types_in sc)))
    (sym (written_asks sc p.of found.0 found.1))
    (before sc vs one inner (parameter_sorts rest (types_in sc)) (parameters_declare rest sc (one ∷ vs) inner found.2))

-- ---- functions

-- the scope of a body has the parameters beside what is outside, and a result
in_body : (outside : Outside) (generics : List (Constrained Bytes)) (header : Header Bytes) (scope : Scope) →
    body_scope outside generics header ≡ Ok scope → (vs : List Variable) × (of : Meaning)
    × (scope ≡ record (beside vs (outer_scope outside (generics_in outside generics))) { result = of })
    × (parameter_sorts header.parameters (types_in (outer_scope outside (generics_in outside generics)))
    ≡ sorts_of_types (outer_scope outside (generics_in outside generics)) (reverse vs))
in_body outside generics header scope h =
    let outer : Scope = outer_scope outside (generics_in outside generics) in
    let found : (sc : Scope) × (with_parameters header.parameters outer ≡ Ok sc)
    × (with_result header.result sc ≡ Ok scope) =
    bind_ok (with_parameters header.parameters outer) (with_result header.result) scope h
    in
    let d : Declares outer [] found.0 (parameter_sorts header.parameters (types_in outer)) =
    parameters_declare header.parameters outer [] found.0 found.1 in
    let last : (of : Meaning) × (written_type found.0 header.result ≡ Ok of)
    × ◌≡◌ {A = Noting Scope} (Ok (record found.0 { result = of })) (Ok scope) =
    bind_ok (written_type found.0 header.result) (λ (of : Meaning). Ok (record found.0 { result = of })) scope found.2
    in (
      d.new,
      last.0,
      sym (ok_same (record found.0 { result = last.0 }) scope last.2)
          ∙ ap (λ (sc : Scope). record sc { result = last.0 }) (d.is ∙ ap (λ l. beside l outer) (append-nil d.new)),
      d.asks,
    )

pub function_derived : (outside : Outside) (generics : List (Constrained Bytes)) (header : Header Bytes)
    (body : NotedStatements)
    (good : GoodBody outside generics header body) →
    sorts_of header.parameters (erase_block body) (types_in (outer_scope outside (generics_in outside generics)))
    ≡ function_sorts outside generics header body good
function_derived outside generics header body good =
    let outer : Scope = outer_scope outside (generics_in outside generics) in
    let found = in_body outside generics header good.scope good.formed in
    both_appended (parameter_sorts header.parameters (types_in outer))
    (sorts (erase_block body) (types_in outer))
    (sorts_of_types good.scope (reverse good.scope.variables)) (derived_sorts body good.scope good.good)
    (found.3 ∙ sym (ap (λ (sc : Scope). sorts_of_types sc (reverse sc.variables)) found.2))
    (ap (sorts (erase_block body)) (sym (ap types_in found.2)) ∙ block_derived body good.scope good.good)

-- ---- where a declaration stands

same_params : (class_of : Bytes → Option DeclAt) (generics : List (Constrained Bytes)) →
    map generic_parameter generics ≡ parameters (map (with_classes class_of) generics)
same_params class_of [] = refl
same_params class_of (p ∷ rest) = ap (λ l. generic_parameter p ∷ l) (same_params class_of rest)

same_visible : (program : List ModuleParts) (s : Spot) (m : Option ModuleParts) →
    visible_in program s.at.«module» s.part m ≡ declared_by (seen_in Types program s.at.«module» s.part m)
same_visible program s None = refl
same_visible program s (Some m) = refl

pub same_types : (program : List ModuleParts) (s : Spot) (generics : List (Constrained Bytes)) →
    type_parameters s.says ≡ map generic_parameter generics →
    spot_types program s
    ≡ types_in
    (outer_scope (outside_of program s.at.«module» s.part)
    (generics_in (outside_of program s.at.«module» s.part) generics))
same_types program s generics h =
    let outside = outside_of program s.at.«module» s.part in
    let class_of = class_meant (written_params generics) outside.visible outside.heads in
    ap (λ (ps : List Parameter). lives.types_in ps (visible_at program s) (heads_of program))
    (h ∙ same_params class_of generics)
    ∙ ap (λ (v : List (Bytes × DeclAt)). lives.types_in (parameters (map (with_classes class_of) generics)) v
    (heads_of program))
    (same_visible program s (slice_get program s.at.«module»))
