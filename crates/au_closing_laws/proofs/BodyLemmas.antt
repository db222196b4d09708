-- Each body of a derived program is good, in a scope with what its module's body sees and with its type
-- parameters.
use Rattle.std.proofs.Common.{◌≡◌, ℕ, zero, suc, ◌+◌, Bool, true, false, cond, List, [], ◌∷◌, find, Option}
use Rattle.std.proofs.Common.{None, Some, Ok, Err, refl, subst, arith, zero-add}
use Rattle.std.specs.Prelude.{Contains, slice_get}
use Rattle.std.specs.Option.{option_and_then, option_map}
use Rattle.std.proofs.lemmas.Option.{none-some, same_Some}
use Rattle.au_syntax.specs.declared.modules.Part.{Part}
use Rattle.au_syntax.specs.declared.modules.Part.TheVariants.{Body}
use Rattle.au_syntax.specs.Modules.{Constrained, constant, opaque_type, record_type, union_type, function}
use Rattle.au_syntax.specs.Modules.{class, instance, constant_body, function_body, instance_body}
use Rattle.au_syntax.specs.Plain.{Bytes}
use Rattle.au_syntax.specs.Types.{Labelled, WrittenType}
use Rattle.au_types.specs.Types.{Meaning}
use Rattle.au_judged_types.specs.Bounds.{Bounded}
use Rattle.au_modules.specs.Programs.{ModuleParts}
use Rattle.au_names.specs.declared.targets.Target.{Target}
use Rattle.au_names.specs.Standing.{Standing, standing_at}
use Rattle.au_typing.specs.Scopes.{Outside, Scope}
use Rattle.au_typing.specs.Outsides.{outside_of}
use Rattle.au_typing.specs.Faults.{Noting, ◌>>=◌}
use Rattle.au_typing.specs.Lookups.{written_type}
use Rattle.au_typing.proofs.Steps.{ok_same}
use Rattle.au_typing.specs.Bodies.{GoodBody, GoodMethods, generics_in, outer_scope, with_parameters, with_result}
use Rattle.au_typing.specs.Derivations.{GoodDeclaration, GoodDeclarations, GoodModules, GoodPart}
use Rattle.au_typing.specs.InScope.{fixed_variable, with_variable}
use Rattle.au_typing.specs.Trees.{NotedDeclaration, NotedEntry, NotedMethod, NotedParts}
use Rattle.au_accepted.specs.Faults.{IsDerived}
use Rattle.au_closing.specs.Bodies.{BodyOf, body_at, body_in, body_of, body_of_parts, body_standing}
use Rattle.au_closing.specs.Bodies.{declared_in, defining, defining_index, is_method, method_body, noted_at}
use Rattle.au_closing_laws.specs.Targets.{Call, calls_listed}
use Rattle.au_closing_laws.specs.Calls.{IsGoodCall, outside_at}
use Rattle.au_closing_laws.proofs.TypedCallLemmas.{IsWithin, in_block}

-- ---- the scope of a body

module _ (outside : Outside) (generics : List Bounded) where
  parameters_within : (ps : List (Labelled Bytes)) (sc r : Scope) → IsWithin outside generics sc →
      with_parameters ps sc ≡ Ok r → IsWithin outside generics r
  parameters_within [] sc r within e = subst (IsWithin outside generics) (ok_same sc r e) within
  parameters_within (p ∷ rest) sc r within e =
      by (written_type sc p.of) (λ of. parameters_within rest
      (with_variable (fixed_variable p.name.name of) sc) r within) e
    where
      by : (o : Noting Meaning) → ((of : Meaning) →
          with_parameters rest (with_variable (fixed_variable p.name.name of) sc) ≡ Ok r →
          IsWithin outside generics r)
          → (o >>= λ of. with_parameters rest (with_variable (fixed_variable p.name.name of) sc)) ≡ Ok r →
          IsWithin outside generics r
      by (Ok of) more e = more of e
      by (Err fault) more e = cc

  result_within : (t : WrittenType) (sc r : Scope) → IsWithin outside generics sc → with_result t sc ≡ Ok r →
      IsWithin outside generics r
  result_within t sc r within e = by (written_type sc t) e
    where
      by : (o : Noting Meaning) → (o >>= λ of. Ok (record sc { result = of })) ≡ Ok r → IsWithin outside generics r
      by (Ok of) e = subst (IsWithin outside generics) (ok_same (record sc { result = of }) r e) within
      by (Err fault) e = cc

  body_within : (ps : List (Labelled Bytes)) (t : WrittenType) (sc r : Scope) → IsWithin outside generics sc →
      (with_parameters ps sc >>= λ next. with_result t next) ≡ Ok r → IsWithin outside generics r
  body_within ps t sc r within e = by (with_parameters ps sc) refl e
    where
      by : (o : Noting Scope) → with_parameters ps sc ≡ o → (o >>= λ next. with_result t next) ≡ Ok r →
          IsWithin outside generics r
      by (Ok next) is e = result_within t next r (parameters_within ps sc next within is) e
      by (Err fault) is e = cc

-- each call of a good body is good
pub call_in_good : (outside : Outside) (generics : List (Constrained Bytes)) (body : BodyOf) →
    body.generics ≡ generics → GoodBody outside generics body.header body.block
    → (one : Call) → Contains (calls_listed body.block) one → IsGoodCall outside (generics_in outside generics) one
call_in_good outside generics body same good one there =
    in_block outside (generics_in outside generics) body.block good.scope
    (body_within outside (generics_in outside generics) body.header.parameters body.header.result
    (outer_scope outside (generics_in outside generics)) good.scope (refl, refl) good.formed)
    good.good one there

-- ---- which bodies are good

-- the body of a module of good modules is good
good_at : (outside : ℕ → Part → Outside) (place k : ℕ) (noted : List NotedParts) (m : NotedParts) →
    GoodModules outside place noted → slice_get noted k ≡ Some m → GoodPart (outside (place + k) Body) m.body
good_at outside place k [] m good e = absurd (none-some m e)
good_at outside place zero (first ∷ rest) m good e =
    let here : GoodPart (outside place Body) first.body = good.1 in
    subst (λ n. GoodPart (outside n Body) m.body) (omega arith)
    (subst (λ (x : NotedParts). GoodPart (outside place Body) x.body) (same_Some first m e) here)
good_at outside place (suc k) (first ∷ rest) m good e =
    let there = good_at outside (place + 1) k rest m good.2 e in
    subst (λ n. GoodPart (outside n Body) m.body) (omega arith) there

good_declared : (outside : Outside) (ds : List NotedDeclaration) (index : ℕ) (d : NotedDeclaration) →
    GoodDeclarations outside ds → slice_get ds index ≡ Some d → GoodDeclaration outside d
good_declared outside [] index d good e = absurd (none-some d e)
good_declared outside (first ∷ rest) zero d good e = subst (GoodDeclaration outside) (same_Some first d e) good.0
good_declared outside (first ∷ rest) (suc index) d good e = good_declared outside rest index d good.1 e

good_method : (outside : Outside) (generics : List (Constrained Bytes)) (name : Bytes) (ms : List NotedMethod)
    (m : NotedMethod) → GoodMethods outside generics ms → find (is_method name) ms ≡ Some m →
    GoodBody outside generics m.header m.body
good_method outside generics name [] m good e = absurd (none-some m e)
good_method outside generics name (first ∷ rest) m good e =
    by (is_method name first) (λ later. good_method outside generics name rest m good.1 later) e
  where
    by : (b : Bool) → (find (is_method name) rest ≡ Some m → GoodBody outside generics m.header m.body) →
        cond b (Some first) (find (is_method name) rest) ≡ Some m → GoodBody outside generics m.header m.body
    by true later e = subst (λ (x : NotedMethod). GoodBody outside generics x.header x.body)
        (same_Some first m e) good.0
    by false later e = later e

module _ (outside_of_place : ℕ → Outside) where
  -- a body is good by what the module at its place sees
  abbrev pub IsGoodBody : BodyOf → Type 0
  IsGoodBody body = GoodBody (outside_of_place body.place) body.generics body.header body.block

  good_in : (place : ℕ) (name : Bytes) (d : NotedDeclaration) (body : BodyOf) →
      GoodDeclaration (outside_of_place place) d → body_in place name d ≡ Some body → IsGoodBody body
  good_in place name (function_body at generics h block stop) body good e =
      subst IsGoodBody (same_Some (record { place = place; generics = generics; header = h; block = block })
      body e) good
  good_in place name (instance_body at generics its_class t methods) body good e =
      by (find (is_method name) methods) refl e
    where
      by : (o : Option NotedMethod) → find (is_method name) methods ≡ o →
          option_map (method_body place generics) o ≡ Some body → IsGoodBody body
      by None is e = absurd (none-some body e)
      by (Some m) is e = subst IsGoodBody (same_Some (method_body place generics m) body e)
          (good_method (outside_of_place place) generics name methods m good is)
  good_in place name (constant at n t) body good e = absurd (none-some body e)
  good_in place name (opaque_type at n ps u) body good e = absurd (none-some body e)
  good_in place name (record_type at n ps u fields) body good e = absurd (none-some body e)
  good_in place name (union_type at n ps u cases) body good e = absurd (none-some body e)
  good_in place name (function at gs h) body good e = absurd (none-some body e)
  good_in place name (class at n p hs) body good e = absurd (none-some body e)
  good_in place name (instance at gs n t) body good e = absurd (none-some body e)
  good_in place name (constant_body at n t v) body good e = absurd (none-some body e)

module _ (outside : ℕ → Part → Outside) (noted : List NotedParts) (good : GoodModules outside 0 noted) where
  abbrev pub seen_there : ℕ → Outside
  seen_there place = outside place Body

  good_noted : (place index : ℕ) (d : NotedDeclaration) → slice_get (body_at noted place) index ≡ Some d →
      GoodDeclaration (seen_there place) d
  good_noted place index d e = by (slice_get noted place) refl e
    where
      within : (m : NotedParts) (o : Option NotedEntry) → GoodPart (seen_there place) o →
          slice_get (declared_in o) index ≡ Some d → GoodDeclaration (seen_there place) d
      within m None good e = absurd (none-some d e)
      within m (Some entry) good e = good_declared (seen_there place) entry.tree.declarations index d good e

      by : (o : Option NotedParts) → slice_get noted place ≡ o → slice_get (body_of_parts o) index ≡ Some d →
          GoodDeclaration (seen_there place) d
      by None is e = absurd (none-some d e)
      by (Some m) is e = within m m.body
          (subst (λ n. GoodPart (outside n Body) m.body) (zero-add place)
          (good_at outside 0 place noted m good is)) e

  good_defining : (program : List ModuleParts) (name : Bytes) (d : Standing) (body : BodyOf) →
      option_and_then (body_in d.place name) (defining program noted d) ≡ Some body → IsGoodBody seen_there body
  good_defining program name d body e = by (defining_index program d d.part) e
    where
      found : (o : Option NotedDeclaration) →
          ((one : NotedDeclaration) → o ≡ Some one → GoodDeclaration (seen_there d.place) one) →
          option_and_then (body_in d.place name) o ≡ Some body → IsGoodBody seen_there body
      found None each e = absurd (none-some body e)
      found (Some one) each e = good_in seen_there d.place name one body (each one refl) e

      by : (o : Option ℕ) → option_and_then (body_in d.place name) (noted_at noted d.place o) ≡ Some body →
          IsGoodBody seen_there body
      by None e = absurd (none-some body e)
      by (Some index) e = found (slice_get (body_at noted d.place) index) (good_noted d.place index) e

  pub good_standing : (program : List ModuleParts) (name : Bytes) (o : Option Standing) (body : BodyOf) →
      body_standing program noted name o ≡ Some body → IsGoodBody seen_there body
  good_standing program name None body e = absurd (none-some body e)
  good_standing program name (Some d) body e = good_defining program name d body e

-- each call in a body of a derived program is good
pub call_good : (program : List ModuleParts) (noted : List NotedParts) → IsDerived program noted →
    (target : Target) (body : BodyOf) → body_of program noted target ≡ Some body
    → (one : Call) → Contains (calls_listed body.block) one → IsGoodCall (outside_at program body)
    (generics_in (outside_at program body) body.generics) one
call_good program noted derived target body there one listed =
    call_in_good (outside_at program body) body.generics body refl
    (good_standing (outside_of program) noted derived.good program target.name (standing_at program target.at)
    body there) one listed
