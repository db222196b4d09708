-- What a part of a module sees outside of functions stands, where the types of records and unions do and the
-- fields of types that stand.
use Rattle.std.proofs.Common.{◌≡◌, ℕ, false, List, [], ◌∷◌, find, map, Option, None, Some, refl, sym, ap, subst}
use Rattle.std.proofs.lemmas.Option.{none-some, same_Some}
use Rattle.au_base.proofs.OptionLemmas.{map_some}
use Rattle.au_syntax.specs.declared.modules.Part.{Part}
use Rattle.au_syntax.specs.Modules.{Header, Variant, constant, opaque_type, record_type}
use Rattle.au_syntax.specs.Modules.{union_type, function, class, instance, constant_body, function_body}
use Rattle.au_syntax.specs.Modules.{instance_body}
use Rattle.au_syntax.specs.Plain.{Bytes, PlainDeclaration}
use Rattle.au_syntax.specs.Types.{Labelled, WrittenType}
use Rattle.au_types.specs.declared.spaces.Space.TheVariants.{Values, Callables}
use Rattle.au_types.specs.Tables as tables
use Rattle.au_types.specs.declared.parameters.Parameter.{Parameter}
use Rattle.au_types.specs.declared.types.DeclAt.{DeclAt}
use Rattle.au_types.specs.Types.{Meaning}
use Rattle.au_matching.specs.Forming.{StandsOver}
use Rattle.au_judged_types.specs.declared.reading.Meant.{Meant}
use Rattle.au_judged_types.specs.declared.reading.Meant.TheVariants.{Are, Fails}
use Rattle.au_judged_types.specs.Bounds.{Bounded, parameters}
use Rattle.au_judged_types.specs.Meanings.{generics_meant, parameter}
use Rattle.au_modules.specs.Programs.{ModuleParts}
use Rattle.au_names.specs.declared.targets.Target.{Target}
use Rattle.au_names.specs.DeclaredTypes.{a_type, type_declared}
use Rattle.au_names.specs.HeadsOf.{heads_of}
use Rattle.au_names.specs.Standing.{Standing, standing_at, whole_name}
use Rattle.au_typing.specs.Scopes.{Callable, Typed}
use Rattle.au_typing.specs.Called.{by_header, callable, callable_at, callable_standing, case_called}
use Rattle.au_typing.specs.Called.{declared_callable, function_called, is_case, is_method, maker}
use Rattle.au_typing.specs.Called.{method_called, type_itself, unconstrained}
use Rattle.au_typing.specs.Outsides.{constant_at, constant_declared, constant_standing, outside_of}
use Rattle.au_typing.specs.Written.{all_typed, followed, meant_in, seen_at, typed, types_at}
use Rattle.au_typing.proofs.MakerLemmas.{made}
use Rattle.au_closing_laws.specs.Standing.{EachStand, FieldsStand, OutsideStands, OwnTypesStand}
use Rattle.au_closing_laws.proofs.MeantStandLemmas.{meant_stands}

-- what is called has parameters and a result that stand
abbrev CallableStandsIn : List ModuleParts → Callable → Type 0
CallableStandsIn program c =
    EachStand (heads_of program) (parameters c.generics) c.parameters
    × StandsOver (heads_of program) (parameters c.generics) c.result

module _ (program : List ModuleParts) (d : Standing) where
  abbrev CallableStands : Callable → Type 0
  CallableStands c = CallableStandsIn program c

  abbrev Stands : List Parameter → Meaning → Type 0
  Stands params t = StandsOver (heads_of program) params t

  abbrev All : List Parameter → List Typed → Type 0
  All params fields = EachStand (heads_of program) params fields

  -- what is written in a declaration stands over its type parameters
  in_stands : (params : List Parameter) (w : WrittenType) (t : Meaning) → meant_in program d params w
      ≡ Some t → Stands params t
  in_stands params w t e = meant_stands [] params (types_at program d.place d.part) (heads_of program) w t e

  pub typed_stand : (params : List Parameter) (fields : List (Labelled Bytes)) (out : List Typed) →
      all_typed program d params fields ≡ Some out → All params out
  typed_stand params [] out e = subst (All params) (same_Some [] out e) tt
  typed_stand params (one ∷ rest) out e = by (typed program d params one) refl
      (all_typed program d params rest) refl e (typed_stand params rest)
    where
      by : (o : Option Typed) → typed program d params one ≡ o → (p : Option (List Typed)) →
          all_typed program d params rest ≡ p → followed o p ≡ Some out
          → ((others : List Typed) → all_typed program d params rest ≡ Some others → All params others) → All params out
      by None is p its e later = absurd (none-some out e)
      by (Some x) is None its e later = absurd (none-some out e)
      by (Some x) is (Some others) its e later =
          let from = map_some (λ t. record { name = one.name.name; of = t })
          (meant_in program d params one.of) x is in
          subst (All params) (same_Some (x ∷ others) out e) (
            subst (Stands params) (ap (λ (y : Typed). y.of) from.2) (in_stands params one.of from.0 from.1),
            later others its,
          )

  callable_stands : (generics : List Bounded) (of : Option (Bytes × DeclAt)) (given : Option (List Typed))
      (result : Option Meaning) (c : Callable) → callable generics of given result ≡ Some c
      → ((out : List Typed) → given ≡ Some out → All (parameters generics) out) →
      ((t : Meaning) → result ≡ Some t → Stands (parameters generics) t) → CallableStands c
  callable_stands generics of (Some given) (Some result) c e takes gives =
      subst CallableStands (same_Some
      (record { generics = generics; parameters = given; result = result; class = of }) c e)
      (takes given refl, gives result refl)
  callable_stands generics of None result c e takes gives = absurd (none-some c e)
  callable_stands generics of (Some given) None c e takes gives = absurd (none-some c e)

  header_stands : (generics : List Bounded) (of : Option (Bytes × DeclAt)) (h : Header Bytes) (c : Callable) →
      by_header program d generics of h ≡ Some c → CallableStands c
  header_stands generics of h c e =
      callable_stands generics of (all_typed program d (parameters generics) h.parameters)
      (meant_in program d (parameters generics) h.result) c e
      (typed_stand (parameters generics) h.parameters) (in_stands (parameters generics) h.result)

  function_stands : (h : Header Bytes) (o : Meant) (c : Callable) → function_called program d h o ≡ Some c →
      CallableStands c
  function_stands h (Fails why) c e = absurd (none-some c e)
  function_stands h (Are generics) c e = header_stands generics None h c e

  method_stands : (at : DeclAt) (p : Parameter) (o : Option (Header Bytes)) (c : Callable) →
      method_called program d at p o ≡ Some c → CallableStands c
  method_stands at p None c e = absurd (none-some c e)
  method_stands at p (Some h) c e = header_stands (unconstrained p ∷ []) (Some (p.name, at)) h c e

  module _ (own : OwnTypesStand program) (at : DeclAt) (there : standing_at program at ≡ Some d) where
    maker_stands : (name : Bytes) (params : List Parameter) (fields : List (Labelled Bytes)) (c : Callable) →
        maker program d name params fields ≡ Some c
        → ((t : Meaning) → type_itself program d.place name params ≡ Some t → Stands params t) → CallableStands c
    maker_stands name params fields c e itself =
        let its = made program d name params fields c e in (
          typed_stand (parameters c.generics) fields c.parameters its.1.given,
          subst (λ ps. Stands ps c.result) (sym its.0)
              (itself c.result (subst (λ ps. type_itself program d.place name ps ≡ Some c.result) its.0
              its.1.result)),
        )

    pub declared_stands : (target : Target) (c : Callable) (says : PlainDeclaration) → d.says ≡ says →
        declared_callable program d target.at target.name says ≡ Some c → CallableStands c
    declared_stands target c (function place generics h) is e =
        function_stands h (generics_meant (types_at program d.place d.part) (heads_of program) generics) c e
    declared_stands target c (function_body place generics h body stop) is e =
        function_stands h (generics_meant (types_at program d.place d.part) (heads_of program) generics) c e
    declared_stands target c (class place name p methods) is e = method_stands target.at (parameter p)
        (find (is_method target.name) methods) c e
    declared_stands target c (record_type place name params universe fields) is e =
        maker_stands name.name (map parameter params) fields c e
        (λ t itself. own at d name.name (a_type false name.name params universe) t there (ap whole_name is)
        (ap type_declared is) itself)
    declared_stands target c (union_type place name params universe cases) is e =
        by (find (is_case target.name) cases) e
      where
        by : (o : Option (Variant Bytes)) → case_called program d name.name (map parameter params) o
            ≡ Some c → CallableStands c
        by None e = absurd (none-some c e)
        by (Some v) e =
            maker_stands name.name (map parameter params) v.fields c e
            (λ t itself. own at d name.name (a_type false name.name params universe) t there
            (ap whole_name is) (ap type_declared is) itself)
    declared_stands target c (constant at n t) is e = absurd (none-some c e)
    declared_stands target c (opaque_type at n ps u) is e = absurd (none-some c e)
    declared_stands target c (instance at gs n t) is e = absurd (none-some c e)
    declared_stands target c (constant_body at n t v) is e = absurd (none-some c e)
    declared_stands target c (instance_body at gs n t ms) is e = absurd (none-some c e)

  constant_stands : (says : PlainDeclaration) (t : Meaning) → constant_declared program d says ≡ Some t → Stands [] t
  constant_stands (constant at n w) t e = in_stands [] w t e
  constant_stands (constant_body at n w v) t e = in_stands [] w t e
  constant_stands (opaque_type at n ps u) t e = absurd (none-some t e)
  constant_stands (record_type at n ps u fields) t e = absurd (none-some t e)
  constant_stands (union_type at n ps u fields) t e = absurd (none-some t e)
  constant_stands (function at gs h) t e = absurd (none-some t e)
  constant_stands (class at n p hs) t e = absurd (none-some t e)
  constant_stands (instance at gs n w) t e = absurd (none-some t e)
  constant_stands (function_body at gs h b stop) t e = absurd (none-some t e)
  constant_stands (instance_body at gs n w ms) t e = absurd (none-some t e)

module _ (program : List ModuleParts) (own : OwnTypesStand program) where
  called_stands : (o : Option Target) (c : Callable) → callable_at program o ≡ Some c → CallableStandsIn program c
  called_stands None c e = absurd (none-some c e)
  called_stands (Some target) c e = by (standing_at program target.at) refl e
    where
      by : (o : Option Standing) → standing_at program target.at ≡ o → callable_standing program target o
          ≡ Some c → CallableStandsIn program c
      by None is e = absurd (none-some c e)
      by (Some d) is e = declared_stands program d own target.at is target c d.says refl e

  constants_stand : (o : Option Target) (t : Meaning) → constant_at program o ≡ Some t →
      StandsOver (heads_of program) [] t
  constants_stand None t e = absurd (none-some t e)
  constants_stand (Some target) t e = by (standing_at program target.at) e
    where
      by : (o : Option Standing) → constant_standing program o ≡ Some t → StandsOver (heads_of program) [] t
      by None e = absurd (none-some t e)
      by (Some d) e = constant_stands program d d.says t e

  pub outside_stands : FieldsStand program → (place : ℕ) (part : Part) → OutsideStands (outside_of program place part)
  outside_stands fields place part = record {
    constants = λ name t e. constants_stand (tables.find name (seen_at Values program place part)) t e;
    takes = λ name c e. (called_stands (tables.find name (seen_at Callables program place part)) c e).0;
    gives = λ name c e. (called_stands (tables.find name (seen_at Callables program place part)) c e).1;
    fields = λ params t all e whole. fields place params t all e whole;
  }
