-- The types of calls that make values of records and unions are declared ones.
use Rattle.std.proofs.Common.{◌≡◌, List, map, find, Option, None, Some, sym, ap, ◌∙◌, subst}
use Rattle.std.specs.Prelude.{Contains}
use Rattle.std.specs.Option.{option_map}
use Rattle.std.proofs.lemmas.Option.{none-some, same_Some}
use Rattle.au_syntax.specs.declared.modules.Part.TheVariants.{Body}
use Rattle.au_syntax.specs.Modules.{Variant, constant, opaque_type, record_type, union_type, function, class}
use Rattle.au_syntax.specs.Modules.{instance, constant_body, function_body, instance_body}
use Rattle.au_syntax.specs.Plain.{Bytes, PlainDeclaration}
use Rattle.au_syntax.specs.Types.{Labelled}
use Rattle.au_types.specs.declared.parameters.Parameter.{Parameter}
use Rattle.au_types.specs.declared.spaces.Space.TheVariants.{Callables}
use Rattle.au_types.specs.declared.types.DeclAt.{DeclAt}
use Rattle.au_types.specs.Tables as tables
use Rattle.au_types.specs.Types.{Meaning, named}
use Rattle.au_matching.specs.Bindings.{Bindings}
use Rattle.au_matching.specs.Substituted.{all_substituted, substituted}
use Rattle.au_modules.specs.Programs.{ModuleParts}
use Rattle.au_names.specs.declared.targets.Target.{Target}
use Rattle.au_names.specs.Standing.{Standing, standing_at, whole_name}
use Rattle.au_judged_types.specs.Bounds.{Bounded}
use Rattle.au_judged_types.specs.Meanings.{parameter}
use Rattle.au_typing.specs.Called.{as_arguments, callable, callable_at, callable_standing, case_called, declared_callable}
use Rattle.au_typing.specs.Called.{is_case, type_itself, type_number, unconstrained}
use Rattle.au_typing.specs.Notes.{Note}
use Rattle.au_typing.specs.Scopes.{Callable, Outside, Typed}
use Rattle.au_typing.specs.Trees.{NotedParts}
use Rattle.au_typing.specs.Written.{all_typed, seen_at}
use Rattle.au_accepted.specs.Faults.{IsDerived}
use Rattle.au_closing.specs.Bodies.{BodyOf, body_of}
use Rattle.au_closing_laws.specs.Calls.{IsGoodIn}
use Rattle.au_closing_laws.specs.Targets.{Call, calls_listed}
use Rattle.au_closing_laws.proofs.BodyLemmas.{call_good}
use Rattle.au_caps_laws.proofs.BoundLemmas.{IsNamed}

-- ---- results

callable_result : (generics : List Bounded) (of : Option (Bytes × DeclAt)) (given : Option (List Typed))
    (result : Option Meaning) (c : Callable) → callable generics of given result ≡ Some c → result ≡ Some c.result
callable_result generics of (Some given) (Some result) c e =
    ap (λ (x : Callable). Some x.result)
    (same_Some (record { generics = generics; parameters = given; result = result; class = of }) c e)
callable_result generics of None result c e = absurd (none-some c e)
callable_result generics of (Some given) None c e = absurd (none-some c e)

named_substituted : (s : Bindings) (t : Meaning) → IsNamed t → IsNamed (substituted s t)
named_substituted s t (at, args, is) = (at, all_substituted s args, ap (substituted s) is)

itself_named : (params : List Parameter) (o : Option DeclAt) (t : Meaning)
    → option_map (λ (at : DeclAt). named at (as_arguments params)) o ≡ Some t → IsNamed t
itself_named params None t e = absurd (none-some t e)
itself_named params (Some at) t e =
    (at, as_arguments params, sym (same_Some (named at (as_arguments params)) t e))

module _ (program : List ModuleParts) (d : Standing) (c : Callable) where
  maker_named : (name : Bytes) (params : List Parameter) (fields : List (Labelled Bytes))
      → callable (map unconstrained params) None (all_typed program d params fields)
      (type_itself program d.place name params) ≡ Some c → IsNamed c.result
  maker_named name params fields e =
      itself_named params (type_number program d.place name) c.result
      (callable_result (map unconstrained params) None (all_typed program d params fields)
      (type_itself program d.place name params) c e)

  case_named : (name : Bytes) (params : List Parameter) (o : Option (Variant Bytes))
      → case_called program d name params o ≡ Some c → IsNamed c.result
  case_named name params None e = absurd (none-some c e)
  case_named name params (Some v) e = maker_named name params v.fields e

  -- what makes a value of a record or a union gives a declared type
  whole_named : (at : DeclAt) (name whole : Bytes) (says : PlainDeclaration) → whole_name says ≡ Some whole
      → declared_callable program d at name says ≡ Some c → IsNamed c.result
  whole_named at name whole (record_type pos n ps u fields) is e = maker_named n.name (map parameter ps) fields e
  whole_named at name whole (union_type pos n ps u cases) is e =
      case_named n.name (map parameter ps) (find (is_case name) cases) e
  whole_named at name whole (constant pos n t) is e = absurd (none-some whole is)
  whole_named at name whole (opaque_type pos n ps u) is e = absurd (none-some whole is)
  whole_named at name whole (function pos gs h) is e = absurd (none-some whole is)
  whole_named at name whole (class pos n p hs) is e = absurd (none-some whole is)
  whole_named at name whole (instance pos gs n t) is e = absurd (none-some whole is)
  whole_named at name whole (constant_body pos n t v) is e = absurd (none-some whole is)
  whole_named at name whole (function_body pos gs h b stop) is e = absurd (none-some whole is)
  whole_named at name whole (instance_body pos gs n t ms) is e = absurd (none-some whole is)

-- ---- a call

module _ (program : List ModuleParts) (noted : List NotedParts) (derived : IsDerived program noted)
    (caller : Target) (body : BodyOf) (there : body_of program noted caller ≡ Some body) (call : Call)
    (listed : Contains (calls_listed body.block) call) (target : Target)
    (means : tables.find call.1 (seen_at Callables program body.place Body) ≡ Some target) (d : Standing)
    (found : standing_at program target.at ≡ Some d) where
  pub good : IsGoodIn program body call
  good = call_good program noted derived caller body there call listed

  -- what is called is what the declaration has under its name
  pub is_called : declared_callable program d target.at target.name d.says ≡ Some good.good.called
  is_called =
      sym (ap (callable_at program) means ∙ ap (callable_standing program target) found)
      ∙ subst (λ (o : Outside). o.callable call.1 ≡ Some good.good.called) good.of_outside good.good.is_called

  -- the call's expression is of its result
  pub result_named : IsNamed good.good.called.result → IsNamed call.0.of
  result_named its =
      subst IsNamed (sym (ap (λ (n : Note). n.of) good.good.is_noted))
      (named_substituted good.good.ends good.good.called.result its)

  pub named_by_maker : (whole : Bytes) → whole_name d.says ≡ Some whole → IsNamed call.0.of
  named_by_maker whole is =
      result_named (whole_named program d good.good.called target.at target.name whole d.says is is_called)
