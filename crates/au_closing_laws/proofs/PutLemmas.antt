-- What the calls of a derived program put for type parameters fits, where its body stands.
use Rattle.std.proofs.Common.{◌≡◌, true, List, Some, sym, subst}
use Rattle.au_syntax.specs.declared.declarations.Universe.{Universe}
use Rattle.au_syntax.specs.Plain.{Bytes}
use Rattle.au_types.specs.declared.types.DeclAt.{DeclAt}
use Rattle.au_matching.specs.Forming.{takes}
use Rattle.au_matching.specs.Universes.{universe_of}
use Rattle.au_judged_types.specs.Bounds.{Bounded, parameters}
use Rattle.au_modules.specs.Programs.{ModuleParts}
use Rattle.au_instances.specs.Instances.{Holds}
use Rattle.au_instances.specs.Pairs.{constraints_of}
use Rattle.au_instances.specs.Tables.{IsTable}
use Rattle.au_classes.specs.Good.{InstancesAreGood}
use Rattle.au_typing.specs.Scopes.{Outside}
use Rattle.au_typing.specs.Bodies.{generics_in}
use Rattle.au_closing.specs.Bodies.{BodyOf}
use Rattle.au_closing_laws.specs.Targets.{Call, HoldsIn, IsTypeOf, bounds_of}
use Rattle.au_closing_laws.specs.Calls.{AreMeant, IsGoodCall, Suits, outside_at, put_for}
use Rattle.au_closing_laws.proofs.FitLemmas.{put_constrained, put_of_class, put_taken}
use Rattle.au_closing_laws.proofs.TableLemmas.{good_table}

module _ (program : List ModuleParts) (body : BodyOf) (call : Call) (meant : AreMeant program body)
    (one : IsGoodCall (outside_at program body) (generics_in (outside_at program body) body.generics) call) where
  -- what holds in the scope of the call holds in the body
  abbrev Carried : (Outside → List Bounded → Type 0) → Type 0
  Carried P = P one.scope.outside one.scope.generics → P (outside_at program body) (bounds_of program body)

  carry : (P : Outside → List Bounded → Type 0) → Carried P
  carry P h =
      subst (λ g. P (outside_at program body) g) (sym meant)
      (subst (λ g. P (outside_at program body) g) one.of_generics
      (subst (λ o. P o one.scope.generics) one.of_outside h))

  there : InstancesAreGood program → IsTable one.scope.outside.instances
  there good = subst (λ (o : Outside). IsTable o.instances) (sym one.of_outside) (good_table program good)

  suits : InstancesAreGood program → (p : Bytes) (universe : Universe) →
      IsTypeOf (parameters one.good.called.generics) p universe
      → Suits program body one.good.called.generics p universe (put_for call.0 p)
  suits good p universe is = record {
    taken = carry (λ o g. takes universe (universe_of o.heads (parameters g) (put_for call.0 p)) ≡ true)
        (put_taken one.scope call.0 call.1 one.takes one.args one.good p universe is.declared is.is_type);
    holds = λ class c. carry (λ o g. Holds o.instances o.heads (parameters g) (constraints_of g) class
        (put_for call.0 p))
        (put_constrained one.scope call.0 call.1 one.takes one.args one.good (there good) p universe class
        is.declared is.is_type c);
  }

  of_class : InstancesAreGood program → (p : Bytes) (universe : Universe) (class : DeclAt) →
      IsTypeOf (parameters one.good.called.generics) p universe → one.good.called.class ≡ Some (p, class)
      → HoldsIn program body class (put_for call.0 p)
  of_class good p universe class is e =
      carry (λ o g. Holds o.instances o.heads (parameters g) (constraints_of g) class (put_for call.0 p))
      (put_of_class one.scope call.0 call.1 one.takes one.args one.good (there good) p universe class
      is.declared is.is_type e)

pub parameter_put : (program : List ModuleParts) → InstancesAreGood program → (body : BodyOf) →
    AreMeant program body → (call : Call)
    → (one : IsGoodCall (outside_at program body) (generics_in (outside_at program body) body.generics) call)
    → (p : Bytes) (universe : Universe) → IsTypeOf (parameters one.good.called.generics) p universe →
    Suits program body one.good.called.generics p universe (put_for call.0 p)
parameter_put program good body meant call one = suits program body call meant one good

pub class_put : (program : List ModuleParts) → InstancesAreGood program → (body : BodyOf) →
    AreMeant program body → (call : Call)
    → (one : IsGoodCall (outside_at program body) (generics_in (outside_at program body) body.generics) call)
    → (p : Bytes) (universe : Universe) (class : DeclAt) → IsTypeOf (parameters one.good.called.generics) p
    universe → one.good.called.class ≡ Some (p, class)
    → HoldsIn program body class (put_for call.0 p)
class_put program good body meant call one = of_class program body call meant one good
