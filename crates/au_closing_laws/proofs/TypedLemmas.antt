-- The calls of an accepted program are typed.
use Rattle.std.proofs.Common.{◌≡◌, ◌⊎◌, inl, inr, ℕ, false, cond, List, [], ◌∷◌, find, Option, None, Some}
use Rattle.std.proofs.Common.{refl, sym, ap, ◌∙◌, subst}
use Rattle.std.specs.Prelude.{◌≢◌, Contains, slice_get}
use Rattle.std.specs.List.{position, position_or_len}
use Rattle.std.specs.Option.{option_map}
use Rattle.std.proofs.lemmas.List.Folds.{find_at}
use Rattle.std.proofs.lemmas.Option.{none-some, same_Some}
use Rattle.std.proofs.lemmas.Slice.Eq.{bytes_eq-Decides}
use Rattle.au_base.specs.declared.places.Pos.{Pos}
use Rattle.au_base.proofs.ListLemmas.{Contains-first}
use Rattle.au_syntax.specs.declared.declarations.Universe.{Universe}
use Rattle.au_syntax.specs.declared.declarations.Universe.TheVariants as universes
use Rattle.au_syntax.specs.declared.modules.Part.TheVariants.{Interface, Body}
use Rattle.au_syntax.specs.Modules.{Header, InUniverse, constant, opaque_type, record_type, union_type}
use Rattle.au_syntax.specs.Modules.{function, class, instance, constant_body, function_body, instance_body}
use Rattle.au_syntax.specs.Names.{Placed}
use Rattle.au_syntax.specs.Plain.{Bytes, PlainDeclaration}
use Rattle.au_types.specs.declared.types.DeclAt.{DeclAt}
use Rattle.au_types.specs.Types.{Meaning}
use Rattle.au_types.specs.Universes.{universe_in}
use Rattle.au_modules.specs.Programs.{ModuleParts}
use Rattle.au_names.specs.declared.targets.Target.{Target}
use Rattle.au_names.specs.Owned.{declarations_in}
use Rattle.au_names.specs.Standing.{Standing, standing_at}
use Rattle.au_promises.specs.Fulfilled.{AllFulfil}
use Rattle.au_judged_types.specs.Bounds.{Bounded, parameters}
use Rattle.au_judged_types.specs.Meanings.{parameter}
use Rattle.au_formed.specs.Writings.{a_universe, writings}
use Rattle.au_classes.specs.Good.{InstancesAreGood}
use Rattle.au_rules.specs.Good.{AllDeclarationsAreGood}
use Rattle.au_typing.specs.Scopes.{Callable, Typed}
use Rattle.au_typing.specs.Called.{callable, declared_callable, is_case, is_method, method_called, unconstrained}
use Rattle.au_typing.specs.Written.{all_typed, meant_in}
use Rattle.au_typing.specs.Trees.{NotedParts}
use Rattle.au_accepted.specs.Faults.{IsDerived}
use Rattle.au_closed_trees.specs.TypeNames.{is_region}
use Rattle.au_closing.specs.Bodies.{BodyOf, body_of}
use Rattle.au_closing.specs.Leading as leading
use Rattle.au_closing.specs.Leading.{Called, a_maker, called_of, called_standing}
use Rattle.au_closing_laws.specs.Targets.{Call, CallIsTyped, IsTyped, IsTypeOf, MethodIsTyped, NameIsTyped}
use Rattle.au_closing_laws.specs.Targets.{calls_listed}
use Rattle.au_closing_laws.specs.Calls.{IsMeant}
use Rattle.au_closing_laws.specs.Premises.{Premises}
use Rattle.au_closing_laws.proofs.DefinitionLemmas.{IsThere, listed_at, stands_in}
use Rattle.au_closing_laws.proofs.FunctionLemmas.{typed_here, typed_promised}
use Rattle.au_closing_laws.proofs.GenericsLemmas.{bounds_meant, made_promised, made_there}
use Rattle.au_closing_laws.proofs.MeantLemmas.{call_meant}
use Rattle.au_closing_laws.proofs.PutLemmas.{class_put}
use Rattle.au_closing_laws.proofs.TableLemmas.{good_table}

-- what has a class's type parameter and the class
pub callable_class : (generics : List Bounded) (of : Option (Bytes × DeclAt)) (given : Option (List Typed))
    (result : Option Meaning) (c : Callable) → callable generics of given result ≡ Some c →
    (c.generics ≡ generics) × (c.class ≡ of)
callable_class generics of (Some given) (Some result) c e =
    let is = same_Some (record { generics = generics; parameters = given; result = result; class = of }) c e in
    (sym (ap (λ (x : Callable). x.generics) is), sym (ap (λ (x : Callable). x.class) is))
callable_class generics of None result c e = absurd (none-some c e)
callable_class generics of (Some given) None c e = absurd (none-some c e)

not_region : (universe : Universe) → universe ≢ universes.Region → is_region universe ≡ false
not_region universes.Free other = refl
not_region universes.Linear other = refl
not_region universes.AnyType other = refl
not_region universes.Region other = absurd (other refl)

module _ (program : List ModuleParts) (declared : AllDeclarationsAreGood program) where
  -- the type parameter of a class is no region
  pub class_universe : (at : DeclAt) (d : Standing) → standing_at program at ≡ Some d →
      (place : Pos) (name : Placed Bytes) (p : InUniverse Bytes) (methods : List (Header Bytes)) →
      d.says ≡ class place name p methods
      → is_region p.universe ≡ false
  class_universe at d found place name p methods says = by (stands_in program at d found)
    where
      written : Contains (writings d.says) (a_universe p.name.at p.universe)
      written = subst (λ x. Contains (writings x) (a_universe p.name.at p.universe)) (sym says)
          (Contains-first (a_universe p.name.at p.universe) _)

      by : (m : ModuleParts) × (slice_get program at.«module» ≡ Some m)
          × (IsThere at.«module» Interface (declarations_in m.interface) d
          ⊎ IsThere at.«module» Body (declarations_in m.body) d)
          → is_region p.universe ≡ false
      by (m, is, inl its) = not_region p.universe
          ((made_promised program declared at.«module» m d.index d.says is its.2).written
          (a_universe p.name.at p.universe) written)
      by (m, is, inr its) = not_region p.universe
          ((made_there program declared at.«module» m d.index d.says is its.2).written
          (a_universe p.name.at p.universe) written)

module _ (program : List ModuleParts) (noted : List NotedParts) (derived : IsDerived program noted)
    (declared : AllDeclarationsAreGood program) (instances : InstancesAreGood program)
    (promises : AllFulfil program)
    (premises : Premises program noted) where
  module _ (caller : Target) (body : BodyOf) (there : body_of program noted caller ≡ Some body) (call : Call)
      (listed : Contains (calls_listed body.block) call) (meant : IsMeant program body call) where
    abbrev IsTypedAs : Called → Type 0
    IsTypedAs called = CallIsTyped program noted body call.0 meant.target called

    abbrev its : Callable
    its = meant.is_good.good.called

    -- a method that is called
    method_typed : (place : Pos) (name : Placed Bytes) (p : InUniverse Bytes) (methods : List (Header Bytes))
        → meant.declared.says ≡ class place name p methods
        → (h : Header Bytes) → find (is_method meant.target.name) methods ≡ Some h →
        MethodIsTyped program noted body call.0 meant.target.at h.name.name p.name.name
    method_typed place name p methods says h found = record {
      stands = premises.standing caller body there call listed meant.is_good p.name.name p.universe is_type;
      holds = class_put program instances body (bounds_meant program noted declared derived caller body there)
          call meant.is_good p.name.name p.universe meant.target.at is_type of_class.1;
      there = λ row t given. premises.methods meant.target.at meant.declared meant.found place name p methods says h
          (listed_at methods (position_or_len (is_method meant.target.name) methods) h
          (sym (find_at (is_method meant.target.name) methods) ∙ found)) row t given;
    }
      where
        has : method_called program meant.declared meant.target.at (parameter p) (Some h) ≡ Some its
        has = ap (method_called program meant.declared meant.target.at (parameter p)) (sym found)
            ∙ subst (λ x. declared_callable program meant.declared meant.target.at meant.target.name x
            ≡ Some its) says meant.has

        of_class : (its.generics ≡ unconstrained (parameter p) ∷ []) × (its.class ≡ Some (p.name.name, meant.target.at))
        of_class = callable_class (unconstrained (parameter p) ∷ []) (Some (p.name.name, meant.target.at))
            (all_typed program meant.declared (parameter p ∷ []) h.parameters)
            (meant_in program meant.declared (parameter p ∷ []) h.result) its has

        of_itself : universe_in (parameter p ∷ []) p.name.name ≡ Some p.universe
        of_itself = ap (λ b. cond b (Some p.universe) None) ((bytes_eq-Decides p.name.name p.name.name).1 refl)

        is_type : IsTypeOf (parameters its.generics) p.name.name p.universe
        is_type = subst (λ bs. IsTypeOf (parameters bs) p.name.name p.universe) (sym of_class.0)
            (record {
              declared = of_itself;
              is_type = class_universe program declared meant.target.at meant.declared
                  meant.found place name p methods says;
            })

    is_as : (called : Called) (says : PlainDeclaration) → meant.declared.says ≡ says →
        called_of meant.target.name says ≡ Some called → IsTypedAs called
    is_as called (function place generics h) says e =
        subst IsTypedAs (same_Some (leading.function_called generics h) called e)
        (typed_promised program noted derived declared instances promises premises.parts premises.functions
        premises.standing caller body there call listed meant place generics h says)
    is_as called (function_body place generics h block stop) says e =
        subst IsTypedAs (same_Some (leading.function_called generics h) called e)
        (typed_here program noted derived declared instances promises premises.parts premises.functions
        premises.standing caller body there call listed meant place generics h block stop says)
    is_as called (class place name p methods) says e = by (find (is_method meant.target.name) methods) refl e
      where
        by : (o : Option (Header Bytes)) → find (is_method meant.target.name) methods ≡ o →
            option_map (leading.method_called p.name.name) o ≡ Some called → IsTypedAs called
        by None is e = absurd (none-some called e)
        by (Some h) is e = subst IsTypedAs (same_Some (leading.method_called p.name.name h) called e)
            (method_typed place name p methods says h is)
    is_as called (record_type at n ps u fields) says e = subst IsTypedAs (same_Some (a_maker 0) called e) tt
    is_as called (union_type at n ps u cases) says e = by (position (is_case meant.target.name) cases) e
      where
        by : (o : Option ℕ) → option_map a_maker o ≡ Some called → IsTypedAs called
        by None e = absurd (none-some called e)
        by (Some k) e = subst IsTypedAs (same_Some (a_maker k) called e) tt
    is_as called (constant at n t) says e = absurd (none-some called e)
    is_as called (opaque_type at n ps u) says e = absurd (none-some called e)
    is_as called (instance at gs n t) says e = absurd (none-some called e)
    is_as called (constant_body at n t v) says e = absurd (none-some called e)
    is_as called (instance_body at gs n t methods) says e = absurd (none-some called e)

    name_typed : NameIsTyped program noted body call
    name_typed = record {
      target = meant.target;
      means = meant.means;
      called = meant.called;
      has = ap (called_standing meant.target.name) meant.found ∙ meant.is_called;
      typed = is_as meant.called meant.declared.says refl meant.is_called;
    }

-- the calls of an accepted program are typed
pub program_typed : (program : List ModuleParts) (noted : List NotedParts) → IsDerived program noted →
    AllDeclarationsAreGood program → InstancesAreGood program → AllFulfil program → Premises program noted →
    IsTyped program noted
program_typed program noted derived declared instances promises premises = record {
  table = good_table program instances;
  calls = λ target body there call listed. name_typed program noted derived declared instances promises
      premises target body there call listed (call_meant program noted derived target body there call listed);
}
