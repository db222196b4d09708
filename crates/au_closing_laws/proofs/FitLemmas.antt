-- What a good call puts for the type parameters of what it calls: a type for each that isn't a region, which
-- has its universe and its classes.
use Rattle.std.proofs.Common.{◌≡◌, ◌⊎◌, inl, inr, Bool, true, false, cond, List, [], ◌∷◌, Option, None, Some}
use Rattle.std.proofs.Common.{refl, sym, ap, ◌∙◌, subst}
use Rattle.std.specs.Prelude.{Contains, option_to_list, unwrap_or}
use Rattle.std.specs.Option.{option_or}
use Rattle.std.specs.Str.{bytes_eq}
use Rattle.std.proofs.lemmas.List.Elements.{Contains-append_left, Contains-append_right}
use Rattle.std.proofs.lemmas.Option.{none-some, same_Some}
use Rattle.std.proofs.lemmas.Slice.Eq.{bytes_eq-Decides}
use Rattle.au_base.proofs.ListLemmas.{nothing_there, Contains-first, Contains-cases}
use Rattle.au_syntax.specs.declared.declarations.Universe.{Universe}
use Rattle.au_syntax.specs.declared.declarations.Universe.TheVariants as universes
use Rattle.au_syntax.specs.Plain.{Bytes}
use Rattle.au_types.specs.declared.parameters.Parameter.{Parameter}
use Rattle.au_types.specs.declared.types.DeclAt.{DeclAt}
use Rattle.au_types.specs.Types.{Meaning, Argument, parameter, of_type, in_region}
use Rattle.au_types.specs.Universes.{universe_in}
use Rattle.au_matching.specs.Bindings.{Bindings, GivesType, value_of}
use Rattle.au_matching.specs.Fixed.{is_a_type}
use Rattle.au_matching.specs.Substituted.{substituted, type_for}
use Rattle.au_matching.specs.Forming.{takes}
use Rattle.au_matching.specs.Universes.{universe_of}
use Rattle.au_judged_types.specs.Bounds.{constrains, parameters}
use Rattle.au_instances.specs.Instances.{Holds, Known}
use Rattle.au_instances.specs.Pairs.{Pair, constraints_of}
use Rattle.au_instances.specs.Tables.{IsTable}
use Rattle.au_instances.proofs.PairLemmas.{constraint_listed, none_holds}
use Rattle.au_typing.specs.Scopes.{Scope, Typed}
use Rattle.au_typing.specs.Calls.{GoodCall, Shown, first_lacking, first_misfit, first_unfixed, is_fixed}
use Rattle.au_typing.specs.Calls.{lacking_at, value_fits, wanted_of}
use Rattle.au_typing.specs.Lookups.{parameters_in}
use Rattle.au_typing.specs.Notes.{Note}
use Rattle.au_closed_trees.specs.TypeNames.{is_region}

-- ---- each type parameter stands for a type

type_there : (s : Bindings) (name : Bytes) (o : Option Argument) → value_of name s ≡ o → is_a_type o ≡ true →
    GivesType s name
type_there s name None is e = cc
type_there s name (Some (of_type t)) is e = (t, is)
type_there s name (Some (in_region region)) is e = cc

given_type : (s : Bindings) (name : Bytes) (universe : Universe) → is_region universe ≡ false →
    is_fixed s (record { name = name; universe = universe }) ≡ true → GivesType s name
given_type s name universes.Free is e = type_there s name (value_of name s) refl e
given_type s name universes.Linear is e = type_there s name (value_of name s) refl e
given_type s name universes.AnyType is e = type_there s name (value_of name s) refl e
given_type s name universes.Region is e = cc

pub value_there : (s : Bindings) (params : List Parameter) (name : Bytes) (universe : Universe) →
    first_unfixed s params ≡ None → universe_in params name ≡ Some universe → is_region universe ≡ false →
    GivesType s name
value_there s [] name universe none e is = absurd (none-some universe e)
value_there s (one ∷ rest) name universe none e is =
    by (is_fixed s one) refl (bytes_eq one.name name) refl none e
    (λ others its. value_there s rest name universe others its is)
  where
    by : (g : Bool) → is_fixed s one ≡ g → (b : Bool) → bytes_eq one.name name ≡ b →
        cond g (first_unfixed s rest) (Some one.name) ≡ None →
        cond b (Some one.universe) (universe_in rest name) ≡ Some universe
        → (first_unfixed s rest ≡ None → universe_in rest name ≡ Some universe → GivesType s name) → GivesType s name
    by false given b same none e later = absurd (none-some one.name (sym none))
    by true given true same none e later =
        let sort : one.universe ≡ universe = same_Some one.universe universe e in
        subst (GivesType s) ((bytes_eq-Decides one.name name).0 same)
        (given_type s one.name one.universe (ap is_region sort ∙ is) given)
    by true given false same none e later = later none e

-- ---- its universe

fit_there : (scope : Scope) (s : Bindings) (params : List Parameter) (name : Bytes) (universe : Universe) →
    first_misfit scope s params ≡ None → universe_in params name ≡ Some universe
    → value_fits scope universe (value_of name s) ≡ true
fit_there scope s [] name universe none e = absurd (none-some universe e)
fit_there scope s (one ∷ rest) name universe none e =
    by (value_fits scope one.universe (value_of one.name s)) refl (bytes_eq one.name name) refl none e
    (λ others its. fit_there scope s rest name universe others its)
  where
    by : (g : Bool) → value_fits scope one.universe (value_of one.name s) ≡ g → (b : Bool) →
        bytes_eq one.name name ≡ b → cond g (first_misfit scope s rest) (Some one) ≡ None →
        cond b (Some one.universe) (universe_in rest name) ≡ Some universe
        → (first_misfit scope s rest ≡ None → universe_in rest name ≡ Some universe →
        value_fits scope universe (value_of name s) ≡ true) → value_fits scope universe (value_of name s)
        ≡ true
    by false fits b same none e later = absurd (none-some one (sym none))
    by true fits true same none e later =
        subst (λ n. value_fits scope universe (value_of n s) ≡ true) ((bytes_eq-Decides one.name name).0 same)
        (subst (λ u. value_fits scope u (value_of one.name s) ≡ true) (same_Some one.universe universe e) fits)
    by true fits false same none e later = later none e

-- ---- its classes

pub lack_there : (scope : Scope) (s : Bindings) (known : Known) (one : Bytes × DeclAt) →
    first_lacking scope s known ≡ None → Contains known one → lacking_at scope one.1 (value_of one.0 s) ≡ None
lack_there scope s [] one none there = absurd (nothing_there one there)
lack_there scope s (first ∷ rest) one none there =
    by (lacking_at scope first.1 (value_of first.0 s)) refl none (Contains-cases first rest one there)
    (λ others behind. lack_there scope s rest one others behind)
  where
    by : (o : Option Pair) → lacking_at scope first.1 (value_of first.0 s) ≡ o →
        option_or o (first_lacking scope s rest) ≡ None → (first ≡ one) ⊎ Contains rest one
        → (first_lacking scope s rest ≡ None → Contains rest one → lacking_at scope one.1 (value_of one.0 s)
        ≡ None) → lacking_at scope one.1 (value_of one.0 s) ≡ None
    by (Some pair) is none there later = absurd (none-some pair (sym none))
    by None is none (inl same) later =
        subst (λ (x : Bytes × DeclAt). lacking_at scope x.1 (value_of x.0 s) ≡ None) same is
    by None is none (inr behind) later = later none behind

-- ---- the whole call

module _ (scope : Scope) (note : Note) (name : Bytes) (takes_of : List Typed → Option (List Meaning))
    (args : List Shown) (good : GoodCall scope note name takes_of args) where
  -- what the call puts for a type parameter
  abbrev pub put_for : Bytes → Meaning
  put_for p = substituted (unwrap_or note.call []) (parameter p)

  put_is : (p : Bytes) (t : Meaning) → value_of p good.ends ≡ Some (of_type t) → put_for p ≡ t
  put_is p t e =
      ap (λ (n : Note). substituted (unwrap_or n.call []) (parameter p)) good.is_noted ∙ ap (λ o. type_for o p) e

  -- a type parameter of what is called that isn't a region stands for a type
  pub stands_for : (p : Bytes) (universe : Universe) → universe_in (parameters good.called.generics) p
      ≡ Some universe → is_region universe ≡ false → GivesType good.ends p
  stands_for p universe = value_there good.ends (parameters good.called.generics) p universe good.all_fixed

  -- which has its universe
  pub put_taken : (p : Bytes) (universe : Universe) → universe_in (parameters good.called.generics) p
      ≡ Some universe → is_region universe ≡ false
      → takes universe (universe_of scope.outside.heads (parameters_in scope) (put_for p)) ≡ true
  put_taken p universe e is =
      let its = stands_for p universe e is in
      let fits = fit_there scope good.ends (parameters good.called.generics) p universe good.all_fit e in
      subst (λ t. takes universe (universe_of scope.outside.heads (parameters_in scope) t) ≡ true)
      (sym (put_is p its.0 its.1))
      (sym (ap (value_fits scope universe) its.1) ∙ fits)

  -- and its classes
  module _ (table : IsTable scope.outside.instances) where
    put_holds : (p : Bytes) (class : DeclAt) → GivesType good.ends p → Contains (wanted_of good.called) (p, class)
        → Holds scope.outside.instances scope.outside.heads (parameters_in scope)
        (constraints_of scope.generics) class (put_for p)
    put_holds p class its wanted =
        let none = lack_there scope good.ends (wanted_of good.called) (p, class) good.all_hold wanted in
        subst (Holds scope.outside.instances scope.outside.heads (parameters_in scope)
        (constraints_of scope.generics) class) (sym (put_is p its.0 its.1))
        (none_holds scope.outside.instances scope.outside.heads (parameters_in scope)
        (constraints_of scope.generics) table its.0 class
        (sym (ap (lacking_at scope class) its.1) ∙ none))

    pub put_constrained : (p : Bytes) (universe : Universe) (class : DeclAt) →
        universe_in (parameters good.called.generics) p ≡ Some universe → is_region universe ≡ false →
        constrains good.called.generics p class ≡ true
        → Holds scope.outside.instances scope.outside.heads (parameters_in scope)
        (constraints_of scope.generics) class (put_for p)
    put_constrained p universe class e is c =
        put_holds p class (stands_for p universe e is)
        (Contains-append_left (constraints_of good.called.generics) (option_to_list good.called.class)
        (p, class) (constraint_listed good.called.generics p class c))

    pub put_of_class : (p : Bytes) (universe : Universe) (class : DeclAt) →
        universe_in (parameters good.called.generics) p ≡ Some universe → is_region universe ≡ false →
        good.called.class ≡ Some (p, class)
        → Holds scope.outside.instances scope.outside.heads (parameters_in scope)
        (constraints_of scope.generics) class (put_for p)
    put_of_class p universe class e is of =
        put_holds p class (stands_for p universe e is)
        (Contains-append_right (constraints_of good.called.generics) (option_to_list good.called.class) (p, class)
        (subst (λ o. Contains (option_to_list o) (p, class)) (sym of) (Contains-first (p, class) [])))
