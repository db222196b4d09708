-- What is tested of written types and of constraints is what the rules say.
use Rattle.std.proofs.Common.{◌≡◌, ◌⊎◌, inl, inr, Bool, true, false, ◌&&◌, cond, List, [], ◌∷◌, Option, None}
use Rattle.std.proofs.Common.{Some, Ok, Err, refl, sym, ap, ◌∙◌, subst}
use Rattle.std.specs.Prelude.{Contains}
use Rattle.std.specs.Option.{option_map, option_or}
use Rattle.std.proofs.lemmas.Bool.{and_parts}
use Rattle.std.proofs.lemmas.Option.{none-some, same_Some}
use Rattle.au_base.specs.declared.kinds.IntKind.TheVariants.{Nat8}
use Rattle.au_base.proofs.OptionLemmas.{map_some, or_both}
use Rattle.au_base.proofs.ListLemmas.{Contains-first, Contains-rest, Contains-cases, nothing_there}
use Rattle.au_syntax.specs.declared.declarations.Universe.{Universe}
use Rattle.au_syntax.specs.declared.declarations.Universe.TheVariants as universes
use Rattle.au_syntax.specs.declared.types.Access.{Access}
use Rattle.au_syntax.specs.declared.types.Access.TheVariants as access
use Rattle.au_syntax.specs.Names.{Placed}
use Rattle.au_syntax.specs.Plain.{Bytes}
use Rattle.au_syntax.specs.Types.{WrittenType, WrittenTypes, named, reference, no_types, types}
use Rattle.au_types.specs.declared.headings.Head.{Head}
use Rattle.au_types.specs.declared.parameters.Parameter.{Parameter}
use Rattle.au_types.specs.declared.types.DeclAt.{DeclAt}
use Rattle.au_types.specs.declared.types.Region.{Region}
use Rattle.au_types.specs.declared.types.Region.TheVariants.{Static}
use Rattle.au_types.specs.Same.{same, same_region}
use Rattle.au_types.specs.Types as mean
use Rattle.au_types.specs.Types.{Meaning, Argument, Arguments, of_type, in_region}
use Rattle.au_types.proofs.SameLemmas as sames
use Rattle.au_matching.specs.Bindings.{Bindings, value_of}
use Rattle.au_matching.specs.Forming.{wants_region}
use Rattle.au_types.specs.Meant.{Given, all_given, applied, argument_meant, arguments_meant, followed, meant}
use Rattle.au_types.specs.Meant.{refers as refers_if, region_meant, region_of, span_of}
use Rattle.au_types.specs.Senses.{Sense, a_type, a_span, a_region, declared, a_class, sense_of}
use Rattle.au_types.proofs.MeantLemmas.{followed_both}
use Rattle.au_judged_types.specs.Judging.{judged, refers}
use Rattle.au_judged_types.specs.Reasons.{Outcome, means, fails}
use Rattle.au_judged_types.proofs.AgreementLemmas.{judged_is_meant, meant_is_judged}
use Rattle.au_instances.specs.Instances.{Holds, Known}
use Rattle.au_instances.specs.Pairs.{constraints_of}
use Rattle.au_instances.specs.Tables.{IsTable}
use Rattle.au_instances.proofs.PairLemmas.{holds_none, none_holds}
use Rattle.au_typing.specs.Scopes.{Scope}
use Rattle.au_typing.specs.Calls.{first_lacking, lacking_at}
use Rattle.au_typing.specs.Faults.{Noting}
use Rattle.au_typing.specs.Lookups.{outcome_noted, parameters_in, written_means, written_type}
use Rattle.au_laws.specs.Rules.{AllHold, IsFormed, IsRegion, MeanArguments, Means, a_name, alone, none}
use Rattle.au_laws.specs.Rules.{refers_to, region_first, sense_in, span, type_first, with_arguments}

-- ---- what a written type means

module _ (opened : List Bytes) (params : List Parameter) (visible : List (Bytes × DeclAt))
    (heads : List (DeclAt × Head)) where
  abbrev sense : Bytes → Option Sense
  sense name = sense_of opened params visible heads name

  region_from : (o : Option Sense) (region : Region) → region_of o ≡ Some region → o ≡ Some (a_region region)
  region_from (Some (a_region r)) region e = ap (λ x. Some (a_region x)) (same_Some r region e)
  region_from None region e = absurd (none-some region e)
  region_from (Some (a_type t)) region e = absurd (none-some region e)
  region_from (Some a_span) region e = absurd (none-some region e)
  region_from (Some (declared at ps)) region e = absurd (none-some region e)
  region_from (Some (a_class at)) region e = absurd (none-some region e)

  pub region_is : (w : WrittenType) (region : Region) → region_meant opened params visible heads w
      ≡ Some region → IsRegion sense w region
  region_is (named name no_types) region e = a_name name region (region_from (sense name.name) region e)
  region_is (named name (types w rest)) region e = absurd (none-some region e)
  region_is (reference at kind target name) region e = absurd (none-some region e)

  pub is_region : (w : WrittenType) (region : Region) → IsRegion sense w region →
      region_meant opened params visible heads w ≡ Some region
  is_region w region (a_name name r is) = ap region_of is

  referred : (kind : Access) (o : Option Meaning) (r : Option Region) (t : Meaning) → refers_if kind o r
      ≡ Some t → (to : Meaning) × (region : Region) × (o ≡ Some to) × (r ≡ Some region)
      × (refers kind to region ≡ t)
  referred access.Read (Some to) (Some region) t e = (to, region, refl, refl, same_Some (mean.reads to region) t e)
  referred access.Write (Some to) (Some region) t e = (to, region, refl, refl, same_Some (mean.writes to region) t e)
  referred access.Read None r t e = absurd (none-some t e)
  referred access.Write None r t e = absurd (none-some t e)
  referred access.Read (Some to) None t e = absurd (none-some t e)
  referred access.Write (Some to) None t e = absurd (none-some t e)

  -- what the first of written types means
  abbrev FirstMeans : WrittenTypes → Meaning → Type 0
  FirstMeans no_types to = Unit {0}
  FirstMeans (types w rest) to = meant opened params visible heads w ≡ Some to → Means sense w to

  mutual
    unfolding meant all_given

    pub meant_means : (w : WrittenType) (t : Meaning) → meant opened params visible heads w ≡ Some t → Means sense w t
    meant_means (reference at kind target name) t e =
        let its = referred kind (meant opened params visible heads target) (region_of (sense name.name)) t e in
        subst (Means sense (reference at kind target name)) its.4
        (refers_to at kind target name its.0 its.1 (meant_means target its.0 its.2)
        (region_from (sense name.name) its.1 its.3))
    meant_means (named name args) t e =
        by args (sense name.name) refl e (λ ps list. arguments_mean ps args list) (λ to. first_means args to)
      where
        texts : (of region : WrittenType) → sense name.name ≡ Some a_span → (o : Option Meaning) →
            ((to : Meaning) → o ≡ Some to → Means sense of to) → (r : Option Region) →
            region_meant opened params visible heads region ≡ r → span_of o r ≡ Some t →
            Means sense (named name (types of (types region no_types))) t
        texts of region is None each r its e = absurd (none-some t e)
        texts of region is (Some to) each None its e = absurd (none-some t e)
        texts of region is (Some to) each (Some r) its e = tested (same to (mean.integer Nat8)) refl
            (same_region r Static) refl e
          where
            tested : (a : Bool) → same to (mean.integer Nat8) ≡ a → (b : Bool) → same_region r Static ≡ b →
                cond (a && b) (Some mean.text) None ≡ Some t →
                Means sense (named name (types of (types region no_types))) t
            tested true one true other e =
                subst (Means sense (named name (types of (types region no_types)))) (same_Some mean.text t e)
                (span name of region is (each (mean.integer Nat8)
                (ap Some ((sames.same_decides to (mean.integer Nat8)).0 one)))
                (region_is region Static (its ∙ ap Some (sames.region_is r Static other))))
            tested true one false other e = absurd (none-some t e)
            tested false one true other e = absurd (none-some t e)
            tested false one false other e = absurd (none-some t e)

        by : (args : WrittenTypes) (o : Option Sense) → sense name.name ≡ o →
            applied o (all_given opened params visible heads args) ≡ Some t
            → ((ps : List Parameter) (list : Arguments) →
            arguments_meant ps (all_given opened params visible heads args) ≡ Some list →
            MeanArguments sense ps args list)
            → ((to : Meaning) → FirstMeans args to) → Means sense (named name args) t
        by args (Some (declared at ps)) is e each first =
            let its = map_some (mean.named at)
            (arguments_meant ps (all_given opened params visible heads args)) t e in
            subst (Means sense (named name args)) its.2 (with_arguments name at ps args its.0 is (each ps its.0 its.1))
        by no_types (Some (a_type to)) is e each first = subst (Means sense (named name no_types))
            (same_Some to t e) (alone name to is)
        by (types w rest) (Some (a_type to)) is e each first = absurd (none-some t e)
        by (types of (types region no_types)) (Some a_span) is e each first =
            texts of region is (meant opened params visible heads of) first
            (region_meant opened params visible heads region) refl e
        by no_types (Some a_span) is e each first = absurd (none-some t e)
        by (types of no_types) (Some a_span) is e each first = absurd (none-some t e)
        by (types of (types region (types other rest))) (Some a_span) is e each first = absurd (none-some t e)
        by args None is e each first = absurd (none-some t e)
        by args (Some (a_region r)) is e each first = absurd (none-some t e)
        by args (Some (a_class at)) is e each first = absurd (none-some t e)

    first_means : (args : WrittenTypes) (to : Meaning) → FirstMeans args to
    first_means no_types to = tt
    first_means (types w rest) to = meant_means w to

    arguments_mean : (ps : List Parameter) (args : WrittenTypes) (list : Arguments) →
        arguments_meant ps (all_given opened params visible heads args) ≡ Some list →
        MeanArguments sense ps args list
    arguments_mean [] no_types list e = subst (MeanArguments sense [] no_types)
        (same_Some mean.no_arguments list e) none
    arguments_mean [] (types w rest) list e = absurd (none-some list e)
    arguments_mean (p ∷ ps) no_types list e = absurd (none-some list e)
    arguments_mean (p ∷ ps) (types w rest) list e =
        let its = followed_both (argument_meant p.universe
        (record {
          as_type = meant opened params visible heads w;
          as_region =
              region_meant opened params visible heads w;
        }))
        (arguments_meant ps (all_given opened params visible heads rest)) list e in
        subst (MeanArguments sense (p ∷ ps) (types w rest)) its.4
        (by p.universe refl its.0 its.2 (meant_means w) (arguments_mean ps rest its.1 its.3))
      where
        a_type_there : (its : Arguments) (u : Universe) → p.universe ≡ u → wants_region u ≡ false →
            (one : Argument) → option_map of_type (meant opened params visible heads w) ≡ Some one
            → ((t : Meaning) → meant opened params visible heads w ≡ Some t → Means sense w t) →
            MeanArguments sense ps rest its → MeanArguments sense (p ∷ ps) (types w rest)
            (mean.arguments one its)
        a_type_there its u is isnt one e each others =
            let x = map_some of_type (meant opened params visible heads w) one e in
            subst (λ a. MeanArguments sense (p ∷ ps) (types w rest) (mean.arguments a its)) x.2
            (type_first p ps w rest x.0 its (ap wants_region is ∙ isnt) (each x.0 x.1) others)

        by : {its : Arguments} (u : Universe) → p.universe ≡ u → (one : Argument) →
            argument_meant u (record {
              as_type = meant opened params visible heads w;
              as_region =
                  region_meant opened params visible heads w;
            }) ≡ Some one
            → ((t : Meaning) → meant opened params visible heads w ≡ Some t → Means sense w t) →
            MeanArguments sense ps rest its → MeanArguments sense (p ∷ ps) (types w rest)
            (mean.arguments one its)
        by {its} universes.Region is one e each others =
            let x = map_some in_region (region_meant opened params visible heads w) one e in
            subst (λ a. MeanArguments sense (p ∷ ps) (types w rest) (mean.arguments a its)) x.2
            (region_first p ps w rest x.0 its is (region_is w x.0 x.1) others)
        by {its} universes.Free is one e each others = a_type_there its universes.Free is refl one e each others
        by {its} universes.Linear is one e each others = a_type_there its universes.Linear is refl one e each others
        by {its} universes.AnyType is one e each others = a_type_there its universes.AnyType is refl one e each others

  type_meant : (u : Universe) (given : Given) (t : Meaning) → wants_region u ≡ false →
      given.as_type ≡ Some t → argument_meant u given ≡ Some (of_type t)
  type_meant universes.Region given t isnt e = cc
  type_meant universes.Free given t isnt e = ap (option_map of_type) e
  type_meant universes.Linear given t isnt e = ap (option_map of_type) e
  type_meant universes.AnyType given t isnt e = ap (option_map of_type) e

  refers_meant : (kind : Access) (t : Meaning) (region : Region) → refers_if kind (Some t) (Some region)
      ≡ Some (refers kind t region)
  refers_meant access.Read t region = refl
  refers_meant access.Write t region = refl

  mutual
    unfolding meant all_given

    pub means_meant : (w : WrittenType) (t : Meaning) → Means sense w t → meant opened params visible heads w ≡ Some t
    means_meant w t (alone name u is) = ap (λ o. applied o []) is
    means_meant w t (span name of region is its there) =
        ap (λ o. applied o (all_given opened params visible heads (types of (types region no_types)))) is
        ∙ ap (λ o. span_of o (region_meant opened params visible heads region)) (means_meant of (mean.integer Nat8) its)
        ∙ ap (span_of (Some (mean.integer Nat8))) (is_region region Static there)
    means_meant w t (with_arguments name at ps written args is its) =
        ap (λ o. applied o (all_given opened params visible heads written)) is
        ∙ ap (option_map (mean.named at)) (mean_arguments ps written args its)
    means_meant w t (refers_to at kind target name to region its is) =
        ap (λ o. refers_if kind o (region_of (sense name.name))) (means_meant target to its)
        ∙ ap (λ o. refers_if kind (Some to) (region_of o)) is ∙ refers_meant kind to region

    mean_arguments : (ps : List Parameter) (written : WrittenTypes) (args : Arguments) →
        MeanArguments sense ps written args → arguments_meant ps (all_given opened params visible heads written)
        ≡ Some args
    mean_arguments ps written args none = refl
    mean_arguments ps written args (region_first p others w rest region list is its later) =
        ap (λ u. followed (argument_meant u
        (record {
          as_type = meant opened params visible heads w;
          as_region =
              region_meant opened params visible heads w;
        }))
        (arguments_meant others (all_given opened params visible heads rest))) is
        ∙ ap (λ o. followed (option_map in_region o)
        (arguments_meant others (all_given opened params visible heads rest))) (is_region w region its)
        ∙ ap (followed (Some (in_region region))) (mean_arguments others rest list later)
    mean_arguments ps written args (type_first p others w rest to list isnt its later) =
        ap (λ o. followed o (arguments_meant others (all_given opened params visible heads rest)))
        (type_meant p.universe (record {
          as_type = meant opened params visible heads w;
          as_region =
              region_meant opened params visible heads w;
        }) to isnt (means_meant w to its))
        ∙ ap (followed (Some (of_type to))) (mean_arguments others rest list later)

-- ---- written types in a scope

abbrev kept : {A : Type 0} → Noting A → Option A
kept (Ok x) = Some x
kept (Err why) = None

noted_means : {A : Type 0} (o : Outcome A) (x : A) → outcome_noted o ≡ Ok x → o ≡ means x
noted_means (means y) x e = ap means (same_Some y x (ap kept e))
noted_means (fails why) x e = cc

pub formed_rule : (scope : Scope) (w : WrittenType) (t : Meaning) → written_type scope w ≡ Ok t → IsFormed scope w t
formed_rule scope w t e =
    let its = judged_is_meant scope.outside.heads (parameters_in scope) scope.regions scope.outside.visible w
    t (noted_means (written_means scope w) t e) in
    record {
      means = meant_means scope.regions (parameters_in scope) scope.outside.visible scope.outside.heads
          w t its.0;
      well_formed = its.1;
    }

pub rule_formed : (scope : Scope) (w : WrittenType) (t : Meaning) → IsFormed scope w t → written_type scope w ≡ Ok t
rule_formed scope w t is =
    ap outcome_noted (meant_is_judged scope.outside.heads (parameters_in scope) scope.regions scope.outside.visible w t
    (means_meant scope.regions (parameters_in scope) scope.outside.visible scope.outside.heads w t is.means)
    is.well_formed)

-- ---- constraints

module _ (scope : Scope) (table : IsTable scope.outside.instances) (s : Bindings) where
  pub none_hold : (wanted : Known) → first_lacking scope s wanted ≡ None → AllHold scope s wanted
  none_hold [] e name class t c is = absurd (nothing_there (name, class) c)
  none_hold (one ∷ wanted) e name class t c is =
      let parts = or_both (lacking_at scope one.1 (value_of one.0 s)) (first_lacking scope s wanted) e in
      by (Contains-cases one wanted (name, class) c) (λ later. none_hold wanted parts.1 name class t later is) parts.0
    where
      by : (one ≡ (name, class)) ⊎ Contains wanted (name, class) →
          (Contains wanted (name, class) → Holds scope.outside.instances scope.outside.heads
          (parameters_in scope) (constraints_of scope.generics) class t) →
          lacking_at scope one.1 (value_of one.0 s) ≡ None → Holds scope.outside.instances scope.outside.heads
          (parameters_in scope) (constraints_of scope.generics) class t
      by (inl same) later first =
          none_holds scope.outside.instances scope.outside.heads (parameters_in scope)
          (constraints_of scope.generics) table t class
          (ap (lacking_at scope class) (sym is)
          ∙ subst (λ (x : Bytes × DeclAt). lacking_at scope x.1 (value_of x.0 s) ≡ None) same first)
      by (inr behind) later first = later behind

  pub hold_none : (wanted : Known) → AllHold scope s wanted → first_lacking scope s wanted ≡ None
  hold_none [] all = refl
  hold_none (one ∷ wanted) all =
      ap (λ o. option_or o (first_lacking scope s wanted)) (here (value_of one.0 s) refl)
      ∙ hold_none wanted (λ name class t c is. all name class t (Contains-rest one wanted (name, class) c)
      is)
    where
      here : (o : Option Argument) → value_of one.0 s ≡ o → lacking_at scope one.1 o ≡ None
      here None is = refl
      here (Some (in_region region)) is = refl
      here (Some (of_type t)) is =
          holds_none scope.outside.instances scope.outside.heads (parameters_in scope)
          (constraints_of scope.generics) table one.1 t (all one.0 one.1 t (Contains-first one wanted) is)
