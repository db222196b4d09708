-- What is given for the type parameters in scope as a substitution, by which what holds in a body holds of what
-- its types close to.
use Rattle.std.proofs.Common.{◌≡◌, ◌⊎◌, inl, inr, ◌&&◌, Bool, true, false, cond, List, [], ◌∷◌, Option}
use Rattle.std.proofs.Common.{None, Some, refl, sym, ap, subst, ◌∙◌}
use Rattle.std.specs.Prelude.{is_some, unwrap_or, Contains}
use Rattle.std.specs.List.{list_all}
use Rattle.std.specs.Str.{bytes_eq}
use Rattle.std.proofs.lemmas.Bool.{and_parts, and_from, or_cases}
use Rattle.std.proofs.lemmas.Option.{same_Some}
use Rattle.std.proofs.lemmas.Slice.Eq.{bytes_eq-Decides}
use Rattle.au_base.proofs.ListLemmas.{Contains-first, Contains-rest, each_passes, all_pass}
use Rattle.au_base.proofs.TextLemmas.{bytes_differ}
use Rattle.au_syntax.specs.declared.declarations.Universe.{Universe}
use Rattle.au_syntax.specs.declared.declarations.Universe.TheVariants as universes
use Rattle.au_syntax.specs.Plain.{Bytes}
use Rattle.au_types.specs.declared.headings.Head.{Head}
use Rattle.au_types.specs.declared.parameters.Parameter.{Parameter}
use Rattle.au_types.specs.declared.types.DeclAt.{DeclAt}
use Rattle.au_types.specs.declared.types.Region.{Region}
use Rattle.au_types.specs.declared.types.Region.TheVariants.{Static, Named, Anonymous}
use Rattle.au_types.specs.Rows.{same_place}
use Rattle.au_types.proofs.SameLemmas.{place_is}
use Rattle.au_types.specs.Types.{Meaning, Argument, Arguments, unit, truth, integer, text, parameter, named}
use Rattle.au_types.specs.Types.{reads, writes, of_type, in_region, no_arguments, arguments}
use Rattle.au_types.specs.Universes.{universe_in}
use Rattle.au_matching.specs.Bindings.{Bindings, value_of}
use Rattle.au_matching.specs.Substituted.{substituted, type_for, EachNameOfAll, OfRegion}
use Rattle.au_matching.specs.Fitting.{stand_in, BindingsFit}
use Rattle.au_matching.proofs.SubstitutingUniverseLemmas.{universe_kept}
use Rattle.au_matching.specs.declared.universes.TypeUniverse.TheVariants.{Free, Linear}
use Rattle.au_matching.specs.Forming.{StandsOver, fits, fits_in_kind, is_formed, all_formed, takes, wants_region}
use Rattle.au_matching.specs.Universes.{of_parameter, universe_of}
use Rattle.au_matching.proofs.SubstitutingFormedLemmas.{takes_kept}
use Rattle.au_type_texts.specs.Closing.{closed}
use Rattle.au_type_texts.specs.Types.{ClosedType}
use Rattle.au_judged_types.specs.Bounds.{Bounded, classes_of, constrains, is_among, parameters}
use Rattle.au_instances.specs.ClosedInstances.{ClosedHolds, given, closed_row, closed_stands, closed_taken}
use Rattle.au_instances.specs.ClosedInstances.{closed_universe, has_instance, part_of}
use Rattle.au_instances.specs.Instances.{Holds, Known, is_known}
use Rattle.au_instances.specs.Laws.{ValuesMeet}
use Rattle.au_instances.specs.Pairs.{constraints_of}
use Rattle.au_instances.specs.Rows.{Row}
use Rattle.au_instances.specs.Tables.{IsTable}
use Rattle.au_instances.proofs.AfterClosingLemmas.{holds_closed}
use Rattle.au_instances.proofs.ClosedLemmas.{closed_row_gave, closed_row_there, opened, opened_closes, universe_closed}
use Rattle.au_instances.proofs.PairLemmas.{class_among, in_classes, listed_constrains}
use Rattle.au_instances.proofs.StandingLemmas.{arguments_stand, first_stands}
use Rattle.au_type_texts.specs.Given.{Closes, Given, closed_under, given_for}
use Rattle.au_type_texts.proofs.GivenLemmas.{closing_substituted}
use Rattle.au_closed_trees.specs.TypeNames.{is_region}
use Rattle.au_closing_laws.specs.Targets.{IsTypeOf}

-- ---- classes that constrain

-- a class that is known to constrain a name is listed so
pub known_listed : (known : Known) (name : Bytes) (class : DeclAt) → is_known known name class ≡ true →
    Contains known (name, class)
known_listed [] name class e = absurd cc
known_listed (one ∷ rest) name class e =
    by (known_listed rest name class)
    (or_cases (bytes_eq name one.0 && same_place class one.1) (is_known rest name class) e)
  where
    by : (is_known rest name class ≡ true → Contains rest (name, class))
        → ((bytes_eq name one.0 && same_place class one.1) ≡ true) ⊎ (is_known rest name class ≡ true)
        → Contains (one ∷ rest) (name, class)
    by later (inl here) =
        let both = and_parts (bytes_eq name one.0) (same_place class one.1) here in
        let named_so : one.0 ≡ name = sym ((bytes_eq-Decides name one.0).0 both.0) in
        let placed_so : one.1 ≡ class = sym (place_is class one.1 both.1) in
        subst (Contains (one ∷ rest)) (λ i. (named_so i, placed_so i)) (Contains-first one rest)
    by later (inr there) = Contains-rest one rest (name, class) (later there)

region_wanted : (universe : Universe) → is_region universe ≡ true → wants_region universe ≡ true
region_wanted universes.Free e = absurd cc
region_wanted universes.Linear e = absurd cc
region_wanted universes.AnyType e = absurd cc
region_wanted universes.Region e = refl

-- what has a universe as a type parameter isn't a region
pub type_universe : (universe : Universe) → is_some (of_parameter (Some universe)) ≡ true → is_region universe
    ≡ false
type_universe universes.Free e = refl
type_universe universes.Linear e = refl
type_universe universes.AnyType e = refl
type_universe universes.Region e = absurd cc

-- ---- what is given as a substitution

module _ (all : Given) where
  -- what stands for a type parameter
  abbrev stand_for : Universe → Bytes → Argument
  stand_for universe name = cond (is_region universe) (in_region Static) (of_type (opened (given_for all name)))

  abbrev bindings : List Parameter → Bindings
  bindings [] = []
  bindings (p ∷ params) = (p.name, stand_for p.universe p.name) ∷ bindings params

  -- for a name it is what stands for the first type parameter of this name
  value_found : (params : List Parameter) (name : Bytes) (universe : Universe) → universe_in params name ≡ Some universe
      → value_of name (bindings params) ≡ Some (stand_for universe name)
  value_found [] name universe e = absurd cc
  value_found (p ∷ params) name universe e = by (bytes_eq p.name name) refl (value_found params name universe) e
    where
      by : (b : Bool) → bytes_eq p.name name ≡ b
          → (universe_in params name ≡ Some universe → value_of name (bindings params) ≡ Some (stand_for universe name))
          → cond b (Some p.universe) (universe_in params name) ≡ Some universe
          → cond (bytes_eq name p.name) (Some (stand_for p.universe p.name)) (value_of name (bindings params))
          ≡ Some (stand_for universe name)
      by true is later e =
          let same : p.name ≡ name = (bytes_eq-Decides p.name name).0 is in
          let sort : p.universe ≡ universe = same_Some p.universe universe e in
          ap (λ b. cond b (Some (stand_for p.universe p.name)) (value_of name (bindings params)))
          ((bytes_eq-Decides name p.name).1 (sym same))
          ∙ (λ i. Some (stand_for (sort i) (same i)))
      by false is later e =
          ap (λ b. cond b (Some (stand_for p.universe p.name)) (value_of name (bindings params)))
          (bytes_differ p.name name is)
          ∙ later e

  -- a type that stands for a name is the one that is given for a type parameter
  abbrev Found : List Parameter → Bytes → Meaning → Type 0
  Found params name v = (universe : Universe) × IsTypeOf params name universe × (opened (given_for all name) ≡ v)

  type_found : (params : List Parameter) (name : Bytes) (v : Meaning) → value_of name (bindings params)
      ≡ Some (of_type v)
      → Found params name v
  type_found [] name v e = absurd cc
  type_found (p ∷ params) name v e = by (bytes_eq name p.name) refl (type_found params name v) e
    where
      here : (r : Bool) → is_region p.universe ≡ r → p.name ≡ name
          → Some (cond r (in_region Static) (of_type (opened (given_for all p.name)))) ≡ Some (of_type v)
          → Found (p ∷ params) name v
      here true is same e = absurd cc
      here false is same e =
          let value_is : opened (given_for all p.name) ≡ v = cc in
          let named_so = (bytes_eq-Decides p.name name).1 same in (
            p.universe,
            record {
              declared = ap (λ b. cond b (Some p.universe) (universe_in params name)) named_so;
              is_type = is;
            },
            ap (λ n. opened (given_for all n)) (sym same) ∙ value_is,
          )

      by : (b : Bool) → bytes_eq name p.name ≡ b
          → (value_of name (bindings params) ≡ Some (of_type v) → Found params name v)
          → cond b (Some (stand_for p.universe p.name)) (value_of name (bindings params)) ≡ Some (of_type v)
          → Found (p ∷ params) name v
      by true is later e = here (is_region p.universe) refl (sym ((bytes_eq-Decides name p.name).0 is)) e
      by false is later e =
          let found = later e in (
            found.0,
            record {
              declared =
                  ap (λ b. cond b (Some p.universe) (universe_in params name)) (bytes_differ name p.name is)
                  ∙ found.1.declared;
              is_type = found.1.is_type;
            },
            found.2,
          )

-- ---- a class that holds of a closed type is found to

module _ (rows : List Row) (heads : List (DeclAt × Head)) (table : IsTable rows) where
  holds_found : (class : DeclAt) (t : ClosedType) → ClosedHolds rows heads class t →
      has_instance rows heads t class ≡ true
  holds_found class t (given one u row instance) = ap is_some (closed_row_there rows heads table one u row instance)

  found_holds : (class : DeclAt) (t : ClosedType) → has_instance rows heads t class ≡ true →
      ClosedHolds rows heads class t
  found_holds class t e = by (closed_row rows heads t class) refl e
    where
      by : (o : Option Row) → closed_row rows heads t class ≡ o → is_some o ≡ true → ClosedHolds rows heads class t
      by None is e = absurd cc
      by (Some row) is e = given class t row (closed_row_gave rows heads table class t row is)

  -- ---- under what suits the type parameters in scope

  module _ (generics : List Bounded) (all : Given)
      (suits : (name : Bytes) (universe : Universe) → IsTypeOf (parameters generics) name universe
      → closed_stands heads generics (Some name) (part_of rows heads (given_for all name)) ≡ true) where
    abbrev scope : List Parameter
    scope = parameters generics

    abbrev s : Bindings
    s = bindings all scope

    both : (name : Bytes) (universe : Universe) → IsTypeOf scope name universe
        → (takes universe (closed_universe heads (given_for all name)) ≡ true)
        × (list_all (has_instance rows heads (given_for all name)) (unwrap_or (classes_of generics name) []) ≡ true)
    both name universe is =
        let t = given_for all name in
        let parts = and_parts (closed_taken heads (universe_in scope name) t)
        (list_all (has_instance rows heads t) (unwrap_or (classes_of generics name) [])) (suits name universe is) in
        (subst (λ o. closed_taken heads o t ≡ true) is.declared parts.0, parts.1)

    fit : BindingsFit heads scope [] s
    fit name universe e =
        subst (λ o. fits heads [] universe (stand_in o universe name) ≡ true)
        (sym (value_found all scope name universe e))
        (by (is_region universe) refl)
      where
        by : (r : Bool) → is_region universe ≡ r
            → fits heads [] universe (cond r (in_region Static) (of_type (opened (given_for all name)))) ≡ true
        by true is = region_wanted universe is
        by false is =
            ap (takes universe)
            (universe_closed heads [] (opened (given_for all name)) (given_for all name)
            (opened_closes (given_for all name)))
            ∙ (both name universe (record { declared = e; is_type = is })).0

    held : (name : Bytes) (wanted : DeclAt) (t : ClosedType) → constrains generics name wanted ≡ true
        → list_all (has_instance rows heads t) (unwrap_or (classes_of generics name) []) ≡ true
        → ClosedHolds rows heads wanted t
    held name wanted t c every = by (classes_of generics name) c every
      where
        by : (o : Option (List DeclAt)) → is_among wanted o ≡ true
            → list_all (has_instance rows heads t) (unwrap_or o []) ≡ true → ClosedHolds rows heads wanted t
        by None c every = absurd cc
        by (Some classes) c every =
            found_holds wanted t (each_passes (has_instance rows heads t) classes wanted
            (in_classes wanted classes c) every)

    meets : ValuesMeet rows heads (constraints_of generics) s
    meets name wanted value part known v closes =
        let found = type_found all scope name value v in
        let t = given_for all name in
        let is : t ≡ part = same_Some t part (sym (opened_closes t) ∙ ap closed found.2 ∙ closes) in
        let listed = known_listed (constraints_of generics) name wanted known in
        subst (ClosedHolds rows heads wanted) is
        (held name wanted t (listed_constrains generics name wanted listed) (both name found.0 found.1).1)

    any_region : (region : Region) → OfRegion (λ name. Unit {0}) region
    any_region Static = tt
    any_region (Named name) = tt
    any_region Anonymous = tt

    parameter_closes : (name : Bytes) (o : Option Universe) → universe_in scope name ≡ o →
        is_some (of_parameter o) ≡ true
        → closed (substituted s (parameter name)) ≡ Some (given_for all name)
    parameter_closes name None is h = absurd cc
    parameter_closes name (Some universe) is h =
        ap (λ o. closed (type_for o name))
        (value_found all scope name universe is
        ∙ ap (λ r. Some (cond r (in_region Static) (of_type (opened (given_for all name))))) (type_universe universe h))
        ∙ opened_closes (given_for all name)

    mutual
      unfolding is_formed

      each_closes : (t : Meaning) → StandsOver heads scope t → Closes all s t
      each_closes unit h = tt
      each_closes truth h = tt
      each_closes (integer kind) h = tt
      each_closes text h = tt
      each_closes (parameter name) h = parameter_closes name (universe_in scope name) refl h
      each_closes (named at args) h = all_close args (arguments_stand heads scope at args h)
      each_closes (reads to region) h = (each_closes to h, any_region region)
      each_closes (writes to region) h = (each_closes to h, any_region region)

      all_close : (args : Arguments) → all_formed fits_in_kind heads scope args ≡ true
          → EachNameOfAll (λ name. closed (substituted s (parameter name)) ≡ Some (given_for all name))
          (λ name. Unit {0}) args
      all_close no_arguments h = tt
      all_close (arguments (of_type t) rest) h =
          let stand = first_stands heads scope (of_type t) rest h in
          (each_closes t stand.0, all_close rest stand.1)
      all_close (arguments (in_region region) rest) h =
          let stand = first_stands heads scope (in_region region) rest h in
          (any_region region, all_close rest stand.1)

    closes : (t : Meaning) → StandsOver heads scope t → closed (substituted s t) ≡ Some (closed_under all t)
    closes t stands = closing_substituted all s t (each_closes t stands)

    -- what holds of a type holds of what it closes to
    pub holds_given : (class : DeclAt) (t : Meaning) → StandsOver heads scope t
        → Holds rows heads scope (constraints_of generics) class t
        → ClosedHolds rows heads class (closed_under all t)
    holds_given class t stands holds =
        holds_closed heads scope s fit rows (constraints_of generics) table meets class t holds
        (closed_under all t) stands
        (closes t stands)

    taken_given : (universe : Universe) (t : Meaning) → StandsOver heads scope t
        → takes universe (universe_of heads scope t) ≡ true
        → takes universe (closed_universe heads (closed_under all t)) ≡ true
    taken_given universe t stands taken =
        subst (λ u. takes universe u ≡ true)
        (universe_closed heads [] (substituted s t) (closed_under all t) (closes t stands))
        (takes_kept universe (universe_of heads scope t) (universe_of heads [] (substituted s t))
        (universe_kept heads scope [] s fit t stands) taken)

    -- what is one for a type parameter of others closes to what suits it
    pub suited : (others : List Bounded) (name : Bytes) (universe : Universe) (t : Meaning)
        → IsTypeOf (parameters others) name universe
        → StandsOver heads scope t
        → takes universe (universe_of heads scope t) ≡ true
        → ((class : DeclAt) → constrains others name class ≡ true →
        Holds rows heads scope (constraints_of generics) class t)
        → closed_stands heads others (Some name) (part_of rows heads (closed_under all t)) ≡ true
    suited others name universe t is stands taken holds =
        and_from (closed_taken heads (universe_in (parameters others) name) (closed_under all t))
        (list_all (has_instance rows heads (closed_under all t)) (unwrap_or (classes_of others name) []))
        (ap (λ o. closed_taken heads o (closed_under all t)) is.declared ∙ taken_given universe t stands taken)
        (every (classes_of others name) refl)
      where
        every : (o : Option (List DeclAt)) → classes_of others name ≡ o
            → list_all (has_instance rows heads (closed_under all t)) (unwrap_or o []) ≡ true
        every None e = refl
        every (Some classes) e =
            all_pass (has_instance rows heads (closed_under all t)) classes
            (λ class c.
            holds_found class (closed_under all t)
            (holds_given class t stands (holds class (ap (is_among class) e ∙ class_among class classes c))))
