-- What stands for the type parameters of what is called.
use Rattle.std.proofs.Common.{◌≡◌, ◌⊎◌, inl, inr, ℕ, Bool, true, false, true≢false, cond, List, [], ◌∷◌, Option, None, Some, refl}
use Rattle.std.proofs.Common.{sym, ap, ◌∙◌, subst}
use Rattle.std.specs.Map.{lookup}
use Rattle.std.specs.Prelude.{IsTrue, if◌then◌else◌, is_some}
use Rattle.std.specs.Str.{bytes_eq}
use Rattle.std.specs.Option.{option_map}
use Rattle.std.proofs.lemmas.Option.{none-some, same_Some}
use Rattle.std.proofs.lemmas.Slice.Eq.{bytes_eq-Decides}
use Rattle.au_syntax.specs.declared.declarations.Universe.{Universe}
use Rattle.au_syntax.specs.declared.declarations.Universe.TheVariants as universes
use Rattle.au_syntax.specs.Plain.{Bytes}
use Rattle.au_types.specs.declared.headings.Head.{Head}
use Rattle.au_types.specs.declared.parameters.Parameter.{Parameter}
use Rattle.au_types.specs.declared.types.DeclAt.{DeclAt}
use Rattle.au_types.specs.declared.types.Region.{Region}
use Rattle.au_types.specs.declared.types.Region.TheVariants.{Static, Named, Anonymous}
use Rattle.au_types.specs.Types.{Meaning, Argument, Arguments, unit, truth, integer, text, parameter, named}
use Rattle.au_types.specs.Types.{reads, writes, of_type, in_region, no_arguments, arguments}
use Rattle.au_types.specs.Universes.{universe_in}
use Rattle.au_matching.specs.Bindings.{Bindings, value_of}
use Rattle.au_matching.specs.Fitting.{BindingsFit, stand_in}
use Rattle.au_matching.specs.Forming.{argument_formed, fits}
use Rattle.au_matching.specs.Substituted.{EachName, EachNameOfAll, OfRegion, region_for, substituted, type_for}
use Rattle.au_matching.specs.Universes.{of_parameter, universe_of}
use Rattle.au_matching.proofs.LawLemmas.{well_formed_stands}
use Rattle.au_matching.proofs.SubstitutingFormedLemmas.{takes_kept}
use Rattle.au_type_texts.specs.Closing.{closed}
use Rattle.au_type_texts.specs.Given.{Given, closed_or_unit, closed_under, given_by, given_for}
use Rattle.au_running_types.specs.Running.{all_running, argument_running, called, region_running, running}
use Rattle.au_running_types.proofs.NameLemmas.{callees_run}
use Rattle.au_running_types.proofs.UniverseLemmas.{formation_stays, universe_stays}
use Rattle.au_written_types.specs.Written.{IsRegionName, IsTypeName}
use Rattle.au_closed_trees.specs.TypeNames.{is_region, type_names}
use Rattle.au_running_lives.specs.Known.{InScope}
use Rattle.au_judged_bodies.specs.StandingTypesStanding.{StandsFor}
use Rattle.au_judged_bodies.proofs.StandingTypesStandLemmas.{known_closes}
use Rattle.au_judged_bodies.specs.Callees.{IsPut, RegionsStand}
use Rattle.au_judged_bodies.specs.Frames.{AreUsable, IsUsable, TypesAreUsable}

-- what a call gives for a type parameter that isn't a region
given_own : (given : Given) (put : Bindings) (inner : List Parameter) (name : List ℕ) (universe : Universe)
    → universe_in inner name ≡ Some universe → is_region universe ≡ false
    → given_for (given_by given put (type_names inner)) name ≡ closed_under given (substituted put (parameter name))
given_own given put [] name universe e sort = absurd (none-some universe e)
given_own given put (p ∷ ps) name universe e sort =
    by (is_region p.universe) refl (bytes_eq p.name name) refl e
    (λ more. given_own given put ps name universe more sort)
  where
    later_of : Given
    later_of = given_by given put (type_names ps)

    found : (b : Bool) → bytes_eq name p.name ≡ b → (p.name ≡ name)
        ⊎ (given_for later_of name ≡ closed_under given (substituted put (parameter name)))
        → closed_or_unit (cond b (Some (closed_under given (substituted put (parameter p.name))))
        (lookup (bytes_eq name) later_of)) ≡ closed_under given (substituted put (parameter name))
    found true is h =
        ap (λ n. closed_under given (substituted put (parameter n))) (sym ((bytes_eq-Decides name p.name).0 is))
    found false is (inl same) = absurd (true≢false (sym ((bytes_eq-Decides name p.name).1 (sym same)) ∙ is))
    found false is (inr later) = later

    by : (r : Bool) → is_region p.universe ≡ r → (b : Bool) → bytes_eq p.name name ≡ b
        → cond b (Some p.universe) (universe_in ps name) ≡ Some universe
        → (universe_in ps name ≡ Some universe
        → given_for later_of name ≡ closed_under given (substituted put (parameter name)))
        → given_for (given_by given put (if r then type_names ps else p.name ∷ type_names ps)) name
        ≡ closed_under given (substituted put (parameter name))
    by true region true same e later =
        absurd (true≢false (sym region ∙ ap is_region (same_Some p.universe universe e) ∙ sort))
    by true region false same e later = later e
    by false region true same e later =
        found (bytes_eq name p.name) refl (inl ((bytes_eq-Decides p.name name).0 same))
    by false region false same e later = found (bytes_eq name p.name) refl (inr (later e))

module _ (heads : List (DeclAt × Head)) (params : List Parameter) (regions : List Bytes) (given : Given) (s : Bindings)
    (z : ℕ) (inner : List Parameter) (put : Bindings) (stands : StandsFor heads params given s)
    (is : IsPut heads params regions inner put) where
  -- the value that is put for a name, where the caller runs
  running_value : (name : List ℕ) (value : Argument) → value_of name put ≡ Some value
      → value_of name (called s z put) ≡ Some (argument_running s z value)
  running_value name value e = callees_run s put z name ∙ ap (option_map (argument_running s z)) e

  type_put : (name : List ℕ) → IsTypeName inner name → (t : Meaning) × (value_of name put ≡ Some (of_type t))
  type_put name some = is.fixes (parameter name) (record { lasting = refl; names = some })

  region_put : (name : List ℕ) → universe_in inner name ≡ Some universes.Region
      → (r : Region) × (value_of name put ≡ Some (in_region r))
  region_put name there =
      (is.fixes (reads unit (Named name)) (record { lasting = refl; names = (tt, inr there) })).1

  -- ---- what is put is well formed where the caller runs

  abbrev Formed : Universe → Argument → Type 0
  Formed universe one = IsTrue (fits heads [] universe one) × IsTrue (argument_formed (fits heads []) heads [] one)

  fitting : BindingsFit heads params [] s
  fitting name universe e = (stands.formed name universe e).0

  argument_formed_so : (universe : Universe) (value : Argument) → fits heads params universe value ≡ true
      → argument_formed (fits heads params) heads params value ≡ true
      → Formed universe (argument_running s z value)
  unfolding argument_formed
  argument_formed_so universe (of_type t) fit formed = (
    takes_kept universe (universe_of heads params t) (universe_of heads [] (running s z t))
        (universe_stays heads params [] s z t fitting (well_formed_stands heads params t formed)) fit,
    formation_stays heads params [] s z t stands.formed formed,
  )
  argument_formed_so universe (in_region r) fit formed = (fit, refl)

  value_formed : (name : List ℕ) (universe : Universe) → universe_in inner name ≡ Some universe → (value : Argument)
      → value_of name put ≡ Some value → Formed universe (stand_in (value_of name (called s z put)) universe name)
  value_formed name universe there value e =
      let fit = subst (λ o. IsTrue (fits heads params universe (stand_in o universe name))
      × IsTrue (argument_formed (fits heads params) heads params (stand_in o universe name))) e
      (is.fit name universe there) in
      subst (λ o. Formed universe (stand_in o universe name)) (sym (running_value name value e))
      (argument_formed_so universe value fit.0 fit.1)

  name_formed : (name : List ℕ) (universe : Universe) → universe_in inner name ≡ Some universe
      → Formed universe (stand_in (value_of name (called s z put)) universe name)
  name_formed name universes.Free there =
      let its = type_put name (ap (λ o. is_some (of_parameter o)) there) in
      value_formed name universes.Free there (of_type its.0) its.1
  name_formed name universes.Linear there =
      let its = type_put name (ap (λ o. is_some (of_parameter o)) there) in
      value_formed name universes.Linear there (of_type its.0) its.1
  name_formed name universes.AnyType there =
      let its = type_put name (ap (λ o. is_some (of_parameter o)) there) in
      value_formed name universes.AnyType there (of_type its.0) its.1
  name_formed name universes.Region there =
      let its = region_put name there in
      value_formed name universes.Region there (in_region its.0) its.1

  -- ---- closed types

  listed_so : (name : List ℕ) → IsTypeName inner name
      → given_for (given_by given put (type_names inner)) name ≡ closed_under given (substituted put (parameter name))
  listed_so name some = by (universe_in inner name) refl some
    where
      by : (o : Option Universe) → universe_in inner name ≡ o → is_some (of_parameter o) ≡ true
          → given_for (given_by given put (type_names inner)) name
          ≡ closed_under given (substituted put (parameter name))
      by None there some = absurd (true≢false (sym some))
      by (Some universes.Free) there some =
          given_own given put inner name universes.Free there refl
      by (Some universes.Linear) there some =
          given_own given put inner name universes.Linear there refl
      by (Some universes.AnyType) there some =
          given_own given put inner name universes.AnyType there refl
      by (Some universes.Region) there some = absurd (true≢false (sym some))

  name_closes : (name : List ℕ) → IsTypeName inner name
      → closed (substituted (called s z put) (parameter name))
      ≡ Some (given_for (given_by given put (type_names inner)) name)
  name_closes name some =
      let its = type_put name some in
      ap (λ o. closed (type_for o name)) (running_value name (of_type its.0) its.1)
      ∙ known_closes heads params regions given s z its.0 stands (is.values name (of_type its.0) its.1)
      ∙ ap (λ o. Some (closed_under given (type_for o name))) (sym its.1)
      ∙ ap (λ c. Some c) (sym (listed_so name some))

  pub callee_stands : StandsFor heads inner (given_by given put (type_names inner)) (called s z put)
  callee_stands = record { formed = name_formed; closes = name_closes }

  -- ---- regions

  module _ (active : ℕ → Bool) (here : active z ≡ true)
      (open_regions : (name : List ℕ) → IsRegionName regions params name
      → InScope active (region_for (value_of name s) name)) where
    region_stands : (r : Region) → OfRegion (IsRegionName regions params) r → InScope active (region_running s z r)
    region_stands Static known = inl refl
    region_stands (Named name) known = open_regions name known
    region_stands Anonymous known = inr (z, refl, here)

    pub regions_stand : RegionsStand active inner (called s z put)
    regions_stand name there =
        let its = region_put name there in
        subst (λ o. InScope active (region_for o name)) (sym (running_value name (in_region its.0) its.1))
        (region_stands its.0 (is.values name (in_region its.0) its.1))

    -- ---- the regions in types

    abbrev Names : Meaning → Type 0
    Names t = EachName (IsTypeName params) (IsRegionName regions params) t

    module _ (within : TypesAreUsable active params s) where
      mutual
        pub type_usable : (t : Meaning) → Names t → IsUsable active (running s z t)
        type_usable unit known = tt
        type_usable truth known = tt
        type_usable (integer kind) known = tt
        type_usable text known = tt
        type_usable (parameter name) known = within name known
        type_usable (named of args) known = all_usable args known
        type_usable (reads to region) known = (type_usable to known.0, region_stands region known.1)
        type_usable (writes to region) known = (type_usable to known.0, region_stands region known.1)

        all_usable : (args : Arguments) → EachNameOfAll (IsTypeName params) (IsRegionName regions params) args
            → AreUsable active (all_running s z args)
        all_usable no_arguments known = tt
        all_usable (arguments (of_type t) rest) known = (type_usable t known.0, all_usable rest known.1)
        all_usable (arguments (in_region r) rest) known = (region_stands r known.0, all_usable rest known.1)

      pub types_usable : TypesAreUsable active inner (called s z put)
      types_usable name some =
          let its = type_put name some in
          subst (λ o. IsUsable active (type_for o name)) (sym (running_value name (of_type its.0) its.1))
          (type_usable its.0 (is.values name (of_type its.0) its.1).1)
