-- Values that stand over type parameters, by matching and by substituting; and what a good call puts.
use Rattle.std.proofs.Common.{◌≡◌, ℕ, Bool, true, false, cond, true≢false, List, [], ◌∷◌}
use Rattle.std.proofs.Common.{length, map, Option, None, Some, refl, sym, ap, ◌∙◌, subst}
use Rattle.std.specs.Prelude.{find, is_some, option_and_then, unwrap_or, if◌then◌else◌, ◌==◌}
use Rattle.std.specs.Option.{option_map}
use Rattle.std.specs.Str.{bytes_eq}
use Rattle.std.proofs.lemmas.Bool.{and_from, and_parts}
use Rattle.std.proofs.lemmas.Option.{none-some, same_Some}
use Rattle.au_syntax.specs.declared.declarations.Universe.{Universe}
use Rattle.au_syntax.specs.Plain.{Bytes}
use Rattle.au_types.specs.declared.headings.Head.{Head}
use Rattle.au_types.specs.declared.parameters.Parameter.{Parameter}
use Rattle.au_types.specs.declared.types.DeclAt.{DeclAt}
use Rattle.au_types.specs.declared.types.Region.{Region}
use Rattle.au_types.specs.declared.types.Region.TheVariants.{Static, Named, Anonymous}
use Rattle.au_types.specs.Rows.{head_of, same_place}
use Rattle.au_types.specs.Same.{same, same_argument, same_region}
use Rattle.au_types.specs.Types.{Meaning, Argument, Arguments, unit, truth, integer, text, parameter, named}
use Rattle.au_types.specs.Types.{reads, writes, of_type, in_region, no_arguments, arguments}
use Rattle.au_types.specs.Universes.{universe_in}
use Rattle.au_matching.specs.Bindings.{Bindings, value_of, with_pair}
use Rattle.au_matching.specs.Fixed.{all_fixed, argument_fixed, fixed, is_a_type, region_fixed}
use Rattle.au_matching.specs.Matched.{all_matched, argument_matched, bound, matched, only_if, region_matched}
use Rattle.au_matching.specs.Substituted.{all_substituted, argument_substituted, substituted, type_for}
use Rattle.au_matching.proofs.BindingLemmas.{value_of-with}
use Rattle.au_matching.specs.Forming.{ArgumentStandsOver, StandsOver, all_fit, all_formed, argument_formed}
use Rattle.au_matching.specs.Forming.{fit_row, fits_in_kind, is_formed}
use Rattle.au_matching.specs.Universes.{of_parameter}
use Rattle.au_matching.proofs.SubstitutingFormedLemmas.{formed_kept, kind_kept}
use Rattle.au_matching.proofs.MatchedLemmas.{and_then_gave}
use Rattle.au_judged_types.specs.Bounds.{parameters}
use Rattle.au_typing.specs.Scopes.{Scope, Typed}
use Rattle.au_typing.specs.Calls.{FirstStep, GoodCall, Passes, SecondStep, Shown, Taken, TakenBare, begun}
use Rattle.au_typing.specs.Calls.{by_labels, each_is_named_once, first_unfixed, in_order, labelled_types}
use Rattle.au_typing.specs.Lookups.{type_of_name}
use Rattle.au_typing.specs.Notes.{Mode, Note}
use Rattle.au_typing.specs.Rules.{int32}
use Rattle.au_closing_laws.specs.Standing.{EachStand}
use Rattle.au_closing_laws.proofs.FitLemmas.{value_there}
use Rattle.au_closing_laws.proofs.ScopeLemmas.{type_universe}

module _ (heads : List (DeclAt × Head)) (params : List Parameter) where
  abbrev pub Stands : Meaning → Type 0
  Stands t = StandsOver heads params t

  -- each value of a list stands
  abbrev pub ValuesStand : Bindings → Type 0
  ValuesStand s = (name : List ℕ) (value : Argument) → value_of name s ≡ Some value →
      ArgumentStandsOver heads params value

  -- so does what is wanted, if anything is
  abbrev pub ModeStands : Mode → Type 0
  ModeStands None = Unit {0}
  ModeStands (Some t) = Stands t

  pub none_stand : ValuesStand []
  none_stand name value e = absurd (none-some value e)

  -- ---- matching

  only_same : (b : Bool) (s r : Bindings) → only_if b s ≡ Some r → ValuesStand s → ValuesStand r
  only_same true s r e values = subst ValuesStand (same_Some s r e) values
  only_same false s r e values = absurd (none-some r e)

  bound_stand : (name : List ℕ) (value : Argument) (o : Option Argument) (s r : Bindings) →
      bound name value o s ≡ Some r → ArgumentStandsOver heads params value → ValuesStand s → ValuesStand r
  bound_stand name value (Some known) s r e stands values = only_same (same_argument known value) s r e values
  bound_stand name value None s r e stands values = subst ValuesStand (same_Some (with_pair name value s) r e) with_it
    where
      by : (b : Bool) (other : List ℕ) (one : Argument) → cond b (Some value) (value_of other s) ≡ Some one →
          ArgumentStandsOver heads params one
      by true other one e = subst (ArgumentStandsOver heads params) (same_Some value one e) stands
      by false other one e = values other one e

      with_it : ValuesStand (with_pair name value s)
      with_it other one e = by (bytes_eq other name) other one (sym (value_of-with other name value s) ∙ e)

  region_stand : (p q : Region) (s r : Bindings) → region_matched p q s ≡ Some r → ValuesStand s → ValuesStand r
  region_stand Static q s r e values = only_same (same_region Static q) s r e values
  region_stand (Named name) q s r e values = bound_stand name (in_region q) (value_of name s) s r e tt values
  region_stand Anonymous q s r e values = only_same (same_region Anonymous q) s r e values

  if_some : (b : Bool) (o : Option Bindings) (r : Bindings) → (if b then o else None) ≡ Some r → o ≡ Some r
  if_some true o r e = e
  if_some false o r e = absurd (none-some r e)

  mutual
    unfolding is_formed argument_formed all_formed

    pub matched_stand : (p t : Meaning) (s r : Bindings) → matched p t s ≡ Some r → Stands t → ValuesStand s →
        ValuesStand r
    matched_stand unit t s r e stands values = only_same (same unit t) s r e values
    matched_stand truth t s r e stands values = only_same (same truth t) s r e values
    matched_stand (integer kind) t s r e stands values = only_same (same (integer kind) t) s r e values
    matched_stand text t s r e stands values = only_same (same text t) s r e values
    matched_stand (parameter name) t s r e stands values = bound_stand name (of_type t) (value_of name s) s r
        e stands values
    matched_stand (named a args) (named b others) s r e stands values =
        all_stand args others s r (if_some (same_place a b) (all_matched args others s) r e)
        (and_parts (fit_row fits_in_kind (head_of heads b) others)
        (all_formed fits_in_kind heads params others) stands).1 values
    matched_stand (named a args) unit s r e stands values = absurd (none-some r e)
    matched_stand (named a args) truth s r e stands values = absurd (none-some r e)
    matched_stand (named a args) (integer kind) s r e stands values = absurd (none-some r e)
    matched_stand (named a args) text s r e stands values = absurd (none-some r e)
    matched_stand (named a args) (parameter name) s r e stands values = absurd (none-some r e)
    matched_stand (named a args) (reads to region) s r e stands values = absurd (none-some r e)
    matched_stand (named a args) (writes to region) s r e stands values = absurd (none-some r e)
    matched_stand (reads p q) (reads t region) s r e stands values =
        let its = and_then_gave (matched p t s) (region_matched q region) r e in
        region_stand q region its.0 r its.2 (matched_stand p t s its.0 its.1 stands values)
    matched_stand (reads p q) unit s r e stands values = absurd (none-some r e)
    matched_stand (reads p q) truth s r e stands values = absurd (none-some r e)
    matched_stand (reads p q) (integer kind) s r e stands values = absurd (none-some r e)
    matched_stand (reads p q) text s r e stands values = absurd (none-some r e)
    matched_stand (reads p q) (parameter name) s r e stands values = absurd (none-some r e)
    matched_stand (reads p q) (named b others) s r e stands values = absurd (none-some r e)
    matched_stand (reads p q) (writes to region) s r e stands values = absurd (none-some r e)
    matched_stand (writes p q) (writes t region) s r e stands values =
        let its = and_then_gave (matched p t s) (region_matched q region) r e in
        region_stand q region its.0 r its.2 (matched_stand p t s its.0 its.1 stands values)
    matched_stand (writes p q) unit s r e stands values = absurd (none-some r e)
    matched_stand (writes p q) truth s r e stands values = absurd (none-some r e)
    matched_stand (writes p q) (integer kind) s r e stands values = absurd (none-some r e)
    matched_stand (writes p q) text s r e stands values = absurd (none-some r e)
    matched_stand (writes p q) (parameter name) s r e stands values = absurd (none-some r e)
    matched_stand (writes p q) (named b others) s r e stands values = absurd (none-some r e)
    matched_stand (writes p q) (reads to region) s r e stands values = absurd (none-some r e)

    argument_stand : (p t : Argument) (s r : Bindings) → argument_matched p t s ≡ Some r →
        argument_formed fits_in_kind heads params t ≡ true → ValuesStand s → ValuesStand r
    argument_stand (of_type p) (of_type t) s r e stands values = matched_stand p t s r e stands values
    argument_stand (in_region p) (in_region q) s r e stands values = region_stand p q s r e values
    argument_stand (of_type p) (in_region q) s r e stands values = absurd (none-some r e)
    argument_stand (in_region p) (of_type t) s r e stands values = absurd (none-some r e)

    all_stand : (p t : Arguments) (s r : Bindings) → all_matched p t s ≡ Some r →
        all_formed fits_in_kind heads params t ≡ true → ValuesStand s → ValuesStand r
    all_stand no_arguments no_arguments s r e stands values = subst ValuesStand (same_Some s r e) values
    all_stand (arguments p args) (arguments t others) s r e stands values =
        let its = and_then_gave (argument_matched p t s) (all_matched args others) r e in
        let parts = and_parts (argument_formed fits_in_kind heads params t)
        (all_formed fits_in_kind heads params others) stands in
        all_stand args others its.0 r its.2 parts.1 (argument_stand p t s its.0 its.1 parts.0 values)
    all_stand no_arguments (arguments t others) s r e stands values = absurd (none-some r e)
    all_stand (arguments p args) no_arguments s r e stands values = absurd (none-some r e)

  -- ---- substituting

  module _ (inner : List Parameter) (s : Bindings) (values : ValuesStand s) where
    fit_kept : (expected : List Parameter) (args : Arguments) → all_fit fits_in_kind expected args ≡ true →
        all_fit fits_in_kind expected (all_substituted s args) ≡ true
    fit_kept [] no_arguments fit = refl
    fit_kept [] (arguments first rest) fit = absurd cc
    fit_kept (one ∷ more) no_arguments fit = absurd cc
    fit_kept (one ∷ more) (arguments first rest) fit =
        let both = and_parts (fits_in_kind one.universe first) (all_fit fits_in_kind more rest) fit in
        and_from (fits_in_kind one.universe (argument_substituted s first))
        (all_fit fits_in_kind more (all_substituted s rest)) (kind_kept s one.universe first both.0)
        (fit_kept more rest both.1)

    row_kept : (row : Option Head) (args : Arguments) → fit_row fits_in_kind row args ≡ true →
        fit_row fits_in_kind row (all_substituted s args) ≡ true
    row_kept None args fit = absurd cc
    row_kept (Some head) args fit = fit_kept head.params args fit

    given_here : (name : List ℕ) (o : Option Argument) → value_of name s ≡ o → is_a_type o ≡ true →
        Stands (type_for o name)
    given_here name None is e = absurd cc
    given_here name (Some (of_type t)) is e = values name (of_type t) is
    given_here name (Some (in_region region)) is e = absurd cc

    mutual
      unfolding is_formed argument_formed all_formed

      -- a type of which all is fixed
      pub fixed_stand : (t : Meaning) → fixed s t ≡ true → StandsOver heads inner t → Stands (substituted s t)
      fixed_stand unit f stands = refl
      fixed_stand truth f stands = refl
      fixed_stand (integer kind) f stands = refl
      fixed_stand text f stands = refl
      fixed_stand (parameter name) f stands = given_here name (value_of name s) refl f
      fixed_stand (named at args) f stands =
          let parts = and_parts (fit_row fits_in_kind (head_of heads at) args)
          (all_formed fits_in_kind heads inner args) stands in
          and_from (fit_row fits_in_kind (head_of heads at) (all_substituted s args))
          (all_formed fits_in_kind heads params (all_substituted s args))
          (row_kept (head_of heads at) args parts.0) (fixed_all args f parts.1)
      fixed_stand (reads t region) f stands = fixed_stand t (and_parts (fixed s t) (region_fixed s region) f).0 stands
      fixed_stand (writes t region) f stands = fixed_stand t (and_parts (fixed s t) (region_fixed s region) f).0 stands

      fixed_one : (one : Argument) → argument_fixed s one ≡ true → argument_formed fits_in_kind heads inner
          one ≡ true → argument_formed fits_in_kind heads params (argument_substituted s one) ≡ true
      fixed_one (of_type t) f stands = fixed_stand t f stands
      fixed_one (in_region region) f stands = refl

      fixed_all : (args : Arguments) → all_fixed s args ≡ true → all_formed fits_in_kind heads inner args
          ≡ true → all_formed fits_in_kind heads params (all_substituted s args) ≡ true
      fixed_all no_arguments f stands = refl
      fixed_all (arguments one rest) f stands =
          let fs = and_parts (argument_fixed s one) (all_fixed s rest) f in
          let parts = and_parts (argument_formed fits_in_kind heads inner one)
          (all_formed fits_in_kind heads inner rest) stands in
          and_from (argument_formed fits_in_kind heads params (argument_substituted s one))
          (all_formed fits_in_kind heads params (all_substituted s rest)) (fixed_one one fs.0 parts.0)
          (fixed_all rest fs.1 parts.1)

    -- where each type parameter is given something
    pub given_stand : first_unfixed s inner ≡ None → (t : Meaning) → StandsOver heads inner t → Stands (substituted s t)
    given_stand none t stands =
        formed_kept fits_in_kind fits_in_kind heads inner params s
        (λ name some. by name (universe_in inner name) refl some)
        (λ wanted one formed fit. kind_kept s wanted one fit) t stands
      where
        by : (name : List ℕ) (o : Option Universe) → universe_in inner name ≡ o → is_some (of_parameter o)
            ≡ true → Stands (type_for (value_of name s) name)
        by name None is some = absurd cc
        by name (Some universe) is some =
            let gives = value_there s inner name universe none is (type_universe universe some) in
            subst (λ o. Stands (type_for o name)) (sym gives.1) (values name (of_type gives.0) gives.1)

  -- ---- the arguments of a call

  abbrev pub AllStand : List Meaning → Type 0
  AllStand [] = Unit {0}
  AllStand (t ∷ rest) = Stands t × AllStand rest

  -- the type of an argument stands where what is wanted of it does
  abbrev pub EachLasts : List Shown → Type 0
  EachLasts [] = Unit {0}
  EachLasts (a ∷ rest) = (ModeStands a.note.mode → Stands a.note.of) × EachLasts rest

  -- what is wanted of each argument stands, of those that are bare and of those that aren't
  abbrev pub EachMode : List Shown → Type 0
  EachMode [] = Unit {0}
  EachMode (a ∷ rest) = ModeStands a.note.mode × EachMode rest

  abbrev ModesOf : Bool → List Shown → Type 0
  ModesOf bare [] = Unit {0}
  ModesOf bare (a ∷ rest) = (a.bare ≡ bare → ModeStands a.note.mode) × ModesOf bare rest

  both_modes : (args : List Shown) → ModesOf false args → ModesOf true args → EachMode args
  both_modes [] first second = tt
  both_modes (a ∷ rest) first second = (by a.bare refl, both_modes rest first.1 second.1)
    where
      by : (b : Bool) → a.bare ≡ b → ModeStands a.note.mode
      by true is = second.0 is
      by false is = first.0 is

module _ (heads : List (DeclAt × Head)) (params inner : List Parameter) where
  abbrev Good : Bindings → Type 0
  Good s = ValuesStand heads params s

  taken : (b : Bool) (p : Meaning) (a : Note) (s r : Bindings) → fixed s p ≡ b → Taken b p a s r →
      StandsOver heads inner p → (ModeStands heads params a.mode → Stands heads params a.of) → Good s → Good r
      × ModeStands heads params a.mode
  taken true p a s r f step stands lasts values = (
    subst Good (sym step.1) values,
    subst (ModeStands heads params) (sym step.0)
        (fixed_stand heads params inner s values p f stands),
  )
  taken false p a s r f step stands lasts values =
      let mode = subst (ModeStands heads params) (sym step.0) tt in
      (matched_stand heads params p a.of s r step.1 (lasts mode) values, mode)

  int32_stands : StandsOver heads params int32
  unfolding is_formed
  int32_stands = refl

  bare_here : (p : Meaning) (a : Note) (s r : Bindings) → TakenBare false p a s r → Good s → Good r
      × ModeStands heads params a.mode
  bare_here (parameter name) a s r step values = (
    matched_stand heads params (parameter name) int32 s r step.1 int32_stands values,
    subst (ModeStands heads params) (sym step.0) tt,
  )
  bare_here unit a s r step values = absurd step
  bare_here truth a s r step values = absurd step
  bare_here (integer kind) a s r step values = absurd step
  bare_here text a s r step values = absurd step
  bare_here (named at args) a s r step values = absurd step
  bare_here (reads t region) a s r step values = absurd step
  bare_here (writes t region) a s r step values = absurd step

  taken_bare : (b : Bool) (p : Meaning) (a : Note) (s r : Bindings) → fixed s p ≡ b → TakenBare b p a s r →
      StandsOver heads inner p → Good s → Good r × ModeStands heads params a.mode
  taken_bare true p a s r f step stands values = (
    subst Good (sym step.1) values,
    subst (ModeStands heads params) (sym step.0)
        (fixed_stand heads params inner s values p f stands),
  )
  taken_bare false p a s r f step stands values = bare_here p a s r step values

  first_step : (b : Bool) (p : Meaning) (a : Note) (s r : Bindings) → FirstStep b p a s r →
      StandsOver heads inner p → (ModeStands heads params a.mode → Stands heads params a.of) → Good s
      → Good r × (b ≡ false → ModeStands heads params a.mode)
  first_step true p a s r step stands lasts values = (subst Good (sym step) values, λ e. absurd (true≢false e))
  first_step false p a s r step stands lasts values = let its = taken (fixed s p) p a s r refl step stands
      lasts values in (its.0, λ e. its.1)

  second_step : (b : Bool) (p : Meaning) (a : Note) (s r : Bindings) → SecondStep b p a s r →
      StandsOver heads inner p → Good s → Good r × (b ≡ true → ModeStands heads params a.mode)
  second_step false p a s r step stands values = (subst Good (sym step) values, λ e. absurd (true≢false (sym e)))
  second_step true p a s r step stands values = let its = taken_bare (fixed s p) p a s r refl step stands
      values in (its.0, λ e. its.1)

  first_pass : (ps : List Meaning) (args : List Shown) (s r : Bindings) → Passes FirstStep ps args s r →
      AllStand heads inner ps → EachLasts heads params args → Good s → Good r × ModesOf heads params false args
  first_pass [] [] s r passes stand lasts values = (subst Good (sym passes) values, tt)
  first_pass (p ∷ ps) (a ∷ args) s r passes stand lasts values =
      let one = first_step a.bare p a.note s passes.0 passes.1 stand.0 lasts.0 values in
      let rest = first_pass ps args passes.0 r passes.2 stand.1 lasts.1 one.0 in
      (rest.0, (one.1, rest.1))
  first_pass [] (a ∷ args) s r passes stand lasts values = absurd passes
  first_pass (p ∷ ps) [] s r passes stand lasts values = absurd passes

  second_pass : (ps : List Meaning) (args : List Shown) (s r : Bindings) → Passes SecondStep ps args s r →
      AllStand heads inner ps → Good s → Good r × ModesOf heads params true args
  second_pass [] [] s r passes stand values = (subst Good (sym passes) values, tt)
  second_pass (p ∷ ps) (a ∷ args) s r passes stand values =
      let one = second_step a.bare p a.note s passes.0 passes.1 stand.0 values in
      let rest = second_pass ps args passes.0 r passes.2 stand.1 one.0 in
      (rest.0, (one.1, rest.1))
  second_pass [] (a ∷ args) s r passes stand values = absurd passes
  second_pass (p ∷ ps) [] s r passes stand values = absurd passes

  begun_stand : (mode : Mode) (result : Meaning) (begins : Bindings) → begun mode result ≡ Some begins →
      ModeStands heads params mode → Good begins
  begun_stand None result begins e stands = subst Good (same_Some [] begins e) (none_stand heads params)
  begun_stand (Some wanted) result begins e stands = matched_stand heads params result wanted [] begins e
      stands (none_stand heads params)

-- ---- fields and parameters

module _ (heads : List (DeclAt × Head)) (params : List Parameter) where
  pub named_stand : (name : Bytes) (all : List Typed) (t : Meaning) → type_of_name name all ≡ Some t →
      EachStand heads params all → Stands heads params t
  named_stand name [] t e each = absurd (none-some t e)
  named_stand name (one ∷ rest) t e each = by (bytes_eq one.name name) e (λ later. named_stand name rest t later each.1)
    where
      by : (b : Bool) → option_map (λ (x : Typed). x.of)
          (cond b (Some one) (find (λ x. bytes_eq x.name name) rest)) ≡ Some t →
          (type_of_name name rest ≡ Some t → Stands heads params t) → Stands heads params t
      by true e later = subst (Stands heads params) (same_Some one.of t e) each.0
      by false e later = later e

  mapped_stand : (all : List Typed) → EachStand heads params all →
      AllStand heads params (map (λ (one : Typed). one.of) all)
  mapped_stand [] each = tt
  mapped_stand (one ∷ rest) each = (each.0, mapped_stand rest each.1)

  -- the types that arguments get from parameters
  abbrev pub TakesWell : (List Typed → Option (List Meaning)) → Type 0
  TakesWell takes = (all : List Typed) (types : List Meaning) → takes all ≡ Some types →
      EachStand heads params all → AllStand heads params types

  pub in_order_well : (number : ℕ) → TakesWell (in_order number)
  in_order_well number all types e each = by (length all == number) e
    where
      by : (b : Bool) → (if b then Some (map (λ (one : Typed). one.of) all) else None) ≡ Some types →
          AllStand heads params types
      by true e = subst (AllStand heads params) (same_Some (map (λ (one : Typed). one.of) all) types e)
          (mapped_stand all each)
      by false e = absurd (none-some types e)

  labelled_well : (labels : List Bytes) (all : List Typed) (types : List Meaning) → labelled_types labels all
      ≡ Some types → EachStand heads params all → AllStand heads params types
  labelled_well [] all types e each = subst (AllStand heads params) (same_Some [] types e) tt
  labelled_well (label ∷ labels) all types e each =
      by (type_of_name label all) refl (labelled_types labels all) refl e
      (λ rest is. labelled_well labels all rest is each)
    where
      by : (o : Option Meaning) → type_of_name label all ≡ o → (p : Option (List Meaning)) →
          labelled_types labels all ≡ p → option_and_then (λ t. option_map (λ rest. t ∷ rest) p) o ≡ Some types
          → ((rest : List Meaning) → labelled_types labels all ≡ Some rest → AllStand heads params rest) →
          AllStand heads params types
      by None is p its e later = absurd (none-some types e)
      by (Some t) is None its e later = absurd (none-some types e)
      by (Some t) is (Some rest) its e later =
          subst (AllStand heads params) (same_Some (t ∷ rest) types e) (named_stand label all t is each, later rest its)

  pub by_labels_well : (labels : List Bytes) → TakesWell (by_labels labels)
  by_labels_well labels all types e each = by (each_is_named_once labels all) e
    where
      by : (b : Bool) → (if b then labelled_types labels all else None) ≡ Some types → AllStand heads params types
      by true e = labelled_well labels all types e each
      by false e = absurd (none-some types e)

-- ---- the whole call

-- what a good call puts stands, and so do its type and what is wanted of its arguments
pub call_stands : (heads : List (DeclAt × Head)) (params : List Parameter) (scope : Scope) (note : Note)
    (name : Bytes) (takes : List Typed → Option (List Meaning)) (args : List Shown)
    → (good : GoodCall scope note name takes args)
    → ((inner : List Parameter) → TakesWell heads inner takes)
    → EachStand heads (parameters good.called.generics) good.called.parameters
    → StandsOver heads (parameters good.called.generics) good.called.result
    → ModeStands heads params note.mode → EachLasts heads params args
    → Stands heads params note.of × ValuesStand heads params (unwrap_or note.call []) × EachMode heads params args
call_stands heads params scope note name takes args good well given result mode lasts =
    let inner = parameters good.called.generics in
    let types = well inner good.called.parameters good.types good.one_each given in
    let first = first_pass heads params inner good.types args good.begins good.goes_on good.not_bare types
    lasts (begun_stand heads params inner note.mode good.called.result good.begins good.from_result mode) in
    let second = second_pass heads params inner good.types args good.goes_on good.ends good.bare types first.0 in (
      subst (Stands heads params) (sym (ap (λ (n : Note). n.of) good.is_noted))
          (given_stand heads params inner good.ends second.0 good.all_fixed good.called.result result),
      subst (ValuesStand heads params) (sym (ap (λ (n : Note). unwrap_or n.call []) good.is_noted)) second.0,
      both_modes heads params args first.1 second.1,
    )
