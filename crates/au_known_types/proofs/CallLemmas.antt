-- What a good call puts for the type parameters of what it calls.
use Rattle.std.proofs.Common.{◌≡◌, inl, inr, ℕ, Bool, true, false, cond, true≢false, List, [], ◌∷◌, length, map, find}
use Rattle.std.proofs.Common.{Option, None, Some, refl, sym, ap, ◌∙◌, subst}
use Rattle.std.specs.Prelude.{if◌then◌else◌, is_some, option_and_then, ◌==◌}
use Rattle.std.specs.Option.{option_map}
use Rattle.std.specs.Str.{bytes_eq}
use Rattle.std.proofs.lemmas.Option.{none-some, same_Some}
use Rattle.std.proofs.lemmas.Slice.Eq.{bytes_eq-Decides}
use Rattle.au_syntax.specs.declared.declarations.Universe.{Universe}
use Rattle.au_syntax.specs.declared.declarations.Universe.TheVariants as universes
use Rattle.au_syntax.specs.Plain.{Bytes}
use Rattle.au_types.specs.declared.headings.Head.{Head}
use Rattle.au_types.specs.declared.parameters.Parameter.{Parameter}
use Rattle.au_types.specs.declared.types.DeclAt.{DeclAt}
use Rattle.au_types.specs.Types.{Meaning, Argument, unit, truth, integer, text, parameter, named}
use Rattle.au_types.specs.Types.{reads, writes, of_type, in_region}
use Rattle.au_types.specs.Universes.{universe_in}
use Rattle.au_matching.specs.Bindings.{Bindings, Extends, GivesRegion, GivesType, value_of}
use Rattle.au_matching.specs.Fitting.{BindingsAreWellFormed, BindingsFit, stand_in}
use Rattle.au_matching.specs.Fixed.{fixed, is_a_region, is_a_type}
use Rattle.au_matching.specs.Forming.{argument_formed, fits}
use Rattle.au_matching.specs.Substituted.{Fixes, substituted}
use Rattle.au_matching.specs.Universes.{of_parameter}
use Rattle.au_matching.proofs.BindingLemmas.{extends_on, extends_self}
use Rattle.au_matching.proofs.FixedLemmas.{fixed_decides}
use Rattle.au_matching.proofs.MatchedLemmas.{matched_makes}
use Rattle.au_matching.proofs.SubstitutedLemmas.{each_so, fixed_stays}
use Rattle.au_judged_types.specs.Bounds.{parameters}
use Rattle.au_written_types.specs.Written.{IsRegionName, IsTypeName, IsWritten}
use Rattle.au_typing.specs.Calls.{FirstStep, GoodCall, Passes, SecondStep, Shown, Taken, TakenBare, begun}
use Rattle.au_typing.specs.Calls.{by_labels, each_is_named_once, first_misfit, first_unfixed, in_order, is_fixed}
use Rattle.au_typing.specs.Calls.{labelled_types, value_fits}
use Rattle.au_typing.specs.Lookups.{parameters_in, type_of_name}
use Rattle.au_typing.specs.Notes.{Mode, Note}
use Rattle.au_typing.specs.Rules.{int32}
use Rattle.au_typing.specs.Scopes.{Scope, Typed}
use Rattle.au_known_types.specs.Known.{EachIsDeclared, IsDeclared, IsKnownIn, ModeIsKnownIn}
use Rattle.au_known_types.specs.Laws.{CallIsKnown, ModesAreKnown}
use Rattle.au_known_types.proofs.KnownLemmas.{ArgumentKnown, RegionThere, TypeThere, ValuesKnown}
use Rattle.au_known_types.proofs.KnownLemmas.{integer_known, matched_known, none_known, under_known}

-- ---- each type parameter stands for something that fits

pub fixed_there : (s : Bindings) (ps : List Parameter) (name : List ℕ) (universe : Universe)
    → first_unfixed s ps ≡ None → universe_in ps name ≡ Some universe
    → is_fixed s (record { name = name; universe = universe }) ≡ true
fixed_there s [] name universe none e = absurd (none-some universe e)
fixed_there s (one ∷ rest) name universe none e =
    by (is_fixed s one) refl (bytes_eq one.name name) refl none e
    (λ others its. fixed_there s rest name universe others its)
  where
    by : (g : Bool) → is_fixed s one ≡ g → (b : Bool) → bytes_eq one.name name ≡ b →
        cond g (first_unfixed s rest) (Some one.name) ≡ None →
        cond b (Some one.universe) (universe_in rest name) ≡ Some universe
        → (first_unfixed s rest ≡ None → universe_in rest name ≡ Some universe
        → is_fixed s (record { name = name; universe = universe }) ≡ true)
        → is_fixed s (record { name = name; universe = universe }) ≡ true
    by false given b same none e later = absurd (none-some one.name (sym none))
    by true given true same none e later =
        subst (λ n. is_fixed s (record { name = n; universe = universe }) ≡ true)
        ((bytes_eq-Decides one.name name).0 same)
        (subst (λ u. is_fixed s (record { name = one.name; universe = u }) ≡ true)
        (same_Some one.universe universe e) given)
    by true given false same none e later = later none e

pub fit_there : (sc : Scope) (s : Bindings) (ps : List Parameter) (name : List ℕ) (universe : Universe)
    → first_misfit sc s ps ≡ None → universe_in ps name ≡ Some universe
    → value_fits sc universe (value_of name s) ≡ true
fit_there sc s [] name universe none e = absurd (none-some universe e)
fit_there sc s (one ∷ rest) name universe none e =
    by (value_fits sc one.universe (value_of one.name s)) refl (bytes_eq one.name name) refl none e
    (λ others its. fit_there sc s rest name universe others its)
  where
    by : (g : Bool) → value_fits sc one.universe (value_of one.name s) ≡ g → (b : Bool) →
        bytes_eq one.name name ≡ b → cond g (first_misfit sc s rest) (Some one) ≡ None →
        cond b (Some one.universe) (universe_in rest name) ≡ Some universe
        → (first_misfit sc s rest ≡ None → universe_in rest name ≡ Some universe →
        value_fits sc universe (value_of name s) ≡ true) → value_fits sc universe (value_of name s) ≡ true
    by false given b same none e later = absurd (none-some one (sym none))
    by true given true same none e later =
        subst (λ n. value_fits sc universe (value_of n s) ≡ true) ((bytes_eq-Decides one.name name).0 same)
        (subst (λ u. value_fits sc u (value_of one.name s) ≡ true) (same_Some one.universe universe e) given)
    by true given false same none e later = later none e

type_there : (s : Bindings) (name : List ℕ) (o : Option Argument) → value_of name s ≡ o → is_a_type o ≡ true
    → GivesType s name
type_there s name None is e = absurd (true≢false (sym e))
type_there s name (Some (of_type t)) is e = (t, is)
type_there s name (Some (in_region region)) is e = absurd (true≢false (sym e))

region_there : (s : Bindings) (name : List ℕ) (o : Option Argument) → value_of name s ≡ o → is_a_region o ≡ true
    → GivesRegion s name
region_there s name None is e = absurd (true≢false (sym e))
region_there s name (Some (of_type t)) is e = absurd (true≢false (sym e))
region_there s name (Some (in_region region)) is e = (region, is)

module _ (sc : Scope) (ps : List Parameter) (s : Bindings) (none : first_unfixed s ps ≡ None) where
  -- a list that leaves nothing unfixed fixes what is written over type parameters
  pub type_given : (name : List ℕ) → IsTypeName ps name → GivesType s name
  type_given name some = by (universe_in ps name) refl some
    where
      by : (o : Option Universe) → universe_in ps name ≡ o → is_some (of_parameter o) ≡ true → GivesType s name
      by None is some = absurd (true≢false (sym some))
      by (Some universes.Free) is some =
          type_there s name (value_of name s) refl (fixed_there s ps name universes.Free none is)
      by (Some universes.Linear) is some =
          type_there s name (value_of name s) refl (fixed_there s ps name universes.Linear none is)
      by (Some universes.AnyType) is some =
          type_there s name (value_of name s) refl (fixed_there s ps name universes.AnyType none is)
      by (Some universes.Region) is some = absurd (true≢false (sym some))

  pub region_given : (name : List ℕ) → IsRegionName [] ps name → GivesRegion s name
  region_given name (inl e) = absurd (true≢false (sym e))
  region_given name (inr e) =
      region_there s name (value_of name s) refl (fixed_there s ps name universes.Region none e)

  pub all_fixed : (t : Meaning) → IsWritten [] ps t → Fixes s t
  all_fixed t is =
      each_so (IsTypeName ps) (GivesType s) (IsRegionName [] ps) (GivesRegion s) type_given region_given t is.names

  module _ (fit : first_misfit sc s ps ≡ None) where
    abbrev heads : List (DeclAt × Head)
    heads = sc.outside.heads

    abbrev params : List Parameter
    params = parameters_in sc

    something : (name : List ℕ) (universe : Universe) → universe_in ps name ≡ Some universe
        → (value : Argument) × (value_of name s ≡ Some value)
    something name universes.Free e =
        let its = type_there s name (value_of name s) refl (fixed_there s ps name universes.Free none e) in
        (of_type its.0, its.1)
    something name universes.Linear e =
        let its = type_there s name (value_of name s) refl (fixed_there s ps name universes.Linear none e) in
        (of_type its.0, its.1)
    something name universes.AnyType e =
        let its = type_there s name (value_of name s) refl (fixed_there s ps name universes.AnyType none e) in
        (of_type its.0, its.1)
    something name universes.Region e =
        let its = region_there s name (value_of name s) refl (fixed_there s ps name universes.Region none e) in
        (in_region its.0, its.1)

    pub bindings_fit : BindingsFit heads ps params s
    bindings_fit name universe e =
        let its = something name universe e in
        let fitting : fits heads params universe its.0 ≡ true =
        sym (ap (value_fits sc universe) its.1) ∙ fit_there sc s ps name universe fit e in
        ap (λ o. fits heads params universe (stand_in o universe name)) its.1 ∙ fitting

    argument_is_formed : (value : Argument) → ArgumentKnown heads params sc.regions value
        → argument_formed (fits heads params) heads params value ≡ true
    unfolding argument_formed
    argument_is_formed (of_type t) known = known.0
    argument_is_formed (in_region region) known = refl

    pub bindings_well : ValuesKnown heads params sc.regions s → BindingsAreWellFormed heads ps params s
    bindings_well values name universe e =
        let its = something name universe e in (
          bindings_fit name universe e,
          ap (λ o. argument_formed (fits heads params) heads params (stand_in o universe name)) its.1
              ∙ argument_is_formed its.0 (values name its.0 its.1),
        )

-- ---- the arguments of a call

module _ (sc : Scope) where
  -- the type of an argument is known where what is wanted of it is
  abbrev pub EachLasts : List Shown → Type 0
  EachLasts [] = Unit {0}
  EachLasts (a ∷ rest) = (ModeIsKnownIn sc a.note.mode → IsKnownIn sc a.note.of) × EachLasts rest

  abbrev pub AllDeclared : List Parameter → List Meaning → Type 0
  AllDeclared ps [] = Unit {0}
  AllDeclared ps (t ∷ rest) = IsDeclared sc.outside.heads ps t × AllDeclared ps rest

  -- what is wanted of those arguments that are bare, or of the others
  abbrev ModesOf : Bool → List Shown → Type 0
  ModesOf bare [] = Unit {0}
  ModesOf bare (a ∷ rest) = (a.bare ≡ bare → ModeIsKnownIn sc a.note.mode) × ModesOf bare rest

  both_modes : (args : List Shown) → ModesOf false args → ModesOf true args → ModesAreKnown sc args
  both_modes [] first second = tt
  both_modes (a ∷ rest) first second = (by a.bare refl, both_modes rest first.1 second.1)
    where
      by : (b : Bool) → a.bare ≡ b → ModeIsKnownIn sc a.note.mode
      by true is = second.0 is
      by false is = first.0 is

  -- ---- each step goes on

  taken_on : (b : Bool) (p : Meaning) (a : Note) (s r : Bindings) → Taken b p a s r → Extends s r
  taken_on true p a s r step = subst (Extends s) (sym step.1) (extends_self s)
  taken_on false p a s r step = (matched_makes p a.of s r step.1).extends

  bare_on : (p : Meaning) (a : Note) (s r : Bindings) → TakenBare false p a s r → Extends s r
  bare_on (parameter name) a s r step = (matched_makes (parameter name) int32 s r step.1).extends
  bare_on unit a s r step = absurd step
  bare_on truth a s r step = absurd step
  bare_on (integer kind) a s r step = absurd step
  bare_on text a s r step = absurd step
  bare_on (named at args) a s r step = absurd step
  bare_on (reads t region) a s r step = absurd step
  bare_on (writes t region) a s r step = absurd step

  taken_bare_on : (b : Bool) (p : Meaning) (a : Note) (s r : Bindings) → TakenBare b p a s r → Extends s r
  taken_bare_on true p a s r step = subst (Extends s) (sym step.1) (extends_self s)
  taken_bare_on false p a s r step = bare_on p a s r step

  first_on : (b : Bool) (p : Meaning) (a : Note) (s r : Bindings) → FirstStep b p a s r → Extends s r
  first_on true p a s r step = subst (Extends s) (sym step) (extends_self s)
  first_on false p a s r step = taken_on (fixed s p) p a s r step

  second_on : (b : Bool) (p : Meaning) (a : Note) (s r : Bindings) → SecondStep b p a s r → Extends s r
  second_on false p a s r step = subst (Extends s) (sym step) (extends_self s)
  second_on true p a s r step = taken_bare_on (fixed s p) p a s r step

  pass_on : (step : Bool → Meaning → Note → Bindings → Bindings → Type 0)
      → ((b : Bool) (p : Meaning) (a : Note) (s r : Bindings) → step b p a s r → Extends s r)
      → (ps : List Meaning) (args : List Shown) (s r : Bindings) → Passes step ps args s r → Extends s r
  pass_on step on [] [] s r passes = subst (Extends s) (sym passes) (extends_self s)
  pass_on step on (p ∷ ps) (a ∷ args) s r passes =
      extends_on s passes.0 r (on a.bare p a.note s passes.0 passes.1)
      (pass_on step on ps args passes.0 r passes.2)
  pass_on step on [] (a ∷ args) s r passes = absurd passes
  pass_on step on (p ∷ ps) [] s r passes = absurd passes

  -- ---- what is put is known

  module _ (inner : List Parameter) (ends : Bindings) (none : first_unfixed ends inner ≡ None)
      (fit : first_misfit sc ends inner ≡ None) where
    abbrev Good : Bindings → Type 0
    Good s = ValuesKnown sc.outside.heads (parameters_in sc) sc.regions s

    -- a type of which a list fixes all is known under it
    put_known : (s : Bindings) (p : Meaning) → Extends s ends → Good s → Fixes s p
        → IsDeclared sc.outside.heads inner p → IsKnownIn sc (substituted s p)
    put_known s p on values fixes declared =
        subst (IsKnownIn sc) (sym (fixed_stays s ends on p fixes))
        (under_known sc.outside.heads (parameters_in sc) sc.regions inner ends
        (bindings_fit sc inner ends none fit) p declared.0
        (each_so (GivesType s)
        (TypeThere sc.outside.heads (parameters_in sc) sc.regions inner ends
        (bindings_fit sc inner ends none fit)) (GivesRegion s)
        (RegionThere sc.outside.heads (parameters_in sc) sc.regions inner ends
        (bindings_fit sc inner ends none fit))
        (λ name gives. (gives.0, on name (of_type gives.0) gives.1, values name (of_type gives.0) gives.1))
        (λ name gives. (gives.0, on name (in_region gives.0) gives.1, values name (in_region gives.0) gives.1))
        p fixes))

    wanted_known : (s : Bindings) (p : Meaning) (mode : Mode) → Extends s ends → Good s → fixed s p ≡ true
        → IsDeclared sc.outside.heads inner p → mode ≡ Some (substituted s p) → ModeIsKnownIn sc mode
    wanted_known s p mode on values f declared is =
        subst (ModeIsKnownIn sc) (sym is) (put_known s p on values ((fixed_decides s p).0 f) declared)

    taken : (b : Bool) (p : Meaning) (a : Note) (s r : Bindings) → fixed s p ≡ b → Taken b p a s r
        → Extends s ends → IsDeclared sc.outside.heads inner p
        → (ModeIsKnownIn sc a.mode → IsKnownIn sc a.of) → Good s → Good r × ModeIsKnownIn sc a.mode
    taken true p a s r f step on declared lasts values = (
      subst Good (sym step.1) values,
      wanted_known s p a.mode on values f declared step.0,
    )
    taken false p a s r f step on declared lasts values =
        let mode = subst (ModeIsKnownIn sc) (sym step.0) tt in (
          matched_known sc.outside.heads (parameters_in sc) sc.regions p a.of s r step.1 (lasts mode) values,
          mode,
        )

    bare_here : (p : Meaning) (a : Note) (s r : Bindings) → TakenBare false p a s r → Good s
        → Good r × ModeIsKnownIn sc a.mode
    bare_here (parameter name) a s r step values = (
      matched_known sc.outside.heads (parameters_in sc) sc.regions (parameter name) int32 s r step.1
          (integer_known sc.outside.heads (parameters_in sc) sc.regions _) values,
      subst (ModeIsKnownIn sc) (sym step.0) tt,
    )
    bare_here unit a s r step values = absurd step
    bare_here truth a s r step values = absurd step
    bare_here (integer kind) a s r step values = absurd step
    bare_here text a s r step values = absurd step
    bare_here (named at args) a s r step values = absurd step
    bare_here (reads t region) a s r step values = absurd step
    bare_here (writes t region) a s r step values = absurd step

    taken_bare : (b : Bool) (p : Meaning) (a : Note) (s r : Bindings) → fixed s p ≡ b → TakenBare b p a s r
        → Extends s ends → IsDeclared sc.outside.heads inner p → Good s → Good r × ModeIsKnownIn sc a.mode
    taken_bare true p a s r f step on declared values = (
      subst Good (sym step.1) values,
      wanted_known s p a.mode on values f declared step.0,
    )
    taken_bare false p a s r f step on declared values = bare_here p a s r step values

    first_step : (b : Bool) (p : Meaning) (a : Note) (s r : Bindings) → FirstStep b p a s r → Extends s ends
        → IsDeclared sc.outside.heads inner p → (ModeIsKnownIn sc a.mode → IsKnownIn sc a.of) → Good s
        → Good r × (b ≡ false → ModeIsKnownIn sc a.mode)
    first_step true p a s r step on declared lasts values =
        (subst Good (sym step) values, λ e. absurd (true≢false e))
    first_step false p a s r step on declared lasts values =
        let its = taken (fixed s p) p a s r refl step on declared lasts values in (its.0, λ e. its.1)

    second_step : (b : Bool) (p : Meaning) (a : Note) (s r : Bindings) → SecondStep b p a s r → Extends s ends
        → IsDeclared sc.outside.heads inner p → Good s → Good r × (b ≡ true → ModeIsKnownIn sc a.mode)
    second_step false p a s r step on declared values =
        (subst Good (sym step) values, λ e. absurd (true≢false (sym e)))
    second_step true p a s r step on declared values =
        let its = taken_bare (fixed s p) p a s r refl step on declared values in (its.0, λ e. its.1)

    first_pass : (ps : List Meaning) (args : List Shown) (s r : Bindings) → Passes FirstStep ps args s r
        → Extends r ends → AllDeclared inner ps → EachLasts args → Good s → Good r × ModesOf false args
    first_pass [] [] s r passes on declared lasts values = (subst Good (sym passes) values, tt)
    first_pass (p ∷ ps) (a ∷ args) s r passes on declared lasts values =
        let further = extends_on passes.0 r ends (pass_on FirstStep first_on ps args passes.0 r passes.2) on in
        let here = extends_on s passes.0 ends (first_on a.bare p a.note s passes.0 passes.1) further in
        let one = first_step a.bare p a.note s passes.0 passes.1 here declared.0 lasts.0 values in
        let rest = first_pass ps args passes.0 r passes.2 on declared.1 lasts.1 one.0 in
        (rest.0, (one.1, rest.1))
    first_pass [] (a ∷ args) s r passes on declared lasts values = absurd passes
    first_pass (p ∷ ps) [] s r passes on declared lasts values = absurd passes

    second_pass : (ps : List Meaning) (args : List Shown) (s r : Bindings) → Passes SecondStep ps args s r
        → Extends r ends → AllDeclared inner ps → Good s → Good r × ModesOf true args
    second_pass [] [] s r passes on declared values = (subst Good (sym passes) values, tt)
    second_pass (p ∷ ps) (a ∷ args) s r passes on declared values =
        let further = extends_on passes.0 r ends (pass_on SecondStep second_on ps args passes.0 r passes.2) on in
        let here = extends_on s passes.0 ends (second_on a.bare p a.note s passes.0 passes.1) further in
        let one = second_step a.bare p a.note s passes.0 passes.1 here declared.0 values in
        let rest = second_pass ps args passes.0 r passes.2 on declared.1 one.0 in
        (rest.0, (one.1, rest.1))
    second_pass [] (a ∷ args) s r passes on declared values = absurd passes
    second_pass (p ∷ ps) [] s r passes on declared values = absurd passes

    begun_known : (mode : Mode) (result : Meaning) (begins : Bindings) → begun mode result ≡ Some begins
        → ModeIsKnownIn sc mode → Good begins
    begun_known None result begins e known =
        subst Good (same_Some [] begins e) (none_known sc.outside.heads (parameters_in sc) sc.regions)
    begun_known (Some wanted) result begins e known =
        matched_known sc.outside.heads (parameters_in sc) sc.regions result wanted [] begins e known
        (none_known sc.outside.heads (parameters_in sc) sc.regions)

  -- ---- fields and parameters

  module _ (ps : List Parameter) where
    named_declared : (name : Bytes) (all : List Typed) (t : Meaning) → type_of_name name all ≡ Some t
        → EachIsDeclared sc.outside.heads ps all → IsDeclared sc.outside.heads ps t
    named_declared name [] t e each = absurd (none-some t e)
    named_declared name (one ∷ rest) t e each =
        by (bytes_eq one.name name) e (λ later. named_declared name rest t later each.1)
      where
        by : (b : Bool) → option_map (λ (x : Typed). x.of)
            (cond b (Some one) (find (λ x. bytes_eq x.name name) rest)) ≡ Some t →
            (type_of_name name rest ≡ Some t → IsDeclared sc.outside.heads ps t) → IsDeclared sc.outside.heads ps t
        by true e later = subst (IsDeclared sc.outside.heads ps) (same_Some one.of t e) each.0
        by false e later = later e

    mapped_declared : (all : List Typed) → EachIsDeclared sc.outside.heads ps all
        → AllDeclared ps (map (λ (one : Typed). one.of) all)
    mapped_declared [] each = tt
    mapped_declared (one ∷ rest) each = (each.0, mapped_declared rest each.1)

    -- the types that arguments get from parameters
    abbrev pub TakesWell : (List Typed → Option (List Meaning)) → Type 0
    TakesWell takes = (all : List Typed) (types : List Meaning) → takes all ≡ Some types
        → EachIsDeclared sc.outside.heads ps all → AllDeclared ps types

    pub in_order_well : (number : ℕ) → TakesWell (in_order number)
    in_order_well number all types e each = by (length all == number) e
      where
        by : (b : Bool) → (if b then Some (map (λ (one : Typed). one.of) all) else None) ≡ Some types
            → AllDeclared ps types
        by true e =
            subst (AllDeclared ps) (same_Some (map (λ (one : Typed). one.of) all) types e) (mapped_declared all each)
        by false e = absurd (none-some types e)

    labelled_well : (labels : List Bytes) (all : List Typed) (types : List Meaning) → labelled_types labels all
        ≡ Some types → EachIsDeclared sc.outside.heads ps all → AllDeclared ps types
    labelled_well [] all types e each = subst (AllDeclared ps) (same_Some [] types e) tt
    labelled_well (label ∷ labels) all types e each =
        by (type_of_name label all) refl (labelled_types labels all) refl e
        (λ rest is. labelled_well labels all rest is each)
      where
        by : (o : Option Meaning) → type_of_name label all ≡ o → (p : Option (List Meaning)) →
            labelled_types labels all ≡ p → option_and_then (λ t. option_map (λ rest. t ∷ rest) p) o ≡ Some types
            → ((rest : List Meaning) → labelled_types labels all ≡ Some rest → AllDeclared ps rest)
            → AllDeclared ps types
        by None is p its e later = absurd (none-some types e)
        by (Some t) is None its e later = absurd (none-some types e)
        by (Some t) is (Some rest) its e later =
            subst (AllDeclared ps) (same_Some (t ∷ rest) types e) (named_declared label all t is each, later rest its)

    pub by_labels_well : (labels : List Bytes) → TakesWell (by_labels labels)
    by_labels_well labels all types e each = by (each_is_named_once labels all) e
      where
        by : (b : Bool) → (if b then labelled_types labels all else None) ≡ Some types → AllDeclared ps types
        by true e = labelled_well labels all types e each
        by false e = absurd (none-some types e)

  -- ---- the whole call

  module _ (note : Note) (name : Bytes) (takes : List Typed → Option (List Meaning)) (args : List Shown)
      (good : GoodCall sc note name takes args) where
    abbrev inner : List Parameter
    inner = parameters good.called.generics

    pub call_known : TakesWell inner takes → EachIsDeclared sc.outside.heads inner good.called.parameters
        → ModeIsKnownIn sc note.mode → EachLasts args → CallIsKnown sc note name takes args good
    call_known well given mode lasts =
        let types = well good.called.parameters good.types good.one_each given in
        let onward = pass_on SecondStep second_on good.types args good.goes_on good.ends good.bare in
        let first = first_pass inner good.ends good.all_fixed good.all_fit good.types args good.begins good.goes_on
        good.not_bare onward types lasts
        (begun_known inner good.ends good.all_fixed good.all_fit note.mode good.called.result good.begins
        good.from_result mode) in
        let second = second_pass inner good.ends good.all_fixed good.all_fit good.types args good.goes_on good.ends
        good.bare (extends_self good.ends) types first.0 in
        record {
          values = second.0;
          fit = bindings_well sc inner good.ends good.all_fixed good.all_fit second.0;
          fixes = all_fixed sc inner good.ends good.all_fixed;
          modes = both_modes args first.1 second.1;
        }

    -- the type of a call
    pub result_known : CallIsKnown sc note name takes args good → IsDeclared sc.outside.heads inner good.called.result
        → IsKnownIn sc note.of
    result_known known declared =
        subst (IsKnownIn sc) (sym (ap (λ (n : Note). n.of) good.is_noted))
        (put_known inner good.ends good.all_fixed good.all_fit good.ends good.called.result (extends_self good.ends)
        known.values (known.fixes good.called.result declared.1) declared)
