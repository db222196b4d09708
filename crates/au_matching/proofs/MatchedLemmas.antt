-- The list that the walk over a pattern and a target gathers is the least one that makes them equal.
use Rattle.std.proofs.Common.{◌≡◌, ℕ, Bool, true, false, List, refl, sym, ap, subst, ◌∙◌}
use Rattle.std.specs.Prelude.{Option, Some, None, if◌then◌else◌}
use Rattle.std.proofs.lemmas.Option.{same_Some}
use Rattle.au_types.specs.declared.types.Region.{Region}
use Rattle.au_types.specs.declared.types.Region.TheVariants.{Static, Named, Anonymous}
use Rattle.au_types.specs.Same.{same, same_argument, same_region}
use Rattle.au_types.specs.Rows.{same_place}
use Rattle.au_types.specs.Types.{Meaning, Argument, Arguments, unit, truth, integer, text, parameter, named}
use Rattle.au_types.specs.Types.{reads, writes, of_type, in_region, no_arguments, arguments}
use Rattle.au_types.proofs.SameLemmas.{same_is, argument_is, place_is, place_self, region_is, same_self, argument_self}
use Rattle.au_matching.specs.Bindings.{Bindings, value_of, with_pair, Extends, GivesType, GivesRegion}
use Rattle.au_matching.specs.Substituted.{type_for, region_for, region_substituted, substituted}
use Rattle.au_matching.specs.Substituted.{argument_substituted, all_substituted, OfRegion, EachNameOf}
use Rattle.au_matching.specs.Substituted.{EachNameOfAll, Fixes}
use Rattle.au_matching.specs.Matched.{Makes, only_if, bound, region_matched, and_then, matched}
use Rattle.au_matching.specs.Matched.{argument_matched, all_matched}
use Rattle.au_matching.proofs.BindingLemmas.{value_of-with_same, extends_self, extends_on, extends_with, with_extends}
use Rattle.au_matching.proofs.SubstitutedLemmas.{fixes_on, fixed_stays, fixes_on_of, fixed_stays_of}

-- ---- steps that gave a list

only_if_gave : (test : Bool) (s q : Bindings) → only_if test s ≡ Some q → (test ≡ true) × (s ≡ q)
only_if_gave true s q e = (refl, same_Some s q e)
only_if_gave false s q e = absurd cc

if_gave : (test : Bool) (o : Option Bindings) (q : Bindings) → (if test then o else None) ≡ Some q →
    (test ≡ true) × (o ≡ Some q)
if_gave true o q e = (refl, e)
if_gave false o q e = absurd cc

pub and_then_gave : (o : Option Bindings) (step : Bindings → Option Bindings) (q : Bindings) →
    and_then o step ≡ Some q → (m : Bindings) × (o ≡ Some m) × (step m ≡ Some q)
and_then_gave None step q e = absurd cc
and_then_gave (Some m) step q e = (m, refl, e)

-- ---- what a walk gives goes on from what it began with, fixes each name and makes both equal

bound_sound : (name : List ℕ) (value : Argument) (s q : Bindings) → bound name value (value_of name s) s
    ≡ Some q → Extends s q × (value_of name q ≡ Some value)
bound_sound name value s q = by (value_of name s) refl
  where
    by : (o : Option Argument) → value_of name s ≡ o → bound name value o s ≡ Some q → Extends s q
        × (value_of name q ≡ Some value)
    by None e h =
        let is : with_pair name value s ≡ q = same_Some (with_pair name value s) q h in (
          subst (Extends s) is (extends_with name value s e),
          ap (value_of name) (sym is)
              ∙ value_of-with_same name value s,
        )
    by (Some known) e h =
        let g = only_if_gave (same_argument known value) s q h in (
          subst (Extends s) g.1 (extends_self s),
          ap (value_of name) (sym g.1) ∙ e
              ∙ ap Some (argument_is known value g.0),
        )

region_sound : (r t : Region) (s q : Bindings) → region_matched r t s ≡ Some q → Extends s q
    × OfRegion (GivesRegion q) r × (region_substituted q r ≡ t)
region_sound Static t s q h =
    let g = only_if_gave (same_region Static t) s q h in
    (subst (Extends s) g.1 (extends_self s), tt, region_is Static t g.0)
region_sound (Named name) t s q h =
    let b = bound_sound name (in_region t) s q h in
    (b.0, (t, b.1), ap (λ o. region_for o name) b.1)
region_sound Anonymous t s q h =
    let g = only_if_gave (same_region Anonymous t) s q h in
    (subst (Extends s) g.1 (extends_self s), tt, region_is Anonymous t g.0)

-- a test of two types, where the pattern has no names
test_sound : (p t : Meaning) (s q : Bindings) → only_if (same p t) s ≡ Some q → Extends s q × (p ≡ t)
test_sound p t s q h =
    let g = only_if_gave (same p t) s q h in
    (subst (Extends s) g.1 (extends_self s), same_is p t g.0)

mutual
  sound : (p t : Meaning) (s q : Bindings) → matched p t s ≡ Some q → Extends s q × Fixes q p × (substituted q p ≡ t)
  sound unit t s q h = let g = test_sound unit t s q h in (g.0, tt, g.1)
  sound truth t s q h = let g = test_sound truth t s q h in (g.0, tt, g.1)
  sound (integer kind) t s q h = let g = test_sound (integer kind) t s q h in (g.0, tt, g.1)
  sound text t s q h = let g = test_sound text t s q h in (g.0, tt, g.1)
  sound (parameter name) t s q h =
      let b = bound_sound name (of_type t) s q h in
      (b.0, (t, b.1), ap (λ o. type_for o name) b.1)
  sound (named a args) (named b others) s q h =
      let g = if_gave (same_place a b) (all_matched args others s) q h in
      let rest = all_sound args others s q g.1 in
      (rest.0, rest.1, λ i. named (place_is a b g.0 i) (rest.2 i))
  sound (reads p r) (reads t k) s q h =
      let g = and_then_gave (matched p t s) (region_matched r k) q h in
      let to = sound p t s g.0 g.1 in
      let region = region_sound r k g.0 q g.2 in (
        extends_on s g.0 q to.0 region.0,
        (fixes_on g.0 q region.0 p to.1, region.1),
        λ i. reads ((sym (fixed_stays g.0 q region.0 p to.1) ∙ to.2) i) (region.2 i),
      )
  sound (writes p r) (writes t k) s q h =
      let g = and_then_gave (matched p t s) (region_matched r k) q h in
      let to = sound p t s g.0 g.1 in
      let region = region_sound r k g.0 q g.2 in (
        extends_on s g.0 q to.0 region.0,
        (fixes_on g.0 q region.0 p to.1, region.1),
        λ i. writes ((sym (fixed_stays g.0 q region.0 p to.1) ∙ to.2) i) (region.2 i),
      )
  sound p t s q h = absurd cc

  argument_sound : (p t : Argument) (s q : Bindings) → argument_matched p t s ≡ Some q → Extends s q
      × EachNameOf (GivesType q) (GivesRegion q) p × (argument_substituted q p ≡ t)
  argument_sound (of_type p) (of_type t) s q h =
      let g = sound p t s q h in
      (g.0, g.1, ap of_type g.2)
  argument_sound (in_region r) (in_region k) s q h =
      let g = region_sound r k s q h in
      (g.0, g.1, ap in_region g.2)
  argument_sound p t s q h = absurd cc

  all_sound : (p t : Arguments) (s q : Bindings) → all_matched p t s ≡ Some q → Extends s q
      × EachNameOfAll (GivesType q) (GivesRegion q) p × (all_substituted q p ≡ t)
  all_sound no_arguments no_arguments s q h = (subst (Extends s) (same_Some s q h) (extends_self s), tt, refl)
  all_sound (arguments p args) (arguments t others) s q h =
      let g = and_then_gave (argument_matched p t s) (all_matched args others) q h in
      let one = argument_sound p t s g.0 g.1 in
      let rest = all_sound args others g.0 q g.2 in (
        extends_on s g.0 q one.0 rest.0,
        (fixes_on_of g.0 q rest.0 p one.1, rest.1),
        λ i. arguments ((sym (fixed_stays_of g.0 q rest.0 p one.1) ∙ one.2) i) (rest.2 i),
      )
  all_sound p t s q h = absurd cc

-- ---- where some list makes both equal, the walk gives one that this list goes on from

bound_found : (name : List ℕ) (value : Argument) (s r : Bindings) → Extends s r →
    value_of name r ≡ Some value → (q : Bindings) × (bound name value (value_of name s) s ≡ Some q)
    × Extends q r
bound_found name value s r goes_on known = by (value_of name s) refl
  where
    by : (o : Option Argument) → value_of name s ≡ o → (q : Bindings) × (bound name value o s ≡ Some q) × Extends q r
    by None e = (with_pair name value s, refl, with_extends name value s r goes_on known)
    by (Some old) e =
        let is : old ≡ value = same_Some old value (sym (goes_on name old e) ∙ known) in
        (s, ap (λ test. only_if test s) (subst (λ v. same_argument old v ≡ true) is (argument_self old)), goes_on)

region_found : (p : Region) (s r : Bindings) → Extends s r → OfRegion (GivesRegion r) p → (q : Bindings)
    × (region_matched p (region_substituted r p) s ≡ Some q) × Extends q r
region_found Static s r goes_on h = (s, refl, goes_on)
region_found (Named name) s r goes_on h =
    bound_found name (in_region (region_for (value_of name r) name)) s r goes_on
    (h.1 ∙ sym (ap (λ o. Some (in_region (region_for o name))) h.1))
region_found Anonymous s r goes_on h = (s, refl, goes_on)

mutual
  found : (p : Meaning) (s r : Bindings) → Extends s r → Fixes r p → (q : Bindings)
      × (matched p (substituted r p) s ≡ Some q) × Extends q r
  found unit s r goes_on h = (s, refl, goes_on)
  found truth s r goes_on h = (s, refl, goes_on)
  found (integer kind) s r goes_on h = (s, ap (λ test. only_if test s) (same_self (integer kind)), goes_on)
  found text s r goes_on h = (s, refl, goes_on)
  found (parameter name) s r goes_on h =
      bound_found name (of_type (type_for (value_of name r) name)) s r goes_on
      (h.1 ∙ sym (ap (λ o. Some (of_type (type_for o name))) h.1))
  found (named of args) s r goes_on h =
      let a = all_found args s r goes_on h in
      (a.0, ap (λ test. if test then all_matched args (all_substituted r args) s else None) (place_self of) ∙ a.1, a.2)
  found (reads p k) s r goes_on h =
      let a = found p s r goes_on h.0 in
      let b = region_found k a.0 r a.2 h.1 in
      (b.0, ap (λ o. and_then o (region_matched k (region_substituted r k))) a.1 ∙ b.1, b.2)
  found (writes p k) s r goes_on h =
      let a = found p s r goes_on h.0 in
      let b = region_found k a.0 r a.2 h.1 in
      (b.0, ap (λ o. and_then o (region_matched k (region_substituted r k))) a.1 ∙ b.1, b.2)

  argument_found : (p : Argument) (s r : Bindings) → Extends s r → EachNameOf (GivesType r) (GivesRegion r)
      p → (q : Bindings) × (argument_matched p (argument_substituted r p) s ≡ Some q) × Extends q r
  argument_found (of_type p) s r goes_on h = found p s r goes_on h
  argument_found (in_region k) s r goes_on h = region_found k s r goes_on h

  all_found : (p : Arguments) (s r : Bindings) → Extends s r → EachNameOfAll (GivesType r) (GivesRegion r) p →
      (q : Bindings) × (all_matched p (all_substituted r p) s ≡ Some q) × Extends q r
  all_found no_arguments s r goes_on h = (s, refl, goes_on)
  all_found (arguments p args) s r goes_on h =
      let a = argument_found p s r goes_on h.0 in
      let b = all_found args a.0 r a.2 h.1 in
      (b.0, ap (λ o. and_then o (all_matched args (all_substituted r args))) a.1 ∙ b.1, b.2)

-- ---- both ways

pub matched_makes : (p t : Meaning) (s q : Bindings) → matched p t s ≡ Some q → Makes s p t q
matched_makes p t s q h =
    let g = sound p t s q h in
    record { extends = g.0; fixes = g.1; equal = g.2 }

pub makes_found : (p t : Meaning) (s r : Bindings) → Makes s p t r → (q : Bindings) × (matched p t s ≡ Some q)
    × Extends q r
makes_found p t s r m = subst (λ u. (q : Bindings) × (matched p u s ≡ Some q) × Extends q r) m.equal
    (found p s r m.extends m.fixes)

pub matched_least : (p t : Meaning) (s q r : Bindings) → matched p t s ≡ Some q → Makes s p t r → Extends q r
matched_least p t s q r h m =
    let f = makes_found p t s r m in
    subst (λ u. Extends u r) (same_Some f.0 q (sym f.1 ∙ h)) f.2

pub matched_refused : (p t : Meaning) (s r : Bindings) → matched p t s ≡ None → ¬ (Makes s p t r)
matched_refused p t s r h m =
    let f = makes_found p t s r m in
    let both : ◌≡◌ {A = Option Bindings} None (Some f.0) = sym h ∙ f.1 in
    absurd cc
