-- What type parameters mean, by their names and by what is wrong with them.
use Rattle.std.proofs.Common.{◌≡◌, ℕ, ◌+◌, ◌<◌, length, drop, get_or, List, [], ◌∷◌, map, ◌++◌, Bool, true}
use Rattle.std.proofs.Common.{false, Option, None, Some, is_some, if◌then◌else◌, refl, ap, sym, ◌∙◌}
use Rattle.std.proofs.lemmas.List.{at_drop_more}
use Rattle.std.specs.Option.{option_or, option_to_list}
use Rattle.au_base.proofs.OptionLemmas.{or_both}
use Rattle.au_syntax.specs.Modules.{Constrained}
use Rattle.au_syntax.specs.Names.{Placed}
use Rattle.au_syntax.specs.Plain.{Bytes}
use Rattle.au_types.specs.declared.headings.Head.{Head}
use Rattle.au_types.specs.declared.parameters.Parameter.{Parameter}
use Rattle.au_types.specs.declared.types.DeclAt.{DeclAt}
use Rattle.au_judged_types.specs.declared.reading.Meant.TheVariants.{Are, Fails}
use Rattle.au_judged_types.specs.declared.reading.Misfit.{Misfit}
use Rattle.au_judged_types.specs.Bounds.{Bounded, bounded, parameters}
use Rattle.au_judged_types.specs.declared.reading.Misfit.TheVariants.{NoClass, OfRegion}
use Rattle.au_judged_types.specs.Meanings.{parameter, written_params, class_meant, is_constrained_region}
use Rattle.au_judged_types.specs.Meanings.{name_misfit, no_class, misfit_of, first_misfit, classes_meant}
use Rattle.au_judged_types.specs.Meanings.{constraints, named_classes, with_classes, judged, generics_meant}
use Rattle.au_judged_types.proofs.BoundLemmas.{of_each}

-- what is found first in a list is what is found at an item, or else behind it
pub found_from : {A : Type 0} (first : List A → Option Misfit) (look : A → Option Misfit) →
    ((x : A) (rest : List A) → first (x ∷ rest) ≡ option_or (look x) (first rest)) →
    (all items : List A) (i : ℕ) (item : A) (found : Option Misfit) → first items ≡ first (drop i items) →
    items ≡ all → i < length items → item ≡ get_or items i item → found ≡ look item →
    first all ≡ option_or found (first (drop (i + 1) items))
found_from first look steps all items i item found so_far same within is looked =
    ap first (sym same)
    ∙ so_far
    ∙ at_drop_more first items i item within
    ∙ steps (get_or items i item) (drop (i + 1) items)
    ∙ ap (λ o. option_or o (first (drop (i + 1) items))) (sym (looked ∙ ap look is))

pub none_of : (found : Option Misfit) → ((x : Misfit) → found ≡ Some x → ⊥) → found ≡ None
none_of None other = refl
none_of (Some x) other = absurd (other x refl)

pub parameters_written : (class_of : Bytes → Option DeclAt) (written : List (Constrained Bytes)) →
    parameters (map (with_classes class_of) written) ≡ written_params written
parameters_written class_of [] = refl
parameters_written class_of (p ∷ rest) = ap (λ ps. parameter p.parameter ∷ ps) (parameters_written class_of rest)

pub no_other : (b : Bool) (found : Misfit) (o : Option Misfit) → (if b then Some found else o) ≡ None →
    o ≡ None
no_other true found o none = absurd cc
no_other false found o none = none

-- where no name means no class, each means the class in its place
names_kept : (class_of : Bytes → Option DeclAt) (names : List (Placed Bytes)) → no_class class_of names
    ≡ None → map Some (classes_meant class_of names) ≡ map (λ one. class_of one.name) names
names_kept class_of [] none = refl
names_kept class_of (one ∷ rest) none =
    let both = or_both (name_misfit class_of one) (no_class class_of rest) none in
    by (class_of one.name) both.0 (names_kept class_of rest both.1)
  where
    by : (o : Option DeclAt) → (if is_some o then None else Some (NoClass one.at)) ≡ None
        → map Some (classes_meant class_of rest) ≡ map (λ other. class_of other.name) rest
        → map Some (option_to_list o ++ classes_meant class_of rest) ≡ o ∷ map (λ other. class_of other.name) rest
    by None e kept = absurd cc
    by (Some at) e kept = ap (λ others. Some at ∷ others) kept

constraints_kept : (class_of : Bytes → Option DeclAt) (written : List (Constrained Bytes)) →
    first_misfit class_of written ≡ None
    → map (λ g. map Some g.classes) (map (with_classes class_of) written) ≡ named_classes class_of written
constraints_kept class_of [] none = refl
constraints_kept class_of (p ∷ rest) none =
    let both = or_both (misfit_of class_of p) (first_misfit class_of rest) none in
    let named = no_other (is_constrained_region p.parameter.universe p.classes) (OfRegion p.parameter.name.at)
    (no_class class_of p.classes) both.0 in
    ap (λ first. first ∷ map (λ g. map Some g.classes) (map (with_classes class_of) rest))
    (names_kept class_of p.classes named)
    ∙ ap (λ others. map (λ one. class_of one.name) p.classes ∷ others) (constraints_kept class_of rest both.1)

nothing_found : (all : List Bounded) (found : Option Misfit) (generics : List Bounded) →
    judged all found ≡ Are generics → found ≡ None
nothing_found all None generics are = refl
nothing_found all (Some found) generics are = absurd cc

judged_are : (all : List Bounded) (found : Option Misfit) (generics : List Bounded) →
    judged all found ≡ Are generics → all ≡ generics
judged_are all None generics are = cc
judged_are all (Some found) generics are = absurd cc

module _ (visible : List (Bytes × DeclAt)) (heads : List (DeclAt × Head)) where
  -- nothing is wrong
  pub are_meant : (params : List Parameter) (written : List (Constrained Bytes)) (found : Option Misfit)
      (all : List (List DeclAt)) (made : List Bounded) →
      params ≡ written_params written → found ≡ first_misfit (class_meant params visible heads) written → found ≡ None →
      all ≡ map (constraints (class_meant params visible heads)) written → made ≡ bounded params all →
      Are made ≡ generics_meant visible heads written
  are_meant params written found all made same is none each whole =
      let class_of = class_meant params visible heads in
      ap Are (whole ∙ ap (bounded params) each ∙ ap (λ ps. bounded ps (map (constraints class_of) written))
      same ∙ of_each (λ (p : Constrained Bytes). parameter p.parameter) (constraints class_of) written)
      ∙ sym (ap (judged (map (with_classes class_of) written)) (sym is ∙ none))
      ∙ ap (λ ps. judged (map (with_classes (class_meant ps visible heads)) written)
      (first_misfit (class_meant ps visible heads) written)) same

  -- something is wrong
  pub fails_meant : (params : List Parameter) (written : List (Constrained Bytes)) (first : Misfit)
      (found : Option Misfit) →
      params ≡ written_params written → found ≡ first_misfit (class_meant params visible heads) written →
      found ≡ Some first →
      Fails first ≡ generics_meant visible heads written
  fails_meant params written first found same is some =
      let class_of = class_meant params visible heads in
      sym (ap (judged (map (with_classes class_of) written)) (sym is ∙ some))
      ∙ ap (λ ps. judged (map (with_classes (class_meant ps visible heads)) written)
      (first_misfit (class_meant ps visible heads) written)) same

  pub params_written : (written : List (Constrained Bytes)) (generics : List Bounded) →
      generics_meant visible heads written ≡ Are generics → parameters generics ≡ written_params written
  params_written written generics are =
      let class_of = class_meant (written_params written) visible heads in
      sym (ap parameters (judged_are (map (with_classes class_of) written) (first_misfit class_of written)
      generics are))
      ∙ parameters_written class_of written

  pub each_kept : (written : List (Constrained Bytes)) (generics : List Bounded) →
      generics_meant visible heads written ≡ Are generics
      → map (λ g. map Some g.classes) generics
      ≡ named_classes (class_meant (written_params written) visible heads) written
  each_kept written generics are =
      let class_of = class_meant (written_params written) visible heads in
      let all = map (with_classes class_of) written in
      sym (ap (λ gs. map (λ g. map Some g.classes) gs) (judged_are all (first_misfit class_of written) generics are))
      ∙ constraints_kept class_of written (nothing_found all (first_misfit class_of written) generics are)
