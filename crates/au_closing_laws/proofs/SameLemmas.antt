-- Type parameters of a promise and of what defines it mean the same.
use Rattle.std.proofs.Common.{◌≡◌, Bool, true, false, cond, List, [], ◌∷◌, ◌++◌, map, Option, None, Some}
use Rattle.std.proofs.Common.{refl, sym, ap, ◌∙◌, subst}
use Rattle.std.specs.Prelude.{if◌then◌else◌, is_some, option_to_list}
use Rattle.std.specs.Option.{option_map, option_or}
use Rattle.std.specs.Str.{bytes_eq}
use Rattle.std.proofs.lemmas.Option.{none-some, same_Some}
use Rattle.au_base.proofs.OptionLemmas.{or_both}
use Rattle.au_syntax.specs.declared.declarations.Universe.{Universe}
use Rattle.au_syntax.specs.declared.declarations.Universe.TheVariants as universes
use Rattle.au_syntax.specs.Modules.{Constrained}
use Rattle.au_syntax.specs.Names.{Placed}
use Rattle.au_syntax.specs.Plain.{Bytes}
use Rattle.au_types.specs.Tables.{find}
use Rattle.au_types.specs.declared.headings.Head.{Head}
use Rattle.au_types.specs.declared.parameters.Parameter.{Parameter}
use Rattle.au_types.specs.declared.types.DeclAt.{DeclAt}
use Rattle.au_types.specs.Universes.{universe_in}
use Rattle.au_types.specs.Senses.{Sense, built_in, declared_sense, outer_sense, parameter_sense}
use Rattle.au_promises.specs.Agreeing.{Sight}
use Rattle.au_promises.specs.Fulfilled.{Each, SameClass, SameGeneric}
use Rattle.au_judged_types.specs.declared.reading.Misfit.{Misfit}
use Rattle.au_judged_types.specs.declared.reading.Misfit.TheVariants.{NoClass, OfRegion}
use Rattle.au_judged_types.specs.Meanings.{class_in, class_meant, classes_meant, first_misfit}
use Rattle.au_judged_types.specs.Meanings.{is_constrained_region, misfit_of, name_misfit, no_class, parameter}
use Rattle.au_judged_types.specs.Meanings.{with_classes, written_params}
use Rattle.au_judged_types.proofs.MeaningLemmas.{no_other}

-- ---- the class that a name means is a declaration that is seen

abbrev Classless : List (Bytes × Sense) → Type 0
Classless [] = Unit {0}
Classless (one ∷ rest) = (class_in (Some one.1) ≡ None) × Classless rest

built_in_classless : Classless built_in
built_in_classless = (
  refl,
  (
    refl,
    (refl, (refl, (refl, (refl, (refl, (refl, (refl, (refl, (refl, (refl, (refl, tt))))))))))),
  ),
)

found_classless : (xs : List (Bytes × Sense)) → Classless xs → (name : Bytes) (sense : Sense) →
    find name xs ≡ Some sense → class_in (Some sense) ≡ None
found_classless [] none name sense e = absurd (none-some sense e)
found_classless (one ∷ rest) none name sense e = by (bytes_eq name one.0) e (found_classless rest none.1 name sense)
  where
    by : (b : Bool) → cond b (Some one.1) (find name rest) ≡ Some sense →
        (find name rest ≡ Some sense → class_in (Some sense) ≡ None) → class_in (Some sense) ≡ None
    by true e later = subst (λ x. class_in (Some x) ≡ None) (same_Some one.1 sense e) none.0
    by false e later = later e

module _ (heads : List (DeclAt × Head)) where
  -- the class of a declaration that is found, if it is one
  abbrev pub declared_class : Option DeclAt → Option DeclAt
  declared_class o = class_in (option_map (declared_sense heads) o)

  of_parameter : (name : Bytes) (universe : Universe) → class_in (Some (parameter_sense name universe)) ≡ None
  of_parameter name universes.Free = refl
  of_parameter name universes.Linear = refl
  of_parameter name universes.AnyType = refl
  of_parameter name universes.Region = refl

  pub class_found : (params : List Parameter) (visible : List (Bytes × DeclAt)) (name : Bytes) (at : DeclAt) →
      class_meant params visible heads name ≡ Some at → declared_class (find name visible) ≡ Some at
  class_found params visible name at e = by (universe_in params name) e
    where
      built : (o : Option Sense) → find name built_in ≡ o →
          class_in (option_or o (option_map (declared_sense heads) (find name visible))) ≡ Some at →
          declared_class (find name visible) ≡ Some at
      built None is e = e
      built (Some sense) is e = absurd
          (none-some at (sym (found_classless built_in built_in_classless name sense is) ∙ e))

      by : (o : Option Universe) → class_in
          (option_or (option_map (parameter_sense name) o) (outer_sense visible heads name)) ≡ Some at →
          declared_class (find name visible) ≡ Some at
      by None e = built (find name built_in) refl e
      by (Some universe) e = absurd (none-some at (sym (of_parameter name universe) ∙ e))

-- ---- nothing is wrong with any

is_meant : (o : Option DeclAt) (fault : Misfit) → (if is_some o then None else Some fault) ≡ None →
    (at : DeclAt) × (o ≡ Some at)
is_meant None fault none = cc
is_meant (Some at) fault none = (at, refl)

module _ (sight : Sight) (params others : List Parameter) where
  abbrev class_promised : Bytes → Option DeclAt
  class_promised = class_meant params sight.interface sight.rows

  abbrev class_defined : Bytes → Option DeclAt
  class_defined = class_meant others sight.body sight.rows

  one_class : (a b : Placed Bytes) → SameClass sight a b → name_misfit class_promised a ≡ None →
      name_misfit class_defined b ≡ None → class_promised a.name ≡ class_defined b.name
  one_class a b same first second =
      let one = is_meant (class_promised a.name) (NoClass a.at) first in
      let other = is_meant (class_defined b.name) (NoClass b.at) second in
      one.1
      ∙ sym (class_found sight.rows params sight.interface a.name one.0 one.1)
      ∙ ap (declared_class sight.rows) same.0
      ∙ class_found sight.rows others sight.body b.name other.0 other.1
      ∙ sym other.1

  same_classes : (names bs : List (Placed Bytes)) → Each (SameClass sight) names bs →
      no_class class_promised names ≡ None → no_class class_defined bs ≡ None
      → classes_meant class_promised names ≡ classes_meant class_defined bs
  same_classes [] [] same first second = refl
  same_classes (a ∷ names) (b ∷ bs) same first second =
      let one = or_both (name_misfit class_promised a) (no_class class_promised names) first in
      let other = or_both (name_misfit class_defined b) (no_class class_defined bs) second in
      ap (λ o. option_to_list o ++ classes_meant class_promised names) (one_class a b same.0 one.0 other.0)
      ∙ ap (λ rest. option_to_list (class_defined b.name) ++ rest) (same_classes names bs same.1 one.1 other.1)
  same_classes [] (b ∷ bs) same first second = absurd same
  same_classes (a ∷ names) [] same first second = absurd same

  pub same_bounds : (gs ks : List (Constrained Bytes)) → Each (SameGeneric sight) gs ks →
      first_misfit class_promised gs ≡ None → first_misfit class_defined ks ≡ None
      → map (with_classes class_promised) gs ≡ map (with_classes class_defined) ks
  same_bounds [] [] same first second = refl
  same_bounds (g ∷ gs) (k ∷ ks) same first second =
      let one = or_both (misfit_of class_promised g) (first_misfit class_promised gs) first in
      let other = or_both (misfit_of class_defined k) (first_misfit class_defined ks) second in
      let no_one = no_other (is_constrained_region g.parameter.universe g.classes)
      (OfRegion g.parameter.name.at) (no_class class_promised g.classes) one.0 in
      let no_two = no_other (is_constrained_region k.parameter.universe k.classes)
      (OfRegion k.parameter.name.at) (no_class class_defined k.classes) other.0 in
      let here : with_classes class_promised g ≡ with_classes class_defined k =
      ap (λ n. record {
        parameter = record { name = n; universe = g.parameter.universe };
        classes =
            classes_meant class_promised g.classes;
      }) same.0.0.0
      ∙ ap (λ u. record {
        parameter = record { name = k.parameter.name.name; universe = u };
        classes =
            classes_meant class_promised g.classes;
      }) same.0.0.1
      ∙ ap (λ cs. record { parameter = parameter k.parameter; classes = cs })
      (same_classes g.classes k.classes same.0.1 no_one no_two) in
      ap (λ b. b ∷ map (with_classes class_promised) gs) here
      ∙ ap (λ rest. with_classes class_defined k ∷ rest) (same_bounds gs ks same.1 one.1 other.1)
  same_bounds [] (k ∷ ks) same first second = absurd same
  same_bounds (g ∷ gs) [] same first second = absurd same

pub same_params : (sight : Sight) (gs ks : List (Constrained Bytes)) → Each (SameGeneric sight) gs ks →
    written_params gs ≡ written_params ks
same_params sight [] [] same = refl
same_params sight (g ∷ gs) (k ∷ ks) same =
    ap (λ n. record { name = n; universe = g.parameter.universe } ∷ written_params gs) same.0.0.0
    ∙ ap (λ u. record { name = k.parameter.name.name; universe = u } ∷ written_params gs) same.0.0.1
    ∙ ap (λ rest. parameter k.parameter ∷ rest) (same_params sight gs ks same.1)
same_params sight [] (k ∷ ks) same = absurd same
same_params sight (g ∷ gs) [] same = absurd same
