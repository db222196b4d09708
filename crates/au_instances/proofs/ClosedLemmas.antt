-- The row that is found for a class at a closed type is the one that gives the instance there.
use Rattle.std.proofs.Common.{◌≡◌, Bool, true, false, cond, List, [], ◌∷◌, ◌++◌, Option, None, Some}
use Rattle.std.proofs.Common.{refl, sym, ap, subst, ◌∙◌, arith, Vec, length}
use lib.Dec.{eqb}
use Rattle.std.specs.Global.{Global}
use Rattle.std.proofs.lemmas.Bool.{ne_eqb}
use Rattle.au_base.proofs.OptionLemmas.{map_some}
use Rattle.au_base.proofs.ListLemmas.{each_passes, all_pass}
use Rattle.au_type_texts.specs.declared.types.Closed.{Closed, Named as Named-of, Named'}
use Rattle.au_type_texts.specs.declared.types.Closed.TheBlock.{backs-Closed, shown-the_row-Closed-0}
use Rattle.au_type_texts.specs.Views.{closed_meaning}
use Rattle.std.specs.Prelude.{if◌then◌else◌, is_some, unwrap_or}
use Rattle.std.specs.List.{list_all}
use Rattle.std.specs.Option.{option_map}
use Rattle.std.specs.Str.{bytes_eq}
use Rattle.std.proofs.lemmas.Bool.{and_parts, and_from}
use Rattle.std.proofs.lemmas.Option.{same_Some}
use Rattle.std.proofs.lemmas.Slice.Eq.{bytes_eq-Decides}
use Rattle.au_syntax.specs.declared.declarations.Universe.{Universe}
use Rattle.au_syntax.specs.Plain.{Bytes}
use Rattle.au_types.specs.declared.headings.Head.{Head}
use Rattle.au_types.specs.declared.parameters.Parameter.{Parameter}
use Rattle.au_types.specs.declared.types.DeclAt.{DeclAt}
use Rattle.au_types.specs.declared.types.Region.{Region}
use Rattle.au_types.specs.declared.types.Region.TheVariants.{Static, Named, Anonymous}
use Rattle.au_types.specs.Rows.{head_of}
use Rattle.au_types.specs.Types as whole
use Rattle.au_types.specs.Types.{Meaning, Argument, Arguments, of_type, in_region, no_arguments, arguments}
use Rattle.au_types.specs.Universes.{universe_in}
use Rattle.au_matching.specs.Bindings.{Bindings, value_of, GivesType, GivesRegion}
use Rattle.au_matching.specs.Matched.{Makes}
use Rattle.au_matching.specs.Substituted.{type_for, substituted, all_substituted, Fixes, EachNameOf, EachNameOfAll}
use Rattle.au_matching.specs.Fitting.{BindingsFit}
use Rattle.au_matching.specs.declared.universes.TypeUniverse.{TypeUniverse}
use Rattle.au_matching.specs.Forming.{takes}
use Rattle.au_matching.specs.Universes.{judged, of_row, universe_of, argument_universe, argument_universes}
use Rattle.au_type_texts.specs.Closing.{closed, all_closed, argument_closed, in_front}
use Rattle.au_type_texts.specs.Types.{ClosedType, ClosedTypes, unit, truth, integer, text, named, reads}
use Rattle.au_type_texts.specs.Types.{writes, no_types, types}
use Rattle.au_type_texts.proofs.SameLemmas.{same_is, same_self}
use Rattle.au_judged_types.specs.Bounds.{Bounded, classes_of, constrains, is_among, parameters}
use Rattle.au_instances.specs.declared.constructors.Constructor.{Constructor}
use Rattle.au_instances.specs.Becoming.{stands_for, all_stand_for, taken_by}
use Rattle.au_instances.specs.ClosedInstances.{ClosedInstance, by_row, ClosedHolds, given, closed_universe}
use Rattle.au_instances.specs.ClosedInstances.{closed_universes, Part, types_in, closes_to, closed_taken}
use Rattle.au_instances.specs.ClosedInstances.{closed_stands, all_closed_stand, gives, if_gives, closed_row}
use Rattle.au_instances.specs.ClosedInstances.{parts_of, has_instance, parts_in}
use Rattle.au_instances.specs.Constructors.{constructor_of, closed_constructor}
use Rattle.au_instances.specs.Forms.{HasForm, arguments_of, type_name, region_name, is_one_of, of_kind, are_parameters}
use Rattle.au_instances.specs.Rows.{Row}
use Rattle.au_instances.specs.Tables.{IsTable, row_with}
use Rattle.au_instances.proofs.BecomingLemmas.{all_back, bound_to, bound_gives, fit_back, pair_for, value_taken}
use Rattle.au_instances.proofs.ConstructorLemmas.{constructor_stays}
use Rattle.au_instances.proofs.FormLemmas.{OverParameters, closed_each, form_closed, form_over}
use Rattle.au_instances.proofs.PairLemmas.{class_among, in_classes}
use Rattle.au_instances.proofs.TableLemmas.{row_gave, row_there}
use Rattle.au_matching.proofs.SubstitutedLemmas.{untouched}

-- ---- what closes

front_gave : (o : Option ClosedType) (rest : Option ClosedTypes) (list : ClosedTypes) →
    in_front o rest ≡ Some list → (first : ClosedType) × (others : ClosedTypes) × (o ≡ Some first)
    × (rest ≡ Some others) × (types first others ≡ list)
front_gave None rest list e = absurd cc
front_gave (Some first) None list e = absurd cc
front_gave (Some first) (Some others) list e = (first, others, refl, refl, same_Some (types first others) list e)

-- what closes to a closed type has its constructor
pub closed_constructor_is : (t : Meaning) (c : ClosedType) → closed t ≡ Some c → constructor_of t ≡ closed_constructor c
closed_constructor_is whole.unit c e = ap closed_constructor (same_Some unit c e)
closed_constructor_is whole.truth c e = ap closed_constructor (same_Some truth c e)
closed_constructor_is (whole.integer kind) c e = ap closed_constructor (same_Some (integer kind) c e)
closed_constructor_is whole.text c e = ap closed_constructor (same_Some text c e)
closed_constructor_is (whole.parameter name) c e = absurd cc
closed_constructor_is (whole.named at args) c e = let there = map_some (named at) (all_closed args) c e
    in ap closed_constructor there.2
closed_constructor_is (whole.reads to region) c e = let there = map_some reads (closed to) c e
    in ap closed_constructor there.2
closed_constructor_is (whole.writes to region) c e = let there = map_some writes (closed to) c e
    in ap closed_constructor there.2

-- a type that closes to a closed one
mutual
  pub opened : ClosedType → Meaning
  opened unit = whole.unit
  opened truth = whole.truth
  opened (integer kind) = whole.integer kind
  opened text = whole.text
  opened (named at args) = whole.named at (all_opened args)
  opened (reads to) = whole.reads (opened to) Static
  opened (writes to) = whole.writes (opened to) Static

  pub all_opened : ClosedTypes → Arguments
  all_opened no_types = no_arguments
  all_opened (types one rest) = arguments (of_type (opened one)) (all_opened rest)

mutual
  unfolding opened all_opened

  pub opened_closes : (t : ClosedType) → closed (opened t) ≡ Some t
  opened_closes unit = refl
  opened_closes truth = refl
  opened_closes (integer kind) = refl
  opened_closes text = refl
  opened_closes (named at args) = ap (option_map (named at)) (all_opened_close args)
  opened_closes (reads to) = ap (option_map reads) (opened_closes to)
  opened_closes (writes to) = ap (option_map writes) (opened_closes to)

  all_opened_close : (list : ClosedTypes) → all_closed (all_opened list) ≡ Some list
  all_opened_close no_types = refl
  all_opened_close (types one rest) =
      ap (λ o. in_front o (all_closed (all_opened rest))) (opened_closes one)
      ∙ ap (in_front (Some one)) (all_opened_close rest)

-- ---- universes

module _ (heads : List (DeclAt × Head)) (params : List Parameter) where
  mutual
    unfolding universe_of argument_universe argument_universes

    pub universe_closed : (t : Meaning) (c : ClosedType) → closed t ≡ Some c → universe_of heads params t
        ≡ closed_universe heads c
    universe_closed whole.unit c e = ap (closed_universe heads) (same_Some unit c e)
    universe_closed whole.truth c e = ap (closed_universe heads) (same_Some truth c e)
    universe_closed (whole.integer kind) c e = ap (closed_universe heads) (same_Some (integer kind) c e)
    universe_closed whole.text c e = ap (closed_universe heads) (same_Some text c e)
    universe_closed (whole.parameter name) c e = absurd cc
    universe_closed (whole.named at args) c e =
        let there = map_some (named at) (all_closed args) c e in
        ap (λ all. of_row (head_of heads at) (judged all)) (universes_closed args there.0 there.1)
        ∙ ap (closed_universe heads) there.2
    universe_closed (whole.reads to region) c e = let there = map_some reads (closed to) c e
        in ap (closed_universe heads) there.2
    universe_closed (whole.writes to region) c e = let there = map_some writes (closed to) c e
        in ap (closed_universe heads) there.2

    argument_universe_closed : (one : Argument) (rest : Option ClosedTypes) (list : ClosedTypes) →
        argument_closed one rest ≡ Some list
        → (more : List TypeUniverse) →
        ((others : ClosedTypes) → rest ≡ Some others → more ≡ closed_universes heads others) →
        argument_universe heads params one ++ more ≡ closed_universes heads list
    argument_universe_closed (of_type t) rest list e more known =
        let there = front_gave (closed t) rest list e in
        ap (λ one. one ∷ more) (universe_closed t there.0 there.2)
        ∙ ap (λ all. closed_universe heads there.0 ∷ all) (known there.1 there.3)
        ∙ ap (closed_universes heads) there.4
    argument_universe_closed (in_region region) rest list e more known = known list e

    universes_closed : (args : Arguments) (list : ClosedTypes) → all_closed args ≡ Some list →
        argument_universes heads params args ≡ closed_universes heads list
    universes_closed no_arguments list e = ap (closed_universes heads) (same_Some no_types list e)
    universes_closed (arguments one rest) list e = argument_universe_closed one (all_closed rest) list e
        (argument_universes heads params rest) (λ others h. universes_closed rest others h)

-- ---- arguments of a head that are filled with closed types

abbrev pub filled : Arguments → ClosedTypes → Arguments
filled no_arguments list = no_arguments
filled (arguments (of_type t) names) no_types = no_arguments
filled (arguments (of_type t) names) (types one rest) = arguments (of_type (opened one)) (filled names rest)
filled (arguments (in_region region) names) list = arguments (in_region Static) (filled names list)

module _ (rows : List Row) (heads : List (DeclAt × Head)) where
  -- each class that is found to have an instance at one of these closed types has one
  abbrev AllGiven : ClosedTypes → Type 0
  AllGiven no_types = Unit {0}
  AllGiven (types one rest) = ((class : DeclAt) → has_instance rows heads one class ≡ true →
      ClosedHolds rows heads class one) × AllGiven rest

  -- each class that has an instance at one of these is found to
  abbrev AllFound : ClosedTypes → Type 0
  AllFound no_types = Unit {0}
  AllFound (types one rest) = ((class : DeclAt) → ClosedHolds rows heads class one →
      has_instance rows heads one class ≡ true) × AllFound rest

  module _ (generics : List Bounded) where
    type_stands : (o : Option Bytes) (one : ClosedType) →
        closed_stands heads generics o (one, has_instance rows heads one) ≡ true →
        stands_for heads [] (parameters generics) o (of_type (opened one)) ≡ true
    type_stands None one e = absurd cc
    type_stands (Some name) one e = by (universe_in (parameters generics) name)
        (and_parts (closed_taken heads (universe_in (parameters generics) name) one)
        (list_all (has_instance rows heads one) (unwrap_or (classes_of generics name) [])) e).0
      where
        by : (o : Option Universe) → closed_taken heads o one ≡ true → taken_by heads [] o (of_type (opened one)) ≡ true
        by None h = absurd cc
        by (Some universe) h = ap (takes universe) (universe_closed heads [] (opened one) one (opened_closes one)) ∙ h

    region_stands : (region : Region) → is_one_of (parameters generics) (region_name region)
        (in_region region) ≡ true → stands_for heads [] (parameters generics) (region_name region)
        (in_region Static) ≡ true
    region_stands Static e = absurd cc
    region_stands (Named name) e = by (universe_in (parameters generics) name) e
      where
        by : (o : Option Universe) → of_kind o (in_region (Named name)) ≡ true →
            taken_by heads [] o (in_region Static) ≡ true
        by None h = absurd cc
        by (Some universe) h = h
    region_stands Anonymous e = absurd cc

    -- closed types that stand for the types among the arguments: filled with them these fit, and close to them
    filled_fit : (names : Arguments) (list : ClosedTypes) → are_parameters (parameters generics) names
        ≡ true → all_closed_stand heads generics (types_in names) (parts_of rows heads list) ≡ true
        → (all_stand_for heads [] (parameters generics) names (filled names list) ≡ true)
        × (all_closed (filled names list) ≡ Some list)
    filled_fit no_arguments no_types own stand = (refl, refl)
    filled_fit no_arguments (types one rest) own stand = absurd cc
    filled_fit (arguments (of_type t) names) no_types own stand = absurd cc
    filled_fit (arguments (of_type t) names) (types one rest) own stand =
        let both = and_parts (closed_stands heads generics (type_name t) (one, has_instance rows heads one))
        (all_closed_stand heads generics (types_in names) (parts_of rows heads rest)) stand in
        let others = filled_fit names rest
        (and_parts (is_one_of (parameters generics) (type_name t) (of_type t))
        (are_parameters (parameters generics) names) own).1 both.1 in (
          and_from (stands_for heads [] (parameters generics) (type_name t) (of_type (opened one)))
              (all_stand_for heads [] (parameters generics) names (filled names rest))
              (type_stands (type_name t) one both.0) others.0,
          ap (λ o. in_front o (all_closed (filled names rest))) (opened_closes one) ∙ ap (in_front (Some one)) others.1,
        )
    filled_fit (arguments (in_region region) names) list own stand =
        let mine = and_parts (is_one_of (parameters generics) (region_name region) (in_region region))
        (are_parameters (parameters generics) names) own in
        let others = filled_fit names list mine.1 stand in (
          and_from (stands_for heads [] (parameters generics) (region_name region) (in_region Static))
              (all_stand_for heads [] (parameters generics) names (filled names list))
              (region_stands region mine.0) others.0,
          others.1,
        )

    -- a class of a parameter has an instance at the closed type in the parameter's place
    of_class : (name : Bytes) (wanted : DeclAt) (one : ClosedType) → constrains generics name wanted ≡ true →
        list_all (has_instance rows heads one) (unwrap_or (classes_of generics name) []) ≡ true →
        has_instance rows heads one wanted ≡ true
    of_class name wanted one c all = by (classes_of generics name) c all
      where
        by : (o : Option (List DeclAt)) → is_among wanted o ≡ true → list_all (has_instance rows heads one)
            (unwrap_or o []) ≡ true → has_instance rows heads one wanted ≡ true
        by None c all = absurd cc
        by (Some classes) c all = each_passes (has_instance rows heads one) classes wanted
            (in_classes wanted classes c) all

    filled_hold : (names : Arguments) (list : ClosedTypes) (name : Bytes) (wanted : DeclAt) (value : Meaning)
        (part : ClosedType) → AllGiven list
        → all_closed_stand heads generics (types_in names) (parts_of rows heads list) ≡ true
        → constrains generics name wanted ≡ true → value_of name (bound_to names (filled names list))
        ≡ Some (of_type value) → closed value ≡ Some part → ClosedHolds rows heads wanted part
    filled_hold no_arguments list name wanted value part known stand c v closes = absurd cc
    filled_hold (arguments (of_type t) names) no_types name wanted value part known stand c v closes = absurd cc
    filled_hold (arguments (of_type t) names) (types one rest) name wanted value part known stand c v closes =
        let both = and_parts (closed_stands heads generics (type_name t) (one, has_instance rows heads one))
        (all_closed_stand heads generics (types_in names) (parts_of rows heads rest)) stand in
        by (type_name t) (λ v. filled_hold names rest name wanted value part known.1 both.1 c v closes) both.0 v
      where
        others : Bindings
        others = bound_to names (filled names rest)

        by : (o : Option Bytes) → (value_of name others ≡ Some (of_type value) →
            ClosedHolds rows heads wanted part) →
            closed_stands heads generics o (one, has_instance rows heads one) ≡ true →
            value_of name (pair_for o (of_type (opened one)) others) ≡ Some (of_type value) →
            ClosedHolds rows heads wanted part
        by None later stands v = absurd cc
        by (Some known_name) later stands v = at (bytes_eq name known_name) refl v
          where
            mine : list_all (has_instance rows heads one) (unwrap_or (classes_of generics known_name) []) ≡ true
            mine = (and_parts (closed_taken heads (universe_in (parameters generics) known_name) one)
                (list_all (has_instance rows heads one) (unwrap_or (classes_of generics known_name) []))
                stands).1

            at : (b : Bool) → bytes_eq name known_name ≡ b → cond b (Some (of_type (opened one)))
                (value_of name others) ≡ Some (of_type value) → ClosedHolds rows heads wanted part
            at true is v =
                let same_name : name ≡ known_name = (bytes_eq-Decides name known_name).0 is in
                let value_is : opened one ≡ value = cc in
                let part_is : one ≡ part = same_Some one part (sym (opened_closes one) ∙ ap closed value_is ∙ closes) in
                subst (ClosedHolds rows heads wanted) part_is
                (known.0 wanted (of_class known_name wanted one
                (subst (λ n. constrains generics n wanted ≡ true) same_name c) mine))
            at false is v = later v
    filled_hold (arguments (in_region region) names) list name wanted value part known stand c v closes =
        by (region_name region) (λ v. filled_hold names list name wanted value part known stand c v closes) v
      where
        others : Bindings
        others = bound_to names (filled names list)

        by : (o : Option Bytes) → (value_of name others ≡ Some (of_type value) →
            ClosedHolds rows heads wanted part) → value_of name (pair_for o (in_region Static) others)
            ≡ Some (of_type value) → ClosedHolds rows heads wanted part
        by None later v = later v
        by (Some known_name) later v = at (bytes_eq name known_name) v
          where
            at : (b : Bool) → cond b (Some (in_region Static)) (value_of name others) ≡ Some (of_type value) →
                ClosedHolds rows heads wanted part
            at true v = absurd cc
            at false v = later v

    -- ---- where a substitution that fits makes the arguments close to closed types

    module _ (s : Bindings) (fit : BindingsFit heads (parameters generics) [] s)
        (held : (name : Bytes) (wanted : DeclAt) (value : Meaning) (part : ClosedType) →
        constrains generics name wanted ≡ true → value_of name s ≡ Some (of_type value) →
        closed value ≡ Some part → ClosedHolds rows heads wanted part) where
      -- all classes of a name, where each holds
      all_held : (name : Bytes) (value : Meaning) (one : ClosedType) →
          value_of name s ≡ Some (of_type value) → closed value ≡ Some one →
          ((class : DeclAt) → ClosedHolds rows heads class one → has_instance rows heads one class ≡ true)
          → list_all (has_instance rows heads one) (unwrap_or (classes_of generics name) []) ≡ true
      all_held name value one v closes known = by (classes_of generics name) refl
        where
          by : (o : Option (List DeclAt)) → classes_of generics name ≡ o →
              list_all (has_instance rows heads one) (unwrap_or o []) ≡ true
          by None is = refl
          by (Some classes) is = all_pass (has_instance rows heads one) classes
              (λ class h. known class (held name class value one
              (ap (is_among class) is ∙ class_among class classes h) v closes))

      type_stands_so : (t : Meaning) (one : ClosedType) → is_one_of (parameters generics) (type_name t)
          (of_type t) ≡ true → EachNameOf (GivesType s) (GivesRegion s) (of_type t) → closed (substituted s t)
          ≡ Some one
          → ((class : DeclAt) → ClosedHolds rows heads class one → has_instance rows heads one class ≡ true) →
          closed_stands heads generics (type_name t) (one, has_instance rows heads one) ≡ true
      type_stands_so (whole.parameter name) one own gives closes known =
          let closes_so : closed gives.0 ≡ Some one = sym (ap (λ o. closed (type_for o name)) gives.1) ∙ closes in
          and_from (closed_taken heads (universe_in (parameters generics) name) one)
          (list_all (has_instance rows heads one) (unwrap_or (classes_of generics name) []))
          (by (universe_in (parameters generics) name) closes_so
          (value_taken heads [] (parameters generics) s fit name (of_type gives.0)
          (of_type (whole.parameter name)) own gives.1))
          (all_held name gives.0 one gives.1 closes_so known)
        where
          by : (o : Option Universe) → closed gives.0 ≡ Some one → taken_by heads [] o (of_type gives.0)
              ≡ true → closed_taken heads o one ≡ true
          by None closes h = absurd cc
          by (Some universe) closes h = sym (ap (takes universe) (universe_closed heads [] gives.0 one closes)) ∙ h
      type_stands_so t one own gives closes known = absurd cc

      all_stand_so : (names : Arguments) (list : ClosedTypes) → are_parameters (parameters generics) names
          ≡ true → EachNameOfAll (GivesType s) (GivesRegion s) names → all_closed (all_substituted s names)
          ≡ Some list → AllFound list
          → all_closed_stand heads generics (types_in names) (parts_of rows heads list) ≡ true
      all_stand_so no_arguments list own fixed closes known =
          subst (λ l. all_closed_stand heads generics [] (parts_of rows heads l) ≡ true)
          (same_Some no_types list closes) refl
      all_stand_so (arguments (of_type t) names) list own fixed closes known =
          let there = front_gave (closed (substituted s t)) (all_closed (all_substituted s names)) list closes in
          let mine = and_parts (is_one_of (parameters generics) (type_name t) (of_type t))
          (are_parameters (parameters generics) names) own in
          let known_so : AllFound (types there.0 there.1) = subst AllFound (sym there.4) known in
          subst (λ l. all_closed_stand heads generics (types_in (arguments (of_type t) names))
          (parts_of rows heads l) ≡ true) there.4
          (and_from (closed_stands heads generics (type_name t) (there.0, has_instance rows heads there.0))
          (all_closed_stand heads generics (types_in names) (parts_of rows heads there.1))
          (type_stands_so t there.0 mine.0 fixed.0 there.2 known_so.0)
          (all_stand_so names there.1 mine.1 fixed.1 there.3 known_so.1))
      all_stand_so (arguments (in_region region) names) list own fixed closes known =
          all_stand_so names list (and_parts
          (is_one_of (parameters generics) (region_name region) (in_region region))
          (are_parameters (parameters generics) names) own).1 fixed.1 closes known

  -- ---- the row that is found gives the instance

  closes_gave : (o : Option ClosedType) (t : ClosedType) → closes_to o t ≡ true → o ≡ Some t
  closes_gave None t e = absurd cc
  closes_gave (Some other) t e = ap Some (same_is other t e)

  closes_self : (o : Option ClosedType) (t : ClosedType) → o ≡ Some t → closes_to o t ≡ true
  closes_self o t e = subst (λ p. closes_to p t ≡ true) (sym e) (same_self t)

  -- a head over type parameters becomes a closed type, and their constraints hold of its parts
  record MadeBy (generics : List Bounded) (head : Meaning) (t : ClosedType) : Type 0 where
    by : Bindings
    made : Meaning
    makes : Makes [] head made by
    fit : BindingsFit heads (parameters generics) [] by
    closes : closed made ≡ Some t
    held : (name : Bytes) (wanted : DeclAt) (value : Meaning) (part : ClosedType) →
        constrains generics name wanted ≡ true → value_of name by ≡ Some (of_type value) →
        closed value ≡ Some part → ClosedHolds rows heads wanted part

  -- P of the closed types among the arguments of a closed type
  abbrev Inside : (ClosedTypes → Type 0) → ClosedType → Type 0
  Inside P unit = Unit {0}
  Inside P truth = Unit {0}
  Inside P (integer kind) = Unit {0}
  Inside P text = Unit {0}
  Inside P (named at list) = P list
  Inside P (reads to) = Unit {0}
  Inside P (writes to) = Unit {0}

  nothing_bound : (s : Bindings) (name : Bytes) (value : Argument) → value_of name [] ≡ Some value →
      value_of name s ≡ Some value
  nothing_bound s name value h = absurd cc

  made_over : (first : Bounded) (others : List Bounded) (head : Meaning) (t : ClosedType) →
      HasForm (first ∷ others) head → Inside AllGiven t → constructor_of head ≡ closed_constructor t
      → gives heads (first ∷ others) head t (parts_in rows heads t) ≡ true → MadeBy (first ∷ others) head t
  made_over first others head t form known constructed e =
      by t known (ap constructor_of (sym over.is) ∙ constructed)
      (subst (λ h. all_closed_stand heads generics (types_in (arguments_of h)) (parts_in rows heads t) ≡ true)
      over.is e)
    where
      generics : List Bounded
      generics = first ∷ others

      over : OverParameters (parameters generics) head
      over = form_over first others head form

      by : (t : ClosedType) → Inside AllGiven t → constructor_of (whole.named over.at over.args)
          ≡ closed_constructor t → all_closed_stand heads generics (types_in over.args) (parts_in rows heads t)
          ≡ true → MadeBy generics head t
      by (named at list) known constructed e =
          let same_at : over.at ≡ at = cc in
          let args = filled over.args list in
          let s = bound_to over.args args in
          let filled_so = filled_fit generics over.args list over.own e in
          let bound = bound_gives over.args args over.distinct in
          let back = all_back heads [] (parameters generics) s over.args args over.own filled_so.0 bound in
          record {
            by = s;
            made = whole.named over.at args;
            makes = record {
              extends = nothing_bound s;
              fixes = subst (Fixes s) (sym over.is) back.0;
              equal = ap (substituted s) over.is ∙ ap (whole.named over.at) back.1;
            };
            fit = fit_back heads [] (parameters generics) s over.args args over.stand filled_so.0 bound;
            closes = ap (option_map (named over.at)) filled_so.1 ∙ ap (λ p. Some (named p list)) same_at;
            held = λ name wanted value part c v closes. filled_hold generics over.args list name wanted value
                part known e c v closes;
          }
      by t known constructed e = absurd cc

  made_by : (generics : List Bounded) (head : Meaning) (t : ClosedType) → HasForm generics head →
      Inside AllGiven t → constructor_of head ≡ closed_constructor t →
      gives heads generics head t (parts_in rows heads t) ≡ true → MadeBy generics head t
  made_by [] head t form known constructed e =
      let closed_head = form_closed head form in
      record {
        by = [];
        made = head;
        makes = record {
          extends = λ name value h. h;
          fixes = closed_each (GivesType []) (GivesRegion []) head closed_head;
          equal = untouched [] head (closed_each (λ name. value_of name [] ≡ None)
              (λ name. value_of name [] ≡ None) head closed_head);
        };
        fit = λ name universe h. absurd cc;
        closes = closes_gave (closed head) t e;
        held = λ name wanted value part c v closes. absurd cc;
      }
  made_by (first ∷ others) head t form known constructed e = made_over first others head t form known constructed e

  -- and where the head becomes it so, the test holds
  found_over : (first : Bounded) (others : List Bounded) (head : Meaning) (t : ClosedType) →
      HasForm (first ∷ others) head → Inside AllFound t → MadeBy (first ∷ others) head t →
      gives heads (first ∷ others) head t (parts_in rows heads t) ≡ true
  found_over first others head t form known made =
      by there.0 t known there.2 (subst (λ u. closed u ≡ Some t) is made.closes)
    where
      generics : List Bounded
      generics = first ∷ others

      over : OverParameters (parameters generics) head
      over = form_over first others head form

      is : made.made ≡ whole.named over.at (all_substituted made.by over.args)
      is = sym made.makes.equal ∙ ap (substituted made.by) over.is

      fixed : EachNameOfAll (GivesType made.by) (GivesRegion made.by) over.args
      fixed = subst (Fixes made.by) over.is made.makes.fixes

      there : (list : ClosedTypes) × (all_closed (all_substituted made.by over.args) ≡ Some list)
          × (named over.at list ≡ t)
      there = map_some (named over.at) (all_closed (all_substituted made.by over.args)) t
          (subst (λ u. closed u ≡ Some t) is made.closes)

      stand : (list : ClosedTypes) → all_closed (all_substituted made.by over.args) ≡ Some list →
          AllFound list → all_closed_stand heads generics (types_in (arguments_of head))
          (parts_of rows heads list) ≡ true
      stand list closes known =
          subst (λ h. all_closed_stand heads generics (types_in (arguments_of h)) (parts_of rows heads list)
          ≡ true) (sym over.is)
          (all_stand_so generics made.by made.fit made.held over.args list over.own fixed closes known)

      by : (list : ClosedTypes) (t : ClosedType) → Inside AllFound t → named over.at list ≡ t →
          option_map (named over.at) (all_closed (all_substituted made.by over.args)) ≡ Some t →
          all_closed_stand heads generics (types_in (arguments_of head)) (parts_in rows heads t) ≡ true
      by list (named at others) known e closes =
          let inner = map_some (named over.at) (all_closed (all_substituted made.by over.args))
          (named at others) closes in
          let same_list : inner.0 ≡ others = cc in
          stand others (inner.1 ∙ ap Some same_list) known
      by list t known e closes = absurd cc

  found_by : (generics : List Bounded) (head : Meaning) (t : ClosedType) → HasForm generics head →
      Inside AllFound t → MadeBy generics head t → gives heads generics head t (parts_in rows heads t) ≡ true
  found_by [] head t form known made =
      let is : head ≡ made.made = sym
      (untouched made.by head (closed_each (λ name. value_of name made.by ≡ None)
      (λ name. value_of name made.by ≡ None) head (form_closed head form))) ∙ made.makes.equal in
      closes_self (closed head) t (ap closed is ∙ made.closes)
  found_by (first ∷ others) head t form known made = found_over first others head t form known made

  -- ---- the row that gives the instance at a closed type

  -- by cases on the type it is the row of its constructor, if that gives the instance
  pub closed_row_is : (t : ClosedType) (class : DeclAt) → closed_row rows heads t class ≡ if_gives heads t
      (parts_in rows heads t) (row_with rows class (closed_constructor t))
  closed_row_is unit class = refl
  closed_row_is truth class = refl
  closed_row_is (integer kind) class = refl
  closed_row_is text class = refl
  closed_row_is (named at args) class = refl
  closed_row_is (reads to) class = refl
  closed_row_is (writes to) class = refl

  pub if_gives_gave : (t : ClosedType) (parts : List Part) (o : Option Row) (row : Row) →
      if_gives heads t parts o ≡ Some row → (o ≡ Some row) × (gives heads row.generics row.head t parts ≡ true)
  if_gives_gave t parts None row e = absurd cc
  if_gives_gave t parts (Some other) row e = by (gives heads other.generics other.head t parts) refl e
    where
      by : (b : Bool) → gives heads other.generics other.head t parts ≡ b → (if b then Some other else None)
          ≡ Some row → (Some other ≡ Some row) × (gives heads row.generics row.head t parts ≡ true)
      by true is e = (e, subst (λ r. gives heads r.generics r.head t parts ≡ true) (same_Some other row e) is)
      by false is e = absurd cc

  module _ (table : IsTable rows) where
    row_instance : (t : ClosedType) (class : DeclAt) (row : Row) → Inside AllGiven t →
        closed_row rows heads t class ≡ Some row → ClosedInstance rows heads class t row
    row_instance t class row known e = by (closed_constructor t) refl tested.0
      where
        tested : (row_with rows class (closed_constructor t) ≡ Some row)
            × (gives heads row.generics row.head t (parts_in rows heads t) ≡ true)
        tested = if_gives_gave t (parts_in rows heads t) (row_with rows class (closed_constructor t)) row
            (sym (closed_row_is t class) ∙ e)

        by : (o : Option Constructor) → closed_constructor t ≡ o → row_with rows class o ≡ Some row →
            ClosedInstance rows heads class t row
        by None is e = absurd cc
        by (Some one) is e =
            let found = row_gave rows class one row e in
            let made = made_by row.generics row.head t (table.formed row found.0) known (found.2 ∙ sym is) tested.1 in
            by_row class t row made.by found.0 found.1
            (record {
              whole = made.made;
              becomes = record { makes = made.makes; fit = made.fit };
              closes =
                  made.closes;
            }) made.held

    instance_row : (class : DeclAt) (t : ClosedType) (row : Row) → Inside AllFound t →
        ClosedInstance rows heads class t row → closed_row rows heads t class ≡ Some row
    instance_row class t row known (by_row one u r s listed of_class becomes held) =
        let form = table.formed r listed in
        let made : MadeBy r.generics r.head u =
        record {
          by = s;
          made = becomes.whole;
          makes = becomes.becomes.makes;
          fit =
              becomes.becomes.fit;
          closes = becomes.closes;
          held = held;
        } in
        let constructed : closed_constructor u ≡ Some form.constructor =
        sym (closed_constructor_is becomes.whole u becomes.closes)
        ∙ ap constructor_of (sym becomes.becomes.makes.equal) ∙ constructor_stays s r.head form.constructor
        form.heads in
        closed_row_is u one
        ∙ ap (λ o. if_gives heads u (parts_in rows heads u) (row_with rows one o)) constructed
        ∙ ap (if_gives heads u (parts_in rows heads u))
        (row_there rows one form.constructor r table listed of_class form.heads)
        ∙ ap (λ b. if b then Some r else None) (found_by r.generics r.head u form known made)

    -- a class that is found to have an instance has one, and one that has an instance is found to
    given_by : (t : ClosedType) (class : DeclAt) → Inside AllGiven t → has_instance rows heads t class
        ≡ true → ClosedHolds rows heads class t
    given_by t class known e = by (closed_row rows heads t class) refl e
      where
        by : (o : Option Row) → closed_row rows heads t class ≡ o → is_some o ≡ true → ClosedHolds rows heads class t
        by None is e = absurd cc
        by (Some row) is e = given class t row (row_instance t class row known is)

    holds_found : (class : DeclAt) (t : ClosedType) → Inside AllFound t → ClosedHolds rows heads class t →
        has_instance rows heads t class ≡ true
    holds_found class t known (given one u row instance) = ap is_some (instance_row one u row known instance)

    mutual
      all_given : (t : ClosedType) → Inside AllGiven t
      all_given unit = tt
      all_given truth = tt
      all_given (integer kind) = tt
      all_given text = tt
      all_given (named at list) = list_given list
      all_given (reads to) = tt
      all_given (writes to) = tt

      list_given : (list : ClosedTypes) → AllGiven list
      list_given no_types = tt
      list_given (types one rest) = (λ class e. given_by one class (all_given one) e, list_given rest)

    mutual
      all_found : (t : ClosedType) → Inside AllFound t
      all_found unit = tt
      all_found truth = tt
      all_found (integer kind) = tt
      all_found text = tt
      all_found (named at list) = list_found list
      all_found (reads to) = tt
      all_found (writes to) = tt

      list_found : (list : ClosedTypes) → AllFound list
      list_found no_types = tt
      list_found (types one rest) = (λ class h. holds_found class one (all_found one) h, list_found rest)

    pub closed_row_gave : (class : DeclAt) (t : ClosedType) (row : Row) → closed_row rows heads t class
        ≡ Some row → ClosedInstance rows heads class t row
    closed_row_gave class t row e = row_instance t class row (all_given t) e

    pub closed_row_there : (class : DeclAt) (t : ClosedType) (row : Row) →
        ClosedInstance rows heads class t row → closed_row rows heads t class ≡ Some row
    closed_row_there class t row instance = instance_row class t row (all_found t) instance

-- ---- closed types that aren't declared ones

module _ (rows : List Row) (heads : List (DeclAt × Head)) where
  pub no_parts : (of : Closed) → ((x : DeclAt) (xs : Vec Closed Global) → of ≡ Named-of x xs → ⊥) →
      parts_in rows heads (closed_meaning of) ≡ []
  unfolding closed_meaning
  no_parts (Named' x shape row) differs =
      absurd (differs x (shown-the_row-Closed-0 shape row) (sym (backs-Closed (Named' x shape row))))
  no_parts of differs = refl

-- without arguments a head over type parameters becomes a type exactly where it has no types among its own
pub gives_alone : (heads : List (DeclAt × Head)) (generics : List Bounded) (head : Meaning) (t : ClosedType)
    (parts : List Part) → (length generics ≡ 0 → ⊥) → parts ≡ [] → gives heads generics head t parts
    ≡ eqb (length (types_in (arguments_of head))) 0
gives_alone heads [] head t parts other none = absurd (other refl)
gives_alone heads (first ∷ others) head t parts other none = ap (gives heads (first ∷ others) head t) none
    ∙ by (types_in (arguments_of head))
  where
    by : (types : List Meaning) → all_closed_stand heads (first ∷ others) types [] ≡ eqb (length types) 0
    by [] = refl
    by (one ∷ rest) = sym (ne_eqb (length (one ∷ rest)) 0 (λ e. absurd (omega arith)))
