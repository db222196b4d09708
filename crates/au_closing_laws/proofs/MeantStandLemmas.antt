-- What a written type means stands over the type parameters in scope.
use Rattle.std.proofs.Common.{◌≡◌, Bool, true, false, ◌&&◌, cond, List, [], ◌∷◌, Option, None, Some, refl}
use Rattle.std.proofs.Common.{sym, ap, ◌∙◌, subst}
use Rattle.std.specs.Prelude.{is_some, if◌then◌else◌}
use Rattle.std.specs.List.{list_any}
use Rattle.std.specs.Option.{option_map, option_or}
use Rattle.std.specs.Str.{bytes_eq}
use Rattle.std.proofs.lemmas.Bool.{and_from}
use Rattle.std.proofs.lemmas.Option.{none-some, same_Some}
use Rattle.au_base.specs.declared.kinds.IntKind.TheVariants.{Nat8}
use Rattle.au_base.proofs.OptionLemmas.{map_some}
use Rattle.au_syntax.specs.declared.declarations.Universe.{Universe}
use Rattle.au_syntax.specs.declared.declarations.Universe.TheVariants as universes
use Rattle.au_syntax.specs.declared.types.Access.{Access}
use Rattle.au_syntax.specs.declared.types.Access.TheVariants as access
use Rattle.au_syntax.specs.Plain.{Bytes}
use Rattle.au_syntax.specs.Types.{WrittenType, WrittenTypes, named, reference, no_types, types}
use Rattle.au_types.specs.Tables.{find}
use Rattle.au_types.specs.declared.headings.Head.{Head}
use Rattle.au_types.specs.declared.parameters.Parameter.{Parameter}
use Rattle.au_types.specs.declared.types.DeclAt.{DeclAt}
use Rattle.au_types.specs.declared.types.Region.{Region}
use Rattle.au_types.specs.declared.types.Region.TheVariants.{Named, Static}
use Rattle.au_types.specs.Rows.{head_of}
use Rattle.au_types.specs.Same.{same, same_region}
use Rattle.au_types.specs.Types as mean
use Rattle.au_types.specs.Types.{Meaning, Argument, Arguments, of_type, in_region, parameter}
use Rattle.au_types.specs.Universes.{universe_in}
use Rattle.au_matching.specs.Forming.{StandsOver, all_fit, all_formed, argument_formed, fit_row, fits_in_kind}
use Rattle.au_matching.specs.Forming.{is_formed}
use Rattle.au_matching.specs.Universes.{of_parameter}
use Rattle.au_types.specs.Meant.{Given, all_given, applied, argument_meant, arguments_meant, meant}
use Rattle.au_types.specs.Meant.{refers, region_meant, region_of, span_of}
use Rattle.au_types.specs.Senses.{Sense, a_class, a_region, a_span, a_type, built_in, declared}
use Rattle.au_types.specs.Senses.{declared_sense, open_region, outer_sense, parameter_sense, sense_of}
use Rattle.au_types.proofs.MeantLemmas.{followed_both}

referred : (kind : Access) (o : Option Meaning) (r : Option Region) (t : Meaning) → refers kind o r ≡ Some t →
    (to : Meaning) × (o ≡ Some to)
    × ((P : Meaning → Bool) → ((q : Region) → P (mean.reads to q) ≡ true) →
    ((q : Region) → P (mean.writes to q) ≡ true) → P t ≡ true)
referred access.Read (Some to) (Some region) t e =
    (to, refl, λ P reads writes. subst (λ x. P x ≡ true) (same_Some (mean.reads to region) t e) (reads region))
referred access.Write (Some to) (Some region) t e = (
  to,
  refl,
  λ P reads writes. subst (λ x. P x ≡ true) (same_Some (mean.writes to region) t e)
      (writes region),
)
referred access.Read None r t e = absurd (none-some t e)
referred access.Write None r t e = absurd (none-some t e)
referred access.Read (Some to) None t e = absurd (none-some t e)
referred access.Write (Some to) None t e = absurd (none-some t e)

module _ (opened : List Bytes) (params : List Parameter) (visible : List (Bytes × DeclAt))
    (heads : List (DeclAt × Head)) where
  abbrev Stands : Meaning → Type 0
  Stands t = StandsOver heads params t

  -- ---- what names mean

  -- a sense that is a type stands, and that of a declared type has its row
  abbrev IsFine : Option Sense → Type 0
  IsFine None = Unit {0}
  IsFine (Some (a_type t)) = Stands t
  IsFine (Some a_span) = Unit {0}
  IsFine (Some (a_region region)) = Unit {0}
  IsFine (Some (declared at expected)) = (head : Head) × (head_of heads at ≡ Some head) × (expected ≡ head.params)
  IsFine (Some (a_class at)) = Unit {0}

  fine_or : (first second : Option Sense) → IsFine first → IsFine second → IsFine (option_or first second)
  fine_or None second a b = b
  fine_or (Some sense) second a b = a

  fine_open : (name : Bytes) → IsFine (open_region opened name)
  fine_open name = by (list_any (bytes_eq name) opened)
    where
      by : (b : Bool) → IsFine (if b then Some (a_region (Named name)) else None)
      by true = tt
      by false = tt

  type_parameter : (name : Bytes) (universe : Universe) → universe_in params name ≡ Some universe →
      is_some (of_parameter (Some universe)) ≡ true → Stands (parameter name)
  unfolding is_formed
  type_parameter name universe is some = ap (λ o. is_some (of_parameter o)) is ∙ some

  fine_parameter : (name : Bytes) → IsFine (option_map (parameter_sense name) (universe_in params name))
  fine_parameter name = by (universe_in params name) refl
    where
      by : (o : Option Universe) → universe_in params name ≡ o → IsFine (option_map (parameter_sense name) o)
      by None is = tt
      by (Some universes.Free) is = type_parameter name universes.Free is refl
      by (Some universes.Linear) is = type_parameter name universes.Linear is refl
      by (Some universes.AnyType) is = type_parameter name universes.AnyType is refl
      by (Some universes.Region) is = tt

  abbrev AllFine : List (Bytes × Sense) → Type 0
  AllFine [] = Unit {0}
  AllFine (one ∷ rest) = IsFine (Some one.1) × AllFine rest

  built_in_fine : AllFine built_in
  unfolding is_formed
  built_in_fine = (refl, (refl, (refl, (refl, (refl, (refl, (refl, (refl, (refl, (refl, (refl, (tt, (tt, tt)))))))))))))

  found_fine : (xs : List (Bytes × Sense)) → AllFine xs → (name : Bytes) → IsFine (find name xs)
  found_fine [] fine name = tt
  found_fine (one ∷ rest) fine name = by (bytes_eq name one.0) (found_fine rest fine.1 name)
    where
      by : (b : Bool) → IsFine (find name rest) → IsFine (cond b (Some one.1) (find name rest))
      by true later = fine.0
      by false later = later

  fine_declared : (o : Option DeclAt) → IsFine (option_map (declared_sense heads) o)
  fine_declared None = tt
  fine_declared (Some at) = by (head_of heads at) refl
    where
      by : (o : Option Head) → head_of heads at ≡ o → IsFine (Some (declared_sense heads at))
      by None is = rw is tt
      by (Some head) is = rw is (head, is, refl)

  fine_sense : (name : Bytes) → IsFine (sense_of opened params visible heads name)
  fine_sense name =
      fine_or (open_region opened name)
      (option_or (option_map (parameter_sense name) (universe_in params name))
      (outer_sense visible heads name)) (fine_open name)
      (fine_or (option_map (parameter_sense name) (universe_in params name)) (outer_sense visible heads name)
      (fine_parameter name)
      (fine_or (find name built_in) (option_map (declared_sense heads) (find name visible))
      (found_fine built_in built_in_fine name) (fine_declared (find name visible))))

  -- ---- written types

  text_stands : (o : Option Meaning) (r : Option Region) (t : Meaning) → span_of o r ≡ Some t → Stands t
  unfolding is_formed
  text_stands None r t e = absurd (none-some t e)
  text_stands (Some to) None t e = absurd (none-some t e)
  text_stands (Some to) (Some r) t e = by (same to (mean.integer Nat8) && same_region r Static) e
    where
      by : (b : Bool) → (if b then Some mean.text else None) ≡ Some t → is_formed fits_in_kind heads params t ≡ true
      by true e = subst (λ x. is_formed fits_in_kind heads params x ≡ true) (same_Some mean.text t e) refl
      by false e = absurd (none-some t e)

  type_fits : (u : Universe) → (given : Given) (one : Argument) → argument_meant u given ≡ Some one →
      ((t : Meaning) → given.as_type ≡ Some t → Stands t)
      → (fits_in_kind u one ≡ true) × (argument_formed fits_in_kind heads params one ≡ true)
  unfolding argument_formed
  type_fits universes.Region given one e stands =
      let its = map_some in_region given.as_region one e in (
        subst (λ a. fits_in_kind universes.Region a ≡ true) its.2 refl,
        subst (λ a. argument_formed fits_in_kind heads params a ≡ true) its.2 refl,
      )
  type_fits universes.Free given one e stands =
      let its = map_some of_type given.as_type one e in (
        subst (λ a. fits_in_kind universes.Free a ≡ true) its.2 refl,
        subst (λ a. argument_formed fits_in_kind heads params a ≡ true) its.2 (stands its.0 its.1),
      )
  type_fits universes.Linear given one e stands =
      let its = map_some of_type given.as_type one e in (
        subst (λ a. fits_in_kind universes.Linear a ≡ true) its.2 refl,
        subst (λ a. argument_formed fits_in_kind heads params a ≡ true) its.2 (stands its.0 its.1),
      )
  type_fits universes.AnyType given one e stands =
      let its = map_some of_type given.as_type one e in (
        subst (λ a. fits_in_kind universes.AnyType a ≡ true) its.2 refl,
        subst (λ a. argument_formed fits_in_kind heads params a ≡ true) its.2 (stands its.0 its.1),
      )

  mutual
    unfolding meant all_given is_formed argument_formed all_formed

    pub meant_stands : (w : WrittenType) (t : Meaning) → meant opened params visible heads w ≡ Some t → Stands t
    meant_stands (reference at kind target name) t e =
        let its = referred kind (meant opened params visible heads target)
        (region_of (sense_of opened params visible heads name.name)) t e in
        its.2 (λ x. is_formed fits_in_kind heads params x) (λ q. meant_stands target its.0 its.1)
        (λ q. meant_stands target its.0 its.1)
    meant_stands (named name args) t e = by args (sense_of opened params visible heads name.name)
        (fine_sense name.name) e (λ ps list. arguments_stand ps args list)
      where
        by : (args : WrittenTypes) (o : Option Sense) → IsFine o →
            applied o (all_given opened params visible heads args) ≡ Some t
            → ((ps : List Parameter) (list : Arguments) →
            arguments_meant ps (all_given opened params visible heads args) ≡ Some list →
            (all_fit fits_in_kind ps list ≡ true) × (all_formed fits_in_kind heads params list ≡ true))
            → Stands t
        by args (Some (declared at ps)) fine e each =
            let its = map_some (mean.named at)
            (arguments_meant ps (all_given opened params visible heads args)) t e in
            let parts = each ps its.0 its.1 in
            subst Stands its.2 (and_from (fit_row fits_in_kind (head_of heads at) its.0)
            (all_formed fits_in_kind heads params its.0)
            (ap (λ o. fit_row fits_in_kind o its.0) fine.1
            ∙ sym (ap (λ qs. all_fit fits_in_kind qs its.0) fine.2) ∙ parts.0) parts.1)
        by no_types (Some (a_type to)) fine e each = subst Stands (same_Some to t e) fine
        by (types w rest) (Some (a_type to)) fine e each = absurd (none-some t e)
        by (types of (types region no_types)) (Some a_span) fine e each =
            text_stands (meant opened params visible heads of) (region_meant opened params visible heads region) t e
        by no_types (Some a_span) fine e each = absurd (none-some t e)
        by (types of no_types) (Some a_span) fine e each = absurd (none-some t e)
        by (types of (types region (types other rest))) (Some a_span) fine e each = absurd (none-some t e)
        by args None fine e each = absurd (none-some t e)
        by args (Some (a_region r)) fine e each = absurd (none-some t e)
        by args (Some (a_class at)) fine e each = absurd (none-some t e)

    arguments_stand : (ps : List Parameter) (args : WrittenTypes) (list : Arguments) →
        arguments_meant ps (all_given opened params visible heads args) ≡ Some list
        → (all_fit fits_in_kind ps list ≡ true) × (all_formed fits_in_kind heads params list ≡ true)
    arguments_stand [] no_types list e = (
      subst (λ l. all_fit fits_in_kind [] l ≡ true) (same_Some mean.no_arguments list e) refl,
      subst (λ l. all_formed fits_in_kind heads params l ≡ true) (same_Some mean.no_arguments list e)
          refl,
    )
    arguments_stand [] (types w rest) list e = absurd (none-some list e)
    arguments_stand (p ∷ ps) no_types list e = absurd (none-some list e)
    arguments_stand (p ∷ ps) (types w rest) list e =
        let its = followed_both (argument_meant p.universe
        (record {
          as_type = meant opened params visible heads w;
          as_region =
              region_meant opened params visible heads w;
        }))
        (arguments_meant ps (all_given opened params visible heads rest)) list e in
        let one = type_fits p.universe
        (record {
          as_type = meant opened params visible heads w;
          as_region =
              region_meant opened params visible heads w;
        }) its.0 its.2 (meant_stands w) in
        let others = arguments_stand ps rest its.1 its.3 in (
          subst (λ l. all_fit fits_in_kind (p ∷ ps) l ≡ true) its.4
              (and_from (fits_in_kind p.universe its.0) (all_fit fits_in_kind ps its.1) one.0 others.0),
          subst (λ l. all_formed fits_in_kind heads params l ≡ true) its.4
              (and_from (argument_formed fits_in_kind heads params its.0)
              (all_formed fits_in_kind heads params its.1) one.1 others.1),
        )
