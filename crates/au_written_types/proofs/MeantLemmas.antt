-- What a written type means can be written.
use Rattle.std.proofs.Common.{◌≡◌, ◌⊎◌, inl, inr, Bool, true, false, ◌&&◌, cond, List, [], ◌∷◌, Option, None, Some}
use Rattle.std.proofs.Common.{refl, ap, subst}
use Rattle.std.specs.Prelude.{is_some, if◌then◌else◌}
use Rattle.std.specs.List.{list_any}
use Rattle.std.specs.Option.{option_map, option_or}
use Rattle.std.specs.Str.{bytes_eq}
use Rattle.std.proofs.lemmas.Bool.{and_from}
use Rattle.std.proofs.lemmas.Option.{none-some, same_Some}
use Rattle.au_base.specs.declared.kinds.IntKind.TheVariants.{Nat8}
use Rattle.au_base.proofs.OptionLemmas.{map_some}
use Rattle.au_syntax.specs.declared.declarations.Universe.{Universe}
use Rattle.au_syntax.specs.declared.declarations.Universe.TheVariants as universes
use Rattle.au_syntax.specs.declared.types.Access.{Access}
use Rattle.au_syntax.specs.declared.types.Access.TheVariants as access
use Rattle.au_syntax.specs.Plain.{Bytes}
use Rattle.au_syntax.specs.Types.{WrittenType, WrittenTypes, named, reference, no_types, types}
use Rattle.au_types.specs.Tables.{find}
use Rattle.au_types.specs.declared.headings.Head.{Head}
use Rattle.au_types.specs.declared.parameters.Parameter.{Parameter}
use Rattle.au_types.specs.declared.types.DeclAt.{DeclAt}
use Rattle.au_types.specs.declared.types.Region.{Region}
use Rattle.au_types.specs.declared.types.Region.TheVariants.{Named, Static}
use Rattle.au_types.specs.Rows.{head_of}
use Rattle.au_types.specs.Same.{same, same_region}
use Rattle.au_types.specs.Types as mean
use Rattle.au_types.specs.Types.{Meaning, Argument, Arguments, of_type, in_region, parameter}
use Rattle.au_types.specs.Universes.{universe_in}
use Rattle.au_matching.specs.Substituted.{EachName, EachNameOf, EachNameOfAll, OfRegion}
use Rattle.au_matching.specs.Universes.{of_parameter}
use Rattle.au_types.specs.Meant.{Given, all_given, applied, argument_meant, arguments_meant, meant}
use Rattle.au_types.specs.Meant.{refers, region_meant, region_of, span_of}
use Rattle.au_types.specs.Senses.{Sense, a_class, a_region, a_span, a_type, built_in, declared}
use Rattle.au_types.specs.Senses.{declared_sense, open_region, outer_sense, parameter_sense, sense_of}
use Rattle.au_types.proofs.MeantLemmas.{followed_both}
use Rattle.au_running_types.specs.Running.{is_lasting, is_lasting_region, argument_lasting, are_lasting}
use Rattle.au_written_types.specs.Written.{IsRegionName, IsTypeName, IsWritten}

-- ---- references

referred : (kind : Access) (o : Option Meaning) (r : Option Region) (t : Meaning) → refers kind o r ≡ Some t →
    (to : Meaning) × (region : Region) × (o ≡ Some to) × (r ≡ Some region)
    × ((mean.reads to region ≡ t) ⊎ (mean.writes to region ≡ t))
referred access.Read (Some to) (Some region) t e =
    (to, region, refl, refl, inl (same_Some (mean.reads to region) t e))
referred access.Write (Some to) (Some region) t e =
    (to, region, refl, refl, inr (same_Some (mean.writes to region) t e))
referred access.Read None r t e = absurd (none-some t e)
referred access.Write None r t e = absurd (none-some t e)
referred access.Read (Some to) None t e = absurd (none-some t e)
referred access.Write (Some to) None t e = absurd (none-some t e)

module _ (opened : List Bytes) (params : List Parameter) where
  abbrev Written : Meaning → Type 0
  Written t = IsWritten opened params t

  -- the same of regions and of arguments
  abbrev RegionWritten : Region → Type 0
  RegionWritten region = (is_lasting_region region ≡ true) × OfRegion (IsRegionName opened params) region

  abbrev ArgumentWritten : Argument → Type 0
  ArgumentWritten one =
      (argument_lasting one ≡ true) × EachNameOf (IsTypeName params) (IsRegionName opened params) one

  abbrev AllWritten : Arguments → Type 0
  AllWritten args =
      (are_lasting args ≡ true) × EachNameOfAll (IsTypeName params) (IsRegionName opened params) args

  reads_written : (to : Meaning) (region : Region) → Written to → RegionWritten region → Written (mean.reads to region)
  reads_written to region a b = record {
    lasting = and_from (is_lasting to) (is_lasting_region region) a.lasting b.0;
    names = (a.names, b.1);
  }

  writes_written : (to : Meaning) (region : Region) → Written to → RegionWritten region → Written (mean.writes to region)
  writes_written to region a b = record {
    lasting = and_from (is_lasting to) (is_lasting_region region) a.lasting b.0;
    names = (a.names, b.1);
  }

  plain_written : (t : Meaning) → is_lasting t ≡ true → EachName (IsTypeName params) (IsRegionName opened params) t
      → Written t
  plain_written t lasts names = record { lasting = lasts; names = names }

  module _ (visible : List (Bytes × DeclAt)) (heads : List (DeclAt × Head)) where
    -- ---- what names mean

    abbrev IsFine : Option Sense → Type 0
    IsFine None = Unit {0}
    IsFine (Some (a_type t)) = Written t
    IsFine (Some a_span) = Unit {0}
    IsFine (Some (a_region region)) = RegionWritten region
    IsFine (Some (declared at expected)) = Unit {0}
    IsFine (Some (a_class at)) = Unit {0}

    fine_or : (first second : Option Sense) → IsFine first → IsFine second → IsFine (option_or first second)
    fine_or None second a b = b
    fine_or (Some sense) second a b = a

    fine_open : (name : Bytes) → IsFine (open_region opened name)
    fine_open name = by (list_any (bytes_eq name) opened) refl
      where
        by : (b : Bool) → list_any (bytes_eq name) opened ≡ b → IsFine (if b then Some (a_region (Named name)) else None)
        by true e = (refl, inl e)
        by false e = tt

    fine_parameter : (name : Bytes) → IsFine (option_map (parameter_sense name) (universe_in params name))
    fine_parameter name = by (universe_in params name) refl
      where
        by : (o : Option Universe) → universe_in params name ≡ o → IsFine (option_map (parameter_sense name) o)
        by None is = tt
        by (Some universes.Free) is = plain_written (parameter name) refl (ap (λ o. is_some (of_parameter o)) is)
        by (Some universes.Linear) is = plain_written (parameter name) refl (ap (λ o. is_some (of_parameter o)) is)
        by (Some universes.AnyType) is = plain_written (parameter name) refl (ap (λ o. is_some (of_parameter o)) is)
        by (Some universes.Region) is = (refl, inr is)

    abbrev AllFine : List (Bytes × Sense) → Type 0
    AllFine [] = Unit {0}
    AllFine (one ∷ rest) = IsFine (Some one.1) × AllFine rest

    simple : (kind : _) → Written (mean.integer kind)
    simple kind = plain_written (mean.integer kind) refl tt

    built_in_fine : AllFine built_in
    built_in_fine = (
      plain_written mean.unit refl tt,
      (
        plain_written mean.truth refl tt,
        (
          simple _,
          (
            simple _,
            (
              simple _,
              (simple _, (simple _, (simple _, (simple _, (simple _, (simple _, (tt, ((refl, tt), tt)))))))),
            ),
          ),
        ),
      ),
    )

    found_fine : (xs : List (Bytes × Sense)) → AllFine xs → (name : Bytes) → IsFine (find name xs)
    found_fine [] fine name = tt
    found_fine (one ∷ rest) fine name = by (bytes_eq name one.0) (found_fine rest fine.1 name)
      where
        by : (b : Bool) → IsFine (find name rest) → IsFine (cond b (Some one.1) (find name rest))
        by true later = fine.0
        by false later = later

    fine_declared : (o : Option DeclAt) → IsFine (option_map (declared_sense heads) o)
    fine_declared None = tt
    fine_declared (Some at) = by (head_of heads at) refl
      where
        by : (o : Option Head) → head_of heads at ≡ o → IsFine (Some (declared_sense heads at))
        by None is = rw is tt
        by (Some head) is = rw is tt

    fine_sense : (name : Bytes) → IsFine (sense_of opened params visible heads name)
    fine_sense name =
        fine_or (open_region opened name)
        (option_or (option_map (parameter_sense name) (universe_in params name))
        (outer_sense visible heads name)) (fine_open name)
        (fine_or (option_map (parameter_sense name) (universe_in params name)) (outer_sense visible heads name)
        (fine_parameter name)
        (fine_or (find name built_in) (option_map (declared_sense heads) (find name visible))
        (found_fine built_in built_in_fine name) (fine_declared (find name visible))))

    region_fine : (o : Option Sense) (region : Region) → IsFine o → region_of o ≡ Some region → RegionWritten region
    region_fine (Some (a_region r)) region fine e = subst RegionWritten (same_Some r region e) fine
    region_fine None region fine e = absurd (none-some region e)
    region_fine (Some (a_type t)) region fine e = absurd (none-some region e)
    region_fine (Some a_span) region fine e = absurd (none-some region e)
    region_fine (Some (declared at ps)) region fine e = absurd (none-some region e)
    region_fine (Some (a_class at)) region fine e = absurd (none-some region e)

    region_written : (w : WrittenType) (region : Region) → region_meant opened params visible heads w ≡ Some region
        → RegionWritten region
    region_written (named name no_types) region e =
        region_fine (sense_of opened params visible heads name.name) region (fine_sense name.name) e
    region_written (named name (types w rest)) region e = absurd (none-some region e)
    region_written (reference at kind target name) region e = absurd (none-some region e)

    -- ---- written types

    text_written : (o : Option Meaning) (r : Option Region) (t : Meaning) → span_of o r ≡ Some t → Written t
    text_written None r t e = absurd (none-some t e)
    text_written (Some to) None t e = absurd (none-some t e)
    text_written (Some to) (Some r) t e = by (same to (mean.integer Nat8) && same_region r Static) e
      where
        by : (b : Bool) → (if b then Some mean.text else None) ≡ Some t → Written t
        by true e = subst Written (same_Some mean.text t e) (plain_written mean.text refl tt)
        by false e = absurd (none-some t e)

    type_argument : (o : Option Meaning) (one : Argument) → option_map of_type o ≡ Some one
        → ((t : Meaning) → o ≡ Some t → Written t) → ArgumentWritten one
    type_argument o one e written =
        let its = map_some of_type o one e in
        let is = written its.0 its.1 in
        subst ArgumentWritten its.2 (is.lasting, is.names)

    region_argument : (o : Option Region) (one : Argument) → option_map in_region o ≡ Some one
        → ((r : Region) → o ≡ Some r → RegionWritten r) → ArgumentWritten one
    region_argument o one e written =
        let its = map_some in_region o one e in
        subst ArgumentWritten its.2 (written its.0 its.1)

    argument_written : (u : Universe) (given : Given) (one : Argument) → argument_meant u given ≡ Some one
        → ((t : Meaning) → given.as_type ≡ Some t → Written t)
        → ((r : Region) → given.as_region ≡ Some r → RegionWritten r) → ArgumentWritten one
    argument_written universes.Region given one e t r = region_argument given.as_region one e r
    argument_written universes.Free given one e t r = type_argument given.as_type one e t
    argument_written universes.Linear given one e t r = type_argument given.as_type one e t
    argument_written universes.AnyType given one e t r = type_argument given.as_type one e t

    -- what a written type gives as an argument
    abbrev given : WrittenType → Given
    given w = record {
      as_type = meant opened params visible heads w;
      as_region = region_meant opened params visible heads w;
    }

    mutual
      unfolding meant all_given

      pub meant_written : (w : WrittenType) (t : Meaning) → meant opened params visible heads w ≡ Some t → Written t
      meant_written (reference at kind target name) t e =
          on (referred kind (meant opened params visible heads target)
          (region_of (sense_of opened params visible heads name.name)) t e) (λ to is. meant_written target to is)
        where
          last : (to : Meaning) (region : Region) → Written to → RegionWritten region
              → (mean.reads to region ≡ t) ⊎ (mean.writes to region ≡ t) → Written t
          last to region a b (inl is) = subst Written is (reads_written to region a b)
          last to region a b (inr is) = subst Written is (writes_written to region a b)

          on : (to : Meaning) × (region : Region) × (meant opened params visible heads target ≡ Some to)
              × (region_of (sense_of opened params visible heads name.name) ≡ Some region)
              × ((mean.reads to region ≡ t) ⊎ (mean.writes to region ≡ t))
              → ((to : Meaning) → meant opened params visible heads target ≡ Some to → Written to) → Written t
          on (to, region, is, its, which) written =
              last to region (written to is)
              (region_fine (sense_of opened params visible heads name.name) region (fine_sense name.name) its) which
      meant_written (named name args) t e = by args (sense_of opened params visible heads name.name)
          (fine_sense name.name) e (λ ps list. arguments_written ps args list)
        where
          by : (args : WrittenTypes) (o : Option Sense) → IsFine o →
              applied o (all_given opened params visible heads args) ≡ Some t
              → ((ps : List Parameter) (list : Arguments) →
              arguments_meant ps (all_given opened params visible heads args) ≡ Some list → AllWritten list)
              → Written t
          by args (Some (declared at ps)) fine e each =
              let its = map_some (mean.named at)
              (arguments_meant ps (all_given opened params visible heads args)) t e in
              let all = each ps its.0 its.1 in
              subst Written its.2 (plain_written (mean.named at its.0) all.0 all.1)
          by no_types (Some (a_type to)) fine e each = subst Written (same_Some to t e) fine
          by (types w rest) (Some (a_type to)) fine e each = absurd (none-some t e)
          by (types of (types region no_types)) (Some a_span) fine e each =
              text_written (meant opened params visible heads of) (region_meant opened params visible heads region) t e
          by no_types (Some a_span) fine e each = absurd (none-some t e)
          by (types of no_types) (Some a_span) fine e each = absurd (none-some t e)
          by (types of (types region (types other rest))) (Some a_span) fine e each = absurd (none-some t e)
          by args None fine e each = absurd (none-some t e)
          by args (Some (a_region r)) fine e each = absurd (none-some t e)
          by args (Some (a_class at)) fine e each = absurd (none-some t e)

      arguments_written : (ps : List Parameter) (args : WrittenTypes) (list : Arguments) →
          arguments_meant ps (all_given opened params visible heads args) ≡ Some list → AllWritten list
      arguments_written [] no_types list e = subst AllWritten (same_Some mean.no_arguments list e) (refl, tt)
      arguments_written [] (types w rest) list e = absurd (none-some list e)
      arguments_written (p ∷ ps) no_types list e = absurd (none-some list e)
      arguments_written (p ∷ ps) (types w rest) list e =
          let its = followed_both (argument_meant p.universe (given w))
          (arguments_meant ps (all_given opened params visible heads rest)) list e in
          let one = argument_written p.universe (given w) its.0 its.2 (λ t is. meant_written w t is)
          (λ r is. region_written w r is) in
          let others = arguments_written ps rest its.1 its.3 in
          subst AllWritten its.4
          (and_from (argument_lasting its.0) (are_lasting its.1) one.0 others.0, (one.1, others.1))
