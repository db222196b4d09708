-- What is known round a body of a checked program, put together.
use Rattle.std.proofs.Common.{◌≡◌, ℕ, Bool, true, false, true≢false, cond, List, [], map, Option, None, Some, refl, sym}
use Rattle.std.proofs.Common.{◌∙◌, subst}
use Rattle.std.specs.Prelude.{slice_get}
use Rattle.std.specs.Str.{bytes_eq}
use Rattle.std.proofs.lemmas.Bool.{and_parts}
use Rattle.std.proofs.lemmas.Option.{none-some}
use Rattle.au_base.proofs.OptionLemmas.{map_some}
use Rattle.au_syntax.specs.declared.modules.Part.TheVariants.{Body}
use Rattle.au_syntax.specs.Plain.{Bytes}
use Rattle.au_syntax.specs.Types.{Labelled}
use Rattle.au_types.specs.declared.headings.Head.{Head}
use Rattle.au_types.specs.declared.parameters.Parameter.{Parameter}
use Rattle.au_types.specs.declared.types.DeclAt.{DeclAt}
use Rattle.au_types.specs.declared.types.Region.{Region}
use Rattle.au_types.specs.Rows.{head_of}
use Rattle.au_types.specs.Types.{Meaning, Arguments, in_region, named, of_type}
use Rattle.au_matching.specs.Bindings.{Bindings, value_of, with_pair}
use Rattle.au_matching.proofs.BindingLemmas.{value_of-with}
use Rattle.au_matching.specs.Forming.{all_fit, all_formed, fit_row, fits, is_formed}
use Rattle.au_judged_types.specs.Bounds.{Bounded, parameters}
use Rattle.au_instances.specs.Instances.{Holds}
use Rattle.au_classes.specs.Rows.{rows_of}
use Rattle.au_running_types.specs.Running.{token}
use Rattle.au_type_texts.specs.Given.{Given}
use Rattle.au_type_texts.specs.Types.{ClosedType}
use Rattle.au_modules.specs.Programs.{ModuleParts}
use Rattle.au_names.specs.HeadsOf.{heads_of}
use Rattle.au_names.specs.Standing.{Standing, definition_of, standing_at}
use Rattle.au_promises.specs.Mentions.{type_parameters}
use Rattle.au_judged_bodies.specs.Instances.{Instance}
use Rattle.au_judged_bodies.specs.Insides.{cases_defined, cases_of, fields_under, known_definition, typed_under, with_arguments}
use Rattle.au_judged_bodies.specs.Outsides.{outside_of}
use Rattle.au_judged_bodies.specs.Scopes.{Case, Typed}
use Rattle.au_judged_bodies.specs.Trees.{NotedParts}
use Rattle.au_judged_bodies.specs.Written.{all_typed, types_at}
use Rattle.au_judged_bodies.specs.Tables.{DefinitionsFit, cases_written, types_of}
use Rattle.au_judged_bodies.proofs.MadeLemmas.{cases_good}
use Rattle.au_judged_bodies.specs.Generic.{view_under}
use Rattle.au_judged_bodies.specs.KnownTypes.Known.{EachIsKnown, IsKnown, OutsideIsKnown}
use Rattle.au_judged_bodies.proofs.KnownLemmas.{named_parts}
use Rattle.au_known_programs.proofs.OutsideLemmas.{fields_declared, fields_known, good_formed, outside_known}
use Rattle.au_judged_bodies.specs.Known.{Callables}
use Rattle.au_judged_bodies.proofs.RecordLemmas.{known_defined}
use Rattle.au_judged_bodies.specs.StandingTypesStanding.{StandsFor}
use Rattle.au_judged_bodies.proofs.FieldLemmas.{fields_last}
use Rattle.au_judged_bodies.proofs.StandingTypesStandLemmas.{free_runs, reader_free, region_opens}
use Rattle.au_judged_bodies.proofs.SeenLemmas.{union_case}
use Rattle.au_judged_bodies.specs.Views.{DefinitionsAreApart, EachCaseIsKnown}
use Rattle.au_judged_bodies.proofs.ViewLemmas.{record_viewed, union_viewed}
use Rattle.au_judged_bodies.specs.Keys.{ConstraintsHold}
use Rattle.au_judged_bodies.specs.Rounds.{RoundFits}
use Rattle.au_judged_programs.specs.CheckedChecked.{IsChecked}
use Rattle.au_judged_programs.proofs.DefinitionLemmas.{definitions_fit}
use Rattle.au_judged_programs.proofs.FitLemmas.{declarations_fit, definitions_apart}
use Rattle.au_judged_programs.specs.RoundProgramsBodies.{AreGoodHere, CallsRunHere, ConstantsStand}

-- ---- the fields of cases are known

module _ (program : List ModuleParts) (fit : DefinitionsFit program) (params : List Parameter) (regions : List Bytes)
  where
    abbrev heads : List (DeclAt × Head)
    heads = heads_of program

    case_known : (at : DeclAt) (args : Arguments) (d : Standing) → definition_of program at ≡ Some d
        → IsKnown heads params regions (named at args) → (tag : ℕ) (written : List (Labelled Bytes)) (fields : List Typed)
        → slice_get (cases_written d.says) tag ≡ Some written
        → fields_under program d (type_parameters d.says) args written ≡ Some fields
        → EachIsKnown heads params regions fields
    unfolding is_formed
    case_known at args d defined whole tag written fields listed e =
        by (head_of heads at) refl
        (and_parts (fit_row (fits heads params) (head_of heads at) args)
        (all_formed (fits heads params) heads params args)
        whole.0).0
      where
        by : (o : Option Head) → head_of (heads_of program) at ≡ o
            → fit_row (fits (heads_of program) params) o args ≡ true
            → EachIsKnown (heads_of program) params regions fields
        by None has fitted = absurd (true≢false (sym fitted))
        by (Some head) has fitted =
            let same : head.params ≡ type_parameters d.says = fit.parameters at d head defined has in
            let its = map_some (map (typed_under (with_arguments (type_parameters d.says) args)))
            (all_typed program d (type_parameters d.says) written) fields e in
            let good = cases_good (types_at program d.place d.part) (heads_of program) d.says (fit.made at d defined) tag
            written listed in
            subst (EachIsKnown (heads_of program) params regions) its.2
            (fields_known program params regions (type_parameters d.says) args
            (subst (λ qs. all_fit (fits (heads_of program) params) qs args ≡ true) same fitted)
            (named_parts (heads_of program) params regions at args whole) its.0
            (fields_declared program d (type_parameters d.says) written its.0
            (good_formed program params regions d (type_parameters d.says) good.0.universe written good.3) its.1))

    module _ (given : Given) (s : Bindings) (stands : StandsFor (heads_of program) params given s) where
      cases_known : (place : ℕ) (t : Meaning) (cases : List Case) → IsKnown heads params regions t
          → cases_of program place t ≡ Some cases → EachCaseIsKnown program params regions cases
      cases_known place (named at args) cases whole e tag one there = by (known_definition program place at) refl e
        where
          by : (o : Option Standing) → known_definition program place at ≡ o → cases_defined program args o ≡ Some cases
              → EachIsKnown (heads_of program) params regions one.fields
          by None is e = absurd (none-some cases e)
          by (Some d) is e =
              let its = union_case program fit params regions given s stands d args d.says refl cases e tag one there in
              case_known at args d (known_defined program place at (standing_at program at) d is) whole tag its.0
              one.fields
              its.1 its.2
      cases_known place other cases whole e tag one there = absurd (none-some cases e)

-- ---- constraints

-- constraints still hold where a region is opened
constraints_kept : (program : List ModuleParts) (generics : List Bounded) (region : Bytes) (to : Region) (s : Bindings)
    → ConstraintsHold program generics s → ConstraintsHold program generics (with_pair region (in_region to) s)
constraints_kept program generics region to s holds name class value c e =
    by (bytes_eq name region) refl (sym (value_of-with name region (in_region to) s) ∙ e)
  where
    by : (b : Bool) → bytes_eq name region ≡ b
        → cond b (Some (in_region to)) (value_of name s) ≡ Some (of_type value)
        → Holds (rows_of program) (heads_of program) [] [] class value
    by true is e = absurd cc
    by false is e = holds name class value c e

-- ---- what is known round a body

module _ (program : List ModuleParts) (noted : List NotedParts) (place : ℕ) (generics : List Bounded) (given : Given)
    (owner : ClosedType → Option (List ℕ)) {K : Type 0} (known : Callables Instance K) (may_hand : Meaning → Type 0)
  where
    pub round_fits : IsChecked program noted → ConstantsStand program noted place generics given
        → CallsRunHere program noted place generics given owner known may_hand
        → RoundFits (types_of program) owner (view_under program noted place (parameters generics) given) known
        may_hand (outside_of program place Body) generics given (AreGoodHere program noted place generics given)
    round_fits checked constants calls = record {
      noted = λ n. refl;
      readers = λ t region. reader_free program t region;
      free = λ s regions z t stands whole free. free_runs program (parameters generics) regions given s z t stands.0
          whole free;
      copied = λ s regions z n stands whole free.
          free_runs program (parameters generics) regions given s z n.of stands.0 whole free;
      constants = λ s z name t n stands e. constants.values s z name t n e;
      wholes = λ name t e. constants.wholes name t e;
      records = λ s regions z t fields stands whole e.
          record_viewed program noted fit apart place (parameters generics) regions given s z stands.0 t fields whole
          (outside.fields (parameters generics) regions t fields e whole) e;
      unions = λ s regions z t cases stands whole e.
          union_viewed program noted fit apart place (parameters generics) regions given s z stands.0 t cases whole
          (cases_known program fit (parameters generics) regions given s stands.0 place t cases whole e) e;
      last = λ t fields e last i one is. fields_last program place t fields e last i one is;
      opens = λ s region z stands new. (
        region_opens (heads_of program) (parameters generics) given s region z stands.0 new,
        constraints_kept program generics region (token z) s stands.1,
      );
      calls = λ names active sc scope s z same alike stands fits.
          calls names active sc scope s z same alike stands.0 stands.1 fits;
    }
      where
        fit : DefinitionsFit program
        fit = definitions_fit program checked.gathered checked.named checked.kept checked.declared

        apart : DefinitionsAreApart program
        apart = definitions_apart program noted checked

        outside : OutsideIsKnown (outside_of program place Body)
        outside = outside_known program fit (declarations_fit program noted checked) place Body
