-- The fields of a type where it runs are those of the written type, where they run.
use Rattle.std.proofs.Common.{◌≡◌, inl, inr, ℕ, true, true≢false, List, [], ◌∷◌, map, Option, None}
use Rattle.std.proofs.Common.{Some, refl, sym, ap, ◌∙◌, subst}
use Rattle.std.specs.Prelude.{if◌then◌else◌, is_some, option_and_then}
use Rattle.std.specs.Option.{option_map}
use Rattle.std.proofs.lemmas.Bool.{and_parts}
use Rattle.std.proofs.lemmas.Option.{none-some, same_Some}
use Rattle.au_base.proofs.OptionLemmas.{map_some}
use Rattle.au_syntax.specs.declared.declarations.Universe.{Universe}
use Rattle.au_syntax.specs.declared.declarations.Universe.TheVariants as universes
use Rattle.au_syntax.specs.Plain.{Bytes}
use Rattle.au_syntax.specs.Types.{Labelled}
use Rattle.au_types.specs.declared.headings.Head.{Head}
use Rattle.au_types.specs.declared.parameters.Parameter.{Parameter}
use Rattle.au_types.specs.declared.types.DeclAt.{DeclAt}
use Rattle.au_types.specs.declared.types.Region.{Region}
use Rattle.au_types.specs.declared.types.Region.TheVariants.{Static, Named, Anonymous}
use Rattle.au_types.specs.Rows.{head_of}
use Rattle.au_types.specs.Types.{Meaning, Argument, Arguments, unit, truth, integer, text, parameter, named}
use Rattle.au_types.specs.Types.{reads, writes, of_type, in_region, no_arguments, arguments}
use Rattle.au_types.specs.Universes.{universe_in}
use Rattle.au_matching.specs.Bindings.{Bindings, GivesRegion, GivesType, value_of}
use Rattle.au_matching.specs.Fitting.{BindingsAreWellFormed}
use Rattle.au_matching.specs.Forming.{IsWellFormed, all_fit, all_formed, fit_row, fits_in_kind, is_formed}
use Rattle.au_matching.specs.Substituted.{Fixes, all_substituted, argument_substituted, region_substituted, substituted}
use Rattle.au_matching.specs.Universes.{of_parameter}
use Rattle.au_matching.proofs.LawLemmas.{well_formed_stands}
use Rattle.au_matching.proofs.SubstitutedLemmas.{each_so}
use Rattle.au_running_types.specs.Running.{Runs, all_running, are_lasting, argument_lasting, argument_running, is_lasting}
use Rattle.au_running_types.specs.Running.{is_lasting_region, region_running, running}
use Rattle.au_running_types.proofs.NameLemmas.{more_run, type_called}
use Rattle.au_running_types.proofs.UniverseLemmas.{formation_stays}
use Rattle.au_written_types.specs.Written.{IsRegionName, IsTypeName, IsWritten}
use Rattle.au_written_types.proofs.MeantLemmas.{meant_written}
use Rattle.au_modules.specs.Programs.{ModuleParts}
use Rattle.au_names.specs.HeadsOf.{heads_of}
use Rattle.au_names.specs.Standing.{Standing, definition_of}
use Rattle.au_promises.specs.Mentions.{type_parameters}
use Rattle.au_typing.specs.Insides.{fields_under, typed_under, with_arguments}
use Rattle.au_typing.specs.Scopes.{Typed}
use Rattle.au_typing.specs.Written.{all_typed, meant_in, typed, types_at}
use Rattle.au_tables.specs.Tables.{DefinitionsFit, case_fields, defined_fields, field_types, fields_in}
use Rattle.au_tables.proofs.ArgumentLemmas.{AllPass, argument_given}
use Rattle.au_tables.proofs.LawfulLemmas.{HasCase, case_has, followed_is}

-- ---- without `~`, running is substituting

module _ (s : Bindings) (z : ℕ) where
  region_substitutes : (region : Region) → is_lasting_region region ≡ true
      → region_running s z region ≡ region_substituted s region
  region_substitutes Static lasts = refl
  region_substitutes (Named name) lasts = refl
  region_substitutes Anonymous lasts = absurd (true≢false (sym lasts))

  mutual
    pub lasting_substitutes : (t : Meaning) → is_lasting t ≡ true → running s z t ≡ substituted s t
    lasting_substitutes unit lasts = refl
    lasting_substitutes truth lasts = refl
    lasting_substitutes (integer kind) lasts = refl
    lasting_substitutes text lasts = refl
    lasting_substitutes (parameter name) lasts = refl
    lasting_substitutes (named of args) lasts = ap (named of) (all_substitute args lasts)
    lasting_substitutes (reads to region) lasts =
        let both = and_parts (is_lasting to) (is_lasting_region region) lasts in
        λ i. reads (lasting_substitutes to both.0 i) (region_substitutes region both.1 i)
    lasting_substitutes (writes to region) lasts =
        let both = and_parts (is_lasting to) (is_lasting_region region) lasts in
        λ i. writes (lasting_substitutes to both.0 i) (region_substitutes region both.1 i)

    argument_substitutes : (one : Argument) → argument_lasting one ≡ true
        → argument_running s z one ≡ argument_substituted s one
    argument_substitutes (of_type t) lasts = ap of_type (lasting_substitutes t lasts)
    argument_substitutes (in_region region) lasts = ap in_region (region_substitutes region lasts)

    all_substitute : (args : Arguments) → are_lasting args ≡ true → all_running s z args ≡ all_substituted s args
    all_substitute no_arguments lasts = refl
    all_substitute (arguments one rest) lasts =
        let both = and_parts (argument_lasting one) (are_lasting rest) lasts in
        λ i. arguments (argument_substitutes one both.0 i) (all_substitute rest both.1 i)

-- ---- arguments

module _ (s : Bindings) (z : ℕ) where
  pub arguments_run : (ps : List Parameter) (args : Arguments)
      → Runs s z (with_arguments ps args) (with_arguments ps (all_running s z args))
  arguments_run [] args name = refl
  arguments_run (p ∷ ps) no_arguments name = refl
  arguments_run (p ∷ ps) (arguments one rest) name =
      more_run s (with_arguments ps rest) (with_arguments ps (all_running s z rest)) z p.name one
      (arguments_run ps rest) name

-- arguments that fit in kind give each name of a type that is written over their parameters what it wants
module _ (ps : List Parameter) (args : Arguments) (fit : all_fit fits_in_kind ps args ≡ true) where
  all_well : (list : Arguments) → AllPass fits_in_kind (λ one. Unit {0}) list
  all_well no_arguments = tt
  all_well (arguments one rest) = (tt, all_well rest)

  type_given : (universe : Universe) (value : Argument) (name : List ℕ)
      → is_some (of_parameter (Some universe)) ≡ true → fits_in_kind universe value ≡ true
      → value_of name (with_arguments ps args) ≡ Some value → GivesType (with_arguments ps args) name
  type_given universe (of_type t) name some kind is = (t, is)
  type_given universes.Free (in_region r) name some kind is = absurd (true≢false (sym kind))
  type_given universes.Linear (in_region r) name some kind is = absurd (true≢false (sym kind))
  type_given universes.AnyType (in_region r) name some kind is = absurd (true≢false (sym kind))
  type_given universes.Region (in_region r) name some kind is = absurd (true≢false (sym some))

  region_given : (value : Argument) (name : List ℕ) → fits_in_kind universes.Region value ≡ true
      → value_of name (with_arguments ps args) ≡ Some value → GivesRegion (with_arguments ps args) name
  region_given (in_region r) name kind is = (r, is)
  region_given (of_type t) name kind is = absurd (true≢false (sym kind))

  types_given : (name : List ℕ) → IsTypeName ps name → GivesType (with_arguments ps args) name
  types_given name some = by (universe_in ps name) refl some
    where
      by : (o : Option Universe) → universe_in ps name ≡ o → is_some (of_parameter o) ≡ true
          → GivesType (with_arguments ps args) name
      by None is some = absurd (true≢false (sym some))
      by (Some universe) is some =
          let its = argument_given fits_in_kind (λ one. Unit {0}) ps args fit (all_well args) name universe is in
          type_given universe its.0 name some its.2 its.1

  regions_given : (name : List ℕ) → IsRegionName [] ps name → GivesRegion (with_arguments ps args) name
  regions_given name (inl e) = absurd (true≢false (sym e))
  regions_given name (inr e) =
      let its = argument_given fits_in_kind (λ one. Unit {0}) ps args fit (all_well args) name universes.Region e in
      region_given its.0 name its.2 its.1

  pub written_fixed : (t : Meaning) → IsWritten [] ps t → Fixes (with_arguments ps args) t
  written_fixed t is =
      each_so (IsTypeName ps) (GivesType (with_arguments ps args)) (IsRegionName [] ps)
      (GivesRegion (with_arguments ps args)) types_given regions_given t is.names

-- ---- fields

module _ (program : List ModuleParts) (s : Bindings) (z : ℕ) where
  -- a type that is written over type parameters, where these have such arguments
  under_runs : (ps : List Parameter) (args : Arguments) → all_fit fits_in_kind ps args ≡ true → (t : Meaning)
      → IsWritten [] ps t
      → substituted (with_arguments ps (all_running s z args)) t ≡ running s z (substituted (with_arguments ps args) t)
  under_runs ps args fit t is =
      sym (lasting_substitutes (with_arguments ps (all_running s z args)) z t is.lasting)
      ∙ type_called s (with_arguments ps args) (with_arguments ps (all_running s z args)) z z
      (arguments_run s z ps args) t is.lasting (written_fixed ps args fit t is)

  kinds_run : (d : Standing) (ps : List Parameter) (args : Arguments) → all_fit fits_in_kind ps args ≡ true
      → (written : List (Labelled Bytes)) (kinds : List Typed) → all_typed program d ps written ≡ Some kinds
      → field_types (map (typed_under (with_arguments ps (all_running s z args))) kinds)
      ≡ map (running s z) (field_types (map (typed_under (with_arguments ps args)) kinds))
  kinds_run d ps args fit [] kinds e =
      subst (λ ks. field_types (map (typed_under (with_arguments ps (all_running s z args))) ks)
      ≡ map (running s z) (field_types (map (typed_under (with_arguments ps args)) ks))) (same_Some [] kinds e) refl
  kinds_run d ps args fit (one ∷ rest) kinds e =
      on (followed_is (typed program d ps one) (all_typed program d ps rest) kinds e)
      (λ others its. kinds_run d ps args fit rest others its)
    where
      on : (x : Typed) × (others : List Typed) × (typed program d ps one ≡ Some x)
          × (all_typed program d ps rest ≡ Some others) × (x ∷ others ≡ kinds)
          → ((others : List Typed) → all_typed program d ps rest ≡ Some others
          → field_types (map (typed_under (with_arguments ps (all_running s z args))) others)
          ≡ map (running s z) (field_types (map (typed_under (with_arguments ps args)) others)))
          → field_types (map (typed_under (with_arguments ps (all_running s z args))) kinds)
          ≡ map (running s z) (field_types (map (typed_under (with_arguments ps args)) kinds))
      on (x, others, is, its, all) later =
          let from = map_some (λ t. record { name = one.name.name; of = t }) (meant_in program d ps one.of) x is in
          let written : IsWritten [] ps x.of =
          subst (IsWritten [] ps) (ap (λ (y : Typed). y.of) from.2)
          (meant_written [] ps (types_at program d.place d.part) (heads_of program) one.of from.0 from.1) in
          subst (λ ks. field_types (map (typed_under (with_arguments ps (all_running s z args))) ks)
          ≡ map (running s z) (field_types (map (typed_under (with_arguments ps args)) ks))) all
          (λ i. under_runs ps args fit x.of written i ∷ later others its i)

  case_runs : (d : Standing) (args : Arguments) (tag : ℕ) (of : List Meaning)
      → all_fit fits_in_kind (type_parameters d.says) args ≡ true → HasCase program args tag of d
      → case_fields program (all_running s z args) tag d ≡ Some (map (running s z) of)
  case_runs d args tag of fit has =
      ap (option_and_then (λ (fields : List (Labelled Bytes)).
      option_map field_types (fields_under program d (type_parameters d.says) (all_running s z args) fields))) has.listed
      ∙ ap (λ o. option_map field_types
      (option_map (map (typed_under (with_arguments (type_parameters d.says) (all_running s z args)))) o)) has.mean
      ∙ ap (λ (all : List Meaning). Some all) (kinds_run d (type_parameters d.says) args fit has.written has.kinds has.mean)
      ∙ ap (λ (all : List Meaning). Some (map (running s z) all)) has.are

  module _ (fit : DefinitionsFit program) where
    pub fields_running : (params : List Parameter) (at : DeclAt) (args : Arguments) (tag : ℕ) (of : List Meaning)
        → BindingsAreWellFormed (heads_of program) params [] s
        → IsWellFormed (heads_of program) params (named at args)
        → defined_fields program args tag (definition_of program at) ≡ Some of
        → fields_in program (running s z (named at args)) tag ≡ Some (map (running s z) of)
    unfolding is_formed
    fields_running params at args tag of good well e =
        ap (λ b. if b then defined_fields program (all_running s z args) tag (definition_of program at) else None)
        (formation_stays (heads_of program) params [] s z (named at args) good well)
        ∙ by (definition_of program at) refl e
      where
        stands : fit_row fits_in_kind (head_of (heads_of program) at) args ≡ true
        stands = (and_parts (fit_row fits_in_kind (head_of (heads_of program) at) args)
            (all_formed fits_in_kind (heads_of program) params args)
            (well_formed_stands (heads_of program) params (named at args) well)).0

        on : (d : Standing) → definition_of program at ≡ Some d → (o : Option Head)
            → head_of (heads_of program) at ≡ o → fit_row fits_in_kind o args ≡ true
            → all_fit fits_in_kind (type_parameters d.says) args ≡ true
        on d is None row fits_row = absurd (true≢false (sym fits_row))
        on d is (Some head) row fits_row =
            subst (λ ps. all_fit fits_in_kind ps args ≡ true) (fit.parameters at d head is row) fits_row

        by : (o : Option Standing) → definition_of program at ≡ o → defined_fields program args tag o ≡ Some of
            → defined_fields program (all_running s z args) tag o ≡ Some (map (running s z) of)
        by None is e = absurd (none-some of e)
        by (Some d) is e =
            case_runs d args tag of (on d is (head_of (heads_of program) at) refl stands) (case_has program args tag of d e)
