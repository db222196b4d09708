-- Calls that make values of records and unions.
use Rattle.std.proofs.Common.{◌≡◌, ◌⊎◌, inl, inr, ℕ, zero, suc, Bool, true, false, cond, true≢false, List, [], ◌∷◌, length}
use Rattle.std.proofs.Common.{map, find, Option, None, Some, refl, sym, ap, ◌∙◌, subst, lt-ltb}
use Rattle.std.specs.Prelude.{is_some, option_and_then, slice_get, unwrap_or}
use Rattle.std.specs.List.{position, position_or_len}
use Rattle.std.specs.Option.{option_map}
use Rattle.std.specs.Str.{bytes_eq}
use Rattle.std.proofs.lemmas.Bool.{and_parts}
use Rattle.std.proofs.lemmas.List.Folds.{find_at}
use Rattle.std.proofs.lemmas.Option.{none-some, same_Some, slice_get-map, slice_get_within}
use Rattle.std.proofs.lemmas.Slice.Eq.{bytes_eq-Decides}
use Rattle.au_base.proofs.OptionLemmas.{map_some}
use Rattle.au_syntax.specs.declared.declarations.Universe.{Universe}
use Rattle.au_syntax.specs.declared.declarations.Universe.TheVariants as universes
use Rattle.au_syntax.specs.declared.modules.Part.TheVariants.{Body}
use Rattle.au_syntax.specs.Modules.{Variant, record_type, union_type}
use Rattle.au_syntax.specs.Plain.{Bytes, PlainDeclaration}
use Rattle.au_syntax.specs.Types.{Labelled}
use Rattle.au_types.specs.declared.headings.Head.{Head}
use Rattle.au_types.specs.declared.parameters.Parameter.{Parameter}
use Rattle.au_types.specs.declared.spaces.Space.TheVariants.{Callables}
use Rattle.au_types.specs.declared.types.DeclAt.{DeclAt}
use Rattle.au_types.specs.declared.types.Region.TheVariants.{Named}
use Rattle.au_types.specs.Rows.{head_of}
use Rattle.au_types.specs.Tables as tables
use Rattle.au_types.specs.Types.{Meaning, Argument, Arguments, named, parameter, unit, reads, of_type, in_region}
use Rattle.au_types.specs.Universes.{universe_in}
use Rattle.au_matching.specs.Bindings.{Bindings, Extends, value_of}
use Rattle.au_matching.specs.Forming.{IsWellFormed, all_fit, all_formed, fit_row, fits_in_kind, is_formed}
use Rattle.au_matching.specs.Substituted.{Fixes, all_substituted, argument_substituted, region_for, substituted, type_for}
use Rattle.au_matching.specs.Universes.{is_free, is_linear, of_parameter, universe_of}
use Rattle.au_matching.specs.declared.universes.TypeUniverse.TheVariants.{Free, Linear}
use Rattle.au_matching.proofs.BindingLemmas.{value_of-with}
use Rattle.au_matching.proofs.LawLemmas.{well_formed_stands}
use Rattle.au_matching.proofs.SubstitutedLemmas.{fixed_stays}
use Rattle.au_judged_types.specs.Bounds.{parameters}
use Rattle.au_judged_types.specs.Meanings.{parameter as parameter_of}
use Rattle.au_type_texts.specs.Closing.{closed}
use Rattle.au_type_texts.specs.Given.{Given, all_closed_under, closed_under}
use Rattle.au_type_texts.specs.Types.{ClosedType}
use Rattle.au_instances.specs.ClosedInstances.{closed_universe}
use Rattle.au_instances.proofs.ClosedLemmas.{universe_closed}
use Rattle.au_running_types.specs.Running.{running}
use Rattle.au_running_types.proofs.UniverseLemmas.{formation_stays, type_decided}
use Rattle.au_written_types.specs.Written.{IsWritten}
use Rattle.au_modules.specs.Programs.{ModuleParts}
use Rattle.au_names.specs.declared.targets.Target.{Target}
use Rattle.au_names.specs.HeadsOf.{heads_of}
use Rattle.au_names.specs.Standing.{Standing, definition_of, opaque_name, standing_at, whole_name}
use Rattle.au_promises.specs.Mentions.{type_parameters}
use Rattle.au_classes.specs.Rows.{rows_of}
use Rattle.au_closing.specs.Instances.{Instance}
use Rattle.au_closing.specs.Leading.{a_maker, call_leads, called_leads, called_of, called_standing, module_name, target_leads}
use Rattle.au_closed_trees.specs.ClosedNotes.{constructor}
use Rattle.au_closed_trees.specs.Parts as parts
use Rattle.au_closed_trees.specs.Parts.{ClosedCase, ClosedField}
use Rattle.au_closed_trees.specs.TypeNames.{listed}
use Rattle.au_typing.specs.Called.{as_argument, as_arguments, case_called, declared_callable, is_case, type_number}
use Rattle.au_typing.specs.Insides.{fields_under, typed_under, with_arguments}
use Rattle.au_typing.specs.Notes.{Note}
use Rattle.au_typing.specs.Scopes.{Callable, Typed}
use Rattle.au_typing.specs.Trees.{NotedParts}
use Rattle.au_typing.specs.Written.{all_typed, seen_at, types_at}
use Rattle.au_typing.proofs.MakerLemmas.{Makes, made}
use Rattle.au_typing.proofs.OfferedLemmas.{defines_in_body, hidden_elsewhere}
use Rattle.au_tables.specs.Tables.{DefinitionsFit, cases_written, defined_fields, field_types, fields_in, types_of}
use Rattle.au_tables.proofs.RunLemmas.{fields_running, written_fixed}
use Rattle.au_closed_tables.specs.Closing.{AreClosed}
use Rattle.au_closed_tables.proofs.CloseLemmas.{fields_closed}
use Rattle.au_closed_meanings.specs.Generic as meaning
use Rattle.au_closed_meanings.specs.Generic.{field_seen, lead_does, view_under, with_names}
use Rattle.au_closed_meanings.specs.Surroundings.{field_names}
use Rattle.au_meaning.specs.Views.{Callee, makes}
use Rattle.au_known_types.specs.Known.{EachIsDeclared, IsKnown}
use Rattle.au_safe_steps.specs.Orders.{AreApart}
use Rattle.au_owners.specs.Owners.{owner_by, owner_declared, owner_of}
use Rattle.au_running_lives.specs.Expressions.{Bears}
use Rattle.au_running_lives.specs.Known.{Callables as Keys}
use Rattle.au_judged_bodies.specs.StandingTypesStanding.{StandsFor}
use Rattle.au_judged_bodies.proofs.StandingTypesStandLemmas.{known_closes}
use Rattle.au_judged_bodies.specs.OnceFieldsApart.{EachCaseIsApart, IsApart, labels}
use Rattle.au_judged_bodies.proofs.SeenLemmas.{at_case, declared_names, names_closed, under_names}
use Rattle.au_judged_bodies.specs.Rounds.{names_of}
use Rattle.au_judged_bodies.specs.Sights.{CallIsSeen, kinds_taken}
use Rattle.au_judged_bodies.specs.Makers.{DefinitionsAreApart, OwnTypesAreDefined}

-- ---- what makes a value

-- A declaration has under a name what makes a value of it: of the case of a number, with these fields.
record IsMaker (program : List ModuleParts) (d : Standing) (name type : Bytes) (called : Callable) : Type 0 where
  tag : ℕ
  fields : List (Labelled Bytes)
  leads : called_of name d.says ≡ Some (a_maker tag)
  written : slice_get (cases_written d.says) tag ≡ Some fields
  same : parameters called.generics ≡ type_parameters d.says
  makes : Makes program d type fields called
  apart : IsApart d.says → AreApart (labels fields)

case_apart : (vs : List (Variant Bytes)) → EachCaseIsApart vs → (i : ℕ) (v : Variant Bytes) → slice_get vs i ≡ Some v
    → AreApart (labels v.fields)
case_apart [] each i v e = absurd (none-some v e)
case_apart (x ∷ rest) each zero v e = subst (λ (y : Variant Bytes). AreApart (labels y.fields)) (same_Some x v e) each.0
case_apart (x ∷ rest) each (suc i) v e = case_apart rest each.1 i v e

placed : {A : Type 0} (p : A → Bool) (xs : List A) (x : A) → find p xs ≡ Some x
    → position p xs ≡ Some (position_or_len p xs)
placed p xs x e =
    ap (λ b. cond b (Some (position_or_len p xs)) None)
    (lt-ltb (position_or_len p xs) (length xs) (slice_get_within xs (position_or_len p xs) x (sym (find_at p xs) ∙ e)))

maker_is : (program : List ModuleParts) (d : Standing) (at : DeclAt) (name type : Bytes) (called : Callable)
    (says : PlainDeclaration) → d.says ≡ says → whole_name says ≡ Some type
    → declared_callable program d at name says ≡ Some called → IsMaker program d name type called
maker_is program d at name type called (record_type pos its_name ps universe fields) is whole e =
    let its = made program d its_name.name (map parameter_of ps) fields called e in record {
      tag = 0;
      fields = fields;
      leads = ap (called_of name) is;
      written = ap (λ x. slice_get (cases_written x) 0) is;
      same = its.0 ∙ ap type_parameters (sym is);
      makes = subst (λ n. Makes program d n fields called) (same_Some its_name.name type whole) its.1;
      apart = λ apart. subst IsApart is apart;
    }
maker_is program d at name type called (union_type pos its_name ps universe cases) is whole e =
    by (find (is_case name) cases) refl e
  where
    by : (o : Option (Variant Bytes)) → find (is_case name) cases ≡ o
        → case_called program d its_name.name (map parameter_of ps) o ≡ Some called → IsMaker program d name type called
    by None found e = absurd (none-some called e)
    by (Some v) found e =
        let its = made program d its_name.name (map parameter_of ps) v.fields called e in
        let there : slice_get cases (position_or_len (is_case name) cases) ≡ Some v =
        sym (find_at (is_case name) cases) ∙ found in record {
          tag = position_or_len (is_case name) cases;
          fields = v.fields;
          leads = ap (called_of name) is ∙ ap (option_map a_maker) (placed (is_case name) cases v found);
          written = ap (λ x. slice_get (cases_written x) (position_or_len (is_case name) cases)) is
              ∙ slice_get-map (λ (w : Variant Bytes). w.fields) cases (position_or_len (is_case name) cases)
              ∙ ap (option_map (λ (w : Variant Bytes). w.fields)) there;
          same = its.0 ∙ ap type_parameters (sym is);
          makes = subst (λ n. Makes program d n v.fields called) (same_Some its_name.name type whole) its.1;
          apart = λ apart. case_apart cases (subst IsApart is apart).1 (position_or_len (is_case name) cases) v there;
        }
maker_is program d at name type called other is whole e = absurd (none-some type whole)

-- ---- what is put for type parameters

-- a type's own arguments, under what is put, give each name what is put for it
module _ (put : Bindings) where
  own_value : (ps : List Parameter) (name : List ℕ) (value : Argument)
      → value_of name (with_arguments ps (all_substituted put (as_arguments ps))) ≡ Some value
      → (universe : Universe) × (universe_in ps name ≡ Some universe)
      × (argument_substituted put (as_argument (record { name = name; universe = universe })) ≡ value)
  own_value [] name value e = absurd (none-some value e)
  own_value (p ∷ ps) name value e =
      by (bytes_eq name p.name) refl
      (sym (value_of-with name p.name (argument_substituted put (as_argument p))
      (with_arguments ps (all_substituted put (as_arguments ps)))) ∙ e) (own_value ps name value)
    where
      by : (b : Bool) → bytes_eq name p.name ≡ b
          → cond b (Some (argument_substituted put (as_argument p)))
          (value_of name (with_arguments ps (all_substituted put (as_arguments ps)))) ≡ Some value
          → (value_of name (with_arguments ps (all_substituted put (as_arguments ps))) ≡ Some value
          → (universe : Universe) × (universe_in ps name ≡ Some universe)
          × (argument_substituted put (as_argument (record { name = name; universe = universe })) ≡ value))
          → (universe : Universe) × (universe_in (p ∷ ps) name ≡ Some universe)
          × (argument_substituted put (as_argument (record { name = name; universe = universe })) ≡ value)
      by true found e later = (
        p.universe,
        ap (λ b. cond b (Some p.universe) (universe_in ps name))
            ((bytes_eq-Decides p.name name).1 (sym ((bytes_eq-Decides name p.name).0 found))),
        ap (λ n. argument_substituted put (as_argument (record { name = n; universe = p.universe })))
            ((bytes_eq-Decides name p.name).0 found)
            ∙ same_Some (argument_substituted put (as_argument p)) value e,
      )
      by false found e later =
          let its = later e in (
            its.0,
            ap (λ b. cond b (Some p.universe) (universe_in ps name)) (other (bytes_eq p.name name) refl) ∙
                its.1,
            its.2,
          )
        where
          other : (c : Bool) → bytes_eq p.name name ≡ c → bytes_eq p.name name ≡ false
          other true is =
              absurd (true≢false (sym ((bytes_eq-Decides name p.name).1 (sym ((bytes_eq-Decides p.name name).0 is)))
              ∙ found))
          other false is = is

  module _ (ps : List Parameter) (fixes : (t : Meaning) → IsWritten [] ps t → Fixes put t) where
    own_extends : Extends (with_arguments ps (all_substituted put (as_arguments ps))) put
    own_extends name value e =
        let its = own_value ps name value e in by its.0 its.1 its.2
      where
        as_type : is_some (of_parameter (universe_in ps name)) ≡ true
            → argument_substituted put (of_type (parameter name)) ≡ value → value_of name put ≡ Some value
        as_type some is =
            let gives = fixes (parameter name) (record { lasting = refl; names = some }) in
            gives.1
            ∙ ap (λ (t : Meaning). Some (of_type t)) (sym (ap (λ o. type_for o name) gives.1))
            ∙ ap (λ x. Some x) is

        by : (universe : Universe) → universe_in ps name ≡ Some universe
            → argument_substituted put (as_argument (record { name = name; universe = universe })) ≡ value
            → value_of name put ≡ Some value
        by universes.Free there is = as_type (ap (λ o. is_some (of_parameter o)) there) is
        by universes.Linear there is = as_type (ap (λ o. is_some (of_parameter o)) there) is
        by universes.AnyType there is = as_type (ap (λ o. is_some (of_parameter o)) there) is
        by universes.Region there is =
            let gives = (fixes (reads unit (Named name)) (record { lasting = refl; names = (tt, inr there) })).1 in
            gives.1
            ∙ ap (λ r. Some (in_region r)) (sym (ap (λ o. region_for o name) gives.1))
            ∙ ap (λ x. Some x) is

-- ---- fields

module _ (program : List ModuleParts) (fit : DefinitionsFit program) where
  abbrev heads : List (DeclAt × Head)
  heads = heads_of program

  -- arguments of a well formed type fit the type parameters of its definition
  arguments_fit : (params : List Parameter) (at : DeclAt) (args : Arguments) (d : Standing)
      → IsWellFormed heads params (named at args) → definition_of program at ≡ Some d
      → all_fit fits_in_kind (type_parameters d.says) args ≡ true
  unfolding is_formed
  arguments_fit params at args d well defined =
      by (head_of heads at) refl
      (and_parts (fit_row fits_in_kind (head_of heads at) args) (all_formed fits_in_kind heads params args)
      (well_formed_stands heads params (named at args) well)).0
    where
      by : (o : Option Head) → head_of heads at ≡ o → fit_row fits_in_kind o args ≡ true
          → all_fit fits_in_kind (type_parameters d.says) args ≡ true
      by None row fits = absurd (true≢false (sym fits))
      by (Some head) row fits =
          subst (λ ps. all_fit fits_in_kind ps args ≡ true) (fit.parameters at d head defined row) fits

  module _ (s : Bindings) (z : ℕ) (put : Bindings) (ps : List Parameter)
      (fixes : (t : Meaning) → IsWritten [] ps t → Fixes put t)
      (fits : all_fit fits_in_kind ps (all_substituted put (as_arguments ps)) ≡ true) where
    field_stays : (t : Meaning) → IsWritten [] ps t
        → substituted (with_arguments ps (all_substituted put (as_arguments ps))) t ≡ substituted put t
    field_stays t is =
        fixed_stays (with_arguments ps (all_substituted put (as_arguments ps))) put (own_extends put ps fixes) t
        (written_fixed ps (all_substituted put (as_arguments ps)) fits t is)

    kinds_are : (fields : List Typed) → EachIsDeclared heads ps fields
        → map (running s z)
        (field_types (map (typed_under (with_arguments ps (all_substituted put (as_arguments ps)))) fields))
        ≡ kinds_taken s z put fields
    kinds_are [] each = refl
    kinds_are (one ∷ rest) each =
        λ i. running s z (field_stays one.of each.0.1 i) ∷ kinds_are rest each.1 i

under_same : (s : Bindings) (fields : List Typed) → names_of (map (typed_under s) fields) ≡ names_of fields
under_same s [] = refl
under_same s (one ∷ rest) = ap (λ l. one.name ∷ l) (under_same s rest)

names_seen : (fs : List ClosedField) → field_names (map field_seen fs) ≡ names_closed fs
names_seen [] = refl
names_seen (one ∷ rest) = ap (λ l. one.name ∷ l) (names_seen rest)

-- ---- the sight of a call

module _ (program : List ModuleParts) (trees : List NotedParts) (fit : DefinitionsFit program)
    (each_apart : DefinitionsAreApart program) (own_defined : OwnTypesAreDefined program) (place : ℕ)
    (params : List Parameter) (regions : List Bytes) (given : Given) (s : Bindings) (z : ℕ)
    (stands : StandsFor (heads_of program) params given s) {K : Type 0} (known : Keys Instance K) (active : ℕ → Bool)
  where
    module _ (note : Note) (name : Bytes) (target : Target) (d : Standing) (type : Bytes) (called : Callable)
        (put : Bindings) (means : tables.find name (seen_at Callables program place Body) ≡ Some target)
        (there : standing_at program target.at ≡ Some d) (whole : whole_name d.says ≡ Some type)
        (declared : declared_callable program d target.at target.name d.says ≡ Some called)
        (each : EachIsDeclared (heads_of program) (parameters called.generics) called.parameters)
        (of : note.of ≡ substituted put called.result) (is_known : IsKnown (heads_of program) params regions note.of)
        (fixes : (t : Meaning) → IsWritten [] (parameters called.generics) t → Fixes put t) where
      maker : IsMaker program d target.name type called
      maker = maker_is program d target.at target.name type called d.says refl whole declared

      abbrev ps : List Parameter
      ps = parameters called.generics

      abbrev args : Arguments
      args = all_substituted put (as_arguments ps)

      own : (at : DeclAt) × (type_number program d.place type ≡ Some at) × (named at (as_arguments ps) ≡ called.result)
      own = map_some (λ (at : DeclAt). named at (as_arguments ps)) (type_number program d.place type) called.result
          maker.makes.result

      abbrev at : DeclAt
      at = own.0

      type_is : note.of ≡ named at args
      type_is = of ∙ ap (substituted put) (sym own.2)

      defined : definition_of program at ≡ Some d
      defined = own_defined target.at d type at there whole own.1

      known_so : IsKnown (heads_of program) params regions (named at args)
      known_so = subst (IsKnown (heads_of program) params regions) type_is is_known

      under : fields_under program d (type_parameters d.says) args maker.fields
          ≡ Some (map (typed_under (with_arguments (type_parameters d.says) args)) called.parameters)
      under = ap (option_map (map (typed_under (with_arguments (type_parameters d.says) args))))
          (ap (λ qs. all_typed program d qs maker.fields) (sym maker.same) ∙ maker.makes.given)

      fits : all_fit fits_in_kind ps args ≡ true
      fits = subst (λ qs. all_fit fits_in_kind qs args ≡ true) (sym maker.same)
          (arguments_fit program fit params at args d known_so.0 defined)

      abbrev inside : List Meaning
      inside = field_types (map (typed_under (with_arguments (type_parameters d.says) args)) called.parameters)

      runs : fields_in program (running s z (named at args)) maker.tag ≡ Some (map (running s z) inside)
      runs = fields_running program s z fit params at args maker.tag inside stands.formed known_so.0
          (ap (defined_fields program args maker.tag) defined
          ∙ ap (option_and_then (λ (l : List (Labelled Bytes)).
          option_map field_types (fields_under program d (type_parameters d.says) args l))) maker.written
          ∙ ap (option_map field_types) under)

      kinds : map (running s z) inside ≡ kinds_taken s z put called.parameters
      kinds = ap (λ qs. map (running s z) (field_types (map (typed_under (with_arguments qs args)) called.parameters)))
          (sym maker.same)
          ∙ kinds_are program fit s z put ps fixes fits called.parameters each

      -- ---- names

      abbrev c : ClosedType
      c = closed_under given (named at args)

      closes : closed (running s z (named at args)) ≡ Some c
      closes = known_closes (heads_of program) params regions given s z (named at args) stands known_so

      its : (one : ClosedCase) × (slice_get (parts.cases_of program c) maker.tag ≡ Some one)
          × AreClosed (map (running s z) inside) one.fields
      its = fields_closed program fit (running s z (named at args)) c maker.tag (map (running s z) inside) closes runs

      said : (l : List (Labelled Bytes)) × (slice_get (cases_written d.says) maker.tag ≡ Some l)
          × (names_closed its.0.fields ≡ labels l)
      said = declared_names (types_at program d.place d.part) (heads_of program) (listed (all_closed_under given args))
          d.says maker.tag its.0
          (sym (ap (λ o. slice_get (parts.defined_cases program (listed (all_closed_under given args)) o) maker.tag)
          defined) ∙ its.1)

      labels_are : names_of called.parameters ≡ labels maker.fields
      labels_are =
          sym (under_same (with_arguments (type_parameters d.says) args) called.parameters)
          ∙ under_names program d (type_parameters d.says) args maker.fields
          (map (typed_under (with_arguments (type_parameters d.says) args)) called.parameters) under

      names : names_closed its.0.fields ≡ names_of called.parameters
      names = said.2 ∙ ap labels (same_Some said.0 maker.fields (sym said.1 ∙ maker.written)) ∙ sym labels_are

      names_found : option_map field_names (meaning.fields_in program c maker.tag) ≡ Some (names_of called.parameters)
      names_found =
          ap (option_map field_names) (at_case (parts.cases_of program c) maker.tag its.0 its.1)
          ∙ ap (λ (l : List Bytes). Some l) (names_seen its.0.fields ∙ names)

      -- ---- what is called

      leads : call_leads program place given note name ≡ constructor (closed_under given note.of) maker.tag
      leads =
          ap (target_leads program (rows_of program) given note) means
          ∙ ap (λ o. called_leads program (rows_of program) given note target (called_standing target.name o)) there
          ∙ ap (called_leads program (rows_of program) given note target) maker.leads

      abbrev seen_so : Callee Instance
      seen_so = record {
        parameters = names_of called.parameters;
        act = makes (closed_under given note.of) maker.tag (module_name program place);
      }

      sees : lead_does program trees place (closed_under given note.of) (call_leads program place given note name)
          ≡ Some seen_so
      sees =
          ap (lead_does program trees place (closed_under given note.of)) leads
          ∙ ap (λ t. with_names (option_map field_names (meaning.fields_in program (closed_under given t) maker.tag))
          (makes (closed_under given note.of) maker.tag (module_name program place))) type_is
          ∙ ap (λ o. with_names o (makes (closed_under given note.of) maker.tag (module_name program place)))
          names_found

      -- ---- what is born

      home : (own_home : List ℕ) → owner_of program c ≡ Some own_home → module_name program place ≡ own_home
      home own_home e = by (standing_at program at) refl e
        where
          opaque : (st : Standing) → standing_at program at ≡ Some st → (o : Option Bytes) → opaque_name st.says ≡ o
              → owner_by program st o ≡ Some own_home → module_name program place ≡ own_home
          opaque st is None none e = absurd (none-some own_home e)
          opaque st is (Some owner) some e =
              let within = defines_in_body program at st d owner is some defined in
              let same : st.place ≡ place =
              sym within.0
              ∙ hidden_elsewhere program place Body Callables name target d means there within.1 in
              ap (λ n. module_name program n) (sym same) ∙ ap (λ o. unwrap_or o []) e

          by : (o : Option Standing) → standing_at program at ≡ o → owner_declared program o ≡ Some own_home
              → module_name program place ≡ own_home
          by None is e = absurd (none-some own_home e)
          by (Some st) is e = opaque st is (opaque_name st.says) refl e

      universe_is : universe_of (heads_of program) [] (running s z (named at args)) ≡ closed_universe
          (heads_of program) c
      universe_is = universe_closed (heads_of program) [] (running s z (named at args)) c closes

      decided : (universe_of (heads_of program) [] (running s z (named at args)) ≡ Free)
          ⊎ (universe_of (heads_of program) [] (running s z (named at args)) ≡ Linear)
      decided = type_decided (heads_of program) (running s z (named at args))
          (well_formed_stands (heads_of program) [] (running s z (named at args))
          (formation_stays (heads_of program) params [] s z (named at args) stands.formed known_so.0))

      abbrev Born : Bool → Type 0
      Born linear =
          Bears (types_of program) (owner_of program) (view_under program trees place params given) known c
          (module_name program place) linear (running s z (named at args))

      bears : Born (is_linear (closed_universe (heads_of program) c))
      bears = by decided
        where
          by : (universe_of (heads_of program) [] (running s z (named at args)) ≡ Free)
              ⊎ (universe_of (heads_of program) [] (running s z (named at args)) ≡ Linear)
              → Born (is_linear (closed_universe (heads_of program) c))
          by (inl free) = subst Born (sym (ap is_linear (sym universe_is ∙ free))) (ap is_free free)
          by (inr linear) = subst Born (sym (ap is_linear (sym universe_is ∙ linear))) (ap is_free linear, home)

      pub maker_seen : CallIsSeen (types_of program) (owner_of program) (view_under program trees place params given)
          known
          active s z note name called put
      maker_seen = record {
        one = seen_so;
        seen = λ c. sees;
        parameters = refl;
        apart = subst AreApart (sym labels_are) (maker.apart (each_apart at d defined));
        performs = (
          ap (λ t. fields_in program (running s z t) maker.tag) type_is ∙ runs ∙ ap (λ (l : List Meaning). Some l)
              kinds,
          subst (λ t. Bears (types_of program) (owner_of program) (view_under program trees place params given) known
              (closed_under given t) (module_name program place)
              (is_linear (closed_universe (heads_of program) (closed_under given t))) (running s z t)) (sym type_is)
              bears,
        );
      }
