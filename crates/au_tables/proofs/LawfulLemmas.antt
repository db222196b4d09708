-- Fields of Free types are Free, and what has births isn't.
use Rattle.std.proofs.Common.{◌≡◌, ℕ, Bool, true, false, true≢false, List, [], ◌∷◌, map, Option, None, Some, refl, sym}
use Rattle.std.proofs.Common.{ap, ◌∙◌, subst}
use Rattle.std.specs.Prelude.{◌≢◌, if◌then◌else◌, option_and_then, slice_get}
use Rattle.std.specs.Option.{option_map}
use Rattle.std.proofs.lemmas.Bool.{and_parts}
use Rattle.std.proofs.lemmas.Option.{none-some, same_Some}
use Rattle.au_base.proofs.OptionLemmas.{map_some}
use Rattle.au_syntax.specs.declared.declarations.Universe.{Universe}
use Rattle.au_syntax.specs.declared.declarations.Universe.TheVariants as universes
use Rattle.au_syntax.specs.Plain.{Bytes}
use Rattle.au_syntax.specs.Types.{Labelled}
use Rattle.au_types.specs.declared.headings.Head.{Head}
use Rattle.au_types.specs.declared.parameters.Parameter.{Parameter}
use Rattle.au_types.specs.declared.types.DeclAt.{DeclAt}
use Rattle.au_types.specs.Rows.{head_of}
use Rattle.au_types.specs.Types.{Meaning, Arguments, named}
use Rattle.au_matching.specs.Fitting.{BindingsFit}
use Rattle.au_matching.specs.Forming.{IsWellFormed, all_fit, all_formed, fit_row, fits, is_formed}
use Rattle.au_matching.specs.Substituted.{substituted}
use Rattle.au_matching.specs.Universes.{argument_universes, is_free, judged, of_declaration, of_row, universe_of}
use Rattle.au_matching.specs.declared.universes.TypeUniverse.{TypeUniverse}
use Rattle.au_matching.specs.declared.universes.TypeUniverse.TheVariants.{Free, Linear, AnyUniverse}
use Rattle.au_matching.proofs.LawLemmas.{well_formed_stands}
use Rattle.au_matching.proofs.SubstitutingUniverseLemmas.{free_kept, universe_kept}
use Rattle.au_matching.proofs.UniverseLemmas.{named_universe, writes_universe}
use Rattle.au_running_types.specs.Running.{token}
use Rattle.au_memory.specs.Shown.{AreFree, AreLawful}
use Rattle.au_modules.specs.Programs.{ModuleParts}
use Rattle.au_names.specs.HeadsOf.{heads_of}
use Rattle.au_names.specs.Standing.{Standing, definition_of}
use Rattle.au_promises.specs.Mentions.{type_parameters}
use Rattle.au_formed.specs.Good.{Holds}
use Rattle.au_typing.specs.Insides.{fields_under, typed_under, with_arguments}
use Rattle.au_typing.specs.Scopes.{Typed}
use Rattle.au_typing.specs.Written.{all_typed, followed, meant_in, typed, types_at}
use Rattle.au_tables.specs.Tables.{BirthsAreShipped, DefinitionsFit, argument_of, box_text, buffer_text, case_fields}
use Rattle.au_tables.specs.Tables.{cases_written, defined_fields, field_types, fields_in, is_called, is_of_births}
use Rattle.au_tables.specs.Tables.{is_one_of, is_well_formed, root_text, terminal_text, types_of}
use Rattle.au_tables.proofs.ArgumentLemmas.{arguments_free, arguments_well, low_free}
use Rattle.au_tables.proofs.FormLemmas.{argument_called, births_linear}
use Rattle.au_tables.proofs.MadeLemmas.{FieldsAreGood, HasGoodCase, cases_good}

free_is : (u : TypeUniverse) → is_free u ≡ true → u ≡ Free
free_is Free e = refl
free_is Linear e = absurd cc
free_is AnyUniverse e = absurd cc

is_free_of : (u : TypeUniverse) → u ≡ Free → is_free u ≡ true
is_free_of u e = ap is_free e

-- ---- what the fields of a case are

module _ (program : List ModuleParts) (args : Arguments) (tag : ℕ) (of : List Meaning) where
  -- a definition has a case of a number, whose fields mean something
  pub record HasCase (d : Standing) : Type 0 where
    pub written : List (Labelled Bytes)
    pub listed : slice_get (cases_written d.says) tag ≡ Some written
    pub kinds : List Typed
    pub mean : all_typed program d (type_parameters d.says) written ≡ Some kinds
    pub are : field_types (map (typed_under (with_arguments (type_parameters d.says) args)) kinds) ≡ of

  pub case_has : (d : Standing) → case_fields program args tag d ≡ Some of → HasCase d
  case_has d e = by (slice_get (cases_written d.says) tag) refl e
    where
      under : List (Labelled Bytes) → Option (List Typed)
      under fields = fields_under program d (type_parameters d.says) args fields

      by : (o : Option (List (Labelled Bytes))) → slice_get (cases_written d.says) tag ≡ o
          → option_and_then (λ (fields : List (Labelled Bytes)).
          option_map field_types (fields_under program d (type_parameters d.says) args fields)) o ≡ Some of → HasCase d
      by None is e = absurd (none-some of e)
      by (Some written) is e =
          let first = map_some field_types (fields_under program d (type_parameters d.says) args written) of e in
          let next = map_some (map (typed_under (with_arguments (type_parameters d.says) args)))
          (all_typed program d (type_parameters d.says) written) first.0 first.1 in
          record {
            written = written;
            listed = is;
            kinds = next.0;
            mean = next.1;
            are = ap field_types next.2 ∙ first.2;
          }

-- one before others, where all are there
pub followed_is : {A : Type 0} (o : Option A) (p : Option (List A)) (all : List A) → followed o p ≡ Some all
    → (x : A) × (rest : List A) × (o ≡ Some x) × (p ≡ Some rest) × (x ∷ rest ≡ all)
followed_is (Some x) (Some rest) all e = (x, rest, refl, refl, same_Some (x ∷ rest) all e)
followed_is None p all e = absurd (none-some all e)
followed_is (Some x) None all e = absurd (none-some all e)

module _ (program : List ModuleParts) where
  abbrev heads : List (DeclAt × Head)
  heads = heads_of program

  -- ---- one field

  -- a type whose universe one may hold is Free where the whole is
  field_free : (ps : List Parameter) (args : Arguments) (own : Universe) (m : Meaning)
      → all_fit (fits heads []) ps args ≡ true → all_formed (fits heads []) heads [] args ≡ true
      → of_declaration own (judged (argument_universes heads [] args)) ≡ Free → own ≢ universes.Region
      → IsWellFormed heads ps m → Holds own (universe_of heads ps m)
      → universe_of heads [] (substituted (with_arguments ps args) m) ≡ Free
  field_free ps args universes.Free m fit formed free other well holds =
      let fitting : BindingsFit heads ps [] (with_arguments ps args) =
      λ name declared e. (arguments_well heads [] ps args fit formed name declared e).0 in
      free_kept (universe_of heads ps m) (universe_of heads [] (substituted (with_arguments ps args) m))
      (universe_kept heads ps [] (with_arguments ps args) fitting m (well_formed_stands heads ps m well)) holds
  field_free ps args universes.AnyType m fit formed free other well holds =
      low_free heads ps [] (with_arguments ps args) (arguments_free heads [] ps args fit free) m
      (well_formed_stands heads ps m well) holds
  field_free ps args universes.Linear m fit formed free other well holds = absurd cc
  field_free ps args universes.Region m fit formed free other well holds = absurd (other refl)

  fields_free : (d : Standing) (ps : List Parameter) (args : Arguments) (own : Universe)
      → all_fit (fits heads []) ps args ≡ true → all_formed (fits heads []) heads [] args ≡ true
      → of_declaration own (judged (argument_universes heads [] args)) ≡ Free → own ≢ universes.Region
      → (written : List (Labelled Bytes)) (kinds : List Typed) → all_typed program d ps written ≡ Some kinds
      → FieldsAreGood (types_at program d.place d.part) heads ps own written
      → AreFree (types_of program) (field_types (map (typed_under (with_arguments ps args)) kinds))
  fields_free d ps args own fit formed free other [] kinds e good =
      subst (λ ks. AreFree (types_of program) (field_types (map (typed_under (with_arguments ps args)) ks)))
      (same_Some [] kinds e) tt
  fields_free d ps args own fit formed free other (one ∷ rest) kinds e good =
      on (followed_is (typed program d ps one) (all_typed program d ps rest) kinds e)
      (λ others its. fields_free d ps args own fit formed free other rest others its good.1)
    where
      on : (x : Typed) × (others : List Typed) × (typed program d ps one ≡ Some x)
          × (all_typed program d ps rest ≡ Some others) × (x ∷ others ≡ kinds)
          → ((others : List Typed) → all_typed program d ps rest ≡ Some others
          → AreFree (types_of program) (field_types (map (typed_under (with_arguments ps args)) others)))
          → AreFree (types_of program) (field_types (map (typed_under (with_arguments ps args)) kinds))
      on (x, others, is, its, all) later =
          let from = map_some (λ t. record { name = one.name.name; of = t }) (meant_in program d ps one.of) x is in
          let formation = good.0.0 in
          let same : formation.0 ≡ from.0 = same_Some formation.0 from.0 (sym formation.1 ∙ from.1) in
          let of_x : from.0 ≡ x.of = ap (λ (y : Typed). y.of) from.2 in
          let well : IsWellFormed heads ps x.of =
          subst (IsWellFormed heads ps) (same ∙ of_x) formation.2 in
          let holds : Holds own (universe_of heads ps x.of) =
          subst (λ m. Holds own (universe_of heads ps m)) of_x (good.0.1 from.0 from.1) in
          subst (λ ks. AreFree (types_of program) (field_types (map (typed_under (with_arguments ps args)) ks))) all (
            is_free_of (universe_of heads [] (substituted (with_arguments ps args) x.of))
                (field_free ps args own x.of fit formed free other well holds),
            later others its,
          )

  -- ---- the fields of a type

  module _ (fit : DefinitionsFit program) (shipped : BirthsAreShipped program) where
    defined_free : (at : DeclAt) (args : Arguments) (tag : ℕ) (of : List Meaning) (d : Standing)
        → definition_of program at ≡ Some d → case_fields program args tag d ≡ Some of
        → is_well_formed program (named at args) ≡ true → universe_of heads [] (named at args) ≡ Free
        → AreFree (types_of program) of
    unfolding is_formed
    defined_free at args tag of d is e well free =
        by (head_of heads at) refl (and_parts (fit_row (fits heads []) (head_of heads at) args)
        (all_formed (fits heads []) heads [] args) well) (case_has program args tag of d e)
      where
        on : (head : Head) → head_of heads at ≡ Some head → all_fit (fits heads []) head.params args ≡ true
            → all_formed (fits heads []) heads [] args ≡ true → (has : HasCase program args tag of d)
            → HasGoodCase (types_at program d.place d.part) heads d.says has.written → AreFree (types_of program) of
        on head row fits_row formed has (one, declared, other, good) =
            let own : head.universe ≡ one.universe = fit.universes at d head one is row declared in
            let its : of_declaration one.universe (judged (argument_universes heads [] args)) ≡ Free =
            sym (ap (λ u. of_declaration u (judged (argument_universes heads [] args))) own)
            ∙ sym (ap (λ r. of_row r (judged (argument_universes heads [] args))) row)
            ∙ sym (named_universe heads [] at args) ∙ free in
            subst (AreFree (types_of program)) has.are
            (fields_free d (type_parameters d.says) args one.universe
            (subst (λ ps. all_fit (fits heads []) ps args ≡ true) (fit.parameters at d head is row) fits_row) formed its
            other has.written has.kinds has.mean good)

        by : (o : Option Head) → head_of heads at ≡ o
            → (fit_row (fits heads []) o args ≡ true) × (all_formed (fits heads []) heads [] args ≡ true)
            → HasCase program args tag of d → AreFree (types_of program) of
        by None row parts has = absurd (true≢false (sym parts.0))
        by (Some head) row parts has =
            on head row parts.0 parts.1 has
            (cases_good (types_at program d.place d.part) heads d.says (fit.made at d is) tag has.written has.listed)

    fields_are_free : (t : Meaning) (tag : ℕ) (of : List Meaning) → is_free (universe_of heads [] t) ≡ true
        → fields_in program t tag ≡ Some of → AreFree (types_of program) of
    fields_are_free (named at args) tag of free e =
        by (is_well_formed program (named at args)) refl (definition_of program at) refl e
      where
        by : (b : Bool) → is_well_formed program (named at args) ≡ b → (o : Option Standing)
            → definition_of program at ≡ o → (if b then defined_fields program args tag o else None) ≡ Some of
            → AreFree (types_of program) of
        by false well o is e = absurd (none-some of e)
        by true well None is e = absurd (none-some of e)
        by true well (Some d) is e =
            defined_free at args tag of d is e well (free_is (universe_of heads [] (named at args)) free)
    fields_are_free other tag of free e = absurd (none-some of e)

    -- ---- what has births

    linear_named : (at : DeclAt) (args : Arguments) (head : Head) → head_of heads at ≡ Some head
        → is_of_births head.text ≡ true → is_free (universe_of heads [] (named at args)) ≡ true → ⊥
    linear_named at args head row births free =
        let is : universe_of heads [] (named at args) ≡ Linear =
        named_universe heads [] at args
        ∙ ap (λ r. of_row r (judged (argument_universes heads [] args))) row
        ∙ ap (λ u. of_declaration u (judged (argument_universes heads [] args))) (shipped.linear at head row births) in
        true≢false (sym free ∙ ap is_free is)

    called_linear : (text : Bytes) → is_of_births text ≡ true → (at : DeclAt) (args : Arguments)
        → is_called program text at ≡ true → is_free (universe_of heads [] (named at args)) ≡ true → ⊥
    called_linear text births at args e free =
        let its = births_linear program shipped text births at e in
        linear_named at args its.0 its.1 its.2 free

    argument_linear : (text : Bytes) → is_of_births text ≡ true → (t of : Meaning)
        → argument_of program text t ≡ Some of → is_free (universe_of heads [] t) ≡ true → ⊥
    argument_linear text births (named at args) of e free =
        called_linear text births at args (argument_called program text at args of e) free
    argument_linear text births other of e free = none-some of e

    one_linear : (text : Bytes) → is_of_births text ≡ true → (t : Meaning)
        → is_one_of program text t ≡ true → is_free (universe_of heads [] t) ≡ true → ⊥
    one_linear text births (named at args) e free = called_linear text births at args e free
    one_linear text births other e free = true≢false (sym e)

    pub all_lawful : AreLawful (types_of program)
    all_lawful = record {
      fields = λ t tag of free e. fields_are_free t tag of free e;
      boxes = λ t of e free. argument_linear box_text refl t of e free;
      buffers = λ t of e free. argument_linear buffer_text refl t of e free;
      terminals = λ t e free. one_linear terminal_text refl t e free;
      roots = λ t e free. one_linear root_text refl t e free;
      writers = λ t z free. true≢false (sym free ∙ ap is_free (writes_universe heads [] t (token z)));
    }
