-- Records and unions that are known in a module, where they run.
use Rattle.std.proofs.Common.{◌≡◌, ℕ, zero, suc, Bool, true, false, cond, List, [], ◌∷◌, map, Option, None}
use Rattle.std.proofs.Common.{Some, refl}
use Rattle.std.proofs.Common.{sym, ap, ◌∙◌}
use Rattle.std.specs.Prelude.{if◌then◌else◌, option_and_then, slice_get}
use Rattle.std.specs.Option.{option_map}
use Rattle.std.proofs.lemmas.Option.{none-some, same_Some}
use Rattle.au_base.proofs.OptionLemmas.{map_some}
use Rattle.au_syntax.specs.Modules.{InUniverse, Variant, record_type, union_type}
use Rattle.au_syntax.specs.Plain.{Bytes, PlainDeclaration}
use Rattle.au_syntax.specs.Types.{Labelled}
use Rattle.au_types.specs.declared.parameters.Parameter.{Parameter}
use Rattle.au_types.specs.declared.types.DeclAt.{DeclAt}
use Rattle.au_types.specs.Types.{Meaning, Arguments, named}
use Rattle.au_matching.specs.Bindings.{Bindings}
use Rattle.au_matching.specs.Fitting.{BindingsAreWellFormed}
use Rattle.au_matching.specs.Forming.{IsWellFormed}
use Rattle.au_judged_types.specs.Meanings.{parameter}
use Rattle.au_running_types.specs.Running.{all_running, running}
use Rattle.au_modules.specs.Programs.{ModuleParts}
use Rattle.au_names.specs.HeadsOf.{heads_of}
use Rattle.au_names.specs.Standing.{Standing, definition_of, standing_at}
use Rattle.au_promises.specs.Mentions.{type_parameters}
use Rattle.au_typing.specs.Insides.{case_target, case_under, cases_defined, cases_of, cases_under}
use Rattle.au_typing.specs.Insides.{fields_defined, fields_of}
use Rattle.au_typing.specs.Insides.{fields_under, is_known, known_definition, known_standing, record_fields}
use Rattle.au_typing.specs.Insides.{union_cases}
use Rattle.au_typing.specs.Scopes.{Case, Typed}
use Rattle.au_tables.specs.Tables.{DefinitionsFit, case_fields, cases_written, defined_fields, field_types}
use Rattle.au_tables.specs.Tables.{fields_in}
use Rattle.au_tables.specs.Tables.{is_well_formed}
use Rattle.au_tables.proofs.LawfulLemmas.{followed_is}
use Rattle.au_tables.proofs.RunLemmas.{fields_running}
use Rattle.au_judged_bodies.specs.Records.{kinds_running}

kinds_are : (s : Bindings) (z : ℕ) (fields : List Typed)
    → map (running s z) (field_types fields) ≡ kinds_running s z fields
kinds_are s z [] = refl
kinds_are s z (one ∷ rest) = ap (λ more. running s z one.of ∷ more) (kinds_are s z rest)

module _ (program : List ModuleParts) where
  pub known_defined : (place : ℕ) (at : DeclAt) (o : Option Standing) (d : Standing)
      → known_standing program place at o ≡ Some d → definition_of program at ≡ Some d
  known_defined place at None d e = absurd (none-some d e)
  known_defined place at (Some s) d e = by (is_known place s) e
    where
      by : (b : Bool) → cond b (definition_of program at) None ≡ Some d → definition_of program at ≡ Some d
      by true e = e
      by false e = absurd (none-some d e)

  -- ---- records

  -- the types of the fields of the case of a number of what a definition says
  abbrev fields_said : Standing → PlainDeclaration → Arguments → ℕ → Option (List Meaning)
  fields_said d says args tag =
      option_and_then (λ (fields : List (Labelled Bytes)).
      option_map field_types (fields_under program d (type_parameters says) args fields))
      (slice_get (cases_written says) tag)

  -- a record's definition has one case, with these fields
  record_defined : (d : Standing) (args : Arguments) (says : PlainDeclaration) → d.says ≡ says → (fields : List Typed)
      → record_fields program d args says ≡ Some fields
      → (case_fields program args 0 d ≡ Some (field_types fields))
      × ((others : Arguments) (tag : ℕ) (other : List Meaning) → case_fields program others tag d ≡ Some other → tag
      ≡ 0)
  record_defined d args (record_type at name params universe written) is fields e = (
    ap (λ x. fields_said d x args 0) is ∙ ap (option_map field_types) e,
    λ others tag other f. one_case tag other others (sym (ap (λ x. fields_said d x others tag) is) ∙ f),
  )
    where
      one_case : (tag : ℕ) (other : List Meaning) (others : Arguments)
          → fields_said d (record_type at name params universe written) others tag ≡ Some other → tag ≡ 0
      one_case zero other others f = refl
      one_case (suc tag) other others f = absurd (none-some other f)
  record_defined d args other is fields e = absurd (none-some fields e)

  module _ (fit : DefinitionsFit program) where
    pub record_runs : (place : ℕ) (params : List Parameter) (s : Bindings) (z : ℕ) (t : Meaning) (fields : List Typed)
        → fields_of program place t ≡ Some fields → BindingsAreWellFormed (heads_of program) params [] s
        → IsWellFormed (heads_of program) params t
        → (fields_in program (running s z t) 0 ≡ Some (kinds_running s z fields))
        × ((tag : ℕ) (other : List Meaning) → fields_in program (running s z t) tag ≡ Some other → tag ≡ 0)
    record_runs place params s z (named at args) fields e good well =
        by (known_definition program place at) refl e
      where
        alone : (d : Standing) → definition_of program at ≡ Some d
            → ((others : Arguments) (tag : ℕ) (other : List Meaning) → case_fields program others tag d ≡ Some other
            → tag ≡ 0)
            → (tag : ℕ) (other : List Meaning) → fields_in program (running s z (named at args)) tag ≡ Some other
            → tag ≡ 0
        alone d is one tag other f =
            so (is_well_formed program (running s z (named at args))) (definition_of program at) is f
          where
            so : (b : Bool) (o : Option Standing) → o ≡ Some d
                → (if b then defined_fields program (all_running s z args) tag o else None) ≡ Some other → tag ≡ 0
            so false o is f = absurd (none-some other f)
            so true None is f = absurd (none-some other f)
            so true (Some x) is f =
                one (all_running s z args) tag other
                (sym (ap (case_fields program (all_running s z args) tag) (same_Some x d is)) ∙ f)

        by : (o : Option Standing) → known_definition program place at ≡ o → fields_defined program args o ≡ Some fields
            → (fields_in program (running s z (named at args)) 0 ≡ Some (kinds_running s z fields))
            × ((tag : ℕ) (other : List Meaning) → fields_in program (running s z (named at args)) tag ≡ Some other
            → tag ≡ 0)
        by None is e = absurd (none-some fields e)
        by (Some d) is e =
            let defined = known_defined place at (standing_at program at) d is in
            let its = record_defined d args d.says refl fields e in (
              fields_running program s z fit params at args 0 (field_types fields) good well
                  (ap (defined_fields program args 0) defined ∙ its.0)
                  ∙ ap (λ (all : List Meaning). Some all) (kinds_are s z fields),
              alone d defined its.1,
            )
    record_runs place params s z other fields e good well = absurd (none-some fields e)

  -- ---- unions

  module _ (d : Standing) (params : List (InUniverse Bytes)) (args : Arguments) where
    case_listed : (cases : List (Variant Bytes)) (all : List Case)
        → cases_under program d (map parameter params) args cases ≡ Some all → (tag : ℕ) (one : Case)
        → slice_get all tag ≡ Some one
        → option_and_then (λ (fields : List (Labelled Bytes)).
        option_map field_types (fields_under program d (map parameter params) args fields))
        (slice_get (map (λ (v : Variant Bytes). v.fields) cases) tag) ≡ Some (field_types one.fields)
    case_listed [] all e tag one is =
        absurd (none-some one (ap (λ l. slice_get l tag) (same_Some [] all e) ∙ is))
    case_listed (v ∷ rest) all e tag one is =
        on (followed_is (case_under program d (map parameter params) args v)
        (cases_under program d (map parameter params) args rest) all e) tag is
        (λ others its n there. case_listed rest others its n one there)
      where
        on : (x : Case) × (others : List Case) × (case_under program d (map parameter params) args v ≡ Some x)
            × (cases_under program d (map parameter params) args rest ≡ Some others) × (x ∷ others ≡ all)
            → (tag : ℕ) → slice_get all tag ≡ Some one
            → ((others : List Case) → cases_under program d (map parameter params) args rest ≡ Some others
            → (n : ℕ) → slice_get others n ≡ Some one
            → option_and_then (λ (fields : List (Labelled Bytes)).
            option_map field_types (fields_under program d (map parameter params) args fields))
            (slice_get (map (λ (w : Variant Bytes). w.fields) rest) n) ≡ Some (field_types one.fields))
            → option_and_then (λ (fields : List (Labelled Bytes)).
            option_map field_types (fields_under program d (map parameter params) args fields))
            (slice_get (map (λ (w : Variant Bytes). w.fields) (v ∷ rest)) tag) ≡ Some (field_types one.fields)
        on (x, others, first, its, whole) zero is later =
            let from = map_some (λ fields. record {
              target = case_target program d (map parameter params) args v;
              fields = fields;
            }) (fields_under program d (map parameter params) args v.fields) x first in
            let same : x ≡ one = same_Some x one (ap (λ l. slice_get l 0) whole ∙ is) in
            ap (option_map field_types) from.1
            ∙ ap (λ (c : Case). Some (field_types c.fields)) (from.2 ∙ same)
        on (x, others, first, its, whole) (suc n) is later = later others its n
            (ap (λ l. slice_get l (suc n)) whole ∙ is)

  union_defined : (d : Standing) (args : Arguments) (says : PlainDeclaration) → d.says ≡ says → (all : List Case)
      → union_cases program d args says ≡ Some all → (tag : ℕ) (one : Case) → slice_get all tag ≡ Some one
      → case_fields program args tag d ≡ Some (field_types one.fields)
  union_defined d args (union_type at name params universe cases) is all e tag one there =
      ap (λ says. option_and_then (λ (fields : List (Labelled Bytes)).
      option_map field_types (fields_under program d (type_parameters says) args fields))
      (slice_get (cases_written says) tag)) is
      ∙ case_listed d params args cases all e tag one there
  union_defined d args other is all e tag one there = absurd (none-some all e)

  pub union_runs : DefinitionsFit program → (place : ℕ) (params : List Parameter) (s : Bindings) (z : ℕ) (t : Meaning)
      (cases : List Case) → cases_of program place t ≡ Some cases
      → BindingsAreWellFormed (heads_of program) params [] s → IsWellFormed (heads_of program) params t
      → (tag : ℕ) (one : Case) → slice_get cases tag ≡ Some one
      → fields_in program (running s z t) tag ≡ Some (kinds_running s z one.fields)
  union_runs fit place params s z (named at args) cases e good well tag one is =
      by (known_definition program place at) refl e
    where
      by : (o : Option Standing) → known_definition program place at ≡ o → cases_defined program args o ≡ Some cases
          → fields_in program (running s z (named at args)) tag ≡ Some (kinds_running s z one.fields)
      by None known e = absurd (none-some cases e)
      by (Some d) known e =
          fields_running program s z fit params at args tag (field_types one.fields) good well
          (ap (defined_fields program args tag) (known_defined place at (standing_at program at) d known)
          ∙ union_defined d args d.says refl cases e tag one is)
          ∙ ap (λ (all : List Meaning). Some all) (kinds_are s z one.fields)
  union_runs fit place params s z other cases e good well tag one is = absurd (none-some cases e)
