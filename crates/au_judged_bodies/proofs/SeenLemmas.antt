-- Fields that the rules of typing know, as the meaning sees them: their names and their closed types.
use Rattle.std.proofs.Common.{◌≡◌, ℕ, zero, suc, List, [], ◌∷◌, map, Option, None, Some, refl, sym, ap}
use Rattle.std.proofs.Common.{◌∙◌}
use Rattle.std.specs.Prelude.{option_and_then, slice_get}
use Rattle.std.specs.Option.{option_map}
use Rattle.std.proofs.lemmas.Option.{none-some, same_Some}
use Rattle.au_base.proofs.OptionLemmas.{map_some}
use Rattle.au_syntax.specs.Modules.{Variant, record_type, union_type}
use Rattle.au_syntax.specs.Plain.{Bytes, PlainDeclaration}
use Rattle.au_syntax.specs.Types.{Labelled}
use Rattle.au_types.specs.declared.headings.Head.{Head}
use Rattle.au_types.specs.declared.parameters.Parameter.{Parameter}
use Rattle.au_types.specs.declared.types.DeclAt.{DeclAt}
use Rattle.au_types.specs.Types.{Meaning, Arguments, named}
use Rattle.au_matching.specs.Bindings.{Bindings}
use Rattle.au_judged_types.specs.Meanings.{parameter}
use Rattle.au_type_texts.specs.Given.{Given, all_closed_under, closed_under}
use Rattle.au_type_texts.specs.Types.{ClosedType}
use Rattle.au_running_types.specs.Running.{running}
use Rattle.au_modules.specs.Programs.{ModuleParts}
use Rattle.au_names.specs.HeadsOf.{heads_of}
use Rattle.au_names.specs.Standing.{Standing, definition_of, standing_at}
use Rattle.au_promises.specs.Mentions.{type_parameters}
use Rattle.au_typing.specs.Insides.{case_target, case_under, cases_defined, cases_of, cases_under}
use Rattle.au_typing.specs.Insides.{fields_defined, fields_of}
use Rattle.au_typing.specs.Insides.{fields_under, known_definition, record_fields, typed_under, union_cases}
use Rattle.au_typing.specs.Insides.{with_arguments}
use Rattle.au_typing.specs.Scopes.{Case, Typed}
use Rattle.au_typing.specs.Written.{all_typed, meant_in, typed, types_at}
use Rattle.au_closed_trees.specs.Parts as parts
use Rattle.au_closed_trees.specs.Parts.{ClosedCase, ClosedField}
use Rattle.au_closed_trees.specs.TypeNames.{listed}
use Rattle.au_tables.specs.Tables.{DefinitionsFit, cases_written, defined_fields, field_types, fields_in}
use Rattle.au_tables.proofs.LawfulLemmas.{followed_is}
use Rattle.au_tables.proofs.RunLemmas.{fields_running}
use Rattle.au_closed_tables.specs.Closing.{AreClosed}
use Rattle.au_closed_tables.proofs.CloseLemmas.{fields_closed}
use Rattle.au_closed_meanings.specs.Generic as meaning
use Rattle.au_closed_meanings.specs.Generic.{case_seen, field_seen}
use Rattle.au_closed_meanings.specs.Programs.{fields_at}
use Rattle.au_known_types.specs.Known.{EachIsKnown, IsKnown}
use Rattle.au_judged_bodies.specs.StandingTypesStanding.{StandsFor}
use Rattle.au_judged_bodies.proofs.StandingTypesStandLemmas.{known_closes}
use Rattle.au_judged_bodies.proofs.RecordLemmas.{known_defined}
use Rattle.au_judged_bodies.specs.Seen.{field_closed}

-- ---- the names of fields

abbrev pub labels : List (Labelled Bytes) → List Bytes
labels fields = map (λ (one : Labelled Bytes). one.name.name) fields

abbrev pub names_known : List Typed → List Bytes
names_known fields = map (λ (one : Typed). one.name) fields

abbrev pub names_closed : List ClosedField → List Bytes
names_closed fields = map (λ (one : ClosedField). one.name) fields

abbrev pub first_of : List Bytes → Bytes
first_of [] = []
first_of (name ∷ rest) = name

abbrev pub rest_of : List Bytes → List Bytes
rest_of [] = []
rest_of (name ∷ rest) = rest

known_names : (program : List ModuleParts) (d : Standing) (params : List Parameter) (s : Bindings)
    (written : List (Labelled Bytes)) (kinds : List Typed) → all_typed program d params written ≡ Some kinds
    → names_known (map (typed_under s) kinds) ≡ labels written
known_names program d params s [] kinds e =
    ap (λ l. names_known (map (typed_under s) l)) (sym (same_Some [] kinds e))
known_names program d params s (one ∷ rest) kinds e =
    on (followed_is (typed program d params one) (all_typed program d params rest) kinds e)
    (λ others its. known_names program d params s rest others its)
  where
    on : (x : Typed) × (others : List Typed) × (typed program d params one ≡ Some x)
        × (all_typed program d params rest ≡ Some others) × (x ∷ others ≡ kinds)
        → ((others : List Typed) → all_typed program d params rest ≡ Some others
        → names_known (map (typed_under s) others) ≡ labels rest)
        → names_known (map (typed_under s) kinds) ≡ one.name.name ∷ labels rest
    on (x, others, first, its, whole) later =
        let from = map_some (λ t. record { name = one.name.name; of = t }) (meant_in program d params one.of) x first in
        ap (λ l. names_known (map (typed_under s) l)) (sym whole)
        ∙ ap (λ (y : Typed). y.name ∷ names_known (map (typed_under s) others)) (sym from.2)
        ∙ ap (λ l. one.name.name ∷ l) (later others its)

pub under_names : (program : List ModuleParts) (d : Standing) (params : List Parameter) (args : Arguments)
    (written : List (Labelled Bytes)) (fields : List Typed)
    → fields_under program d params args written ≡ Some fields → names_known fields ≡ labels written
under_names program d params args written fields e =
    let from = map_some (map (typed_under (with_arguments params args))) (all_typed program d params written) fields
    e in
    ap names_known (sym from.2) ∙ known_names program d params (with_arguments params args) written from.0 from.1

module _ (names : List (Bytes × DeclAt)) (heads : List (DeclAt × Head)) (args : List ClosedType) where
  field_names : (params : List Parameter) (given : Given) (fields : List (Labelled Bytes))
      → names_closed (map (parts.field_under names heads params given) fields) ≡ labels fields
  field_names params given [] = refl
  field_names params given (one ∷ rest) = ap (λ l. one.name.name ∷ l) (field_names params given rest)

  -- a case has the names that are written
  abbrev pub NamesAre : ClosedCase → Option (List (Labelled Bytes)) → Type 0
  NamesAre one written = (l : List (Labelled Bytes)) × (written ≡ Some l) × (names_closed one.fields ≡ labels l)

  union_names : (params : List Parameter) (cases : List (Variant Bytes)) (tag : ℕ) (one : ClosedCase)
      → slice_get (parts.union_with names heads args params cases) tag ≡ Some one
      → NamesAre one (slice_get (map (λ (v : Variant Bytes). v.fields) cases) tag)
  union_names params [] tag one e = absurd (none-some one e)
  union_names params (v ∷ rest) zero one e = (
    v.fields,
    refl,
    ap (λ (c : ClosedCase). names_closed c.fields) (sym (same_Some _ one e)) ∙ field_names params _ v.fields,
  )
  union_names params (v ∷ rest) (suc tag) one e = union_names params rest tag one e

  pub declared_names : (says : PlainDeclaration) (tag : ℕ) (one : ClosedCase)
      → slice_get (parts.declared_cases names heads args says) tag ≡ Some one
      → NamesAre one (slice_get (cases_written says) tag)
  declared_names (record_type at name params universe fields) zero one e = (
    fields,
    refl,
    ap (λ (c : ClosedCase). names_closed c.fields) (sym (same_Some _ one e)) ∙ field_names _ _ fields,
  )
  declared_names (record_type at name params universe fields) (suc tag) one e = absurd (none-some one e)
  declared_names (union_type at name params universe cases) tag one e = union_names _ cases tag one e
  declared_names other tag one e = absurd (none-some one e)

-- ---- a case as it is seen

pub at_case : (cases : List ClosedCase) (tag : ℕ) (one : ClosedCase) → slice_get cases tag ≡ Some one
    → fields_at tag (map case_seen cases) ≡ Some (map field_seen one.fields)
at_case [] tag one e = absurd (none-some one e)
at_case (c ∷ rest) zero one e = ap (λ (x : ClosedCase). Some (map field_seen x.fields)) (same_Some c one e)
at_case (c ∷ rest) (suc tag) one e = at_case rest tag one e

module _ (program : List ModuleParts) (fit : DefinitionsFit program) (params : List Parameter) (regions : List Bytes)
    (given : Given) (s : Bindings) (stands : StandsFor (heads_of program) params given s) where
  abbrev Known : Meaning → Type 0
  Known t = IsKnown (heads_of program) params regions t

  abbrev Each : List Typed → Type 0
  Each fields = EachIsKnown (heads_of program) params regions fields

  fields_alike : (fields : List Typed) (fs : List ClosedField) → Each fields
      → AreClosed (map (running s 0) (field_types fields)) fs → names_closed fs ≡ names_known fields
      → map field_seen fs ≡ map (field_closed given) fields
  fields_alike [] [] each are names = refl
  fields_alike [] (f ∷ fs) each are names = absurd are
  fields_alike (one ∷ rest) [] each are names = absurd are
  fields_alike (one ∷ rest) (f ∷ fs) each are names =
      let of : f.of ≡ closed_under given one.of =
      same_Some f.of (closed_under given one.of)
      (sym are.0 ∙ known_closes (heads_of program) params regions given s 0 one.of stands each.0) in
      let name : f.name ≡ one.name = ap first_of names in
      λ i. record { name = name i; of = of i } ∷ fields_alike rest fs each.1 are.1 (ap rest_of names) i

  seen_case : (at : DeclAt) (args : Arguments) (tag : ℕ) (d : Standing) (written : List (Labelled Bytes))
      (fields : List Typed) → Known (named at args) → definition_of program at ≡ Some d
      → slice_get (cases_written d.says) tag ≡ Some written
      → fields_under program d (type_parameters d.says) args written ≡ Some fields → Each fields
      → meaning.fields_in program (closed_under given (named at args)) tag ≡ Some (map (field_closed given) fields)
  seen_case at args tag d written fields known defined listed_so under each =
      at_case (parts.cases_of program c) tag its.0 its.1
      ∙ ap (λ l. Some l) (fields_alike fields its.0.fields each its.2 names)
    where
      c : ClosedType
      c = closed_under given (named at args)

      case_is : defined_fields program args tag (definition_of program at) ≡ Some (field_types fields)
      case_is = ap (defined_fields program args tag) defined
          ∙ ap (option_and_then (λ (l : List (Labelled Bytes)).
          option_map field_types (fields_under program d (type_parameters d.says) args l))) listed_so
          ∙ ap (option_map field_types) under

      runs : fields_in program (running s 0 (named at args)) tag ≡ Some (map (running s 0) (field_types fields))
      runs = fields_running program s 0 fit params at args tag (field_types fields) stands.formed known.0 case_is

      its : (one : ClosedCase) × (slice_get (parts.cases_of program c) tag ≡ Some one)
          × AreClosed (map (running s 0) (field_types fields)) one.fields
      its = fields_closed program fit (running s 0 (named at args)) c tag (map (running s 0) (field_types fields))
          (known_closes (heads_of program) params regions given s 0 (named at args) stands known) runs

      said : (l : List (Labelled Bytes)) × (slice_get (cases_written d.says) tag ≡ Some l)
          × (names_closed its.0.fields ≡ labels l)
      said = declared_names (types_at program d.place d.part) (heads_of program) (listed (all_closed_under given args))
          d.says tag its.0
          (sym (ap (λ o. slice_get (parts.defined_cases program (listed (all_closed_under given args)) o) tag) defined)
          ∙ its.1)

      names : names_closed its.0.fields ≡ names_known fields
      names = said.2 ∙ ap labels (same_Some said.0 written (sym said.1 ∙ listed_so))
          ∙ sym (under_names program d (type_parameters d.says) args written fields under)

  -- ---- records

  record_case : (d : Standing) (args : Arguments) (says : PlainDeclaration) → d.says ≡ says → (fields : List Typed)
      → record_fields program d args says ≡ Some fields
      → (written : List (Labelled Bytes)) × (slice_get (cases_written d.says) 0 ≡ Some written)
      × (fields_under program d (type_parameters d.says) args written ≡ Some fields)
  record_case d args (record_type at name ps universe written) is fields e = (
    written,
    ap (λ x. slice_get (cases_written x) 0) is,
    ap (λ x. fields_under program d (type_parameters x) args written) is ∙ e,
  )
  record_case d args other is fields e = absurd (none-some fields e)

  pub record_seen : (place : ℕ) (t : Meaning) (fields : List Typed) → Known t → Each fields
      → fields_of program place t ≡ Some fields
      → meaning.fields_in program (closed_under given t) 0 ≡ Some (map (field_closed given) fields)
  record_seen place (named at args) fields known each e = by (known_definition program place at) refl e
    where
      by : (o : Option Standing) → known_definition program place at ≡ o → fields_defined program args o ≡ Some fields
          → meaning.fields_in program (closed_under given (named at args)) 0 ≡ Some (map (field_closed given) fields)
      by None is e = absurd (none-some fields e)
      by (Some d) is e =
          let its = record_case d args d.says refl fields e in
          seen_case at args 0 d its.0 fields known (known_defined program place at (standing_at program at) d is) its.1
          its.2 each
  record_seen place other fields known each e = absurd (none-some fields e)

  -- ---- unions

  case_in : (d : Standing) (ps : List Parameter) (args : Arguments) (cases : List (Variant Bytes)) (all : List Case)
      → cases_under program d ps args cases ≡ Some all → (tag : ℕ) (one : Case) → slice_get all tag ≡ Some one
      → (written : List (Labelled Bytes))
      × (slice_get (map (λ (v : Variant Bytes). v.fields) cases) tag ≡ Some written)
      × (fields_under program d ps args written ≡ Some one.fields)
  case_in d ps args [] all e tag one is =
      absurd (none-some one (ap (λ l. slice_get l tag) (same_Some [] all e) ∙ is))
  case_in d ps args (v ∷ rest) all e tag one is =
      on (followed_is (case_under program d ps args v) (cases_under program d ps args rest) all e) tag is
      (λ others its n there. case_in d ps args rest others its n one there)
    where
      on : (x : Case) × (others : List Case) × (case_under program d ps args v ≡ Some x)
          × (cases_under program d ps args rest ≡ Some others) × (x ∷ others ≡ all)
          → (tag : ℕ) → slice_get all tag ≡ Some one
          → ((others : List Case) → cases_under program d ps args rest ≡ Some others → (n : ℕ)
          → slice_get others n ≡ Some one → (written : List (Labelled Bytes))
          × (slice_get (map (λ (w : Variant Bytes). w.fields) rest) n ≡ Some written)
          × (fields_under program d ps args written ≡ Some one.fields))
          → (written : List (Labelled Bytes))
          × (slice_get (map (λ (w : Variant Bytes). w.fields) (v ∷ rest)) tag ≡ Some written)
          × (fields_under program d ps args written ≡ Some one.fields)
      on (x, others, first, its, whole) zero is later =
          let from = map_some (λ fields. record { target = case_target program d ps args v; fields = fields })
          (fields_under program d ps args v.fields) x first in
          let same : x ≡ one = same_Some x one (ap (λ l. slice_get l 0) whole ∙ is) in (
            v.fields,
            refl,
            from.1 ∙ ap (λ (c : Case). Some c.fields) (from.2 ∙ same),
          )
      on (x, others, first, its, whole) (suc n) is later =
          later others its n (ap (λ l. slice_get l (suc n)) whole ∙ is)

  pub union_case : (d : Standing) (args : Arguments) (says : PlainDeclaration) → d.says ≡ says → (all : List Case)
      → union_cases program d args says ≡ Some all → (tag : ℕ) (one : Case) → slice_get all tag ≡ Some one
      → (written : List (Labelled Bytes)) × (slice_get (cases_written d.says) tag ≡ Some written)
      × (fields_under program d (type_parameters d.says) args written ≡ Some one.fields)
  union_case d args (union_type at name ps universe cases) is all e tag one there =
      let its = case_in d (map parameter ps) args cases all e tag one there in (
        its.0,
        ap (λ x. slice_get (cases_written x) tag) is ∙ its.1,
        ap (λ x. fields_under program d (type_parameters x) args its.0) is ∙ its.2,
      )
  union_case d args other is all e tag one there = absurd (none-some all e)

  pub union_seen : (place : ℕ) (t : Meaning) (cases : List Case) → Known t → cases_of program place t ≡ Some cases
      → (tag : ℕ) (one : Case) → slice_get cases tag ≡ Some one → Each one.fields
      → meaning.fields_in program (closed_under given t) tag ≡ Some (map (field_closed given) one.fields)
  union_seen place (named at args) cases known e tag one is each = by (known_definition program place at) refl e
    where
      by : (o : Option Standing) → known_definition program place at ≡ o → cases_defined program args o ≡ Some cases
          → meaning.fields_in program (closed_under given (named at args)) tag
          ≡ Some (map (field_closed given) one.fields)
      by None found e = absurd (none-some cases e)
      by (Some d) found e =
          let its = union_case d args d.says refl cases e tag one is in
          seen_case at args tag d its.0 one.fields known
          (known_defined program place at (standing_at program at) d found) its.1 its.2 each
  union_seen place other cases known e tag one is each = absurd (none-some cases e)
