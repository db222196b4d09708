-- The names of the cases of a closed type, and of their fields, don't depend on its arguments.
use Rattle.std.proofs.Common.{◌≡◌, ℕ, zero, suc, ◌+◌, Bool, true, List, [], ◌∷◌, Option, Some, None, map, refl, sym, ap, ap₂}
use Rattle.std.proofs.Common.{◌∙◌, slice_get}
use Rattle.std.specs.Prelude.{if◌then◌else◌}
use Rattle.std.specs.Str.{bytes_eq}
use Rattle.au_effects.specs.Parts.{along}
use Rattle.au_meaning.specs.Names.{fields_through}
use Rattle.au_meaning.specs.Views.{Field}
use Rattle.au_syntax.specs.Modules.{Variant, record_type, union_type}
use Rattle.au_syntax.specs.Plain.{Bytes, PlainDeclaration}
use Rattle.au_syntax.specs.Types.{Labelled}
use Rattle.au_types.specs.declared.headings.Head.{Head}
use Rattle.au_types.specs.declared.parameters.Parameter.{Parameter}
use Rattle.au_types.specs.declared.types.DeclAt.{DeclAt}
use Rattle.au_modules.specs.Programs.{ModuleParts}
use Rattle.au_names.specs.HeadsOf.{heads_of, parameter}
use Rattle.au_names.specs.Standing.{Standing, definition_of}
use Rattle.au_typing.specs.Written.{types_at}
use Rattle.au_type_texts.specs.Types.{ClosedType, ClosedTypes, unit, truth, integer, text, named, reads, writes}
use Rattle.au_type_texts.specs.Given.{Given}
use Rattle.au_closed_trees.specs.Parts.{ClosedCase, ClosedField, cases_of, declared_cases, defined_cases, field_under}
use Rattle.au_closed_trees.specs.Parts.{variant_under}
use Rattle.au_closed_trees.specs.TypeNames.{given_over, listed, type_names}
use Rattle.au_closing.specs.Closes.{ClosedFunction}
use Rattle.au_closed_meanings.specs.Generic.{case_seen, field_seen}
use Rattle.au_closed_meanings.specs.Kept.{SaysWhatIs}
use Rattle.au_closed_meanings.specs.Programs.{case_from, fields_at}
use Rattle.au_closed_meanings.specs.Surroundings.{Surroundings, field_names}
use Rattle.au_lowered.specs.Slots.{known}

-- a case by its name and the names of its fields
abbrev pub labels_of_case : ClosedCase → Bytes × List Bytes
labels_of_case one = (one.name, map (λ (field : ClosedField). field.name) one.fields)

abbrev pub labels_of : List ClosedCase → List (Bytes × List Bytes)
labels_of cases = map labels_of_case cases

module _ (names : List (Bytes × DeclAt)) (heads : List (DeclAt × Head)) (params : List Parameter) (given others : Given)
  where
    field_names_same : (fields : List (Labelled Bytes))
        → map (λ (field : ClosedField). field.name) (map (field_under names heads params given) fields)
        ≡ map (λ (field : ClosedField). field.name) (map (field_under names heads params others) fields)
    field_names_same [] = refl
    field_names_same (one ∷ rest) = ap (λ all. one.name.name ∷ all) (field_names_same rest)

    variants_same : (cases : List (Variant Bytes))
        → labels_of (map (variant_under names heads params given) cases)
        ≡ labels_of (map (variant_under names heads params others) cases)
    variants_same [] = refl
    variants_same (one ∷ rest) =
        ap₂ (λ fields all. (one.name.name, fields) ∷ all) (field_names_same one.fields) (variants_same rest)

declared_same : (names : List (Bytes × DeclAt)) (heads : List (DeclAt × Head)) (args others : List ClosedType) (d :
    PlainDeclaration)
    → labels_of (declared_cases names heads args d) ≡ labels_of (declared_cases names heads others d)
declared_same names heads args others (record_type at name params universe fields) =
    let all = map parameter params in
    ap (λ own. (name.name, own) ∷ []) (field_names_same names heads all (given_over (type_names all) args) (given_over
    (type_names all) others) fields)
declared_same names heads args others (union_type at name params universe cases) =
    let all = map parameter params in
    variants_same names heads all (given_over (type_names all) args) (given_over (type_names all) others) cases
declared_same names heads args others other = refl

defined_same : (program : List ModuleParts) (args others : List ClosedType) (o : Option Standing)
    → labels_of (defined_cases program args o) ≡ labels_of (defined_cases program others o)
defined_same program args others None = refl
defined_same program args others (Some d) =
    declared_same (types_at program d.place d.part) (heads_of program) args others d.says

pub case_names_same : (program : List ModuleParts) (at : DeclAt) (args others : ClosedTypes)
    → labels_of (cases_of program (named at args)) ≡ labels_of (cases_of program (named at others))
case_names_same program at args others = defined_same program (listed args) (listed others) (definition_of program at)

-- ---- by names alone

field_names_seen : (fields : List ClosedField)
    → field_names (map field_seen fields) ≡ map (λ (field : ClosedField). field.name) fields
field_names_seen [] = refl
field_names_seen (one ∷ rest) = ap (λ all. one.name ∷ all) (field_names_seen rest)

-- the names of the fields of the case of a number, and the number of the case of a name
abbrev named_at : Option (Bytes × List Bytes) → List Bytes
named_at None = []
named_at (Some one) = one.1

abbrev label_from : ℕ → Bytes → List (Bytes × List Bytes) → Option ℕ
label_from number name [] = None
label_from number name (one ∷ rest) = if bytes_eq one.0 name then Some number else label_from (number + 1) name rest

fields_named : (tag : ℕ) (cases : List ClosedCase)
    → field_names (known (fields_at tag (map case_seen cases))) ≡ named_at (slice_get (labels_of cases) tag)
fields_named tag [] = refl
fields_named zero (one ∷ rest) = field_names_seen one.fields
fields_named (suc tag) (one ∷ rest) = fields_named tag rest

tags_named : (number : ℕ) (name : Bytes) (cases : List ClosedCase)
    → case_from number name (map case_seen cases) ≡ label_from number name (labels_of cases)
tags_named number name [] = refl
tags_named number name (one ∷ rest) =
    ap (λ o. if bytes_eq one.name name then Some number else o) (tags_named (number + 1) name rest)

names_through : (of : ClosedType) (fields : Option (List Field))
    → field_names (known (fields_through of fields)) ≡ field_names (known fields)
names_through unit fields = refl
names_through truth fields = refl
names_through (integer kind) fields = refl
names_through text fields = refl
names_through (named at args) fields = refl
names_through (reads to) None = refl
names_through (reads to) (Some fields) = renamed fields
  where
    renamed : (fields : List Field)
        → field_names (map (λ (field : Field). record field { of = reads field.of }) fields) ≡ field_names fields
    renamed [] = refl
    renamed (one ∷ rest) = ap (λ all. one.name ∷ all) (renamed rest)
names_through (writes to) None = refl
names_through (writes to) (Some fields) = renamed fields
  where
    renamed : (fields : List Field)
        → field_names (map (λ (field : Field). record field { of = writes field.of }) fields) ≡ field_names fields
    renamed [] = refl
    renamed (one ∷ rest) = ap (λ all. one.name ∷ all) (renamed rest)

-- ---- by what is round a tree

module _ (program : List ModuleParts) (functions : List ClosedFunction) (round : Bytes → Surroundings)
    (counts : ClosedType → Bool) (says : SaysWhatIs counts program functions round) (home : Bytes) (at : DeclAt)
    (args others : ClosedTypes) (one : counts (named at args) ≡ true) (other : counts (named at others) ≡ true) where
  -- the fields of a case have the same names
  pub fields_agree : (tag : ℕ)
      → field_names (known ((round home).fields (named at args) tag))
      ≡ field_names (known ((round home).fields (named at others) tag))
  fields_agree tag =
      ap (λ o. field_names (known o)) (says.fields home (named at args) one tag)
      ∙ fields_named tag (cases_of program (named at args))
      ∙ ap (λ labels. named_at (slice_get labels tag)) (case_names_same program at args others)
      ∙ sym (fields_named tag (cases_of program (named at others)))
      ∙ sym (ap (λ o. field_names (known o)) (says.fields home (named at others) other tag))

  -- a name means the case of one number
  tags_agree : (name : Bytes) → (round home).tag (named at args) name ≡ (round home).tag (named at others) name
  tags_agree name =
      says.tags home (named at args) one name
      ∙ tags_named 0 name (cases_of program (named at args))
      ∙ ap (label_from 0 name) (case_names_same program at args others)
      ∙ sym (tags_named 0 name (cases_of program (named at others)))
      ∙ sym (says.tags home (named at others) other name)

  -- the fields of the case of a name have the same names, also where they are reached through references
  pub cases_agree : (through further : ClosedType) (name : Bytes)
      → field_names (known (along ((round home).tag (named at args) name)
      (λ tag. fields_through through ((round home).fields (named at args) tag))))
      ≡ field_names (known (along ((round home).tag (named at others) name)
      (λ tag. fields_through further ((round home).fields (named at others) tag))))
  cases_agree through further name =
      by ((round home).tag (named at args) name)
      ∙ ap (λ o. field_names (known (along o
      (λ tag. fields_through further ((round home).fields (named at others) tag))))) (tags_agree name)
    where
      by : (o : Option ℕ)
          → field_names (known (along o (λ tag. fields_through through ((round home).fields (named at args) tag))))
          ≡ field_names (known (along o (λ tag. fields_through further ((round home).fields (named at others) tag))))
      by None = refl
      by (Some tag) =
          names_through through ((round home).fields (named at args) tag) ∙ fields_agree tag
          ∙ sym (names_through further ((round home).fields (named at others) tag))
