-- What is known of the fields of a declaration that is well made.
use Rattle.std.proofs.Common.{◌≡◌, ℕ, zero, suc, false, List, [], ◌∷◌, map, flat_map, Some, refl}
use Rattle.std.proofs.Common.{subst}
use Rattle.std.specs.Prelude.{◌≢◌, Contains, slice_get}
use Rattle.std.proofs.lemmas.List.Elements.{Contains-append_left, Contains-append_right}
use Rattle.std.proofs.lemmas.Option.{none-some, same_Some}
use Rattle.au_base.proofs.ListLemmas.{Contains-first, Contains-rest}
use Rattle.au_syntax.specs.declared.declarations.Universe.{Universe}
use Rattle.au_syntax.specs.declared.declarations.Universe.TheVariants as universes
use Rattle.au_syntax.specs.Modules.{Variant, constant, opaque_type, record_type, union_type, function}
use Rattle.au_syntax.specs.Modules.{class, instance, constant_body, function_body, instance_body}
use Rattle.au_syntax.specs.Plain.{Bytes, PlainDeclaration}
use Rattle.au_syntax.specs.Types.{Labelled}
use Rattle.au_types.specs.declared.headings.Head.{Head}
use Rattle.au_types.specs.declared.parameters.Parameter.{Parameter}
use Rattle.au_types.specs.declared.types.DeclAt.{DeclAt}
use Rattle.au_names.specs.DeclaredTypes.{DeclaredType, a_type, type_declared}
use Rattle.au_promises.specs.Mentions.{type_parameters}
use Rattle.au_formed.specs.Good.{FieldFits, IsFormed, IsGoodWriting, IsWellMade}
use Rattle.au_formed.specs.Writings.{Writing, a_universe, case_writings, field_writings}
use Rattle.au_formed.specs.Writings as writing
use Rattle.au_tables.specs.Tables.{cases_written}

module _ (visible : List (Bytes × DeclAt)) (heads : List (DeclAt × Head)) (params : List Parameter) where
  -- the types of fields are well formed, and fit a universe
  abbrev pub FieldsAreGood : Universe → List (Labelled Bytes) → Type 0
  FieldsAreGood universe [] = Unit {0}
  FieldsAreGood universe (one ∷ rest) =
      (IsFormed visible heads params one.of × FieldFits visible heads params universe one)
      × FieldsAreGood universe rest

  abbrev AreGood : List Writing → Type 0
  AreGood ws = (w : Writing) → Contains ws w → IsGoodWriting visible heads params w

  fields_good : (universe : Universe) (fields : List (Labelled Bytes)) → AreGood (field_writings fields)
      → ((field : Labelled Bytes) → Contains fields field → FieldFits visible heads params universe field)
      → FieldsAreGood universe fields
  fields_good universe [] written fit = tt
  fields_good universe (one ∷ rest) written fit = (
    (
      written (writing.a_type one.of) (Contains-first (writing.a_type one.of) (field_writings rest)),
      fit one (Contains-first one rest),
    ),
    fields_good universe rest
        (λ w c. written w (Contains-rest (writing.a_type one.of) (field_writings rest) w c))
        (λ f c. fit f (Contains-rest one rest f c)),
  )

  case_good : (universe : Universe) (cases : List (Variant Bytes)) (tag : ℕ) (fields : List (Labelled Bytes))
      → slice_get (map (λ (v : Variant Bytes). v.fields) cases) tag ≡ Some fields
      → AreGood (flat_map case_writings cases)
      → ((one : Variant Bytes) → Contains cases one → (field : Labelled Bytes) → Contains one.fields field
      → FieldFits visible heads params universe field)
      → FieldsAreGood universe fields
  case_good universe [] tag fields e written fit = absurd (none-some fields e)
  case_good universe (one ∷ rest) zero fields e written fit =
      subst (FieldsAreGood universe) (same_Some one.fields fields e)
      (fields_good universe one.fields
      (λ w c. written w (Contains-append_left (case_writings one) (flat_map case_writings rest) w c))
      (λ f c. fit one (Contains-first one rest) f c))
  case_good universe (one ∷ rest) (suc tag) fields e written fit =
      case_good universe rest tag fields e
      (λ w c. written w (Contains-append_right (case_writings one) (flat_map case_writings rest) w c))
      (λ v c f d. fit v (Contains-rest one rest v c) f d)

-- a declaration that has cases declares a type, whose fields are good in its universe
abbrev pub HasGoodCase : List (Bytes × DeclAt) → List (DeclAt × Head) → PlainDeclaration → List (Labelled Bytes) → Type 0
HasGoodCase visible heads says fields =
    (one : DeclaredType) × (type_declared says ≡ Some one) × (one.universe ≢ universes.Region)
    × FieldsAreGood visible heads (type_parameters says) one.universe fields

pub cases_good : (visible : List (Bytes × DeclAt)) (heads : List (DeclAt × Head)) (says : PlainDeclaration)
    → IsWellMade visible heads says → (tag : ℕ) (fields : List (Labelled Bytes))
    → slice_get (cases_written says) tag ≡ Some fields → HasGoodCase visible heads says fields
cases_good visible heads (record_type at name params universe fields) made zero written e = (
  a_type false name.name params universe,
  refl,
  made.written (a_universe at universe) (Contains-first (a_universe at universe) (field_writings fields)),
  subst (FieldsAreGood visible heads (type_parameters (record_type at name params universe fields)) universe)
      (same_Some fields written e)
      (fields_good visible heads (type_parameters (record_type at name params universe fields)) universe fields
      (λ w c. made.written w (Contains-rest (a_universe at universe) (field_writings fields) w c)) made.fields),
)
cases_good visible heads (record_type at name params universe fields) made (suc tag) written e =
    absurd (none-some written e)
cases_good visible heads (union_type at name params universe cases) made tag written e = (
  a_type false name.name params universe,
  refl,
  made.written (a_universe at universe) (Contains-first (a_universe at universe) (flat_map case_writings cases)),
  case_good visible heads (type_parameters (union_type at name params universe cases)) universe cases tag written e
      (λ w c. made.written w (Contains-rest (a_universe at universe) (flat_map case_writings cases) w c)) made.fields,
)
cases_good visible heads (constant at n t) made tag written e = absurd (none-some written e)
cases_good visible heads (opaque_type at n ps u) made tag written e = absurd (none-some written e)
cases_good visible heads (function at gs h) made tag written e = absurd (none-some written e)
cases_good visible heads (class at n p hs) made tag written e = absurd (none-some written e)
cases_good visible heads (instance at gs n t) made tag written e = absurd (none-some written e)
cases_good visible heads (constant_body at n t v) made tag written e = absurd (none-some written e)
cases_good visible heads (function_body at gs h b stop) made tag written e = absurd (none-some written e)
cases_good visible heads (instance_body at gs n t ms) made tag written e = absurd (none-some written e)
