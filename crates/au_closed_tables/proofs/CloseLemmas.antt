-- The fields of a running type close to those that the meaning knows.
use Rattle.std.proofs.Common.{◌≡◌, ℕ, zero, suc, Bool, true, false, cond, true≢false, List, [], ◌∷◌, map}
use Rattle.std.proofs.Common.{Option, None, Some, refl, sym, ap, ◌∙◌, subst}
use Rattle.std.specs.Prelude.{if◌then◌else◌, is_some, slice_get}
use Rattle.std.specs.Map.{lookup}
use Rattle.std.specs.Option.{option_map}
use Rattle.std.specs.Str.{bytes_eq}
use Rattle.std.proofs.lemmas.Bool.{and_parts}
use Rattle.std.proofs.lemmas.Option.{none-some, same_Some}
use Rattle.au_base.proofs.OptionLemmas.{map_some}
use Rattle.au_syntax.specs.declared.declarations.Universe.{Universe}
use Rattle.au_syntax.specs.declared.declarations.Universe.TheVariants as universes
use Rattle.au_syntax.specs.Modules.{Variant, constant, opaque_type, record_type, union_type, function}
use Rattle.au_syntax.specs.Modules.{class, instance, constant_body, function_body, instance_body}
use Rattle.au_syntax.specs.Plain.{Bytes, PlainDeclaration}
use Rattle.au_syntax.specs.Types.{Labelled}
use Rattle.au_types.specs.declared.headings.Head.{Head}
use Rattle.au_types.specs.declared.parameters.Parameter.{Parameter}
use Rattle.au_types.specs.declared.types.DeclAt.{DeclAt}
use Rattle.au_types.specs.declared.types.Region.{Region}
use Rattle.au_types.specs.Rows.{head_of}
use Rattle.au_types.specs.Types as whole
use Rattle.au_types.specs.Types.{Meaning, Argument, Arguments, of_type, in_region, no_arguments, arguments}
use Rattle.au_types.specs.Universes.{universe_in}
use Rattle.au_matching.specs.Bindings.{value_of}
use Rattle.au_matching.specs.Forming.{all_fit, all_formed, fit_row, fits_in_kind, is_formed}
use Rattle.au_matching.specs.Substituted.{substituted, type_for}
use Rattle.au_matching.specs.Universes.{of_parameter}
use Rattle.au_matching.proofs.BindingLemmas.{value_of-with}
use Rattle.au_matching.proofs.LawLemmas.{well_formed_stands}
use Rattle.au_matching.proofs.SubstitutedLemmas.{each_so}
use Rattle.au_type_texts.specs.Closing.{all_closed, closed, in_front}
use Rattle.au_type_texts.specs.Given.{Given, closed_or_unit, closed_under, given_for}
use Rattle.au_type_texts.specs.Types.{ClosedType, ClosedTypes, named, types}
use Rattle.au_type_texts.proofs.GivenLemmas.{closing_substituted}
use Rattle.au_modules.specs.Programs.{ModuleParts}
use Rattle.au_names.specs.HeadsOf.{heads_of}
use Rattle.au_names.specs.Standing.{Standing, definition_of}
use Rattle.au_promises.specs.Mentions.{type_parameters}
use Rattle.au_written_types.specs.Written.{IsRegionName, IsTypeName, IsWritten}
use Rattle.au_written_types.proofs.MeantLemmas.{meant_written}
use Rattle.au_typing.specs.Insides.{typed_under, with_arguments}
use Rattle.au_typing.specs.Scopes.{Typed}
use Rattle.au_typing.specs.Written.{all_typed, meant_in, typed, types_at}
use Rattle.au_closed_trees.specs.Parts.{ClosedCase, case_under, cases_of, declared_cases, defined_cases}
use Rattle.au_closed_trees.specs.Parts.{field_under, written_under}
use Rattle.au_closed_trees.specs.TypeNames.{given_over, is_region, listed, type_names}
use Rattle.au_tables.specs.Tables.{DefinitionsFit, cases_written, defined_fields, field_types, fields_in, is_well_formed}
use Rattle.au_tables.proofs.ArgumentLemmas.{same_names}
use Rattle.au_tables.proofs.LawfulLemmas.{HasCase, case_has, followed_is}
use Rattle.au_closed_tables.specs.Closing.{AreClosed}

-- ---- arguments

in_front_is : (o : Option ClosedType) (p : Option ClosedTypes) (c : ClosedTypes) → in_front o p ≡ Some c
    → (one : ClosedType) × (rest : ClosedTypes) × (o ≡ Some one) × (p ≡ Some rest) × (types one rest ≡ c)
in_front_is (Some one) (Some rest) c e = (one, rest, refl, refl, same_Some (types one rest) c e)
in_front_is None p c e = absurd (none-some c e)
in_front_is (Some one) None c e = absurd (none-some c e)

region_kind : (universe : Universe) (region : Region) → fits_in_kind universe (in_region region) ≡ true → is_region universe ≡ true
region_kind universes.Region region e = refl
region_kind universes.Free region e = absurd (true≢false (sym e))
region_kind universes.Linear region e = absurd (true≢false (sym e))
region_kind universes.AnyType region e = absurd (true≢false (sym e))

type_kind : (universe : Universe) (t : Meaning) → fits_in_kind universe (of_type t) ≡ true → is_region universe ≡ false
type_kind universes.Free t e = refl
type_kind universes.Linear t e = refl
type_kind universes.AnyType t e = refl
type_kind universes.Region t e = absurd (true≢false (sym e))

no_type : (universe : Universe) → is_region universe ≡ true → is_some (of_parameter (Some universe)) ≡ true → ⊥
no_type universes.Region e some = true≢false (sym some)
no_type universes.Free e some = true≢false (sym e)
no_type universes.Linear e some = true≢false (sym e)
no_type universes.AnyType e some = true≢false (sym e)

-- what a type parameter is given closes to what it is given of the closed arguments
Puts : List Parameter → Arguments → ClosedTypes → List ℕ → Type 0
Puts ps args cs name =
    closed (type_for (value_of name (with_arguments ps args)) name)
    ≡ Some (given_for (given_over (type_names ps) (listed cs)) name)

arguments_close : (ps : List Parameter) (args : Arguments) (cs : ClosedTypes) → all_fit fits_in_kind ps args ≡ true
    → all_closed args ≡ Some cs → (name : List ℕ) → IsTypeName ps name → Puts ps args cs name
unfolding Puts
arguments_close [] args cs fit e name some = absurd (true≢false (sym some))
arguments_close (p ∷ ps) no_arguments cs fit e name some = absurd (true≢false (sym fit))
arguments_close (p ∷ ps) (arguments (in_region region) rest) cs fit e name some =
    let both = and_parts (fits_in_kind p.universe (in_region region)) (all_fit fits_in_kind ps rest) fit in
    let kind = region_kind p.universe region both.0 in
    ap (λ o. closed (type_for o name)) (value_of-with name p.name (in_region region) (with_arguments ps rest))
    ∙ by (bytes_eq p.name name) (bytes_eq name p.name) (same_names p.name name) kind some
    (arguments_close ps rest cs both.1 e name)
    ∙ ap (λ b. Some (given_for (given_over (if b then type_names ps else p.name ∷ type_names ps) (listed cs)) name))
    (sym kind)
  where
    by : (a b : Bool) → a ≡ b → is_region p.universe ≡ true
        → is_some (of_parameter (cond a (Some p.universe) (universe_in ps name))) ≡ true
        → (IsTypeName ps name → Puts ps rest cs name)
        → closed (type_for (cond b (Some (in_region region)) (value_of name (with_arguments ps rest))) name)
        ≡ Some (given_for (given_over (type_names ps) (listed cs)) name)
    by true b same kind some later = absurd (no_type p.universe kind some)
    by false false same kind some later = later some
    by false true same kind some later = absurd (true≢false (sym same))
arguments_close (p ∷ ps) (arguments (of_type t) rest) cs fit e name some =
    on (in_front_is (closed t) (all_closed rest) cs e)
    (λ more its. arguments_close ps rest more both.1 its name)
  where
    both : (fits_in_kind p.universe (of_type t) ≡ true) × (all_fit fits_in_kind ps rest ≡ true)
    both = and_parts (fits_in_kind p.universe (of_type t)) (all_fit fits_in_kind ps rest) fit

    by : (one : ClosedType) (more : ClosedTypes) → closed t ≡ Some one → (a b : Bool) → a ≡ b
        → is_some (of_parameter (cond a (Some p.universe) (universe_in ps name))) ≡ true
        → (IsTypeName ps name → Puts ps rest more name)
        → closed (type_for (cond b (Some (of_type t)) (value_of name (with_arguments ps rest))) name)
        ≡ Some (closed_or_unit (cond b (Some one)
        (lookup (bytes_eq name) (given_over (type_names ps) (listed more)))))
    by one more is true true same some later = is
    by one more is false false same some later = later some
    by one more is true false same some later = absurd (true≢false same)
    by one more is false true same some later = absurd (true≢false (sym same))

    on : (one : ClosedType) × (more : ClosedTypes) × (closed t ≡ Some one) × (all_closed rest ≡ Some more)
        × (types one more ≡ cs)
        → ((more : ClosedTypes) → all_closed rest ≡ Some more → IsTypeName ps name → Puts ps rest more name)
        → Puts (p ∷ ps) (arguments (of_type t) rest) cs name
    on (one, more, is, its, all) later =
        ap (λ o. closed (type_for o name)) (value_of-with name p.name (of_type t) (with_arguments ps rest))
        ∙ by one more is (bytes_eq p.name name) (bytes_eq name p.name) (same_names p.name name) some (later more its)
        ∙ ap (λ b. Some (given_for (given_over (if b then type_names ps else p.name ∷ type_names ps)
        (listed (types one more))) name)) (sym (type_kind p.universe t both.0))
        ∙ ap (λ c. Some (given_for (given_over (type_names (p ∷ ps)) (listed c)) name)) all

-- ---- fields

module _ (program : List ModuleParts) (d : Standing) (ps : List Parameter) (args : Arguments) (cs : ClosedTypes)
    (fit : all_fit fits_in_kind ps args ≡ true) (closes : all_closed args ≡ Some cs) where
  abbrev given : Given
  given = given_over (type_names ps) (listed cs)

  abbrev visible : List (Bytes × DeclAt)
  visible = types_at program d.place d.part

  type_closes : (t : Meaning) → IsWritten [] ps t
      → closed (substituted (with_arguments ps args) t) ≡ Some (closed_under given t)
  unfolding Puts
  type_closes t is =
      closing_substituted given (with_arguments ps args) t
      (each_so (IsTypeName ps)
      (λ name. closed (substituted (with_arguments ps args) (whole.parameter name)) ≡ Some (given_for given name))
      (IsRegionName [] ps) (λ name. Unit {0})
      (λ name some. arguments_close ps args cs fit closes name some) (λ name some. tt) t is.names)

  kinds_close : (written : List (Labelled Bytes)) (kinds : List Typed) → all_typed program d ps written ≡ Some kinds
      → AreClosed (field_types (map (typed_under (with_arguments ps args)) kinds))
      (map (field_under visible (heads_of program) ps given) written)
  kinds_close [] kinds e =
      subst (λ ks. AreClosed (field_types (map (typed_under (with_arguments ps args)) ks)) [])
      (same_Some [] kinds e) tt
  kinds_close (one ∷ rest) kinds e =
      on (followed_is (typed program d ps one) (all_typed program d ps rest) kinds e)
      (λ others its. kinds_close rest others its)
    where
      on : (x : Typed) × (others : List Typed) × (typed program d ps one ≡ Some x)
          × (all_typed program d ps rest ≡ Some others) × (x ∷ others ≡ kinds)
          → ((others : List Typed) → all_typed program d ps rest ≡ Some others
          → AreClosed (field_types (map (typed_under (with_arguments ps args)) others))
          (map (field_under visible (heads_of program) ps given) rest))
          → AreClosed (field_types (map (typed_under (with_arguments ps args)) kinds))
          (map (field_under visible (heads_of program) ps given) (one ∷ rest))
      on (x, others, is, its, all) later =
          let from = map_some (λ t. record { name = one.name.name; of = t }) (meant_in program d ps one.of) x is in
          let of_x : from.0 ≡ x.of = ap (λ (y : Typed). y.of) from.2 in
          let written : IsWritten [] ps x.of =
          subst (IsWritten [] ps) of_x
          (meant_written [] ps visible (heads_of program) one.of from.0 from.1) in
          let under : Some (closed_under given x.of)
          ≡ Some (written_under visible (heads_of program) ps given one.of) =
          ap (λ t. Some (closed_under given t)) (sym of_x)
          ∙ ap (λ o. Some (closed_or_unit (option_map (closed_under given) o))) (sym from.1) in
          subst (λ ks. AreClosed (field_types (map (typed_under (with_arguments ps args)) ks))
          (map (field_under visible (heads_of program) ps given) (one ∷ rest))) all
          (type_closes x.of written ∙ under, later others its)

-- ---- cases

-- the case of a number of a declaration, closed
case_there : (visible : List (Bytes × DeclAt)) (heads : List (DeclAt × Head)) (args : List ClosedType)
    (says : PlainDeclaration) (tag : ℕ) (written : List (Labelled Bytes)) → slice_get (cases_written says) tag ≡ Some written
    → (one : ClosedCase) × (slice_get (declared_cases visible heads args says) tag ≡ Some one)
    × (one.fields ≡ map (field_under visible heads (type_parameters says)
    (given_over (type_names (type_parameters says)) args)) written)
case_there visible heads args (record_type at name params universe fields) zero written e = (
  case_under visible heads (type_parameters (record_type at name params universe fields))
      (given_over (type_names (type_parameters (record_type at name params universe fields))) args) name fields,
  refl,
  ap (map (field_under visible heads (type_parameters (record_type at name params universe fields))
      (given_over (type_names (type_parameters (record_type at name params universe fields))) args)))
      (same_Some fields written e),
)
case_there visible heads args (record_type at name params universe fields) (suc tag) written e =
    absurd (none-some written e)
case_there visible heads args (union_type at name params universe cases) tag written e = go cases tag e
  where
    go : (cases : List (Variant Bytes)) (tag : ℕ) → slice_get (map (λ (v : Variant Bytes). v.fields) cases) tag
        ≡ Some written
        → (one : ClosedCase)
        × (slice_get (declared_cases visible heads args (union_type at name params universe cases)) tag ≡ Some one)
        × (one.fields ≡ map (field_under visible heads (type_parameters (union_type at name params universe cases))
        (given_over (type_names (type_parameters (union_type at name params universe cases))) args)) written)
    go [] tag e = absurd (none-some written e)
    go (v ∷ rest) zero e = (
      case_under visible heads (type_parameters (union_type at name params universe cases))
          (given_over (type_names (type_parameters (union_type at name params universe cases))) args) v.name v.fields,
      refl,
      ap (map (field_under visible heads (type_parameters (union_type at name params universe cases))
          (given_over (type_names (type_parameters (union_type at name params universe cases))) args)))
          (same_Some v.fields written e),
    )
    go (v ∷ rest) (suc tag) e = go rest tag e
case_there visible heads args (constant at n t) tag written e = absurd (none-some written e)
case_there visible heads args (opaque_type at n ps u) tag written e = absurd (none-some written e)
case_there visible heads args (function at gs h) tag written e = absurd (none-some written e)
case_there visible heads args (class at n p hs) tag written e = absurd (none-some written e)
case_there visible heads args (instance at gs n t) tag written e = absurd (none-some written e)
case_there visible heads args (constant_body at n t v) tag written e = absurd (none-some written e)
case_there visible heads args (function_body at gs h b stop) tag written e = absurd (none-some written e)
case_there visible heads args (instance_body at gs n t ms) tag written e = absurd (none-some written e)

module _ (program : List ModuleParts) (fit : DefinitionsFit program) where
  HasClosed : ClosedType → ℕ → List Meaning → Type 0
  HasClosed c tag of =
      (one : ClosedCase) × (slice_get (cases_of program c) tag ≡ Some one) × AreClosed of one.fields

  defined_closed : (at : DeclAt) (args : Arguments) (cs : ClosedTypes) (tag : ℕ) (of : List Meaning) (d : Standing)
      → definition_of program at ≡ Some d → all_fit fits_in_kind (type_parameters d.says) args ≡ true
      → all_closed args ≡ Some cs → HasCase program args tag of d → HasClosed (named at cs) tag of
  unfolding HasClosed
  defined_closed at args cs tag of d is kinds closes has =
      let its = case_there (types_at program d.place d.part) (heads_of program) (listed cs) d.says tag has.written
      has.listed in (
        its.0,
        ap (λ o. slice_get (defined_cases program (listed cs) o) tag) is ∙ its.1,
        subst (AreClosed of) (sym its.2)
            (subst (λ ts. AreClosed ts (map (field_under (types_at program d.place d.part) (heads_of program)
            (type_parameters d.says) (given_over (type_names (type_parameters d.says)) (listed cs))) has.written))
            has.are
            (kinds_close program d (type_parameters d.says) args cs kinds closes has.written has.kinds has.mean)),
      )

  named_closed : (at : DeclAt) (args : Arguments) (cs : ClosedTypes) (tag : ℕ) (of : List Meaning)
      → all_closed args ≡ Some cs → fields_in program (whole.named at args) tag ≡ Some of
      → HasClosed (named at cs) tag of
  unfolding is_formed
  named_closed at args cs tag of closes e =
      by (is_well_formed program (whole.named at args)) refl (definition_of program at) refl e
    where
      on : (d : Standing) → definition_of program at ≡ Some d → (o : Option Head)
          → head_of (heads_of program) at ≡ o → fit_row fits_in_kind o args ≡ true
          → all_fit fits_in_kind (type_parameters d.says) args ≡ true
      on d is None row fits_row = absurd (true≢false (sym fits_row))
      on d is (Some head) row fits_row =
          subst (λ ps. all_fit fits_in_kind ps args ≡ true) (fit.parameters at d head is row) fits_row

      by : (b : Bool) → is_well_formed program (whole.named at args) ≡ b → (o : Option Standing)
          → definition_of program at ≡ o → (if b then defined_fields program args tag o else None) ≡ Some of
          → HasClosed (named at cs) tag of
      by false well o is e = absurd (none-some of e)
      by true well None is e = absurd (none-some of e)
      by true well (Some d) is e =
          defined_closed at args cs tag of d is
          (on d is (head_of (heads_of program) at) refl
          (and_parts (fit_row fits_in_kind (head_of (heads_of program) at) args)
          (all_formed fits_in_kind (heads_of program) [] args)
          (well_formed_stands (heads_of program) [] (whole.named at args) well)).0)
          closes (case_has program args tag of d e)

  pub fields_closed : (t : Meaning) (c : ClosedType) (tag : ℕ) (of : List Meaning) → closed t ≡ Some c
      → fields_in program t tag ≡ Some of
      → (one : ClosedCase) × (slice_get (cases_of program c) tag ≡ Some one) × AreClosed of one.fields
  unfolding HasClosed
  fields_closed (whole.named at args) c tag of e f =
      let its = map_some (named at) (all_closed args) c e in
      subst (λ x. HasClosed x tag of) its.2 (named_closed at args its.0 tag of its.1 f)
  fields_closed other c tag of e f = absurd (none-some of f)
