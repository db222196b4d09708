-- The parameters of closed functions and the fields of closed types have names of their own.
use Rattle.std.proofs.Common.{◌≡◌, zero, suc, true, List, [], ◌∷◌, ◌++◌, map, Option, None, Some, refl, sym}
use Rattle.std.proofs.Common.{ap, ◌∙◌, subst}
use Rattle.std.specs.Prelude.{slice_get}
use Rattle.std.specs.List.{flat_map}
use Rattle.std.specs.Option.{option_map}
use Rattle.std.proofs.lemmas.Option.{none-some, same_Some, slice_get-map}
use Rattle.au_base.proofs.OptionLemmas.{map_some}
use Rattle.au_syntax.specs.declared.modules.Part.{Part}
use Rattle.au_syntax.specs.declared.modules.Part.TheVariants.{Body}
use Rattle.au_syntax.specs.Modules.{Variant, constant, opaque_type, record_type, union_type, function, class}
use Rattle.au_syntax.specs.Modules.{instance, constant_body, function_body, instance_body}
use Rattle.au_syntax.specs.Plain.{Bytes, PlainDeclaration}
use Rattle.au_syntax.specs.Types.{Labelled}
use Rattle.au_types.specs.declared.headings.Head.{Head}
use Rattle.au_types.specs.declared.parameters.Parameter.{Parameter}
use Rattle.au_types.specs.declared.types.DeclAt.{DeclAt}
use Rattle.au_modules.specs.Programs.{ModuleParts}
use Rattle.au_names.specs.HeadsOf.{heads_of, parameter}
use Rattle.au_names.specs.Standing.{Standing, definition_of}
use Rattle.au_judged_types.specs.Meanings.{written_params}
use Rattle.au_typing.specs.Written.{types_at}
use Rattle.au_rules.specs.declared.marks.Kind.TheVariants.{Callables, Fields, Types, Values}
use Rattle.au_rules.specs.declared.marks.Role.TheVariants.{Whole}
use Rattle.au_rules.specs.Marks.{case_marks, declared, enclosed, marks, parameter_mark, type_role}
use Rattle.au_typing.specs.Trees.{NotedParts}
use Rattle.au_type_texts.specs.Given.{Given}
use Rattle.au_type_texts.specs.Types.{ClosedType, integer, named, reads, text, truth, unit, writes}
use Rattle.au_closed_trees.specs.Parts.{ClosedCase, case_under, cases_of, declared_cases, defined_cases}
use Rattle.au_closed_trees.specs.Parts.{field_under, variant_under}
use Rattle.au_closed_trees.specs.TypeNames.{given_over, listed, type_names}
use Rattle.au_closing.specs.Bodies.{BodyOf, body_of}
use Rattle.au_closing.specs.Closes.{ClosedFunction, body_closed, instance_closed}
use Rattle.au_closing.specs.Instances.{Instance}
use Rattle.au_meaning.specs.Views.{Field}
use Rattle.au_closed_meanings.specs.Programs.{Case}
use Rattle.au_closed_meanings.specs.Surroundings.{field_names}
use Rattle.au_closed_meanings.specs.Closed.{parameters_seen}
use Rattle.au_closed_meanings.specs.Generic.{case_seen, cases_in, field_seen}
use Rattle.au_running.specs.Suits.{are_once}
use Rattle.au_running.specs.Once.{ClosedFieldsAreOnce, ClosedParametersAreOnce}
use Rattle.au_running.proofs.MarkLemmas.{AreNewThere, declared_once, inside_new, item_new, marks_written}
use Rattle.au_running.proofs.MarkLemmas.{names_written, rest_new}
use Rattle.au_running.proofs.StandingLemmas.{AllAre, body_new, definition_new}

-- ---- fields that are closed

module _ (names : List (Bytes × DeclAt)) (heads : List (DeclAt × Head)) (params : List Parameter)
    (given : Given) where
  -- fields keep their names
  names_kept : (all : List (Labelled Bytes))
      → field_names (map field_seen (map (field_under names heads params given) all)) ≡ names_written all
  names_kept [] = refl
  names_kept (one ∷ rest) = λ i. one.name.name ∷ names_kept rest i

  closed_once : (all : List (Labelled Bytes)) → are_once (names_written all) ≡ true
      → are_once (field_names (map field_seen (map (field_under names heads params given) all))) ≡ true
  closed_once all once = ap are_once (names_kept all) ∙ once

-- ---- parameters of closed functions

-- the parameters of a closed function have names of their own
abbrev HasOwnNames : ClosedFunction → Type 0
HasOwnNames f = are_once (field_names (parameters_seen f)) ≡ true

module _ (program : List ModuleParts) (noted : List NotedParts) where
  -- those of one whose instance has a body
  body_once : ((one : Instance) (body : BodyOf) → body_of program noted one.of ≡ Some body
      → are_once (names_written body.header.parameters) ≡ true)
      → (all : List Instance) (one : Instance) (f : ClosedFunction)
      → instance_closed program noted all one ≡ Some f → HasOwnNames f
  body_once once all one f is =
      let its = map_some (body_closed program noted all one.given) (body_of program noted one.of) f is in
      subst HasOwnNames its.2
      (closed_once (types_at program its.0.place Body) (heads_of program) (written_params its.0.generics)
      one.given its.0.header.parameters (once one its.0 its.1))

-- The parameters of each function that a derived program with good declarations closes to have names of
-- their own.
pub closed_parameters_are_once : ClosedParametersAreOnce
closed_parameters_are_once program noted good derived entry functions closes number names is =
    let its = map_some (λ (f : ClosedFunction). field_names (parameters_seen f)) (slice_get functions number)
    names is in
    let closed = instance_closed program noted closes.instances in
    let made = map_some closed (slice_get closes.instances number) (Some its.0)
    (sym (slice_get-map closed closes.instances number) ∙ sym (ap (λ l. slice_get l number) closes.closed)
    ∙ slice_get-map Some functions number ∙ ap (option_map Some) its.1) in
    subst (λ all. are_once all ≡ true) its.2
    (body_once program noted (λ one body there.
    declared_once Values body.header.parameters
    (body_new program noted derived.erased good.once one.of body there))
    closes.instances made.0 its.0 made.2)

-- ---- fields of closed types

-- the fields of a closed case have names of their own
abbrev IsOnceCase : ClosedCase → Type 0
IsOnceCase one = are_once (field_names (map field_seen one.fields)) ≡ true

-- those of a record, and of a case of a union, that declare nothing again
record_once : (part : Part) (at : _) (name : _) (params : _) (universe : _) (fields : List (Labelled Bytes))
    → AreNewThere (marks part (record_type at name params universe fields))
    → are_once (names_written fields) ≡ true
record_once part at name params universe fields there =
    let all = map parameter_mark params ++ marks_written Fields fields in
    declared_once Fields fields
    (rest_new (map parameter_mark params) (marks_written Fields fields)
    (inside_new all
    (rest_new (declared (type_role part) Types name ∷ declared Whole Callables name ∷ []) (enclosed all)
    there)))

variant_once : (part : Part) (at : _) (name : _) (params : _) (universe : _) (cases : List (Variant Bytes))
    → AreNewThere (marks part (union_type at name params universe cases))
    → AllAre (λ (one : Variant Bytes). are_once (names_written one.fields) ≡ true) cases
variant_once part at name params universe cases there index one is =
    let all = map parameter_mark params ++ flat_map case_marks cases in
    let each = rest_new (map parameter_mark params) (flat_map case_marks cases)
    (inside_new all (rest_new (declared (type_role part) Types name ∷ []) (enclosed all) there)) in
    let its = item_new case_marks cases index one is each in
    declared_once Fields one.fields
    (inside_new (marks_written Fields one.fields)
    (rest_new (declared Whole Callables one.name ∷ []) (enclosed (marks_written Fields one.fields)) its))

module _ (names : List (Bytes × DeclAt)) (heads : List (DeclAt × Head)) (args : List ClosedType) where
  -- those of the cases of a declaration
  declared_cases_once : (part : Part) (d : PlainDeclaration) → AreNewThere (marks part d)
      → AllAre IsOnceCase (declared_cases names heads args d)
  declared_cases_once part (record_type at name params universe fields) there zero one is =
      let given = given_over (type_names (map parameter params)) args in
      subst IsOnceCase
      (same_Some (case_under names heads (map parameter params) given name fields) one is)
      (closed_once names heads (map parameter params) given fields
      (record_once part at name params universe fields there))
  declared_cases_once part (record_type at name params universe fields) there (suc index) one is =
      absurd (none-some one is)
  declared_cases_once part (union_type at name params universe cases) there index one is =
      let given = given_over (type_names (map parameter params)) args in
      let made = variant_under names heads (map parameter params) given in
      let its = map_some made (slice_get cases index) one (sym (slice_get-map made cases index) ∙ is) in
      subst IsOnceCase its.2
      (closed_once names heads (map parameter params) given its.0.fields
      (variant_once part at name params universe cases there index its.0 its.1))
  declared_cases_once part (constant at n t) there index one is = absurd (none-some one is)
  declared_cases_once part (opaque_type at n ps u) there index one is = absurd (none-some one is)
  declared_cases_once part (function at gs h) there index one is = absurd (none-some one is)
  declared_cases_once part (class at n p hs) there index one is = absurd (none-some one is)
  declared_cases_once part (instance at gs n t) there index one is = absurd (none-some one is)
  declared_cases_once part (constant_body at n t e) there index one is = absurd (none-some one is)
  declared_cases_once part (function_body at gs h b stop) there index one is = absurd (none-some one is)
  declared_cases_once part (instance_body at gs n t ms) there index one is = absurd (none-some one is)

module _ (program : List ModuleParts)
    (new : (at : DeclAt) (d : Standing) → definition_of program at ≡ Some d
    → AreNewThere (marks d.part d.says)) where
  defined_once : (at : DeclAt) (args : List ClosedType) (o : Option Standing) → definition_of program at ≡ o
      → AllAre IsOnceCase (defined_cases program args o)
  defined_once at args None there index one is = absurd (none-some one is)
  defined_once at args (Some d) there index one is =
      declared_cases_once (types_at program d.place d.part) (heads_of program) args d.part d.says
      (new at d there) index one is

  cases_once : (of : ClosedType) → AllAre IsOnceCase (cases_of program of)
  cases_once (named at args) index one is =
      defined_once at (listed args) (definition_of program at) refl index one is
  cases_once unit index one is = absurd (none-some one is)
  cases_once truth index one is = absurd (none-some one is)
  cases_once (integer kind) index one is = absurd (none-some one is)
  cases_once text index one is = absurd (none-some one is)
  cases_once (reads t) index one is = absurd (none-some one is)
  cases_once (writes t) index one is = absurd (none-some one is)

-- The fields of each case of a closed type of a program with good declarations have names of their own.
pub closed_fields_are_once : ClosedFieldsAreOnce
closed_fields_are_once program good of tag fields is =
    let its = map_some (λ (one : Case). one.fields) (slice_get (cases_in program of) tag) fields is in
    let made = map_some case_seen (slice_get (cases_of program of) tag) its.0
    (sym (slice_get-map case_seen (cases_of program of) tag) ∙ its.1) in
    subst (λ (all : List Field). are_once (field_names all) ≡ true)
    (ap (λ (c : Case). c.fields) made.2 ∙ its.2)
    (cases_once program (definition_new program good.once) of tag made.0 made.1)
