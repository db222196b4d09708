-- Records and unions as the view of a body sees them.
use Rattle.std.proofs.Common.{◌≡◌, ℕ, zero, suc, ◌+◌, Bool, true, false, cond, true≢false, List, []}
use Rattle.std.proofs.Common.{◌∷◌, map, find, Option, None, Some, refl, sym, ap, ◌∙◌, subst, arith}
use Rattle.std.proofs.Common.{if◌then◌else◌}
use Rattle.std.specs.Prelude.{option_and_then, slice_get}
use Rattle.std.specs.Option.{option_map}
use Rattle.std.specs.Str.{bytes_eq}
use Rattle.std.proofs.lemmas.Bool.{and_from}
use Rattle.std.proofs.lemmas.Option.{none-some, same_Some}
use Rattle.std.proofs.lemmas.Slice.Eq.{bytes_eq-Decides}
use Rattle.au_base.proofs.OptionLemmas.{map_some}
use Rattle.au_syntax.specs.declared.modules.Part.TheVariants.{Body}
use Rattle.au_syntax.specs.Modules.{Variant, record_type, union_type}
use Rattle.au_syntax.specs.Plain.{Bytes, PlainDeclaration}
use Rattle.au_syntax.specs.Types.{Labelled}
use Rattle.au_types.specs.declared.headings.Head.{Head}
use Rattle.au_types.specs.declared.parameters.Parameter.{Parameter}
use Rattle.au_types.specs.declared.spaces.Space.TheVariants.{Callables}
use Rattle.au_types.specs.declared.types.DeclAt.{DeclAt}
use Rattle.au_types.specs.Rows.{same_place}
use Rattle.au_types.specs.Tables as tables
use Rattle.au_types.proofs.SameLemmas.{place_self}
use Rattle.au_types.specs.Types.{Meaning, Arguments, named}
use Rattle.au_matching.specs.Bindings.{Bindings}
use Rattle.au_imports.specs.Clashing.{same_target}
use Rattle.au_judged_types.specs.Meanings.{parameter}
use Rattle.au_type_texts.specs.Given.{Given, all_closed_under, closed_under}
use Rattle.au_type_texts.specs.Types.{ClosedType}
use Rattle.au_running_types.specs.Running.{all_running}
use Rattle.au_modules.specs.Programs.{ModuleParts}
use Rattle.au_names.specs.declared.targets.Target.{Target}
use Rattle.au_names.specs.HeadsOf.{heads_of}
use Rattle.au_names.specs.Standing.{Standing, definition_of, standing_at}
use Rattle.au_promises.specs.Mentions.{type_parameters}
use Rattle.au_formed.specs.Good.{HasCase}
use Rattle.au_closing.specs.Leading.{case_name, declared_name}
use Rattle.au_typing.specs.Insides.{case_target, case_under, cases_defined, cases_of, cases_under, fields_defined, fields_of}
use Rattle.au_typing.specs.Insides.{fields_under, known_definition, record_fields, union_cases}
use Rattle.au_typing.specs.Outsides.{outside_of}
use Rattle.au_typing.specs.Parts.{case_meant}
use Rattle.au_typing.specs.Scopes.{Case, Typed}
use Rattle.au_typing.specs.Trees.{NotedParts}
use Rattle.au_typing.specs.Written.{seen_at, types_at}
use Rattle.au_closed_trees.specs.Parts as parts
use Rattle.au_closed_trees.specs.Parts.{ClosedCase}
use Rattle.au_closed_trees.specs.TypeNames.{listed}
use Rattle.au_tables.specs.Tables.{DefinitionsFit, case_fields, cases_written, defined_fields, field_types, fields_in}
use Rattle.au_tables.specs.Tables.{is_well_formed, types_of}
use Rattle.au_tables.proofs.LawfulLemmas.{followed_is}
use Rattle.au_closed_meanings.specs.Generic as meaning
use Rattle.au_closed_meanings.specs.Generic.{case_seen, view_under}
use Rattle.au_closed_meanings.specs.Programs as seen
use Rattle.au_known_types.specs.Known.{EachIsKnown, IsKnown}
use Rattle.au_safe_steps.specs.Orders.{AreApart, IsNone}
use Rattle.au_judged_bodies.specs.StandingTypesStanding.{StandsFor}
use Rattle.au_judged_bodies.specs.OnceFieldsApart.{EachCaseIsApart, IsApart, case_names, labels}
use Rattle.au_judged_bodies.proofs.RecordLemmas.{known_defined, record_runs, union_runs}
use Rattle.au_judged_bodies.proofs.SeenLemmas.{first_of, record_seen, rest_of, under_names, union_seen}
use Rattle.au_judged_bodies.specs.Frames.{RecordIsSeen}
use Rattle.au_judged_bodies.specs.Rounds.{UnionIsSeen, names_of}
use Rattle.au_judged_bodies.proofs.PieceLemmas.{meant_target}
use Rattle.au_judged_bodies.specs.Views.{DefinitionsAreApart, EachCaseIsKnown}

nil≢cons : (name : Bytes) (names : List Bytes) → [] ≡ name ∷ names → ⊥
nil≢cons name names e = absurd cc

-- ---- cases and what is written for them

-- cases of a declaration, each with what is written for it
module _ (program : List ModuleParts) (d : Standing) (ps : List Parameter) (args : Arguments) where
  record IsCaseOf (one : Case) (v : Variant Bytes) : Type 0 where
    target : case_target program d ps args v ≡ one.target
    under : fields_under program d ps args v.fields ≡ Some one.fields

  abbrev AreCasesOf : List Case → List (Variant Bytes) → Type 0
  AreCasesOf [] [] = Unit {0}
  AreCasesOf (one ∷ rest) (v ∷ others) = IsCaseOf one v × AreCasesOf rest others
  AreCasesOf [] (v ∷ others) = ⊥
  AreCasesOf (one ∷ rest) [] = ⊥

  are_cases : (vs : List (Variant Bytes)) (all : List Case) → cases_under program d ps args vs ≡ Some all
      → AreCasesOf all vs
  are_cases [] all e = subst (λ l. AreCasesOf l []) (same_Some [] all e) tt
  are_cases (v ∷ rest) all e =
      on (followed_is (case_under program d ps args v) (cases_under program d ps args rest) all e)
      (λ others its. are_cases rest others its)
    where
      on : (x : Case) × (others : List Case) × (case_under program d ps args v ≡ Some x)
          × (cases_under program d ps args rest ≡ Some others) × (x ∷ others ≡ all)
          → ((others : List Case) → cases_under program d ps args rest ≡ Some others → AreCasesOf others rest)
          → AreCasesOf all (v ∷ rest)
      on (x, others, first, its, whole) later =
          let from = map_some (λ fields. record { target = case_target program d ps args v; fields = fields })
          (fields_under program d ps args v.fields) x first in
          subst (λ l. AreCasesOf l (v ∷ rest)) whole (
            record {
              target = ap (λ (c : Case). c.target) from.2;
              under = from.1 ∙ ap (λ (c : Case). Some c.fields) from.2;
            },
            later others its,
          )

  -- the case of a number, by what is written
  case_there : (all : List Case) (vs : List (Variant Bytes)) → AreCasesOf all vs → (tag : ℕ)
      (written : List (Labelled Bytes)) → slice_get (map (λ (v : Variant Bytes). v.fields) vs) tag ≡ Some written
      → (one : Case) × (slice_get all tag ≡ Some one)
  case_there [] [] are tag written e = absurd (none-some written e)
  case_there [] (v ∷ others) are tag written e = absurd are
  case_there (one ∷ rest) [] are tag written e = absurd are
  case_there (one ∷ rest) (v ∷ others) are zero written e = (one, refl)
  case_there (one ∷ rest) (v ∷ others) are (suc tag) written e = case_there rest others are.1 tag written e

  -- what is written for the case of a number
  variant_at : (all : List Case) (vs : List (Variant Bytes)) → AreCasesOf all vs → (tag : ℕ) (one : Case)
      → slice_get all tag ≡ Some one → (v : Variant Bytes) × (slice_get vs tag ≡ Some v) × IsCaseOf one v
  variant_at [] [] are tag one e = absurd (none-some one e)
  variant_at [] (v ∷ others) are tag one e = absurd are
  variant_at (c ∷ rest) [] are tag one e = absurd are
  variant_at (c ∷ rest) (v ∷ others) are zero one e = (v, refl, subst (λ x. IsCaseOf x v) (same_Some c one e) are.0)
  variant_at (c ∷ rest) (v ∷ others) are (suc tag) one e = variant_at rest others are.1 tag one e

  -- the case that a target means is the first that has its name
  named_first : (target : Target) (ccs : List ClosedCase) (all : List Case) (vs : List (Variant Bytes)) (one : Case)
      → AreCasesOf all vs → map (λ (c : ClosedCase). c.name) ccs ≡ case_names vs
      → case_meant all (Some target) ≡ Some one → target ≡ one.target → (base : ℕ)
      → ((v : Variant Bytes) → target.name ≡ v.name.name → same_target target (case_target program d ps args v) ≡ true)
      → (tag : ℕ) × (slice_get all tag ≡ Some one)
      × (seen.case_from base target.name (map case_seen ccs) ≡ Some (base + tag))
  named_first target ccs [] vs one are names e same base there = absurd (none-some one e)
  named_first target ccs (c ∷ rest) [] one are names e same base there = absurd are
  named_first target [] (c ∷ rest) (v ∷ others) one are names e same base there =
      absurd (nil≢cons v.name.name (case_names others) names)
  named_first target (cc1 ∷ ccs) (c ∷ rest) (v ∷ others) one are names e same base there =
      by (same_target target c.target) refl e
      (λ more. named_first target ccs rest others one are.1 (ap rest_of names) more same (base + 1) there)
    where
      plus_zero : (n : ℕ) → n ≡ n + 0
      plus_zero n = omega arith

      plus_one : (n k : ℕ) → (n + 1) + k ≡ n + suc k
      plus_one n k = omega arith

      name_is : cc1.name ≡ v.name.name
      name_is = ap first_of names

      by : (b : Bool) → same_target target c.target ≡ b
          → cond b (Some c) (find (λ (x : Case). same_target target x.target) rest) ≡ Some one
          → (case_meant rest (Some target) ≡ Some one → (tag : ℕ) × (slice_get rest tag ≡ Some one)
          × (seen.case_from (base + 1) target.name (map case_seen ccs) ≡ Some ((base + 1) + tag)))
          → (tag : ℕ) × (slice_get (c ∷ rest) tag ≡ Some one)
          × (seen.case_from base target.name (map case_seen (cc1 ∷ ccs)) ≡ Some (base + tag))
      by true found e later =
          let is : c ≡ one = same_Some c one e in
          let named_so : cc1.name ≡ target.name =
          name_is ∙ ap (λ (t : Target). t.name) (are.0.target ∙ ap (λ (x : Case). x.target) is ∙ sym same) in (
            0,
            e,
            ap (λ b. if b then Some base else seen.case_from (base + 1) target.name (map case_seen ccs))
                ((bytes_eq-Decides cc1.name target.name).1 named_so)
                ∙ ap (λ n. Some n) (plus_zero base),
          )
      by false found e later =
          let its = later e in (
            suc its.0,
            its.1,
            ap (λ b. if b then Some base else seen.case_from (base + 1) target.name (map case_seen ccs))
                (other (bytes_eq cc1.name target.name) refl)
                ∙ its.2 ∙ ap (λ n. Some n) (plus_one base its.0),
          )
        where
          other : (b : Bool) → bytes_eq cc1.name target.name ≡ b → bytes_eq cc1.name target.name ≡ false
          other true is =
              absurd (true≢false (sym (there v (sym ((bytes_eq-Decides cc1.name target.name).0 is) ∙ name_is))
              ∙ ap (same_target target) are.0.target ∙ found))
          other false is = is

  found_variant : (target : Target) (all : List Case) (vs : List (Variant Bytes)) (one : Case) → AreCasesOf all vs
      → case_meant all (Some target) ≡ Some one → (v : Variant Bytes) × IsCaseOf one v
  found_variant target [] vs one are e = absurd (none-some one e)
  found_variant target (c ∷ rest) [] one are e = absurd are
  found_variant target (c ∷ rest) (v ∷ others) one are e =
      by (same_target target c.target) e (found_variant target rest others one are.1)
    where
      by : (b : Bool) → cond b (Some c) (find (λ (x : Case). same_target target x.target) rest) ≡ Some one
          → (case_meant rest (Some target) ≡ Some one → (w : Variant Bytes) × IsCaseOf one w)
          → (w : Variant Bytes) × IsCaseOf one w
      by true e later = (v, subst (λ x. IsCaseOf x v) (same_Some c one e) are.0)
      by false e later = later e

  -- a target that is a case of the declaration is the case of its name
  target_named : (target : Target) (v w : Variant Bytes) → target ≡ case_target program d ps args v
      → target.name ≡ w.name.name → same_target target (case_target program d ps args w) ≡ true
  target_named target v w is named_so =
      ap (λ x. same_target x (case_target program d ps args w)) is
      ∙ and_from (same_place here here) (bytes_eq v.name.name w.name.name) (place_self here)
      ((bytes_eq-Decides v.name.name w.name.name).1 (ap (λ (x : Target). x.name) (sym is) ∙ named_so))
    where
      here : DeclAt
      here = (case_target program d ps args v).at

-- ---- names that are apart, by number

variant_in : (vs : List (Variant Bytes)) (i : ℕ) (v : Variant Bytes) (name : Bytes) → slice_get vs i ≡ Some v
    → IsNone name (case_names vs) → name ≡ v.name.name → ⊥
variant_in [] i v name e none same = none-some v e
variant_in (x ∷ rest) zero v name e none same =
    none.0 (same ∙ ap (λ (y : Variant Bytes). y.name.name) (sym (same_Some x v e)))
variant_in (x ∷ rest) (suc i) v name e none same = variant_in rest i v name e none.1 same

apart_index : (vs : List (Variant Bytes)) → AreApart (case_names vs) → (i j : ℕ) (v w : Variant Bytes)
    → slice_get vs i ≡ Some v → slice_get vs j ≡ Some w → v.name.name ≡ w.name.name → i ≡ j
apart_index [] apart i j v w e f same = absurd (none-some v e)
apart_index (x ∷ rest) apart zero zero v w e f same = refl
apart_index (x ∷ rest) apart zero (suc j) v w e f same =
    absurd (variant_in rest j w x.name.name f apart.0
    (ap (λ (y : Variant Bytes). y.name.name) (same_Some x v e) ∙ same))
apart_index (x ∷ rest) apart (suc i) zero v w e f same =
    absurd (variant_in rest i v x.name.name e apart.0
    (ap (λ (y : Variant Bytes). y.name.name) (same_Some x w f) ∙ sym same))
apart_index (x ∷ rest) apart (suc i) (suc j) v w e f same = ap suc (apart_index rest apart.1 i j v w e f same)

case_apart : (vs : List (Variant Bytes)) → EachCaseIsApart vs → (i : ℕ) (v : Variant Bytes) → slice_get vs i ≡ Some v
    → AreApart (labels v.fields)
case_apart [] each i v e = absurd (none-some v e)
case_apart (x ∷ rest) each zero v e = subst (λ (y : Variant Bytes). AreApart (labels y.fields)) (same_Some x v e) each.0
case_apart (x ∷ rest) each (suc i) v e = case_apart rest each.1 i v e

closed_names : (names : List (Bytes × DeclAt)) (heads : List (DeclAt × Head)) (args : List ClosedType)
    (ps : List Parameter) (vs : List (Variant Bytes))
    → map (λ (c : ClosedCase). c.name) (parts.union_with names heads args ps vs) ≡ case_names vs
closed_names names heads args ps [] = refl
closed_names names heads args ps (v ∷ rest) = ap (λ l. v.name.name ∷ l) (closed_names names heads args ps rest)

-- ---- what a definition is

-- a definition is a union with these cases
record IsUnion (program : List ModuleParts) (d : Standing) (args : Arguments) (cases : List Case) : Type 0 where
  vs : List (Variant Bytes)
  listed : cases_under program d (type_parameters d.says) args vs ≡ Some cases
  written : cases_written d.says ≡ map (λ (v : Variant Bytes). v.fields) vs
  apart : AreApart (case_names vs)
  each : EachCaseIsApart vs
  some : vs ≡ [] → ⊥
  closes : (names : List (Bytes × DeclAt)) (heads : List (DeclAt × Head)) (cargs : List ClosedType)
      → map (λ (c : ClosedCase). c.name) (parts.declared_cases names heads cargs d.says) ≡ case_names vs

is_union : (program : List ModuleParts) (d : Standing) (args : Arguments) (says : PlainDeclaration) → d.says ≡ says
    → (cases : List Case) → union_cases program d args says ≡ Some cases → IsApart says → HasCase says
    → IsUnion program d args cases
is_union program d args (union_type at name ps universe vs) is cases e apart some = record {
  vs = vs;
  listed = ap (λ x. cases_under program d (type_parameters x) args vs) is ∙ e;
  written = ap cases_written is;
  apart = apart.0;
  each = apart.1;
  some = some;
  closes = λ names heads cargs. ap (λ x. map (λ (c : ClosedCase). c.name) (parts.declared_cases names heads cargs x)) is
      ∙ closed_names names heads cargs (map parameter ps) vs;
}
is_union program d args other is cases e apart some = absurd (none-some cases e)

first_case : (program : List ModuleParts) (d : Standing) (ps : List Parameter) (args : Arguments) (all : List Case)
    (vs : List (Variant Bytes)) → AreCasesOf program d ps args all vs → (vs ≡ [] → ⊥)
    → (one : Case) × (slice_get all 0 ≡ Some one)
first_case program d ps args all [] are some = absurd (some refl)
first_case program d ps args [] (v ∷ vs) are some = absurd are
first_case program d ps args (c ∷ rest) (v ∷ vs) are some = (c, refl)

record_names : (program : List ModuleParts) (d : Standing) (args : Arguments) (says : PlainDeclaration)
    (fields : List Typed) → record_fields program d args says ≡ Some fields → IsApart says → AreApart (names_of fields)
record_names program d args (record_type at name ps universe written) fields e apart =
    subst AreApart (sym (under_names program d (map parameter ps) args written fields e)) apart
record_names program d args other fields e apart = absurd (none-some fields e)

-- ---- what is seen

module _ (program : List ModuleParts) (noted : List NotedParts) (fit : DefinitionsFit program)
    (apart : DefinitionsAreApart program) (place : ℕ) (params : List Parameter) (regions : List Bytes) (given : Given)
    (s : Bindings) (z : ℕ) (stands : StandsFor (heads_of program) params given s) where
  fields_named : (t : Meaning) (fields : List Typed) → fields_of program place t ≡ Some fields
      → AreApart (names_of fields)
  fields_named (named at args) fields e = by (known_definition program place at) refl e
    where
      by : (o : Option Standing) → known_definition program place at ≡ o → fields_defined program args o ≡ Some fields
          → AreApart (names_of fields)
      by None is e = absurd (none-some fields e)
      by (Some d) is e =
          record_names program d args d.says fields e
          (apart at d (known_defined program place at (standing_at program at) d is))
  fields_named other fields e = absurd (none-some fields e)

  pub record_viewed : (t : Meaning) (fields : List Typed) → IsKnown (heads_of program) params regions t
      → EachIsKnown (heads_of program) params regions fields → fields_of program place t ≡ Some fields
      → RecordIsSeen (types_of program) (view_under program noted place params given) s given z t fields
      × AreApart (names_of fields)
  record_viewed t fields known each e =
      let its = record_runs program fit place params s z t fields e stands.formed known.0 in (
        record {
          closed = record_seen program fit params regions given s stands place t fields known each e;
          runs = its.0;
          alone = its.1;
        },
        fields_named t fields e,
      )

  union_at : (at : DeclAt) (args : Arguments) (cases : List Case)
      → IsKnown (heads_of program) params regions (named at args) → EachCaseIsKnown program params regions cases
      → cases_of program place (named at args) ≡ Some cases → (d : Standing) → definition_of program at ≡ Some d
      → IsUnion program d args cases
      → UnionIsSeen (types_of program) (view_under program noted place params given) (outside_of program place Body) s
      given z (named at args) cases
  union_at at args cases known each e d defined u = record {
    at = at;
    args = args;
    declared = refl;
    some = first.0;
    has_one = first.1;
    closed = λ tag one is. union_seen program fit params regions given s stands place (named at args) cases known e tag
        one is (each tag one is);
    runs = λ tag one is. union_runs program fit place params s z (named at args) cases e stands.formed known.0 tag
        one is;
    only = λ tag kinds is. only_these tag kinds is;
    means = λ name one is. means_of name one is;
    apart = λ i j one other is its same. apart_of i j one other is its same;
    fields = λ tag one is. fields_of_case tag one is;
  }
    where
      are : AreCasesOf program d (type_parameters d.says) args cases u.vs
      are = are_cases program d (type_parameters d.says) args u.vs cases u.listed

      first : (one : Case) × (slice_get cases 0 ≡ Some one)
      first = first_case program d (type_parameters d.says) args cases u.vs are u.some

      only_these : (tag : ℕ) (kinds : List Meaning)
          → fields_in program (named at (all_running s z args)) tag ≡ Some kinds
          → (one : Case) × (slice_get cases tag ≡ Some one)
      only_these tag kinds is =
          by (is_well_formed program (named at (all_running s z args))) (definition_of program at) defined is
        where
          in_case : (o : Option (List (Labelled Bytes))) → slice_get (cases_written d.says) tag ≡ o
              → option_and_then (λ (fields : List (Labelled Bytes)).
              option_map field_types (fields_under program d (type_parameters d.says) (all_running s z args) fields)) o
              ≡ Some kinds → (one : Case) × (slice_get cases tag ≡ Some one)
          in_case None found e = absurd (none-some kinds e)
          in_case (Some written) found e =
              case_there program d (type_parameters d.says) args cases u.vs are tag written
              (ap (λ l. slice_get l tag) (sym u.written) ∙ found)

          by : (b : Bool) (o : Option Standing) → o ≡ Some d
              → (if b then defined_fields program (all_running s z args) tag o else None) ≡ Some kinds
              → (one : Case) × (slice_get cases tag ≡ Some one)
          by false o found e = absurd (none-some kinds e)
          by true None found e = absurd (none-some kinds e)
          by true (Some x) found e =
              in_case (slice_get (cases_written d.says) tag) refl
              (sym (ap (case_fields program (all_running s z args) tag) (same_Some x d found)) ∙ e)

      means_of : (name : Bytes) (one : Case)
          → case_meant cases (tables.find name (seen_at Callables program place Body)) ≡ Some one
          → (tag : ℕ) × (slice_get cases tag ≡ Some one)
          × (meaning.tag_in program (closed_under given (named at args)) (case_name program place name) ≡ Some tag)
      means_of name one is = by (tables.find name (seen_at Callables program place Body)) is
        where
          ccs_named : map (λ (c : ClosedCase). c.name) (parts.cases_of program (closed_under given (named at args)))
              ≡ case_names u.vs
          ccs_named =
              ap (λ o. map (λ (c : ClosedCase). c.name)
              (parts.defined_cases program (listed (all_closed_under given args)) o)) defined
              ∙ u.closes (types_at program d.place d.part) (heads_of program) (listed (all_closed_under given args))

          zero_first : (n : ℕ) → 0 + n ≡ n
          zero_first n = omega arith

          by : (o : Option Target) → case_meant cases o ≡ Some one
              → (tag : ℕ) × (slice_get cases tag ≡ Some one)
              × (meaning.tag_in program (closed_under given (named at args)) (declared_name name o) ≡ Some tag)
          by None is = absurd (none-some one is)
          by (Some target) is =
              let same : target ≡ one.target = meant_target target cases one is in
              let v = found_variant program d (type_parameters d.says) args target cases u.vs one are is in
              let its = named_first program d (type_parameters d.says) args target
              (parts.cases_of program (closed_under given (named at args))) cases u.vs one are ccs_named is same 0
              (λ w named_so. target_named program d (type_parameters d.says) args target v.0 w
              (same ∙ sym v.1.target) named_so) in
              (its.0, its.1, its.2 ∙ ap (λ n. Some n) (zero_first its.0))

      apart_of : (i j : ℕ) (one other : Case) → slice_get cases i ≡ Some one → slice_get cases j ≡ Some other
          → one.target ≡ other.target → i ≡ j
      apart_of i j one other is its same =
          let v = variant_at program d (type_parameters d.says) args cases u.vs are i one is in
          let w = variant_at program d (type_parameters d.says) args cases u.vs are j other its in
          apart_index u.vs u.apart i j v.0 w.0 v.1 w.1
          (ap (λ (x : Target). x.name) (v.2.target ∙ same ∙ sym w.2.target))

      fields_of_case : (tag : ℕ) (one : Case) → slice_get cases tag ≡ Some one → AreApart (names_of one.fields)
      fields_of_case tag one is =
          let v = variant_at program d (type_parameters d.says) args cases u.vs are tag one is in
          subst AreApart (sym (under_names program d (type_parameters d.says) args v.0.fields one.fields v.2.under))
          (case_apart u.vs u.each tag v.0 v.1)

  pub union_viewed : (t : Meaning) (cases : List Case) → IsKnown (heads_of program) params regions t
      → EachCaseIsKnown program params regions cases → cases_of program place t ≡ Some cases
      → UnionIsSeen (types_of program) (view_under program noted place params given) (outside_of program place Body) s
      given z t cases
  union_viewed (named at args) cases known each e = by (known_definition program place at) refl e
    where
      by : (o : Option Standing) → known_definition program place at ≡ o → cases_defined program args o ≡ Some cases
          → UnionIsSeen (types_of program) (view_under program noted place params given)
          (outside_of program place Body) s given z (named at args) cases
      by None is e2 = absurd (none-some cases e2)
      by (Some d) is e2 =
          let defined = known_defined program place at (standing_at program at) d is in
          union_at at args cases known each e d defined
          (is_union program d args d.says refl cases e2 (apart at d defined) (fit.made at d defined).cases)
  union_viewed other cases known each e = absurd (none-some cases e)
