-- The cases of unions.
use Rattle.std.proofs.Common.{◌≡◌, ℕ, Bool, true, false, cond, List, [], ◌∷◌, Option, None, Some, map, refl}
use Rattle.std.proofs.Common.{sym, ap, ◌∙◌}
use Rattle.std.specs.Prelude.{◌==◌, ◌||◌, find, is_none}
use Rattle.std.specs.Option.{option_map}
use Rattle.std.specs.Str.{bytes_eq}
use Rattle.std.proofs.lemmas.Option.{none-some, same_Some}
use Rattle.au_syntax.specs.Modules.{Variant, union_type}
use Rattle.au_syntax.specs.Parts.{Each}
use Rattle.au_syntax.specs.Plain.{Bytes, PlainDeclaration}
use Rattle.au_types.specs.declared.parameters.Parameter.{Parameter}
use Rattle.au_types.specs.declared.types.DeclAt.{DeclAt}
use Rattle.au_types.specs.Types.{Arguments}
use Rattle.au_modules.specs.Programs.{ModuleParts}
use Rattle.au_names.specs.declared.targets.Target.{Target}
use Rattle.au_names.specs.Owned.{target}
use Rattle.au_names.specs.Standing.{Standing, definition_of, opaque_name, standing_at}
use Rattle.au_judged_types.specs.Meanings.{parameter}
use Rattle.au_typing.specs.Scopes.{Callable, Case, Typed}
use Rattle.au_typing.specs.Called.{callable_at, case_called, declared_callable, is_case}
use Rattle.au_typing.specs.Insides.{case_under, cases_under, fields_under, is_known, known_definition}
use Rattle.au_typing.specs.Insides.{known_standing, number_of, union_cases}
use Rattle.au_typing.specs.Written.{followed}
use Rattle.au_typing.proofs.MakerLemmas.{called_there, fields_same, parameters_under}
use Rattle.au_typing.proofs.NumberLemmas.{at_number, definition_stands}

-- one before others are both there
parts_there : {A : Type 0} (one : Option A) (rest : Option (List A)) (all : List A) → followed one rest ≡ Some all
    → (x : A) × (xs : List A) × (one ≡ Some x) × (rest ≡ Some xs) × (x ∷ xs ≡ all)
parts_there (Some x) (Some xs) all h = (x, xs, refl, refl, same_Some (x ∷ xs) all h)
parts_there None rest all h = absurd (none-some all h)
parts_there (Some x) None all h = absurd (none-some all h)

-- the target and the fields of a case
pub record IsCase (program : List ModuleParts) (d : Standing) (params : List Parameter) (args : Arguments)
    (v : Variant Bytes) (one : Case) : Type 0 where
  pub target : one.target ≡ target d.place v.name.name (number_of program d)
  pub fields : fields_under program d params args v.fields ≡ Some one.fields

case_is : (program : List ModuleParts) (d : Standing) (params : List Parameter) (args : Arguments)
    (v : Variant Bytes) (one : Case) → case_under program d params args v ≡ Some one →
    IsCase program d params args v one
case_is program d params args v one h = by (fields_under program d params args v.fields) refl h
  where
    by : (found : Option (List Typed)) → fields_under program d params args v.fields ≡ found →
        option_map (λ fields. record {
          target = target d.place v.name.name (number_of program d);
          fields =
              fields;
        }) found ≡ Some one
        → IsCase program d params args v one
    by None is k = absurd (none-some one k)
    by (Some fields) is k =
        let same = same_Some (record {
          target = target d.place v.name.name (number_of program d);
          fields =
              fields;
        }) one k in
        record {
          target = ap (λ (x : Case). x.target) (sym same);
          fields = is ∙ ap (λ (x : Case). Some x.fields) same;
        }

-- ---- where cases lead

leads : (program : List ModuleParts) (d : Standing) (params : List Parameter) (args : Arguments) →
    standing_at program (at_number program d) ≡ Some d → (vs : List (Variant Bytes)) (all : List Case)
    → cases_under program d params args vs ≡ Some all → Each (λ one. standing_at program one.target.at ≡ Some d) all
leads program d params args stands vs [] h = tt
leads program d params args stands [] (one ∷ rest) h = let same : [] ≡ one ∷ rest = same_Some [] (one ∷ rest) h in cc
leads program d params args stands (v ∷ vs) (one ∷ rest) h =
    let parts = parts_there (case_under program d params args v) (cases_under program d params args vs)
    (one ∷ rest) h in
    let first : parts.0 ≡ one = cc in
    let others : parts.1 ≡ rest = cc in
    let is = case_is program d params args v one (parts.2 ∙ ap (λ x. Some x) first) in (
      ap (λ (t : Target). standing_at program t.at) is.target ∙ stands,
      leads program d params args stands vs rest (parts.3 ∙ ap (λ xs. Some xs) others),
    )

union_leads : (program : List ModuleParts) (d : Standing) (args : Arguments) →
    standing_at program (at_number program d) ≡ Some d → (says : PlainDeclaration) (all : List Case) →
    union_cases program d args says ≡ Some all
    → Each (λ one. standing_at program one.target.at ≡ Some d) all
union_leads program d args stands (union_type at name params universe cases) all h =
    leads program d (map parameter params) args stands cases all h
union_leads program d args stands other all h = absurd (none-some all h)

pub cases_lead : (program : List ModuleParts) (d : Standing) (args : Arguments) (all : List Case) →
    standing_at program (at_number program d) ≡ Some d → union_cases program d args d.says ≡ Some all
    → Each (λ one. standing_at program one.target.at ≡ Some d) all
cases_lead program d args all stands h = union_leads program d args stands d.says all h

-- ---- fields of cases

-- a case of this name
abbrev pub has_name : Bytes → Case → Bool
has_name name one = bytes_eq name one.target.name

module _ (program : List ModuleParts) (d : Standing) (owner : Bytes) (params : List Parameter)
    (args : Arguments) (name : Bytes) (c : Callable) (found : Case) where
  first_of : (vs : List (Variant Bytes)) (all : List Case) → cases_under program d params args vs ≡ Some all →
      case_called program d owner params (find (is_case name) vs) ≡ Some c
      → find (has_name name) all ≡ Some found → found.fields ≡ parameters_under args c
  first_of [] all h called k = absurd (none-some c called)
  first_of (v ∷ vs) [] h called k = absurd (none-some found k)
  first_of (v ∷ vs) (one ∷ rest) h called k =
      let parts = parts_there (case_under program d params args v) (cases_under program d params args vs)
      (one ∷ rest) h in
      let first : parts.0 ≡ one = cc in
      let others : parts.1 ≡ rest = cc in
      let is = case_is program d params args v one (parts.2 ∙ ap (λ x. Some x) first) in
      let test : bytes_eq name one.target.name ≡ bytes_eq name v.name.name =
      ap (λ (t : Target). bytes_eq name t.name) is.target in
      by is (bytes_eq name v.name.name) called (ap (λ b. cond b (Some one) (find (has_name name) rest)) (sym test) ∙ k)
      (first_of vs rest (parts.3 ∙ ap (λ xs. Some xs) others))
    where
      by : IsCase program d params args v one → (b : Bool) →
          case_called program d owner params (cond b (Some v) (find (is_case name) vs)) ≡ Some c →
          cond b (Some one) (find (has_name name) rest) ≡ Some found
          → (case_called program d owner params (find (is_case name) vs) ≡ Some c → find (has_name name) rest
          ≡ Some found → found.fields ≡ parameters_under args c) → found.fields ≡ parameters_under args c
      by is true called k on =
          ap (λ (x : Case). x.fields) (sym (same_Some one found k))
          ∙ fields_same program d owner params args v.fields c one.fields called
          (ap (λ x. x) is.fields)
      by is false called k on = on called k

union_first : (program : List ModuleParts) (d : Standing) (args : Arguments) (target : Target) (c : Callable)
    (found : Case) (all : List Case) (says : PlainDeclaration) → union_cases program d args says ≡ Some all
    → declared_callable program d target.at target.name says ≡ Some c → find (has_name target.name) all
    ≡ Some found → found.fields ≡ parameters_under args c
union_first program d args target c found all (union_type at name params universe cases) h called k =
    first_of program d name.name (map parameter params) args target.name c found cases all h called k
union_first program d args target c found all other h called k = absurd (none-some all h)

pub case_parameters : (program : List ModuleParts) (d : Standing) (args : Arguments) (target : Target)
    (c : Callable) (found : Case) (all : List Case) → union_cases program d args d.says ≡ Some all
    → standing_at program target.at ≡ Some d → callable_at program (Some target) ≡ Some c →
    find (has_name target.name) all ≡ Some found → found.fields ≡ parameters_under args c
case_parameters program d args target c found all h stands called k =
    union_first program d args target c found all d.says h (called_there program d target c stands called) k

-- ---- what is known

-- what another module has as opaque isn't known
pub hidden : (program : List ModuleParts) (place : ℕ) (at : DeclAt) (s : Standing) (name : Bytes) →
    standing_at program at ≡ Some s → opaque_name s.says ≡ Some name → (place == s.place) ≡ false
    → known_definition program place at ≡ None
hidden program place at s name stands opaque other =
    ap (known_standing program place at) stands
    ∙ ap (λ o. cond (is_none o || (place == s.place)) (definition_of program at) None) opaque
    ∙ ap (λ b. cond b (definition_of program at) None) other

known_for : (program : List ModuleParts) (place : ℕ) (at : DeclAt) (d : Standing) (found : Option Standing) →
    known_standing program place at found ≡ Some d → definition_of program at ≡ Some d
known_for program place at d None h = absurd (none-some d h)
known_for program place at d (Some s) h = by (is_known place s) h
  where
    by : (b : Bool) → cond b (definition_of program at) None ≡ Some d → definition_of program at ≡ Some d
    by true k = k
    by false k = absurd (none-some d k)

-- a definition that is known is found at its number
pub known_stands : (program : List ModuleParts) (place : ℕ) (at : DeclAt) (d : Standing) →
    known_definition program place at ≡ Some d → standing_at program (at_number program d) ≡ Some d
known_stands program place at d h =
    definition_stands program at d (known_for program place at d (standing_at program at) h)
