-- Declarations of a checked program are well made, and its definitions fit.
use Rattle.std.proofs.Common.{◌≡◌, ◌⊎◌, inl, inr, ℕ, zero, suc, ◌+◌, Bool, true, false, cond, true≢false}
use Rattle.std.proofs.Common.{List, []}
use Rattle.std.proofs.Common.{◌∷◌, map, find, Option}
use Rattle.std.proofs.Common.{None, Some, refl, sym, ap, ◌∙◌, subst}
use Rattle.std.specs.Prelude.{slice_get}
use Rattle.std.proofs.lemmas.Option.{none-some, same_Some}
use Rattle.au_syntax.specs.declared.modules.Part.TheVariants.{Interface, Body}
use Rattle.au_syntax.specs.Modules.{constant, opaque_type, record_type, union_type, function}
use Rattle.au_syntax.specs.Modules.{class, instance, constant_body, function_body, instance_body}
use Rattle.au_syntax.specs.Plain.{Bytes, PlainDeclaration}
use Rattle.au_types.specs.declared.headings.Head.{Head}
use Rattle.au_types.specs.declared.types.DeclAt.{DeclAt}
use Rattle.au_types.specs.Rows.{head_of}
use Rattle.au_judged_types.specs.Meanings.{parameter}
use Rattle.au_modules.specs.Programs.{ModuleParts}
use Rattle.au_names.specs.DeclaredTypes.{DeclaredType, a_type, type_declared}
use Rattle.au_names.specs.HeadsOf.{heads_of}
use Rattle.au_names.specs.Owned.{declarations_in}
use Rattle.au_names.specs.Standing.{Standing, body_at, defined_by, definition_for, definition_of, is_named}
use Rattle.au_names.specs.Standing.{is_whole}
use Rattle.au_names.specs.Standing.{opaque_name, standing_at, standing_from, whole_name}
use Rattle.au_promises.specs.Fulfilled.{AllFulfil}
use Rattle.au_promises.specs.Mentions.{type_parameters}
use Rattle.au_imports.specs.Good.{AllNamesAreGood, IsGood}
use Rattle.au_formed.specs.Good.{IsWellMade}
use Rattle.au_rules.specs.Good.{AllDeclarationsAreGood}
use Rattle.au_judged_bodies.specs.Written.{types_at}
use Rattle.au_closing_laws.specs.Gathered.{IsGathered}
use Rattle.au_closing_laws.specs.Premises.{AreOfParts}
use Rattle.au_closing_laws.proofs.DefinitionLemmas.{IsThere, stands_in}
use Rattle.au_closing_laws.proofs.FactLemmas.{parts_hold}
use Rattle.au_closing_laws.proofs.FieldLemmas.{params_agree}
use Rattle.au_closing_laws.proofs.GenericsLemmas.{made_promised, made_there}
use Rattle.au_judged_bodies.specs.Tables.{DefinitionsFit}
use Rattle.au_judged_programs.proofs.RowLemmas.{Declares, row_stands}
use Rattle.au_judged_programs.proofs.UniverseLemmas.{universes_agree}

-- ---- what a definition is

pub named_is : (name : Bytes) (o : Option Bytes) → is_named name o ≡ true → (other : Bytes) × (o ≡ Some other)
named_is name None e = absurd (true≢false (sym e))
named_is name (Some other) e = (other, refl)

whole_declares : (says : PlainDeclaration) (name : Bytes) → whole_name says ≡ Some name
    → (one : DeclaredType) × (type_declared says ≡ Some one)
whole_declares (record_type at n ps u fields) name e = (a_type false n.name ps u, refl)
whole_declares (union_type at n ps u cases) name e = (a_type false n.name ps u, refl)
whole_declares (constant at n t) name e = absurd (none-some name e)
whole_declares (opaque_type at n ps u) name e = absurd (none-some name e)
whole_declares (function at gs h) name e = absurd (none-some name e)
whole_declares (class at n p hs) name e = absurd (none-some name e)
whole_declares (instance at gs n t) name e = absurd (none-some name e)
whole_declares (constant_body at n t v) name e = absurd (none-some name e)
whole_declares (function_body at gs h b stop) name e = absurd (none-some name e)
whole_declares (instance_body at gs n t ms) name e = absurd (none-some name e)

parameters_declared : (says : PlainDeclaration) (one : DeclaredType) → type_declared says ≡ Some one
    → map parameter one.parameters ≡ type_parameters says
parameters_declared (opaque_type at n ps u) one e =
    ap (λ (x : DeclaredType). map parameter x.parameters) (sym (same_Some (a_type true n.name ps u) one e))
parameters_declared (record_type at n ps u fields) one e =
    ap (λ (x : DeclaredType). map parameter x.parameters) (sym (same_Some (a_type false n.name ps u) one e))
parameters_declared (union_type at n ps u cases) one e =
    ap (λ (x : DeclaredType). map parameter x.parameters) (sym (same_Some (a_type false n.name ps u) one e))
parameters_declared (constant at n t) one e = absurd (none-some one e)
parameters_declared (function at gs h) one e = absurd (none-some one e)
parameters_declared (class at n p hs) one e = absurd (none-some one e)
parameters_declared (instance at gs n t) one e = absurd (none-some one e)
parameters_declared (constant_body at n t v) one e = absurd (none-some one e)
parameters_declared (function_body at gs h b stop) one e = absurd (none-some one e)
parameters_declared (instance_body at gs n t ms) one e = absurd (none-some one e)

pub found_passes : {A : Type 0} (test : A → Bool) (xs : List A) (x : A) → find test xs ≡ Some x
    → (test x ≡ true) × ((i : ℕ) × (slice_get xs i ≡ Some x))
found_passes test [] x e = absurd (none-some x e)
found_passes {A} test (y ∷ ys) x e = by (test y) refl e (λ later. found_passes test ys x later)
  where
    by : (b : Bool) → test y ≡ b → cond b (Some y) (find test ys) ≡ Some x
        → (find test ys ≡ Some x → (test x ≡ true) × ((i : ℕ) × (slice_get ys i ≡ Some x)))
        → (test x ≡ true) × ((i : ℕ) × (slice_get (y ∷ ys) i ≡ Some x))
    by true passes e later =
        let same = same_Some y x e in (sym (ap test same) ∙ passes, (0, ap (λ (z : A). Some z) same))
    by false passes e later = let its = later e in (its.0, (suc its.1.0, its.1.1))

module _ (program : List ModuleParts) (good : AllDeclarationsAreGood program) where
  abbrev Made : Standing → Type 0
  Made d = IsWellMade (types_at program d.place d.part) (heads_of program) d.says

  made_in : (at : DeclAt) (d : Standing)
      → (m : ModuleParts) × (slice_get program at.«module» ≡ Some m)
      × (IsThere at.«module» Interface (declarations_in m.interface) d
      ⊎ IsThere at.«module» Body (declarations_in m.body) d) → Made d
  made_in at d (m, here, inl its) =
      subst (λ n. IsWellMade (types_at program n d.part) (heads_of program) d.says) (sym its.0)
      (subst (λ p. IsWellMade (types_at program at.«module» p) (heads_of program) d.says) (sym its.1)
      (made_promised program good at.«module» m d.index d.says here its.2))
  made_in at d (m, here, inr its) =
      subst (λ n. IsWellMade (types_at program n d.part) (heads_of program) d.says) (sym its.0)
      (subst (λ p. IsWellMade (types_at program at.«module» p) (heads_of program) d.says) (sym its.1)
      (made_there program good at.«module» m d.index d.says here its.2))

  -- a declaration that is found is well made
  pub standing_made : (at : DeclAt) (d : Standing) → standing_at program at ≡ Some d → Made d
  standing_made at d found = made_in at d (stands_in program at d found)

  -- ---- definitions

  pub in_part : (place first : ℕ) (ds : List PlainDeclaration) (k : ℕ) (d : Standing)
      → slice_get (standing_from place Body first ds) k ≡ Some d
      → (d.place ≡ place) × (d.part ≡ Body) × (slice_get ds k ≡ Some d.says)
  unfolding standing_from
  in_part place first [] k d e = absurd (none-some d e)
  in_part place first (x ∷ ds) zero d e =
      let is = same_Some (record { place = place; part = Body; index = first; says = x }) d e in (
        sym (ap (λ (s : Standing). s.place) is),
        sym (ap (λ (s : Standing). s.part) is),
        ap (λ (s : Standing). Some s.says) is,
      )
  in_part place first (x ∷ ds) (suc k) d e = in_part place (first + 1) ds k d e

  body_made : (place : ℕ) (o : Option ModuleParts) → slice_get program place ≡ o → (k : ℕ) (d : Standing)
      → slice_get (body_at place o) k ≡ Some d → Made d
  body_made place None here k d e = absurd (none-some d e)
  body_made place (Some m) here k d e =
      let its = in_part place 0 (declarations_in m.body) k d e in
      subst (λ n. IsWellMade (types_at program n d.part) (heads_of program) d.says) (sym its.0)
      (subst (λ p. IsWellMade (types_at program place p) (heads_of program) d.says) (sym its.1)
      (made_there program good place m k d.says here its.2))

  -- what defines a declaration is it, or a record or a union in the body of its module
  Defines : Standing → Standing → Type 0
  Defines s d = (s ≡ d) ⊎ ((name : Bytes) × (whole_name d.says ≡ Some name) × Made d)

  defines_by : (s d : Standing) (o : Option Bytes)
      → defined_by (body_at s.place (slice_get program s.place)) s o ≡ Some d → Defines s d
  unfolding Defines
  defines_by s d None e = inl (same_Some s d e)
  defines_by s d (Some name) e =
      let its = found_passes (is_whole name) (body_at s.place (slice_get program s.place)) d e in
      let whole = named_is name (whole_name d.says) its.0 in
      inr (whole.0, whole.1, body_made s.place (slice_get program s.place) refl its.1.0 d its.1.1)

  definition_is : (at : DeclAt) (d : Standing) → definition_of program at ≡ Some d
      → (s : Standing) × (standing_at program at ≡ Some s) × Defines s d
  definition_is at d e = by (standing_at program at) refl e
    where
      by : (o : Option Standing) → standing_at program at ≡ o → definition_for program o ≡ Some d
          → (s : Standing) × (standing_at program at ≡ Some s) × Defines s d
      by None found e = absurd (none-some d e)
      by (Some s) found e = (s, found, defines_by s d (opaque_name s.says) e)

  definition_made : (at : DeclAt) (d : Standing) → definition_of program at ≡ Some d → Made d
  unfolding Defines
  definition_made at d e = by (definition_is at d e)
    where
      by : (s : Standing) × (standing_at program at ≡ Some s) × Defines s d → Made d
      by (s, found, inl same) = subst Made same (standing_made at s found)
      by (s, found, inr whole) = whole.2

  -- the definition of a declared type declares a type
  definition_declares : (at : DeclAt) (d : Standing) (head : Head) → definition_of program at ≡ Some d
      → head_of (heads_of program) at ≡ Some head → (one : DeclaredType) × (type_declared d.says ≡ Some one)
  unfolding Defines
  definition_declares at d head e row = by (definition_is at d e) (row_stands program at head row)
    where
      by : (s : Standing) × (standing_at program at ≡ Some s) × Defines s d
          → (t : Standing) × (standing_at program at ≡ Some t) × Declares t.says head
          → (one : DeclaredType) × (type_declared d.says ≡ Some one)
      by (s, found, inr (name, whole, made)) its = whole_declares d.says name whole
      by (s, found, inl same) (t, stands, (one, declares, params, universe)) =
          (one, ap (λ (x : Standing). type_declared x.says) (sym same ∙ same_Some s t (sym found ∙ stands)) ∙ declares)

pub definitions_fit : (program : List ModuleParts) → IsGathered program → AllNamesAreGood program → AllFulfil program
    → AllDeclarationsAreGood program → DefinitionsFit program
definitions_fit program gathered named kept declared = record {
  parameters = λ at d head e row. parameters_fit at d head e row;
  universes = λ at d head one e row is. universes_agree program parts good at d e head row one is;
  made = λ at d e. definition_made program declared at d e;
}
  where
    parts : AreOfParts program
    parts = parts_hold program gathered

    good : IsGood program
    good = record { names = named; promises = kept }

    parameters_fit : (at : DeclAt) (d : Standing) (head : Head) → definition_of program at ≡ Some d
        → head_of (heads_of program) at ≡ Some head → head.params ≡ type_parameters d.says
    parameters_fit at d head e row =
        let its = definition_declares program declared at d head e row in
        params_agree program parts good at d e head row its.0 its.1 ∙ parameters_declared d.says its.0 its.1
