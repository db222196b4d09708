-- The definition of a declared type has the universe of its row.
use Rattle.std.proofs.Common.{◌≡◌, ◌⊎◌, inl, inr, true, false, true≢false, List}
use Rattle.std.proofs.Common.{find, Option, None, Some, refl, sym, ap, ◌∙◌, subst}
use Rattle.std.specs.Prelude.{slice_get}
use Rattle.std.proofs.lemmas.Option.{none-some, same_Some}
use Rattle.au_syntax.specs.declared.declarations.Universe.{Universe}
use Rattle.au_syntax.specs.declared.modules.Part.TheVariants.{Interface, Body}
use Rattle.au_syntax.specs.Forms.{formed_declaration}
use Rattle.au_syntax.specs.Modules.{InUniverse, opaque_type, record_type, union_type}
use Rattle.au_syntax.specs.Plain.{Bytes, PlainDeclaration}
use Rattle.au_types.specs.declared.headings.Head.{Head}
use Rattle.au_types.specs.declared.types.DeclAt.{DeclAt}
use Rattle.au_types.specs.Rows.{head_of}
use Rattle.au_modules.specs.Programs.{Entry, ModuleParts}
use Rattle.au_names.specs.DeclaredTypes.{DeclaredType, a_type, type_declared}
use Rattle.au_names.specs.HeadsOf.{heads_of}
use Rattle.au_names.specs.Owned.{declarations_in}
use Rattle.au_names.specs.Standing.{Standing, body_at, defined_by, definition_for, definition_of, is_whole}
use Rattle.au_names.specs.Standing.{opaque_name, standing_at, standing_from}
use Rattle.au_promises.specs.Agreeing.{Sight, sight_of}
use Rattle.au_promises.specs.Fulfilled.{Agrees, OfHeading}
use Rattle.au_imports.specs.Good.{IsGood}
use Rattle.au_imports.proofs.OpaqueLemmas.{opaque_defined}
use Rattle.au_closing_laws.specs.Premises.{AreOfParts}
use Rattle.au_closing_laws.proofs.DefinitionLemmas.{IsThere, stands_in}
use Rattle.au_judged_programs.proofs.RowLemmas.{Declares, row_stands}

defined_universe : (sight : Sight) (ps : List (InUniverse Bytes)) (universe : Universe) (says : PlainDeclaration)
    (one : DeclaredType) → OfHeading sight ps universe says
    → type_declared says ≡ Some one → universe ≡ one.universe
defined_universe sight ps universe (record_type at n qs u fields) one agrees e = agrees.1
    ∙ ap (λ (x : DeclaredType). x.universe) (same_Some (a_type false n.name qs u) one e)
defined_universe sight ps universe (union_type at n qs u cases) one agrees e = agrees.1
    ∙ ap (λ (x : DeclaredType). x.universe) (same_Some (a_type false n.name qs u) one e)
defined_universe sight ps universe other one agrees e = absurd agrees

heading_universe : (sight : Sight) (says its : PlainDeclaration) (name : Bytes) (dt one : DeclaredType) →
    opaque_name says ≡ Some name → Agrees sight says its → type_declared says ≡ Some dt →
    type_declared its ≡ Some one
    → dt.universe ≡ one.universe
heading_universe sight (opaque_type at n ps u) its name dt one opaque agrees e f =
    ap (λ (x : DeclaredType). x.universe) (sym (same_Some (a_type true n.name ps u) dt e))
    ∙ defined_universe sight ps u its one agrees f
heading_universe sight other its name dt one opaque agrees e f = absurd (none-some name opaque)

not_in_body : (says : PlainDeclaration) (name : Bytes) → opaque_name says ≡ Some name →
    formed_declaration Body says ≡ true → ⊥
not_in_body (opaque_type at n ps u) name opaque formed = true≢false (sym formed)
not_in_body other name opaque formed = none-some name opaque

module _ (program : List ModuleParts) (parts : AreOfParts program) (good : IsGood program) where
  pub universes_agree : (at : DeclAt) (d : Standing) → definition_of program at ≡ Some d → (head : Head) →
      head_of (heads_of program) at ≡ Some head → (one : DeclaredType) → type_declared d.says ≡ Some one
      → head.universe ≡ one.universe
  unfolding standing_from
  universes_agree at d defined head e one f = by_row (row_stands program at head e)
    where
      by_row : (s : Standing) × (standing_at program at ≡ Some s) × Declares s.says head →
          head.universe ≡ one.universe
      by_row (s, found, (dt, declared, params, same)) = same ∙ by (opaque_name s.says) refl
        where
          defined_so : defined_by (body_at s.place (slice_get program s.place)) s (opaque_name s.says) ≡ Some d
          defined_so = sym (ap (definition_for program) found) ∙ defined

          promised : (name : Bytes) → opaque_name s.says ≡ Some name → (m : ModuleParts) →
              slice_get program at.«module» ≡ Some m →
              IsThere at.«module» Interface (declarations_in m.interface) s
              → (interface : Option Entry) → m.interface ≡ interface → (body : Option Entry) → m.body ≡ body →
              dt.universe ≡ one.universe
          promised name opaque m is its None none body same =
              absurd (none-some s.says (sym (ap (λ o. slice_get (declarations_in o) s.index) none) ∙ its.2))
          promised name opaque m is its (Some interface) of_interface None none = absurd (none-some d nothing)
            where
              nothing : None ≡ Some d
              nothing = sym (ap (λ n. defined_by (body_at n (slice_get program n)) s (opaque_name s.says))
                  its.0 ∙ ap (λ o. defined_by (body_at at.«module» o) s (opaque_name s.says)) is
                  ∙ ap (λ o. defined_by (body_at at.«module» (Some m)) s o) opaque
                  ∙ ap (λ o. find (is_whole name) (standing_from at.«module» Body 0 (declarations_in o)))
                  none) ∙ defined_so
          promised name opaque m is its (Some interface) of_interface (Some body) of_body =
              let kept = opaque_defined program at m interface body s name good is of_interface of_body found
              its.1 opaque in
              let same = same_Some kept.0 d (sym kept.1 ∙ defined) in
              heading_universe (sight_of program at.«module» m) s.says d.says name dt one opaque
              (subst (λ (x : Standing). Agrees (sight_of program at.«module» m) s.says x.says) same kept.2)
              declared f

          by : (o : Option Bytes) → opaque_name s.says ≡ o → dt.universe ≡ one.universe
          by None is =
              let same = same_Some s d (sym (ap (defined_by (body_at s.place (slice_get program s.place)) s)
              is) ∙ defined_so) in
              ap (λ (x : DeclaredType). x.universe)
              (same_Some dt one (sym declared ∙ ap (λ (x : Standing). type_declared x.says) same ∙ f))
          by (Some name) is = in_part (stands_in program at s found)
            where
              in_part : (m : ModuleParts) × (slice_get program at.«module» ≡ Some m)
                  × (IsThere at.«module» Interface (declarations_in m.interface) s
                  ⊎ IsThere at.«module» Body (declarations_in m.body) s)
                  → dt.universe ≡ one.universe
              in_part (m, here, inl its) = promised name is m here its m.interface refl m.body refl
              in_part (m, here, inr its) = absurd
                  (not_in_body s.says name is (subst (λ p. formed_declaration p s.says ≡ true) its.1
                  (parts at s found)))
