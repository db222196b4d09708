-- The type of the name of a record or union is defined by it.
use Rattle.std.proofs.Common.{◌≡◌, ◌⊎◌, inl, inr, ℕ, false, List, Some, refl, sym, ap, ◌∙◌, subst}
use Rattle.std.proofs.Common.{[]}
use Rattle.std.specs.Prelude.{slice_get}
use Rattle.std.specs.List.{flat_map}
use Rattle.std.proofs.lemmas.Option.{none-some}
use Rattle.au_base.proofs.OptionLemmas.{map_some}
use Rattle.au_syntax.specs.declared.modules.Part.TheVariants.{Interface, Body}
use Rattle.au_syntax.specs.Modules.{record_type, union_type}
use Rattle.au_syntax.specs.Plain.{Bytes, PlainDeclaration}
use Rattle.au_types.specs.DeclaredNames.{type_names}
use Rattle.au_types.specs.declared.spaces.Space.TheVariants.{Types}
use Rattle.au_types.specs.Tables as tables
use Rattle.au_types.specs.declared.types.DeclAt.{DeclAt}
use Rattle.au_modules.specs.Programs.{ModuleParts}
use Rattle.au_names.specs.declared.targets.Target.{Target}
use Rattle.au_names.specs.DeclaredTypes.{DeclaredType, a_type, type_declared}
use Rattle.au_names.specs.HeadsOf.{under_names}
use Rattle.au_names.specs.Owned.{declarations_in, declarations_of}
use Rattle.au_names.specs.Standing.{Standing, definition_of, module_standing, standing_at, whole_name}
use Rattle.au_names.proofs.AmongLemmas.{Among}
use Rattle.au_rules.specs.Once.{AllNamesAreOnce, AreNew}
use Rattle.au_judged_bodies.specs.Called.{owned, type_number}
use Rattle.au_closing_laws.proofs.DefinitionLemmas.{IsThere, stands_in}
use Rattle.au_closing_laws.proofs.OnceLemmas.{module_new, nothing, said}
use Rattle.au_closing_laws.proofs.OwnTypeLemmas.{found_row, leads_here, numbered_here}

-- a record or union declares a type
whole_is_declared : (says : PlainDeclaration) (name : Bytes) → whole_name says ≡ Some name →
    (one : DeclaredType) × (type_declared says ≡ Some one)
whole_is_declared (record_type at n ps u fields) name e = (a_type false n.name ps u, refl)
whole_is_declared (union_type at n ps u cases) name e = (a_type false n.name ps u, refl)
whole_is_declared other name e = absurd (none-some name e)

-- ---- the type of its name

module _ (program : List ModuleParts) (once : AllNamesAreOnce program) (at : DeclAt) (d : Standing) (name : Bytes)
    (x : DeclAt) (found : standing_at program at ≡ Some d) (whole : whole_name d.says ≡ Some name)
    (number : type_number program d.place name ≡ Some x) where
  module _ (m : ModuleParts) (here : slice_get program at.«module» ≡ Some m) (place : d.place ≡ at.«module») where
    new : AreNew nothing [] (flat_map said (module_standing at.«module» m))
    new = module_new program at.«module» m (once at.«module» m here)

    by_row : (row : ℕ × PlainDeclaration) → tables.find name (flat_map under_names (declarations_of m)) ≡ Some row
        → definition_of program (record { «module» = at.«module»; decl = row.0 }) ≡ Some d
    by_row row e = on (numbered_here program at d name found whole m here new row e)
      where
        on : (s : Standing) × (slice_get (module_standing at.«module» m) row.0 ≡ Some s) × (s.says ≡ row.1)
            × Among name (type_names row.1)
            → definition_of program (record { «module» = at.«module»; decl = row.0 }) ≡ Some d
        on (s, there, says, its) =
            let one = whole_is_declared d.says name whole in
            (leads_here program at d name found whole m here new one.0 one.1 row.0 s there
            (subst (λ y. Among name (type_names y)) (sym says) its)).0

    here_defined : definition_of program x ≡ Some d
    here_defined = to (map_some (λ (y : Target). y.at)
        (tables.find name (owned Types d.place (slice_get program d.place))) x number)
      where
        to : (meant : Target) × (tables.find name (owned Types d.place (slice_get program d.place)) ≡ Some meant)
            × (meant.at ≡ x) → definition_of program x ≡ Some d
        to (meant, means, at_x) =
            let row = found_row at.«module» (declarations_of m) name meant
            (sym (ap (λ o. tables.find name (owned Types at.«module» o)) here)
            ∙ sym (ap (λ n. tables.find name (owned Types n (slice_get program n))) place) ∙ means) in
            subst (λ y. definition_of program y ≡ Some d) (sym row.2 ∙ at_x) (by_row row.0 row.1)

  pub own_defined : definition_of program x ≡ Some d
  own_defined = by (stands_in program at d found)
    where
      placed : (m : ModuleParts) → IsThere at.«module» Interface (declarations_in m.interface) d
          ⊎ IsThere at.«module» Body (declarations_in m.body) d → d.place ≡ at.«module»
      placed m (inl above) = above.0
      placed m (inr below) = below.0

      by : (m : ModuleParts) × (slice_get program at.«module» ≡ Some m)
          × (IsThere at.«module» Interface (declarations_in m.interface) d
          ⊎ IsThere at.«module» Body (declarations_in m.body) d) → definition_of program x ≡ Some d
      by (m, here, its_part) = here_defined m here (placed m its_part)
