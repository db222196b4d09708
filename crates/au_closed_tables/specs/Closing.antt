-- The types of a program as its meaning knows them: closed, without regions.
use Rattle.std.specs.Prelude.{◌≡◌, ℕ, List, [], ◌∷◌, Some, slice_get}
use Rattle.au_types.specs.Types.{Meaning}
use Rattle.au_matching.specs.Universes.{universe_of}
use Rattle.au_instances.specs.ClosedInstances.{closed_universe}
use Rattle.au_type_texts.specs.Closing.{closed}
use Rattle.au_type_texts.specs.Types.{ClosedType}
use Rattle.au_closed_trees.specs.Parts.{ClosedCase, ClosedField, cases_of}
use Rattle.au_modules.specs.Programs.{ModuleParts}
use Rattle.au_names.specs.HeadsOf.{heads_of}
use Rattle.au_tables.specs.Tables.{DefinitionsFit, fields_in}

-- types close to the types of fields, each to that in its place
abbrev pub AreClosed : List Meaning → List ClosedField → Type 0
AreClosed [] [] = Unit {0}
AreClosed (t ∷ ts) (f ∷ fs) = (closed t ≡ Some f.of) × AreClosed ts fs
AreClosed [] (f ∷ fs) = ⊥
AreClosed (t ∷ ts) [] = ⊥

-- The fields of the case of a number of a running type close to those of the closed type that the running
-- type closes to.
abbrev pub FieldsClose : Type 0
FieldsClose =
    (program : List ModuleParts) → DefinitionsFit program → (t : Meaning) (c : ClosedType) (tag : ℕ)
    (of : List Meaning)
    → closed t ≡ Some c → fields_in program t tag ≡ Some of
    → (one : ClosedCase) × (slice_get (cases_of program c) tag ≡ Some one) × AreClosed of one.fields

-- A running type has the universe of the closed type.
abbrev pub UniversesClose : Type 0
UniversesClose =
    (program : List ModuleParts) (t : Meaning) (c : ClosedType) → closed t ≡ Some c
    → universe_of (heads_of program) [] t ≡ closed_universe (heads_of program) c
