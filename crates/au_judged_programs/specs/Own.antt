-- The types of the names of records and unions.
use Rattle.std.specs.Prelude.{◌≡◌, List, Some}
use Rattle.au_syntax.specs.Plain.{Bytes}
use Rattle.au_types.specs.declared.types.DeclAt.{DeclAt}
use Rattle.au_modules.specs.Programs.{ModuleParts}
use Rattle.au_names.specs.Standing.{Standing, definition_of, standing_at, whole_name}
use Rattle.au_rules.specs.Once.{AllNamesAreOnce}
use Rattle.au_judged_bodies.specs.Called.{type_number}

-- Where no name of a program is declared again, the type of the name of a record or union, where that stands,
-- is defined by it: it is itself, or the opaque type that it defines.
abbrev pub OwnTypesAreDefined : Type 0
OwnTypesAreDefined =
    (program : List ModuleParts) → AllNamesAreOnce program
    → (at : DeclAt) (d : Standing) (name : Bytes) (own : DeclAt)
    → standing_at program at ≡ Some d → whole_name d.says ≡ Some name → type_number program d.place name
    ≡ Some own
    → definition_of program own ≡ Some d
