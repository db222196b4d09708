-- The declared types that the fields of a declared type name.
use Rattle.std.specs.Prelude.{ℕ, Bool, false, List, [], map, Option, None, Some, slice_get}
use Rattle.au_syntax.specs.declared.modules.Part.{Part}
use Rattle.au_syntax.specs.Plain.{Bytes, PlainDeclaration}
use Rattle.au_types.specs.declared.headings.Head.{Head}
use Rattle.au_types.specs.declared.types.DeclAt.{DeclAt}
use Rattle.au_types.specs.Senses.{sense_of}
use Rattle.au_modules.specs.Programs.{ModuleParts}
use Rattle.au_names.specs.HeadsOf.{heads_of}
use Rattle.au_names.specs.Standing.{Standing, definition_of}
use Rattle.au_promises.specs.Mentions.{type_parameters}
use Rattle.au_formed.specs.declared.namings.Naming.{Naming}
use Rattle.au_formed.specs.Naming.{declaration_names}
use Rattle.au_formed.specs.Text.{visible_in}

-- no declared type holds its arguments apart: boxes and buffers too lead to what lies in them
abbrev pub no_holder : DeclAt → Bool
no_holder at = false

-- what names mean among types in a part of the module at a place
abbrev pub types_at : List ModuleParts → ℕ → Part → List (Bytes × DeclAt)
types_at program place part = visible_in program place part (slice_get program place)

-- what the fields of a record or a union name, in arguments and behind references too, among the names that
-- are visible and the rows of the declared types
abbrev pub names_by : List (Bytes × DeclAt) → List (DeclAt × Head) → PlainDeclaration → List DeclAt
names_by visible heads d = declaration_names (sense_of [] (type_parameters d) visible heads) no_holder d

-- the same of a declaration that is found, if it is
abbrev pub names_standing : List ModuleParts → Option Standing → List DeclAt
names_standing program None = []
names_standing program (Some d) = names_by (types_at program d.place d.part) (heads_of program) d.says

-- What the fields of a declared type name. An opaque type has those of its definition, wherever it is
-- looked at from: what lies inside can be reached by the calls of its module. A shipped one has none.
abbrev pub names_of : List ModuleParts → DeclAt → List DeclAt
names_of program at = names_standing program (definition_of program at)

-- a declared type by its row, with what its fields name
abbrev pub naming_of : List ModuleParts → DeclAt × Head → Naming
naming_of program row = record { of = row.0; names = names_of program row.0 }

-- the declared types of a program, in the order of their rows
abbrev pub namings : List ModuleParts → List Naming
namings program = map (naming_of program) (heads_of program)
