-- Where the declarations of a program stand, and by which of them its types are defined.
use Rattle.std.specs.Prelude.{ℕ, ◌+◌, Bool, false, List, [], ◌∷◌, ◌++◌, Option, None, Some, find, slice_get}
use Rattle.std.specs.Option.{option_map}
use Rattle.std.specs.Str.{bytes_eq}
use Rattle.au_syntax.specs.declared.modules.Part.{Part}
use Rattle.au_syntax.specs.declared.modules.Part.TheVariants.{Interface, Body}
use Rattle.au_syntax.specs.Modules.{opaque_type, record_type, union_type}
use Rattle.au_syntax.specs.Plain.{Bytes, PlainDeclaration}
use Rattle.au_types.specs.declared.types.DeclAt.{DeclAt}
use Rattle.au_modules.specs.Programs.{ModuleParts}
use Rattle.au_names.specs.Walks.{written}
use Rattle.au_names.specs.Owned.{declarations_in}
use Rattle.au_names.specs.declared.declarations.Declared as code

-- a declaration of a program: the place of its module, its part, its index among the declarations of that
-- part, and what it says
pub record Standing : Type 0 where
  pub place : ℕ
  pub part : Part
  pub index : ℕ
  pub says : PlainDeclaration

-- ---- which declaration has a number

-- the declarations of a part of the module at a place, the first of which has this index
unfoldable pub standing_from : ℕ → Part → ℕ → List PlainDeclaration → List Standing
standing_from place part index [] = []
standing_from place part index (d ∷ ds) =
    record { place = place; part = part; index = index; says = d } ∷ standing_from place part (index + 1) ds

-- the declarations of its body
abbrev pub body_standing : ℕ → ModuleParts → List Standing
body_standing place m = standing_from place Body 0 (declarations_in m.body)

-- the declarations of the module at a place by their numbers: those of its interface, and then those of
-- its body
abbrev pub module_standing : ℕ → ModuleParts → List Standing
module_standing place m =
    standing_from place Interface 0 (declarations_in m.interface) ++ body_standing place m

-- the declaration of a number in the module at a place, if it is there
abbrev pub standing_in : ℕ → ℕ → Option ModuleParts → Option Standing
standing_in place number None = None
standing_in place number (Some m) = slice_get (module_standing place m) number

-- the declaration of a program with this module and number, if it is there
abbrev pub standing_at : List ModuleParts → DeclAt → Option Standing
standing_at program at = standing_in at.«module» at.decl (slice_get program at.«module»)

-- ---- which declaration defines a type

-- the name of an opaque type
abbrev pub opaque_name : PlainDeclaration → Option Bytes
opaque_name (opaque_type at name parameters universe) = Some name.name
opaque_name other = None

-- the name of a record or a union
abbrev pub whole_name : PlainDeclaration → Option Bytes
whole_name (record_type at name parameters universe fields) = Some name.name
whole_name (union_type at name parameters universe cases) = Some name.name
whole_name other = None

-- a name is this one
abbrev pub is_named : Bytes → Option Bytes → Bool
is_named name None = false
is_named name (Some other) = bytes_eq name other

-- a declaration is a record or a union of this name
abbrev pub is_whole : Bytes → Standing → Bool
is_whole name d = is_named name (whole_name d.says)

-- the declarations of the body of the module at a place, if there is one
abbrev pub body_at : ℕ → Option ModuleParts → List Standing
body_at place None = []
body_at place (Some m) = body_standing place m

-- An opaque type of this name is defined by the first record or union of its name in the body of its
-- module. Whatever is no opaque type is its own definition.
abbrev pub defined_by : List Standing → Standing → Option Bytes → Option Standing
defined_by body d None = Some d
defined_by body d (Some name) = find (is_whole name) body

-- the definition of a declaration, if there is one
abbrev pub definition_for : List ModuleParts → Option Standing → Option Standing
definition_for program None = None
definition_for program (Some d) =
    defined_by (body_at d.place (slice_get program d.place)) d (opaque_name d.says)

-- the definition of the declaration with this module and number
abbrev pub definition_of : List ModuleParts → DeclAt → Option Standing
definition_of program at = definition_for program (standing_at program at)

-- ---- what the code shows

-- a declaration that was found, with where it stands
abbrev pub standing : code.Declared → Standing
standing d = record { place = d.place; part = d.part; index = d.index; says = written d.decl.now }

-- the same, if one was found
abbrev pub standing_seen : Option code.Declared → Option Standing
standing_seen found = option_map standing found
