-- How the classes of a program are told.
use Rattle.std.specs.Prelude.{ℕ, List, [], ◌∷◌, ◌++◌, Option, None, Some, slice_get}
use Rattle.au_syntax.specs.Modules.{class}
use Rattle.au_syntax.specs.Plain.{Bytes, PlainDeclaration}
use Rattle.au_types.specs.declared.types.DeclAt.{DeclAt}
use Rattle.au_modules.specs.Programs.{ModuleParts}
use Rattle.au_names.specs.Standing.{Standing, standing_at}

-- the name of a declaration, if it is a class
abbrev pub class_name : PlainDeclaration → Option Bytes
class_name (class at name parameter methods) = Some name.name
class_name other = None

-- a name with that of its module, if both are there: the module's name, a colon and the name itself
abbrev pub full_name : Option ModuleParts → Option Bytes → List ℕ
full_name (Some m) (Some name) = m.name ++ 58 ∷ name
full_name m name = []

-- the text of a class by its declaration, if that is found
abbrev pub standing_text : List ModuleParts → Option Standing → List ℕ
standing_text program None = []
standing_text program (Some d) = full_name (slice_get program d.place) (class_name d.says)

-- the text of the class with this module and number, and no byte where that is no class
abbrev pub class_text : List ModuleParts → DeclAt → List ℕ
class_text program at = standing_text program (standing_at program at)
