-- The classes of a program.
use Rattle.std.specs.Prelude.{ℕ, List, Option, None, Some, slice_get}
use Rattle.au_syntax.specs.declared.modules.Part.{Part}
use Rattle.au_syntax.specs.Modules.{Header, class}
use Rattle.au_syntax.specs.Plain.{Bytes, PlainDeclaration}
use Rattle.au_types.specs.declared.parameters.Parameter.{Parameter}
use Rattle.au_types.specs.declared.types.DeclAt.{DeclAt}
use Rattle.au_modules.specs.Programs.{ModuleParts}
use Rattle.au_judged_types.specs.Meanings.{parameter}
use Rattle.au_promises.specs.Agreeing.{visible}
use Rattle.au_names.specs.Standing.{Standing, standing_at}

-- a class: the names of types and classes that are seen where it stands, its type parameter and its methods
pub record ClassText : Type 0 where
  pub visible : List (Bytes × DeclAt)
  pub parameter : Parameter
  pub methods : List (Header Bytes)

-- the names of types and classes that a part of a module sees, if the module is there
abbrev pub visible_in : List ModuleParts → ℕ → Part → Option ModuleParts → Option (List (Bytes × DeclAt))
visible_in program place part None = None
visible_in program place part (Some m) = Some (visible program place m part)

-- those that a part of the module at a place sees
abbrev pub visible_at : List ModuleParts → ℕ → Part → Option (List (Bytes × DeclAt))
visible_at program place part = visible_in program place part (slice_get program place)

-- a declaration, where these names are seen, if it is a class
abbrev pub class_in : Option (List (Bytes × DeclAt)) → PlainDeclaration → Option ClassText
class_in (Some names) (class at name p methods) = Some (record {
  visible = names;
  parameter = parameter p;
  methods = methods;
})
class_in names d = None

-- the same of a declaration with where it stands, if there is one
abbrev pub class_standing : List ModuleParts → Option Standing → Option ClassText
class_standing program None = None
class_standing program (Some d) = class_in (visible_at program d.place d.part) d.says

-- the class that the declaration of this module and number is, if it is one
abbrev pub class_at : List ModuleParts → DeclAt → Option ClassText
class_at program at = class_standing program (standing_at program at)
