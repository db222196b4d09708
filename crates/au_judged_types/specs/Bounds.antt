-- Type parameters with the classes that constrain them.
use Rattle.std.specs.Prelude.{List, [], ◌∷◌, Bool, false, map, Option, None, Some, if◌then◌else◌}
use Rattle.std.specs.List.{list_any}
use Rattle.std.specs.Str.{bytes_eq}
use Rattle.au_syntax.specs.Plain.{Bytes}
use Rattle.au_types.specs.declared.parameters.Parameter.{Parameter}
use Rattle.au_types.specs.declared.types.DeclAt.{DeclAt}
use Rattle.au_types.specs.Rows.{same_place}

-- a type parameter, and the classes that constrain it in the order of the text
pub record Bounded : Type 0 where
  pub parameter : Parameter
  pub classes : List DeclAt

-- type parameters, each with the classes in its place
abbrev pub bounded : List Parameter → List (List DeclAt) → List Bounded
bounded [] all = []
bounded (p ∷ rest) [] = []
bounded (p ∷ rest) (classes ∷ all) = record { parameter = p; classes = classes } ∷ bounded rest all

-- the type parameters alone
abbrev pub parameters : List Bounded → List Parameter
parameters generics = map (λ g. g.parameter) generics

-- the classes of the first type parameter that has the name, and none where no type parameter has it
abbrev pub classes_of : List Bounded → Bytes → Option (List DeclAt)
classes_of [] name = None
classes_of (one ∷ rest) name =
    if bytes_eq one.parameter.name name
    then Some one.classes
    else classes_of rest name

-- whether a class is among these, if there are any
abbrev pub is_among : DeclAt → Option (List DeclAt) → Bool
is_among class None = false
is_among class (Some classes) = list_any (same_place class) classes

-- whether a class constrains the first type parameter that has the name
abbrev pub constrains : List Bounded → Bytes → DeclAt → Bool
constrains generics name class = is_among class (classes_of generics name)
