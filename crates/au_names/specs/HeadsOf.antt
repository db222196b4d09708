-- The rows of the declared types of a program. Declared types are opaque types, records and unions.
use Rattle.std.specs.Prelude.{ℕ, ◌+◌, List, [], ◌∷◌, ◌++◌, map, Option, None, Some}
use Rattle.std.specs.List.{flat_map}
use Rattle.std.specs.Option.{option_map}
use Rattle.au_syntax.specs.declared.declarations.Universe.{Universe}
use Rattle.au_syntax.specs.Modules.{InUniverse}
use Rattle.au_syntax.specs.Plain.{Bytes, PlainDeclaration}
use Rattle.au_types.specs.DeclaredNames.{type_names}
use Rattle.au_types.specs.Tables.{firsts}
use Rattle.au_types.specs.declared.types.DeclAt.{DeclAt}
use Rattle.au_types.specs.declared.headings.Head.{Head}
use Rattle.au_types.specs.declared.parameters.Parameter.{Parameter}
use Rattle.au_modules.specs.Programs.{ModuleParts}
use Rattle.au_names.specs.DeclaredTypes.{DeclaredType, type_declared}
use Rattle.au_names.specs.Owned.{declarations_of}

-- ---- one type

-- a type parameter that is written
abbrev pub parameter : InUniverse Bytes → Parameter
parameter p = record { name = p.name.name; universe = p.universe }

-- the head of a type of a module: the module's name, a colon and its own name, its universe and its
-- type parameters
abbrev pub head : Bytes → Bytes → List (InUniverse Bytes) → Universe → Head
head owner name parameters universe = record {
  text = owner ++ 58 ∷ name;
  universe = universe;
  params = map parameter parameters;
}

-- the head of a type that is declared in a module
abbrev pub head_for : Bytes → DeclaredType → Head
head_for owner t = head owner t.name t.parameters t.universe

-- the head of a declaration of a module, if it is that of a type
abbrev pub head_in : Bytes → PlainDeclaration → Option Head
head_in owner d = option_map (head_for owner) (type_declared d)

-- the row of a head, if there is one
abbrev pub row_under : DeclAt → Option Head → List (DeclAt × Head)
row_under at None = []
row_under at (Some one) = (at, one) ∷ []

-- the row of a numbered declaration of the module at a place, if it is that of a type
abbrev pub row_of : ℕ → Bytes → ℕ × PlainDeclaration → List (DeclAt × Head)
row_of place owner d = row_under (record { «module» = place; decl = d.0 }) (head_in owner d.1)

-- ---- which declarations count

-- a numbered declaration under each name that it brings in to the space of types
abbrev pub under_names : ℕ × PlainDeclaration → List (Bytes × (ℕ × PlainDeclaration))
under_names d = map (λ name. (name, d)) (type_names d.1)

-- of those under one name the first alone counts
abbrev pub counting : List (ℕ × PlainDeclaration) → List (ℕ × PlainDeclaration)
counting ds = map (λ p. p.1) (firsts (flat_map under_names ds))

-- the rows of numbered declarations of the module at a place
abbrev pub rows_of : ℕ → Bytes → List (ℕ × PlainDeclaration) → List (DeclAt × Head)
rows_of place owner ds = flat_map (row_of place owner) (counting ds)

-- ---- modules

-- the rows of the module at a place, if there is one
abbrev pub rows_at : ℕ → Option ModuleParts → List (DeclAt × Head)
rows_at place None = []
rows_at place (Some m) = rows_of place m.name (declarations_of m)

-- the rows of modules in order, the first of which has this place
unfoldable pub rows_from : ℕ → List ModuleParts → List (DeclAt × Head)
rows_from place [] = []
rows_from place (m ∷ ms) = rows_at place (Some m) ++ rows_from (place + 1) ms

-- the rows of all modules of a program
abbrev pub heads_of : List ModuleParts → List (DeclAt × Head)
heads_of ms = rows_from 0 ms
