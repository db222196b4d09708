-- What is known of types in the bodies of a program of good declarations.
use Rattle.std.specs.Prelude.{◌≡◌, ℕ, List, map, Some, Ok}
use Rattle.au_syntax.specs.declared.modules.Part.{Part}
use Rattle.au_syntax.specs.Modules.{Constrained, Header}
use Rattle.au_syntax.specs.Plain.{Bytes}
use Rattle.au_types.specs.declared.types.DeclAt.{DeclAt}
use Rattle.au_types.specs.Types.{Meaning}
use Rattle.au_judged_types.specs.Meanings.{parameter}
use Rattle.au_modules.specs.Programs.{ModuleParts}
use Rattle.au_names.specs.DeclaredTypes.{DeclaredType, type_declared}
use Rattle.au_names.specs.HeadsOf.{heads_of}
use Rattle.au_names.specs.Standing.{Standing, standing_at, whole_name}
use Rattle.au_formed.specs.Good.{IsWellMade}
use Rattle.au_typing.specs.Bodies.{body_scope}
use Rattle.au_typing.specs.Called.{type_itself}
use Rattle.au_typing.specs.Outsides.{outside_of}
use Rattle.au_typing.specs.Scopes.{Outside, Scope}
use Rattle.au_typing.specs.Written.{types_at}
use Rattle.au_tables.specs.Tables.{DefinitionsFit}
use Rattle.au_known_types.specs.Known.{IsDeclared, OutsideIsKnown, ScopeIsKnown}

-- Each declaration of a program is well made where it stands, and the type of each record and union is one
-- that it could write itself, over its type parameters.
pub record DeclarationsFit (program : List ModuleParts) : Type 0 where
  pub made : (at : DeclAt) (d : Standing) → standing_at program at ≡ Some d
      → IsWellMade (types_at program d.place d.part) (heads_of program) d.says
  pub own : (at : DeclAt) (d : Standing) (name : Bytes) (one : DeclaredType) (t : Meaning)
      → standing_at program at ≡ Some d → whole_name d.says ≡ Some name → type_declared d.says ≡ Some one
      → type_itself program d.place name (map parameter one.parameters) ≡ Some t
      → IsDeclared (heads_of program) (map parameter one.parameters) t

-- What each part of a module sees outside of functions is known.
abbrev pub OutsidesAreKnown : Type 0
OutsidesAreKnown =
    (program : List ModuleParts) → DefinitionsFit program → DeclarationsFit program
    → (place : ℕ) (part : Part)
    → OutsideIsKnown (outside_of program place part)

-- What is in scope at the start of a body is known.
abbrev pub BodiesAreKnown : Type 0
BodiesAreKnown =
    (outside : Outside) (generics : List (Constrained Bytes)) (header : Header Bytes) (scope : Scope)
    → OutsideIsKnown outside → body_scope outside generics header ≡ Ok scope → ScopeIsKnown scope
