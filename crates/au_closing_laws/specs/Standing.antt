-- What stands over type parameters of what a part of a module sees outside of functions.
use Rattle.std.specs.Prelude.{◌≡◌, ℕ, List, [], ◌∷◌, Some, map}
use Rattle.au_syntax.specs.declared.modules.Part.TheVariants.{Body}
use Rattle.au_syntax.specs.Plain.{Bytes}
use Rattle.au_types.specs.declared.headings.Head.{Head}
use Rattle.au_types.specs.declared.parameters.Parameter.{Parameter}
use Rattle.au_types.specs.declared.types.DeclAt.{DeclAt}
use Rattle.au_types.specs.Types.{Meaning}
use Rattle.au_matching.specs.Forming.{StandsOver}
use Rattle.au_judged_types.specs.Bounds.{parameters}
use Rattle.au_judged_types.specs.Meanings.{parameter}
use Rattle.au_modules.specs.Programs.{ModuleParts}
use Rattle.au_names.specs.DeclaredTypes.{DeclaredType, type_declared}
use Rattle.au_names.specs.HeadsOf.{heads_of}
use Rattle.au_names.specs.Standing.{Standing, standing_at, whole_name}
use Rattle.au_typing.specs.Scopes.{Callable, Outside, Typed}
use Rattle.au_typing.specs.Called.{type_itself}
use Rattle.au_typing.specs.Insides.{fields_of}
use Rattle.au_typing.specs.Outsides.{outside_of}

module _ (heads : List (DeclAt × Head)) (params : List Parameter) where
  -- each of some fields or parameters has a type that stands
  abbrev pub EachStand : List Typed → Type 0
  EachStand [] = Unit {0}
  EachStand (one ∷ rest) = StandsOver heads params one.of × EachStand rest

-- The types of what is seen outside of functions stand: those of constants over no type parameter, those of
-- what is called over its own, and those of the fields of a type that stands over the same as the type.
pub record OutsideStands (outside : Outside) : Type 0 where
  pub constants : (name : Bytes) (t : Meaning) → outside.constant name ≡ Some t
      → StandsOver outside.heads [] t
  pub takes : (name : Bytes) (c : Callable) → outside.callable name ≡ Some c
      → EachStand outside.heads (parameters c.generics) c.parameters
  pub gives : (name : Bytes) (c : Callable) → outside.callable name ≡ Some c
      → StandsOver outside.heads (parameters c.generics) c.result
  pub fields : (params : List Parameter) (t : Meaning) (fields : List Typed) → outside.fields t ≡ Some fields
      → StandsOver outside.heads params t
      → EachStand outside.heads params fields

module _ (program : List ModuleParts) where
  -- what the body of each module sees outside of functions stands
  abbrev pub SeenStands : Type 0
  SeenStands = (place : ℕ) → OutsideStands (outside_of program place Body)

  -- The type of each record and union, with its type parameters as arguments, stands over these.
  abbrev pub OwnTypesStand : Type 0
  OwnTypesStand =
      (at : DeclAt) (d : Standing) (name : Bytes) (one : DeclaredType) (t : Meaning)
      → standing_at program at ≡ Some d → whole_name d.says ≡ Some name → type_declared d.says ≡ Some one
      → type_itself program d.place name (map parameter one.parameters) ≡ Some t
      → StandsOver (heads_of program) (map parameter one.parameters) t

  -- The fields of a type that stands over type parameters stand over them.
  abbrev pub FieldsStand : Type 0
  FieldsStand =
      (place : ℕ) (params : List Parameter) (t : Meaning) (fields : List Typed)
      → fields_of program place t ≡ Some fields → StandsOver (heads_of program) params t
      → EachStand (heads_of program) params fields
