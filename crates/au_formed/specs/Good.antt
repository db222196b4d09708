-- The rules on declarations as they read, beside names that are declared again and types that are infinite.
use Rattle.std.specs.Prelude.{◌≡◌, ◌≢◌, ⊤, List, [], Some, Contains}
use Rattle.au_syntax.specs.declared.declarations.Universe.{Universe}
use Rattle.au_syntax.specs.declared.declarations.Universe.TheVariants as universes
use Rattle.au_syntax.specs.Modules.{Variant, record_type, union_type}
use Rattle.au_syntax.specs.Plain.{Bytes, PlainDeclaration}
use Rattle.au_syntax.specs.Types.{Labelled, WrittenType}
use Rattle.au_types.specs.declared.headings.Head.{Head}
use Rattle.au_types.specs.declared.parameters.Parameter.{Parameter}
use Rattle.au_types.specs.declared.types.DeclAt.{DeclAt}
use Rattle.au_types.specs.Types.{Meaning}
use Rattle.au_promises.specs.Mentions.{type_parameters}
use Rattle.au_matching.specs.declared.universes.TypeUniverse.{TypeUniverse}
use Rattle.au_matching.specs.declared.universes.TypeUniverse.TheVariants.{Free, Linear}
use Rattle.au_matching.specs.Forming.{IsWellFormed}
use Rattle.au_matching.specs.Universes.{universe_of}
use Rattle.au_types.specs.Meant.{meant}
use Rattle.au_types.specs.Senses.{a_class, sense_of}
use Rattle.au_formed.specs.Writings.{Writing, a_type, a_universe, writings}
use Rattle.au_formed.specs.Writings as writing

-- what is declared Free holds only Free fields, what is declared `Type` holds no Linear field, and what is
-- declared Linear holds any
abbrev pub Holds : Universe → TypeUniverse → Type 0
Holds universes.Free field = field ≡ Free
Holds universes.AnyType field = field ≢ Linear
Holds universe field = ⊤

-- a union has at least one case
abbrev pub HasCase : PlainDeclaration → Type 0
HasCase (union_type at name parameters universe cases) = cases ≢ []
HasCase other = ⊤

module _ (visible : List (Bytes × DeclAt)) (heads : List (DeclAt × Head)) (params : List Parameter) where
  -- A written type is well formed: types and regions stand where these are wanted, and arguments fit in
  -- number and universe.
  abbrev pub IsFormed : WrittenType → Type 0
  IsFormed t = (m : Meaning) × (meant [] params visible heads t ≡ Some m) × IsWellFormed heads params m

  -- what is written is well formed: a type, a name that means a class, and a universe that isn't `Region`
  abbrev pub IsGoodWriting : Writing → Type 0
  IsGoodWriting (a_type t) = IsFormed t
  IsGoodWriting (writing.a_class name) =
      (at : DeclAt) × (sense_of [] params visible heads name.name ≡ Some (a_class at))
  IsGoodWriting (a_universe at universe) = universe ≢ universes.Region

  -- the type of a field fits a universe that it is held in
  abbrev pub FieldFits : Universe → Labelled Bytes → Type 0
  FieldFits universe field =
      (m : Meaning) → meant [] params visible heads field.of ≡ Some m
      → Holds universe (universe_of heads params m)

  -- the fields of a record or a union fit the universe that it is declared in
  abbrev pub FieldsFit : PlainDeclaration → Type 0
  FieldsFit (record_type at name parameters universe fields) =
      (field : Labelled Bytes) → Contains fields field → FieldFits universe field
  FieldsFit (union_type at name parameters universe cases) =
      (one : Variant Bytes) → Contains cases one → (field : Labelled Bytes) → Contains one.fields field
      → FieldFits universe field
  FieldsFit other = ⊤

-- A declaration is well made among the names that are visible and the rows of the declared types: all that is
-- written in it is well formed, a union has a case, and fields fit the universe of their record or union.
pub record IsWellMade (visible : List (Bytes × DeclAt)) (heads : List (DeclAt × Head))
    (d : PlainDeclaration) : Type 0 where
  pub written : (w : Writing) → Contains (writings d) w → IsGoodWriting visible heads (type_parameters d) w
  pub cases : HasCase d
  pub fields : FieldsFit visible heads (type_parameters d) d
