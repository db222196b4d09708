-- The cases of closed declared types, with the closed types of their fields.
use Rattle.std.specs.Prelude.{List, [], ◌∷◌, Option, None, Some, map}
use Rattle.std.specs.Option.{option_map}
use Rattle.au_syntax.specs.Modules.{Variant, record_type, union_type}
use Rattle.au_syntax.specs.Names.{Placed}
use Rattle.au_syntax.specs.Plain.{Bytes, PlainDeclaration}
use Rattle.au_syntax.specs.Types.{Labelled, WrittenType}
use Rattle.au_types.specs.declared.headings.Head.{Head}
use Rattle.au_types.specs.declared.parameters.Parameter.{Parameter}
use Rattle.au_types.specs.declared.types.DeclAt.{DeclAt}
use Rattle.au_types.specs.Meant.{meant}
use Rattle.au_modules.specs.Programs.{ModuleParts}
use Rattle.au_names.specs.HeadsOf.{heads_of, parameter}
use Rattle.au_names.specs.Standing.{Standing, definition_of}
use Rattle.au_sights.specs.Written.{types_at}
use Rattle.au_type_texts.specs.Types.{ClosedType, named}
use Rattle.au_type_texts.specs.Given.{Given, closed_or_unit, closed_under}
use Rattle.au_closed_trees.specs.TypeNames.{given_over, listed, type_names}

-- a parameter or a field with its closed type
pub record ClosedField : Type 0 where
  pub name : Bytes
  pub of : ClosedType

-- a case, or a record: its name, and its fields in declared order
pub record ClosedCase : Type 0 where
  pub name : Bytes
  pub fields : List ClosedField

-- where these names of types are seen, by the rows of declared types, over these type parameters and under
-- what is given for them
module _ (names : List (Bytes × DeclAt)) (heads : List (DeclAt × Head)) (params : List Parameter)
    (given : Given) where
  -- the closed type of a type that is written
  abbrev pub written_under : WrittenType → ClosedType
  written_under t = closed_or_unit (option_map (closed_under given) (meant [] params names heads t))

  -- a field or a parameter with its closed type
  abbrev pub field_under : Labelled Bytes → ClosedField
  field_under one = record { name = one.name.name; of = written_under one.of }

  -- fields under a name
  abbrev pub case_under : Placed Bytes → List (Labelled Bytes) → ClosedCase
  case_under name fields = record { name = name.name; fields = map field_under fields }

  -- a case of a union
  abbrev pub variant_under : Variant Bytes → ClosedCase
  variant_under one = case_under one.name one.fields

module _ (names : List (Bytes × DeclAt)) (heads : List (DeclAt × Head)) (args : List ClosedType) where
  -- a record with these type parameters, which have these arguments
  abbrev pub record_with : List Parameter → Placed Bytes → List (Labelled Bytes) → ClosedCase
  record_with params name fields =
      case_under names heads params (given_over (type_names params) args) name fields

  -- the cases of a union with them
  abbrev pub union_with : List Parameter → List (Variant Bytes) → List ClosedCase
  union_with params cases = map (variant_under names heads params (given_over (type_names params) args)) cases

  -- The cases that a declaration has where its type parameters have these arguments: a record has one, with
  -- its name.
  abbrev pub declared_cases : PlainDeclaration → List ClosedCase
  declared_cases (record_type at name params universe fields) =
      record_with (map parameter params) name fields ∷ []
  declared_cases (union_type at name params universe cases) = union_with (map parameter params) cases
  declared_cases other = []

-- the same of a definition, if there is one
abbrev pub defined_cases : List ModuleParts → List ClosedType → Option Standing → List ClosedCase
defined_cases program args None = []
defined_cases program args (Some d) =
    declared_cases (types_at program d.place d.part) (heads_of program) args d.says

-- The cases of a closed type in declared order, with closed fields. An opaque type has those of its
-- definition, and none where there is no definition, as in the shipped modules.
abbrev pub cases_of : List ModuleParts → ClosedType → List ClosedCase
cases_of program (named at args) = defined_cases program (listed args) (definition_of program at)
cases_of program t = []
