-- The types that records and unions name in their fields, outside the arguments of boxes and buffers.
use Rattle.std.specs.Prelude.{Bool, false, ◌||◌, List, [], ◌∷◌, ◌++◌, Option, None, Some, codes}
use Rattle.std.specs.Prelude.{if◌then◌else◌}
use Rattle.std.specs.List.{filter_map, flat_map}
use Rattle.std.specs.Option.{option_map}
use Rattle.std.specs.Str.{bytes_eq}
use Rattle.au_syntax.specs.Modules.{Variant, record_type, union_type}
use Rattle.au_syntax.specs.Plain.{Bytes, PlainDeclaration}
use Rattle.au_syntax.specs.Types.{Labelled, WrittenType, WrittenTypes, named, reference, no_types, types}
use Rattle.au_types.specs.Tables.{find}
use Rattle.au_types.specs.declared.headings.Head.{Head}
use Rattle.au_types.specs.declared.types.DeclAt.{DeclAt}
use Rattle.au_types.specs.Rows.{head_of}
use Rattle.au_modules.specs.Programs.{ModuleParts}
use Rattle.au_names.specs.HeadsOf.{heads_of}
use Rattle.au_names.specs.Standing.{whole_name}
use Rattle.au_promises.specs.Mentions.{type_parameters}
use Rattle.au_types.specs.Senses.{Sense, declared, sense_of}
use Rattle.au_formed.specs.declared.namings.Naming.{Naming}
use Rattle.au_formed.specs.Text.{Spot, text, visible_at}

-- ---- boxes and buffers

-- a declared type is one of the shipped types that hold their argument apart: `Box` and `Buffer`
abbrev pub is_holder : Option Head → Bool
is_holder None = false
is_holder (Some head) =
    bytes_eq head.text (codes "Standard.Box:Box") || bytes_eq head.text (codes "Standard.Buffer:Buffer")

-- ---- written types

-- the declared type that a name with this sense means, if it means one
abbrev pub declared_type : Option Sense → Option DeclAt
declared_type (Some (declared at expected)) = Some at
declared_type other = None

-- a name that means this, and what is named in its arguments, which don't count where they are held apart
abbrev pub named_by : (DeclAt → Bool) → Option DeclAt → List DeclAt → List DeclAt
named_by holder None inside = inside
named_by holder (Some at) inside = at ∷ (if holder at then [] else inside)

-- by what a name means among types, and by which declared types hold their arguments apart
module _ (sense : Bytes → Option Sense) (holder : DeclAt → Bool) where
  unfoldable mutual
    -- the declared types that are named in a written type, under references too
    pub types_named : WrittenType → List DeclAt
    types_named (named name args) = named_by holder (declared_type (sense name.name)) (all_named args)
    types_named (reference at access target region) = types_named target

    -- those that are named in written types
    pub all_named : WrittenTypes → List DeclAt
    all_named no_types = []
    all_named (types t rest) = types_named t ++ all_named rest

  -- those that are named in the types of fields
  abbrev pub fields_name : List (Labelled Bytes) → List DeclAt
  fields_name fields = flat_map (λ f. types_named f.of) fields

  -- those that are named in the fields of a case
  abbrev pub case_names : Variant Bytes → List DeclAt
  case_names one = fields_name one.fields

  -- those that are named in the fields of a record or a union
  abbrev pub declaration_names : PlainDeclaration → List DeclAt
  declaration_names (record_type at name parameters universe fields) = fields_name fields
  declaration_names (union_type at name parameters universe cases) = flat_map case_names cases
  declaration_names other = []

-- ---- records and unions

-- what a name means, if there is one
abbrev pub meant_by : List (Bytes × DeclAt) → Option Bytes → Option DeclAt
meant_by visible None = None
meant_by visible (Some name) = find name visible

-- The type that a record or a union declares: what its name means where it stands. For what defines an opaque
-- type it is the opaque type.
abbrev pub type_of : List (Bytes × DeclAt) → PlainDeclaration → Option DeclAt
type_of visible d = meant_by visible (whole_name d)

-- whether a declared type holds its arguments apart
abbrev pub holder_in : List (DeclAt × Head) → DeclAt → Bool
holder_in heads at = is_holder (head_of heads at)

-- what the fields of a declaration name among the names that are visible and the rows of the declared types
abbrev pub names_in : List (Bytes × DeclAt) → List (DeclAt × Head) → PlainDeclaration → List DeclAt
names_in visible heads d =
    declaration_names (sense_of [] (type_parameters d) visible heads) (holder_in heads) d

-- a record or a union: the type that it declares, and the types that its fields name
abbrev pub naming : List (Bytes × DeclAt) → List (DeclAt × Head) → PlainDeclaration → Option Naming
naming visible heads d = option_map (λ at. record { of = at; names = names_in visible heads d })
    (type_of visible d)

-- that of a declaration of a program
abbrev pub naming_at : List ModuleParts → Spot → Option Naming
naming_at program s = naming (visible_at program s) (heads_of program) s.says

-- those of a program, in the order of the text
abbrev pub namings : List ModuleParts → List Naming
namings program = filter_map (naming_at program) (text program)
