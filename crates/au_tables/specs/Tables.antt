-- The types of a program as the memory of a running program asks for them: what its declarations say of
-- each type without type parameters.
use Rattle.std.specs.Prelude.{◌≡◌, ℕ, Bool, true, false, ◌||◌, List, [], ◌∷◌, map, codes, Option, None}
use Rattle.std.specs.Prelude.{Some, slice_get}
use Rattle.std.specs.Prelude.{if◌then◌else◌, option_and_then}
use Rattle.std.specs.Option.{option_map}
use Rattle.std.specs.Str.{bytes_eq}
use Rattle.au_syntax.specs.declared.declarations.Universe.TheVariants as universes
use Rattle.au_syntax.specs.Modules.{Variant, record_type, union_type}
use Rattle.au_syntax.specs.Plain.{Bytes, PlainDeclaration}
use Rattle.au_syntax.specs.Types.{Labelled}
use Rattle.au_types.specs.declared.headings.Head.{Head}
use Rattle.au_types.specs.declared.types.DeclAt.{DeclAt}
use Rattle.au_types.specs.Rows.{head_of}
use Rattle.au_types.specs.Types.{Meaning, Arguments, named, of_type, no_arguments, arguments}
use Rattle.au_matching.specs.Forming.{fits, is_formed}
use Rattle.au_matching.specs.Universes.{is_free, universe_of}
use Rattle.au_modules.specs.Programs.{ModuleParts}
use Rattle.au_names.specs.DeclaredTypes.{DeclaredType, type_declared}
use Rattle.au_names.specs.HeadsOf.{heads_of}
use Rattle.au_names.specs.Standing.{Standing, definition_of}
use Rattle.au_promises.specs.Mentions.{type_parameters}
use Rattle.au_formed.specs.Good.{IsWellMade}
use Rattle.au_typing.specs.Insides.{fields_under}
use Rattle.au_typing.specs.Scopes.{Typed}
use Rattle.au_typing.specs.Written.{types_at}
use Rattle.au_memory.specs.Loans.{Types}

-- ---- records and unions

-- the fields of each case of a declaration, as they are written: a record has one case
abbrev pub cases_written : PlainDeclaration → List (List (Labelled Bytes))
cases_written (record_type at name params universe fields) = fields ∷ []
cases_written (union_type at name params universe cases) = map (λ (v : Variant Bytes). v.fields) cases
cases_written other = []

-- the types of fields
abbrev pub field_types : List Typed → List Meaning
field_types fields = map (λ (one : Typed). one.of) fields

module _ (program : List ModuleParts) where
  -- the types of the fields of the case of a number of a definition, if it has the case, where its type
  -- parameters have these arguments
  abbrev pub case_fields : Arguments → ℕ → Standing → Option (List Meaning)
  case_fields args tag d =
      option_and_then (λ (fields : List (Labelled Bytes)).
      option_map field_types (fields_under program d (type_parameters d.says) args fields))
      (slice_get (cases_written d.says) tag)

  -- the same of a definition, if there is one
  abbrev pub defined_fields : Arguments → ℕ → Option Standing → Option (List Meaning)
  defined_fields args tag None = None
  defined_fields args tag (Some d) = case_fields args tag d

  -- a type is well formed over no type parameter
  abbrev pub is_well_formed : Meaning → Bool
  is_well_formed t = is_formed (fits (heads_of program) []) (heads_of program) [] t

  -- the types of the fields of the case of a number of a type, where the type is well formed and has the case
  abbrev pub fields_in : Meaning → ℕ → Option (List Meaning)
  fields_in (named at args) tag =
      if is_well_formed (named at args) then defined_fields args tag (definition_of program at) else None
  fields_in other tag = None

-- ---- shipped types

-- the texts of the shipped types whose values have births
abbrev pub box_text : Bytes
box_text = codes "Standard.Box:Box"

abbrev pub buffer_text : Bytes
buffer_text = codes "Standard.Buffer:Buffer"

abbrev pub terminal_text : Bytes
terminal_text = codes "Standard.IO.Terminal:Terminal"

abbrev pub root_text : Bytes
root_text = codes "Austral.Pervasive:RootCapability"

-- a row has a text
abbrev pub has_text : Bytes → Option Head → Bool
has_text text None = false
has_text text (Some head) = bytes_eq head.text text

module _ (program : List ModuleParts) where
  -- a declared type has a text
  abbrev pub is_called : Bytes → DeclAt → Bool
  is_called text at = has_text text (head_of (heads_of program) at)

  -- the argument of a type of this text, which has one
  abbrev pub argument_of : Bytes → Meaning → Option Meaning
  argument_of text (named at (arguments (of_type t) no_arguments)) = if is_called text at then Some t else
      None
  argument_of text other = None

  -- a type is one of this text
  abbrev pub is_one_of : Bytes → Meaning → Bool
  is_one_of text (named at args) = is_called text at
  is_one_of text other = false

  -- ---- the table

  -- What is known of the types of a program.
  abbrev pub types_of : Types
  types_of = record {
    fields = fields_in program;
    boxed = argument_of box_text;
    buffered = argument_of buffer_text;
    is_terminal = is_one_of terminal_text;
    is_root = is_one_of root_text;
    is_free = λ t. is_free (universe_of (heads_of program) [] t);
  }

-- ---- what is asked of a program

-- The definition of each declared type has the type parameters and the universe of its row, and is well
-- made where it stands.
pub record DefinitionsFit (program : List ModuleParts) : Type 0 where
  pub parameters : (at : DeclAt) (d : Standing) (head : Head) → definition_of program at ≡ Some d
      → head_of (heads_of program) at ≡ Some head → head.params ≡ type_parameters d.says
  pub universes : (at : DeclAt) (d : Standing) (head : Head) (one : DeclaredType)
      → definition_of program at ≡ Some d
      → head_of (heads_of program) at ≡ Some head → type_declared d.says ≡ Some one
      → head.universe ≡ one.universe
  pub made : (at : DeclAt) (d : Standing) → definition_of program at ≡ Some d
      → IsWellMade (types_at program d.place d.part) (heads_of program) d.says

-- a text is that of a shipped type whose values have births
abbrev pub is_of_births : Bytes → Bool
is_of_births text =
    bytes_eq text box_text || bytes_eq text buffer_text || bytes_eq text terminal_text
    || bytes_eq text root_text

-- The shipped types whose values have births are Linear, and none of them has a definition.
pub record BirthsAreShipped (program : List ModuleParts) : Type 0 where
  pub linear : (at : DeclAt) (head : Head) → head_of (heads_of program) at ≡ Some head
      → is_of_births head.text ≡ true → head.universe ≡ universes.Linear
  pub undefined : (at : DeclAt) (head : Head) → head_of (heads_of program) at ≡ Some head
      → is_of_births head.text ≡ true → definition_of program at ≡ None
