-- The fields of a record and the cases of a union, as far as they are known in a module: a type is known
-- there where it isn't opaque or is of this module, whether or not its name is imported.
use Rattle.std.specs.Prelude.{ℕ, ◌+◌, ◌==◌, ◌||◌, Bool, List, [], ◌∷◌, Option, None, Some}
use Rattle.std.specs.Prelude.{if◌then◌else◌, is_none, length, map, slice_get}
use Rattle.std.specs.Option.{option_map}
use Rattle.au_syntax.specs.declared.modules.Part.{Part}
use Rattle.au_syntax.specs.declared.modules.Part.TheVariants.{Interface, Body}
use Rattle.au_syntax.specs.Modules.{Variant, record_type, union_type}
use Rattle.au_syntax.specs.Plain.{Bytes, PlainDeclaration}
use Rattle.au_syntax.specs.Types.{Labelled}
use Rattle.au_types.specs.declared.parameters.Parameter.{Parameter}
use Rattle.au_types.specs.declared.types.DeclAt.{DeclAt}
use Rattle.au_types.specs.Types.{Meaning, Arguments, named, no_arguments, arguments}
use Rattle.au_matching.specs.Bindings.{Bindings, with_pair}
use Rattle.au_matching.specs.Substituted.{substituted}
use Rattle.au_modules.specs.Programs.{ModuleParts}
use Rattle.au_names.specs.declared.targets.Target.{Target}
use Rattle.au_names.specs.Owned.{declarations_in, target}
use Rattle.au_names.specs.Standing.{Standing, definition_of, opaque_name, standing_at}
use Rattle.au_judged_types.specs.Meanings.{parameter}
use Rattle.au_typing.specs.Scopes.{Case, Typed}
use Rattle.au_typing.specs.Written.{all_typed, followed}

-- ---- what is known

-- a declaration is known in the module at a place: it isn't an opaque type, or it is of this module
abbrev pub is_known : ℕ → Standing → Bool
is_known place d = is_none (opaque_name d.says) || (place == d.place)

-- the definition of a type that is known in the module at a place, by its declaration, if that is there
abbrev pub known_standing : List ModuleParts → ℕ → DeclAt → Option Standing → Option Standing
known_standing program place at None = None
known_standing program place at (Some d) = if is_known place d then definition_of program at else None

-- the same by its number
abbrev pub known_definition : List ModuleParts → ℕ → DeclAt → Option Standing
known_definition program place at = known_standing program place at (standing_at program at)

-- ---- types with arguments

-- what each type parameter stands for in a type with these arguments
abbrev pub with_arguments : List Parameter → Arguments → Bindings
with_arguments [] args = []
with_arguments (p ∷ rest) no_arguments = []
with_arguments (p ∷ rest) (arguments one others) = with_pair p.name one (with_arguments rest others)

-- a field under a substitution
abbrev pub typed_under : Bindings → Typed → Typed
typed_under s one = record { name = one.name; of = substituted s one.of }

-- in a declaration of a program: fields with their types, where type parameters have these arguments
abbrev pub fields_under : List ModuleParts → Standing → List Parameter → Arguments → List (Labelled Bytes)
    → Option (List Typed)
fields_under program d params args fields =
    option_map (map (typed_under (with_arguments params args))) (all_typed program d params fields)

-- ---- records

-- the fields that a declaration has, if it is a record
abbrev pub record_fields : List ModuleParts → Standing → Arguments → PlainDeclaration → Option (List Typed)
record_fields program d args (record_type at name params universe fields) =
    fields_under program d (map parameter params) args fields
record_fields program d args other = None

-- the same of a definition, if there is one
abbrev pub fields_defined : List ModuleParts → Arguments → Option Standing → Option (List Typed)
fields_defined program args None = None
fields_defined program args (Some d) = record_fields program d args d.says

-- the fields of a type, if it is a record that is known in the module at a place
abbrev pub fields_of : List ModuleParts → ℕ → Meaning → Option (List Typed)
fields_of program place (named at args) = fields_defined program args (known_definition program place at)
fields_of program place other = None

-- ---- unions

-- how many declarations the interface of a module has, if it is there
abbrev pub interface_count : Option ModuleParts → ℕ
interface_count None = 0
interface_count (Some m) = length (declarations_in m.interface)

-- the number of the declaration of an index in a part of a module: those of a body are counted on from those
-- of its interface
abbrev pub number_in : Option ModuleParts → Part → ℕ → ℕ
number_in m Interface index = index
number_in m Body index = interface_count m + index

-- the number of a declaration of a program in its module
abbrev pub number_of : List ModuleParts → Standing → ℕ
number_of program d = number_in (slice_get program d.place) d.part d.index

-- in a declaration of a program
module _ (program : List ModuleParts) (d : Standing) (params : List Parameter) (args : Arguments) where
  -- what a name of a case means
  abbrev pub case_target : Variant Bytes → Target
  case_target v = target d.place v.name.name (number_of program d)

  -- a case
  abbrev pub case_under : Variant Bytes → Option Case
  case_under v =
      option_map (λ fields. record { target = case_target v; fields = fields })
      (fields_under program d params args v.fields)

  -- cases in order, where all types of fields mean something
  abbrev pub cases_under : List (Variant Bytes) → Option (List Case)
  cases_under [] = Some []
  cases_under (v ∷ rest) = followed (case_under v) (cases_under rest)

-- the cases that a declaration has, if it is a union
abbrev pub union_cases : List ModuleParts → Standing → Arguments → PlainDeclaration → Option (List Case)
union_cases program d args (union_type at name params universe cases) =
    cases_under program d (map parameter params) args cases
union_cases program d args other = None

-- the same of a definition, if there is one
abbrev pub cases_defined : List ModuleParts → Arguments → Option Standing → Option (List Case)
cases_defined program args None = None
cases_defined program args (Some d) = union_cases program d args d.says

-- the cases of a type, if it is a union that is known in the module at a place
abbrev pub cases_of : List ModuleParts → ℕ → Meaning → Option (List Case)
cases_of program place (named at args) = cases_defined program args (known_definition program place at)
cases_of program place other = None
