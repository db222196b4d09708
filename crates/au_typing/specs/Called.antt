-- What is called in a program: a function, a method of a class, the constructor of a record, or a case of a
-- union.
use Rattle.std.specs.Prelude.{ℕ, Bool, List, [], ◌∷◌, Option, None, Some, find, map, slice_get}
use Rattle.std.specs.Option.{option_map}
use Rattle.std.specs.Str.{bytes_eq}
use Rattle.au_syntax.specs.declared.declarations.Universe.{Universe}
use Rattle.au_syntax.specs.declared.declarations.Universe.TheVariants as universes
use Rattle.au_syntax.specs.Modules.{Header, Variant, record_type, union_type, function, class, function_body}
use Rattle.au_syntax.specs.Plain.{Bytes, PlainDeclaration}
use Rattle.au_syntax.specs.Types.{Labelled}
use Rattle.au_types.specs.declared.spaces.Space.{Space}
use Rattle.au_types.specs.declared.spaces.Space.TheVariants.{Types}
use Rattle.au_types.specs.Tables as tables
use Rattle.au_types.specs.declared.parameters.Parameter.{Parameter}
use Rattle.au_types.specs.declared.types.DeclAt.{DeclAt}
use Rattle.au_types.specs.declared.types.Region.TheVariants as regions
use Rattle.au_types.specs.Types as types
use Rattle.au_types.specs.Types.{Meaning, Argument, Arguments, no_arguments, arguments}
use Rattle.au_modules.specs.Programs.{ModuleParts}
use Rattle.au_names.specs.declared.targets.Target.{Target}
use Rattle.au_names.specs.HeadsOf.{heads_of}
use Rattle.au_names.specs.Owned.{own}
use Rattle.au_names.specs.Standing.{Standing, standing_at}
use Rattle.au_judged_types.specs.declared.reading.Meant.{Meant}
use Rattle.au_judged_types.specs.declared.reading.Meant.TheVariants.{Are, Fails}
use Rattle.au_judged_types.specs.Bounds.{Bounded, parameters}
use Rattle.au_judged_types.specs.Meanings.{generics_meant, parameter}
use Rattle.au_typing.specs.Scopes.{Callable, Typed}
use Rattle.au_typing.specs.Written.{all_typed, meant_in, types_at}

-- ---- the type that a declaration declares

-- what a name of a space means among the declarations of a module itself, if the module is there
abbrev pub owned : Space → ℕ → Option ModuleParts → List (Bytes × Target)
owned space place None = []
owned space place (Some m) = own space place m

-- The number of the type of a name in the module at a place: that of the first declaration of this name
-- there. So a type that the interface has as opaque has the interface's number, also where its record or
-- union is spoken of, which stands in the body.
abbrev pub type_number : List ModuleParts → ℕ → Bytes → Option DeclAt
type_number program place name =
    option_map (λ (t : Target). t.at) (tables.find name (owned Types place (slice_get program place)))

-- a type parameter as an argument
abbrev pub as_argument : Parameter → Argument
as_argument p = of_universe p.universe
  where
    of_universe : Universe → Argument
    of_universe universes.Region = types.in_region (regions.Named p.name)
    of_universe universe = types.of_type (types.parameter p.name)

-- type parameters as arguments, each in its place
abbrev pub as_arguments : List Parameter → Arguments
as_arguments [] = no_arguments
as_arguments (p ∷ rest) = arguments (as_argument p) (as_arguments rest)

-- the type of a name in the module at a place, with its type parameters as arguments
abbrev pub type_itself : List ModuleParts → ℕ → Bytes → List Parameter → Option Meaning
type_itself program place name params =
    option_map (λ at. types.named at (as_arguments params)) (type_number program place name)

-- ---- what is called

-- what has these type parameters, this class, these parameters and this result, if they mean something
abbrev pub callable : List Bounded → Option (Bytes × DeclAt) → Option (List Typed) → Option Meaning
    → Option Callable
callable generics its_class (Some given) (Some result) = Some (record {
  generics = generics;
  parameters = given;
  result = result;
  class = its_class;
})
callable generics its_class given result = None

-- a type parameter that no class constrains
abbrev pub unconstrained : Parameter → Bounded
unconstrained p = record { parameter = p; classes = [] }

-- a method or a case has this name
abbrev pub is_method : Bytes → Header Bytes → Bool
is_method name method = bytes_eq name method.name.name

abbrev pub is_case : Bytes → Variant Bytes → Bool
is_case name v = bytes_eq name v.name.name

-- in a declaration of a program
module _ (program : List ModuleParts) (d : Standing) where
  -- what has the parameters and the result of a header, over these type parameters
  abbrev pub by_header : List Bounded → Option (Bytes × DeclAt) → Header Bytes → Option Callable
  by_header generics its_class h =
      callable generics its_class (all_typed program d (parameters generics) h.parameters)
      (meant_in program d (parameters generics) h.result)

  -- a function, by what its type parameters mean
  abbrev pub function_called : Header Bytes → Meant → Option Callable
  function_called h (Fails why) = None
  function_called h (Are generics) = by_header generics None h

  -- a method of the class with this number and this type parameter, if there is one
  abbrev pub method_called : DeclAt → Parameter → Option (Header Bytes) → Option Callable
  method_called at p None = None
  method_called at p (Some h) = by_header (unconstrained p ∷ []) (Some (p.name, at)) h

  -- what makes a value of the type of this name and these type parameters out of these fields
  abbrev pub maker : Bytes → List Parameter → List (Labelled Bytes) → Option Callable
  maker name params fields =
      callable (map unconstrained params) None (all_typed program d params fields)
      (type_itself program d.place name params)

  -- a case of the union of this name, if there is one
  abbrev pub case_called : Bytes → List Parameter → Option (Variant Bytes) → Option Callable
  case_called name params None = None
  case_called name params (Some v) = maker name params v.fields

  -- what a declaration with this number declares under a name, if that is called
  abbrev pub declared_callable : DeclAt → Bytes → PlainDeclaration → Option Callable
  declared_callable at name (function place generics h) =
      function_called h (generics_meant (types_at program d.place d.part) (heads_of program) generics)
  declared_callable at name (function_body place generics h body stop) =
      function_called h (generics_meant (types_at program d.place d.part) (heads_of program) generics)
  declared_callable at name (class place its_name p methods) =
      method_called at (parameter p) (find (is_method name) methods)
  declared_callable at name (record_type place its_name params universe fields) =
      maker its_name.name (map parameter params) fields
  declared_callable at name (union_type place its_name params universe cases) =
      case_called its_name.name (map parameter params) (find (is_case name) cases)
  declared_callable at name other = None

-- what is called, of a declaration that is found there
abbrev pub callable_standing : List ModuleParts → Target → Option Standing → Option Callable
callable_standing program target None = None
callable_standing program target (Some d) = declared_callable program d target.at target.name d.says

-- what is called that a name means, if it means anything
abbrev pub callable_at : List ModuleParts → Option Target → Option Callable
callable_at program None = None
callable_at program (Some target) = callable_standing program target (standing_at program target.at)
