-- Which types may be heads of instances.
use Rattle.std.specs.Prelude.{◌≡◌, ◌⊎◌, ◌&&◌, ◌||◌, List, Bool, true, false, not, Option, None, Some, IsTrue}
use Rattle.std.specs.Prelude.{is_some}
use Rattle.std.specs.List.{list_all}
use Rattle.std.specs.Str.{bytes_eq}
use Rattle.au_syntax.specs.declared.declarations.Universe.{Universe}
use Rattle.au_syntax.specs.Plain.{Bytes}
use Rattle.au_types.specs.declared.parameters.Parameter.{Parameter}
use Rattle.au_types.specs.declared.types.Region.{Region}
use Rattle.au_types.specs.declared.types.Region.TheVariants.{Static, Named, Anonymous}
use Rattle.au_types.specs.Types.{Meaning, Argument, Arguments, unit, truth, integer, text, parameter, named}
use Rattle.au_types.specs.Types.{reads, writes, of_type, in_region, no_arguments, arguments}
use Rattle.au_types.specs.Universes.{universe_in}
use Rattle.au_matching.specs.Forming.{fits_in_kind}
use Rattle.au_judged_types.specs.Bounds.{Bounded, parameters}
use Rattle.au_instances.specs.declared.constructors.Constructor.{Constructor}
use Rattle.au_instances.specs.Constructors.{constructor_of}

-- ---- closed types: no type parameter stands in them, and no region but `Static`

abbrev pub is_static : Region → Bool
is_static Static = true
is_static (Named name) = false
is_static Anonymous = false

abbrev mutual
  pub is_closed : Meaning → Bool
  is_closed unit = true
  is_closed truth = true
  is_closed (integer kind) = true
  is_closed text = true
  is_closed (parameter name) = false
  is_closed (named at args) = are_closed args
  is_closed (reads to region) = is_closed to && is_static region
  is_closed (writes to region) = is_closed to && is_static region

  -- an argument
  pub is_closed_argument : Argument → Bool
  is_closed_argument (of_type t) = is_closed t
  is_closed_argument (in_region region) = is_static region

  -- arguments
  pub are_closed : Arguments → Bool
  are_closed no_arguments = true
  are_closed (arguments one rest) = is_closed_argument one && are_closed rest

-- ---- parameters as arguments

-- the arguments of a type, which a declared type alone may have
abbrev pub arguments_of : Meaning → Arguments
arguments_of (named at args) = args
arguments_of t = no_arguments

-- the name of a type parameter, or of a region
abbrev pub type_name : Meaning → Option Bytes
type_name (parameter name) = Some name
type_name t = None

abbrev pub region_name : Region → Option Bytes
region_name Static = None
region_name (Named name) = Some name
region_name Anonymous = None

-- the name that an argument is, if it is one alone
abbrev pub name_of : Argument → Option Bytes
name_of (of_type t) = type_name t
name_of (in_region region) = region_name region

-- whether an argument is of the kind of a universe, if there is one
abbrev pub of_kind : Option Universe → Argument → Bool
of_kind None one = false
of_kind (Some universe) one = fits_in_kind universe one

-- whether an argument, which is this name if it is one, is a type parameter or a region of these
abbrev pub is_one_of : List Parameter → Option Bytes → Argument → Bool
is_one_of params None one = false
is_one_of params (Some name) one = of_kind (universe_in params name) one

-- whether each argument is a type parameter or a region of these
abbrev pub are_parameters : List Parameter → Arguments → Bool
are_parameters params no_arguments = true
are_parameters params (arguments one rest) = is_one_of params (name_of one) one && are_parameters params rest

-- whether an argument is this name
abbrev pub is_called : Bytes → Option Bytes → Bool
is_called name None = false
is_called name (Some other) = bytes_eq name other

-- whether a name is one of these arguments
abbrev pub stands_in : Bytes → Arguments → Bool
stands_in name no_arguments = false
stands_in name (arguments one rest) = is_called name (name_of one) || stands_in name rest

-- whether the name that an argument is, if it is one, is one of these
abbrev pub is_again : Option Bytes → Arguments → Bool
is_again None args = false
is_again (Some name) args = stands_in name args

-- whether no two of these arguments are one name
abbrev pub are_distinct : Arguments → Bool
are_distinct no_arguments = true
are_distinct (arguments one rest) = not (is_again (name_of one) rest) && are_distinct rest

-- whether each of these type parameters is one of the arguments
abbrev pub all_stand : List Parameter → Arguments → Bool
all_stand params args = list_all (λ one. stands_in one.name args) params

-- ---- heads

-- A type may be the head of an instance with these type parameters: it has a constructor, it is closed or its
-- arguments are distinct parameters of the instance, and each parameter of the instance is one of them.
pub record HasForm (generics : List Bounded) (head : Meaning) : Type 0 where
  pub constructor : Constructor
  pub heads : constructor_of head ≡ Some constructor
  pub over : IsTrue (is_closed head)
      ⊎ (IsTrue (are_parameters (parameters generics) (arguments_of head))
      × IsTrue (are_distinct (arguments_of head)))
  pub stand : IsTrue (all_stand (parameters generics) (arguments_of head))

-- the same as a test
abbrev pub has_form : List Bounded → Meaning → Bool
has_form generics head =
    let params = parameters generics in
    let args = arguments_of head in
    is_some (constructor_of head)
    && ((is_closed head || (are_parameters params args && are_distinct args)) && all_stand params args)
