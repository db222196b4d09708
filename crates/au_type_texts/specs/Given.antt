-- Types once closed types are put for their type parameters and their regions are left out.
use Rattle.std.specs.Prelude.{◌≡◌, List, [], ◌∷◌, ◌&&◌, Bool, true, false, Option, None, Some}
use Rattle.std.specs.Map.{lookup}
use Rattle.std.specs.Str.{bytes_eq}
use Rattle.au_syntax.specs.Plain.{Bytes}
use Rattle.au_types.specs.Types as whole
use Rattle.au_types.specs.Types.{Meaning, Argument, Arguments, parameter}
use Rattle.au_matching.specs.Bindings.{Bindings}
use Rattle.au_matching.specs.Substituted.{EachName, substituted}
use Rattle.au_type_texts.specs.Closing.{closed}
use Rattle.au_type_texts.specs.Same.{same}
use Rattle.au_type_texts.specs.Types.{ClosedType, ClosedTypes, unit, truth, integer, text, named, reads}
use Rattle.au_type_texts.specs.Types.{writes, no_types, types}

-- type parameters by their names, each with the closed type that is given for it
abbrev pub Given : Type 0
Given = List (Bytes × ClosedType)

-- the closed type, if there is one, and else Unit, which stands where nothing is given
abbrev pub closed_or_unit : Option ClosedType → ClosedType
closed_or_unit None = unit
closed_or_unit (Some t) = t

-- what is given for a type parameter
abbrev pub given_for : Given → Bytes → ClosedType
given_for given name = closed_or_unit (lookup (bytes_eq name) given)

module _ (given : Given) where
  abbrev mutual
    -- a type with what is given put for its type parameters
    pub closed_under : Meaning → ClosedType
    closed_under whole.unit = unit
    closed_under whole.truth = truth
    closed_under (whole.integer kind) = integer kind
    closed_under whole.text = text
    closed_under (whole.parameter name) = given_for given name
    closed_under (whole.named at args) = named at (all_closed_under args)
    closed_under (whole.reads to region) = reads (closed_under to)
    closed_under (whole.writes to region) = writes (closed_under to)

    -- an argument before others: a region is left out
    pub before_under : Argument → ClosedTypes → ClosedTypes
    before_under (whole.of_type t) rest = types (closed_under t) rest
    before_under (whole.in_region region) rest = rest

    -- the arguments that are types, in order
    pub all_closed_under : Arguments → ClosedTypes
    all_closed_under whole.no_arguments = no_types
    all_closed_under (whole.arguments one rest) = before_under one (all_closed_under rest)

  -- what a substitution then gives for these names, in their order
  abbrev pub given_by : Bindings → List Bytes → Given
  given_by s [] = []
  given_by s (name ∷ names) = (name, closed_under (substituted s (parameter name))) ∷ given_by s names

-- whether two lists give the same for the same names in the same order
abbrev pub same_given : Given → Given → Bool
same_given [] [] = true
same_given (a ∷ given) (b ∷ others) = bytes_eq a.0 b.0 && same a.1 b.1 && same_given given others
same_given given others = false

-- a substitution puts for each type parameter of a type one that closes to what is given for it
abbrev pub Closes : Given → Bindings → Meaning → Type 0
Closes given s t =
    EachName (λ name. closed (substituted s (parameter name)) ≡ Some (given_for given name))
    (λ name. Unit {0}) t
