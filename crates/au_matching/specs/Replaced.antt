-- Types with types in the place of their type parameters.
use Rattle.std.specs.Prelude.{◌≡◌, ℕ, List, Bool, true, Some, IsTrue}
use Rattle.au_types.specs.declared.headings.Head.{Head}
use Rattle.au_types.specs.declared.parameters.Parameter.{Parameter}
use Rattle.au_types.specs.declared.types.DeclAt.{DeclAt}
use Rattle.au_types.specs.Types.{Meaning, Argument, Arguments, unit, truth, integer, text, parameter, named}
use Rattle.au_types.specs.Types.{reads, writes, of_type, in_region, no_arguments, arguments}
use Rattle.au_types.specs.Universes.{universe_in}
use Rattle.au_matching.specs.declared.universes.TypeUniverse.{TypeUniverse}
use Rattle.au_matching.specs.declared.universes.TypeUniverse.TheVariants.{Free, Linear, AnyUniverse}
use Rattle.au_matching.specs.Universes.{is_free, is_linear, of_parameter, universe_of}

-- a type of the first universe may have the second one once its type parameters are known
abbrev pub may_be : TypeUniverse → TypeUniverse → Bool
may_be Free universe = is_free universe
may_be Linear universe = is_linear universe
may_be AnyUniverse universe = true

module _ (value : List ℕ → Meaning) where
  unfoldable mutual
    -- a type with the value of each type parameter in its place
    pub replaced : Meaning → Meaning
    replaced unit = unit
    replaced truth = truth
    replaced (integer kind) = integer kind
    replaced text = text
    replaced (parameter name) = value name
    replaced (named at args) = named at (replaced_arguments args)
    replaced (reads t region) = reads (replaced t) region
    replaced (writes t region) = writes (replaced t) region

    -- an argument
    pub replaced_argument : Argument → Argument
    replaced_argument (of_type t) = of_type (replaced t)
    replaced_argument (in_region region) = in_region region

    -- arguments
    pub replaced_arguments : Arguments → Arguments
    replaced_arguments no_arguments = no_arguments
    replaced_arguments (arguments first rest) = arguments (replaced_argument first) (replaced_arguments rest)

-- the values of type parameters fit in universe: over the type parameters of another scope, each has a
-- universe that its type parameter may have
abbrev pub ValuesFit : List (DeclAt × Head) → List Parameter → List Parameter → (List ℕ → Meaning) → Type 0
ValuesFit rows params others value =
    (name : List ℕ) (universe : TypeUniverse) → of_parameter (universe_in params name) ≡ Some universe
    → IsTrue (may_be universe (universe_of rows others (value name)))
