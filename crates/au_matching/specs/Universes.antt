-- The universe of a type, over the rows of declared types and the type parameters in scope.
use Rattle.std.specs.Prelude.{List, [], ◌∷◌, ◌++◌, Bool, true, false, Option, None, Some, if◌then◌else◌}
use Rattle.std.specs.Prelude.{unwrap_or}
use Rattle.std.specs.List.{list_all, list_any}
use Rattle.au_syntax.specs.declared.declarations.Universe.{Universe}
use Rattle.au_syntax.specs.declared.declarations.Universe.TheVariants as universes
use Rattle.au_types.specs.declared.headings.Head.{Head}
use Rattle.au_types.specs.declared.parameters.Parameter.{Parameter}
use Rattle.au_types.specs.declared.types.DeclAt.{DeclAt}
use Rattle.au_types.specs.Rows.{head_of}
use Rattle.au_types.specs.Types.{Meaning, Argument, Arguments, unit, truth, integer, text, parameter, named}
use Rattle.au_types.specs.Types.{reads, writes, of_type, in_region, no_arguments, arguments}
use Rattle.au_types.specs.Universes.{universe_in}
use Rattle.au_matching.specs.declared.universes.TypeUniverse.{TypeUniverse}
use Rattle.au_matching.specs.declared.universes.TypeUniverse.TheVariants.{Free, Linear, AnyUniverse}

-- a type of this universe may be copied and dropped
abbrev pub is_free : TypeUniverse → Bool
is_free Free = true
is_free universe = false

-- a type of this universe must be used exactly once
abbrev pub is_linear : TypeUniverse → Bool
is_linear Linear = true
is_linear universe = false

-- what the universes of arguments come to: Linear if one of them is Linear, Free if all are Free, and
-- otherwise `Type`
unfoldable pub judged : List TypeUniverse → TypeUniverse
judged args =
    if list_any is_linear args then Linear else (if list_all is_free args then Free else AnyUniverse)

-- the universe of a declared type: its own where that is Free or Linear, and else what its arguments come to
abbrev pub of_declaration : Universe → TypeUniverse → TypeUniverse
of_declaration universes.Free args = Free
of_declaration universes.Linear args = Linear
of_declaration universe args = args

-- the universe of a declared type that has a row; without one nothing is known of it
abbrev pub of_row : Option Head → TypeUniverse → TypeUniverse
of_row None args = AnyUniverse
of_row (Some head) args = of_declaration head.universe args

-- the universe of a type parameter, and none for a region and for a name that no parameter in scope has
abbrev pub of_parameter : Option Universe → Option TypeUniverse
of_parameter (Some universes.Free) = Some Free
of_parameter (Some universes.Linear) = Some Linear
of_parameter (Some universes.AnyType) = Some AnyUniverse
of_parameter universe = None

module _ (rows : List (DeclAt × Head)) (params : List Parameter) where
  unfoldable mutual
    -- The universe of a type. What is built in and what reads is Free, what writes is Linear, and a type
    -- parameter and a declared type have the universe that they are declared in; a declared type of universe
    -- `Type` is judged by its arguments that aren't regions.
    pub universe_of : Meaning → TypeUniverse
    universe_of unit = Free
    universe_of truth = Free
    universe_of (integer kind) = Free
    universe_of text = Free
    universe_of (parameter name) = unwrap_or (of_parameter (universe_in params name)) AnyUniverse
    universe_of (named at args) = of_row (head_of rows at) (judged (argument_universes args))
    universe_of (reads t region) = Free
    universe_of (writes t region) = Linear

    -- the universe of an argument, and none for a region
    pub argument_universe : Argument → List TypeUniverse
    argument_universe (of_type t) = universe_of t ∷ []
    argument_universe (in_region region) = []

    -- the universes of the arguments that aren't regions
    pub argument_universes : Arguments → List TypeUniverse
    argument_universes no_arguments = []
    argument_universes (arguments first rest) = argument_universe first ++ argument_universes rest

  -- what arguments come to
  abbrev pub arguments_come : Arguments → TypeUniverse
  arguments_come args = judged (argument_universes args)
