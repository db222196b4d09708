-- The two ways in which the code asks arguments to fit, and what it finds of a type by one of them.
use Rattle.std.specs.Prelude.{List, ◌&&◌, Bool, not, Option, None, Some, if◌then◌else◌}
use Rattle.au_syntax.specs.declared.declarations.Universe.{Universe}
use Rattle.au_types.specs.declared.headings.Head.{Head}
use Rattle.au_types.specs.declared.parameters.Parameter.{Parameter}
use Rattle.au_types.specs.declared.types.DeclAt.{DeclAt}
use Rattle.au_types.specs.Types.{Meaning, Argument, Arguments}
use Rattle.au_matching.specs.declared.forming.Fit.{Fit}
use Rattle.au_matching.specs.declared.forming.Fit.TheVariants.{InKind, InUniverse}
use Rattle.au_matching.specs.declared.universes.TypeUniverse.{TypeUniverse}
use Rattle.au_matching.specs.Universes.{judged, universe_of, argument_universe, argument_universes}
use Rattle.au_matching.specs.Forming.{wants_region, takes, fits_in_kind, fits, all_fit, is_formed}
use Rattle.au_matching.specs.Forming.{argument_formed, all_formed}

-- the test of arguments
unfoldable pub asked : Fit → List (DeclAt × Head) → List Parameter → Universe → Argument → Bool
asked InKind rows params = fits_in_kind
asked InUniverse rows params = fits rows params

-- the test of types by their universes
abbrev pub takes_by : Fit → Universe → TypeUniverse → Bool
takes_by InKind wanted universe = not (wants_region wanted)
takes_by InUniverse wanted universe = takes wanted universe

module _ (test : Universe → Argument → Bool) (rows : List (DeclAt × Head)) (params : List Parameter) where
  -- the universe of a type that is formed, and none of another
  unfoldable pub formed_universe : Meaning → Option TypeUniverse
  formed_universe t = if is_formed test rows params t then Some (universe_of rows params t) else None

  -- what an argument comes to that fits and is formed
  unfoldable pub formed_argument : Universe → Argument → Option TypeUniverse
  formed_argument wanted one =
      if test wanted one && argument_formed test rows params one then
      Some (judged (argument_universe rows params one)) else None

  -- what arguments come to that fit and are formed
  unfoldable pub formed_arguments : List Parameter → Arguments → Option TypeUniverse
  formed_arguments expected args =
      if all_fit test expected args && all_formed test rows params args then
      Some (judged (argument_universes rows params args)) else None

-- the same for the arguments that are asked for: of a type, of an argument and of arguments
abbrev pub type_found : Fit → List (DeclAt × Head) → List Parameter → Meaning → Option TypeUniverse
type_found fit rows params t = formed_universe (asked fit rows params) rows params t

abbrev pub argument_found : Fit → List (DeclAt × Head) → List Parameter → Universe → Argument
    → Option TypeUniverse
argument_found fit rows params wanted one = formed_argument (asked fit rows params) rows params wanted one

abbrev pub arguments_found : Fit → List (DeclAt × Head) → List Parameter → List Parameter → Arguments
    → Option TypeUniverse
arguments_found fit rows params expected args =
    formed_arguments (asked fit rows params) rows params expected args

-- the universe of a type that was found, where a parameter takes it
abbrev pub taken_by : Fit → Universe → Option TypeUniverse → Option TypeUniverse
taken_by fit wanted None = None
taken_by fit wanted (Some universe) = if takes_by fit wanted universe then Some universe else None
