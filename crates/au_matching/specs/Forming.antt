-- Which types can be written over the rows of declared types and the type parameters in scope, and in which
-- of them every argument has the universe that is wanted.
use Rattle.std.specs.Prelude.{List, [], ◌∷◌, ◌&&◌, Bool, true, false, not, Option, None, Some, IsTrue}
use Rattle.std.specs.Prelude.{is_some, ⊤}
use Rattle.au_syntax.specs.declared.declarations.Universe.{Universe}
use Rattle.au_syntax.specs.declared.declarations.Universe.TheVariants as universes
use Rattle.au_types.specs.declared.headings.Head.{Head}
use Rattle.au_types.specs.declared.parameters.Parameter.{Parameter}
use Rattle.au_types.specs.declared.types.DeclAt.{DeclAt}
use Rattle.au_types.specs.Rows.{head_of}
use Rattle.au_types.specs.Types.{Meaning, Argument, Arguments, unit, truth, integer, text, parameter, named}
use Rattle.au_types.specs.Types.{reads, writes, of_type, in_region, no_arguments, arguments}
use Rattle.au_types.specs.Universes.{universe_in}
use Rattle.au_matching.specs.declared.universes.TypeUniverse.{TypeUniverse}
use Rattle.au_matching.specs.Universes.{is_free, is_linear, of_parameter, universe_of}

-- a parameter of this universe takes a region, and no type
abbrev pub wants_region : Universe → Bool
wants_region universes.Region = true
wants_region universe = false

-- a parameter of a universe takes a type of a universe: Free takes Free, Linear takes Linear, `Type` takes
-- any type, and where a region is wanted no type is taken
abbrev pub takes : Universe → TypeUniverse → Bool
takes universes.Free universe = is_free universe
takes universes.Linear universe = is_linear universe
takes universes.AnyType universe = true
takes universes.Region universe = false

-- an argument is of a parameter's kind: a region exactly where the parameter is one
abbrev pub fits_in_kind : Universe → Argument → Bool
fits_in_kind wanted (of_type t) = not (wants_region wanted)
fits_in_kind wanted (in_region region) = wants_region wanted

-- an argument fits a parameter in universe
abbrev pub fits : List (DeclAt × Head) → List Parameter → Universe → Argument → Bool
fits rows params wanted (of_type t) = takes wanted (universe_of rows params t)
fits rows params wanted (in_region region) = wants_region wanted

-- arguments fit parameters: there are as many, and each passes the test with its parameter
abbrev pub all_fit : (Universe → Argument → Bool) → List Parameter → Arguments → Bool
all_fit test [] no_arguments = true
all_fit test (one ∷ others) (arguments first rest) = test one.universe first && all_fit test others rest
all_fit test params args = false

-- arguments fit the row of a declared type, which has one
abbrev pub fit_row : (Universe → Argument → Bool) → Option Head → Arguments → Bool
fit_row test None args = false
fit_row test (Some head) args = all_fit test head.params args

module _ (test : Universe → Argument → Bool) (rows : List (DeclAt × Head)) (params : List Parameter) where
  unfoldable mutual
    -- A type is formed where its type parameters are in scope and aren't regions, and where each declared
    -- type in it has a row and arguments that fit that row by the test.
    pub is_formed : Meaning → Bool
    is_formed unit = true
    is_formed truth = true
    is_formed (integer kind) = true
    is_formed text = true
    is_formed (parameter name) = is_some (of_parameter (universe_in params name))
    is_formed (named at args) = fit_row test (head_of rows at) args && all_formed args
    is_formed (reads t region) = is_formed t
    is_formed (writes t region) = is_formed t

    -- an argument
    pub argument_formed : Argument → Bool
    argument_formed (of_type t) = is_formed t
    argument_formed (in_region region) = true

    -- arguments
    pub all_formed : Arguments → Bool
    all_formed no_arguments = true
    all_formed (arguments first rest) = argument_formed first && all_formed rest

module _ (rows : List (DeclAt × Head)) (params : List Parameter) where
  -- a type stands over rows and type parameters: its arguments fit in number, a region exactly where the row
  -- has one
  abbrev pub StandsOver : Meaning → Type 0
  StandsOver t = IsTrue (is_formed fits_in_kind rows params t)

  -- the same of an argument that is a type
  abbrev pub ArgumentStandsOver : Argument → Type 0
  ArgumentStandsOver (of_type t) = StandsOver t
  ArgumentStandsOver (in_region region) = ⊤

  -- a type is well formed: its arguments also fit in universe
  abbrev pub IsWellFormed : Meaning → Type 0
  IsWellFormed t = IsTrue (is_formed (fits rows params) rows params t)
