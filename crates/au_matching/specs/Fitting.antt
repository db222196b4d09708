-- Lists of bindings whose values suit the type parameters in scope.
use Rattle.std.specs.Prelude.{◌≡◌, ℕ, List, Option, None, Some, IsTrue}
use Rattle.au_syntax.specs.declared.declarations.Universe.{Universe}
use Rattle.au_syntax.specs.declared.declarations.Universe.TheVariants as universes
use Rattle.au_types.specs.declared.headings.Head.{Head}
use Rattle.au_types.specs.declared.parameters.Parameter.{Parameter}
use Rattle.au_types.specs.declared.types.DeclAt.{DeclAt}
use Rattle.au_types.specs.declared.types.Region.TheVariants as regions
use Rattle.au_types.specs.Types.{Argument, parameter, of_type, in_region}
use Rattle.au_types.specs.Universes.{universe_in}
use Rattle.au_matching.specs.Bindings.{Bindings, value_of}
use Rattle.au_matching.specs.Forming.{argument_formed, fits, fits_in_kind}

-- what stands for a parameter of a universe: the value of its name, and the parameter itself where its name
-- has none
abbrev pub stand_in : Option Argument → Universe → List ℕ → Argument
stand_in (Some value) universe name = value
stand_in None universes.Free name = of_type (parameter name)
stand_in None universes.Linear name = of_type (parameter name)
stand_in None universes.AnyType name = of_type (parameter name)
stand_in None universes.Region name = in_region (regions.Named name)

-- P of the universe of each parameter in scope and of what stands for the parameter
abbrev pub EachStandIn : (Universe → Argument → Type 0) → List Parameter → Bindings → Type 0
EachStandIn P params s =
    (name : List ℕ) (universe : Universe) → universe_in params name ≡ Some universe
    → P universe (stand_in (value_of name s) universe name)

module _ (rows : List (DeclAt × Head)) (params others : List Parameter) (s : Bindings) where
  -- What stands for a parameter fits it in universe, over the parameters of another scope: a Free type for
  -- one that is Free, a Linear one for one that is Linear, any type for one of `Type`, and a region for a
  -- region.
  abbrev pub BindingsFit : Type 0
  BindingsFit = EachStandIn (λ universe value. IsTrue (fits rows others universe value)) params s

  -- What stands for a parameter is of its kind, a region exactly for a region, and stands over the rows and
  -- the parameters of another scope.
  abbrev pub BindingsStand : Type 0
  BindingsStand =
      EachStandIn (λ universe value. IsTrue (fits_in_kind universe value)
      × IsTrue (argument_formed fits_in_kind rows others value)) params s

  -- What stands for a parameter fits it in universe, and is well formed over the rows and the parameters of
  -- another scope.
  abbrev pub BindingsAreWellFormed : Type 0
  BindingsAreWellFormed =
      EachStandIn (λ universe value. IsTrue (fits rows others universe value)
      × IsTrue (argument_formed (fits rows others) rows others value)) params s
