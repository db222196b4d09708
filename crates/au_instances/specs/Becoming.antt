-- Which types the head of a row becomes.
use Rattle.std.specs.Prelude.{◌≡◌, ◌&&◌, List, [], ◌∷◌, Bool, false, true, Option, None, Some, Contains}
use Rattle.au_syntax.specs.declared.declarations.Universe.{Universe}
use Rattle.au_syntax.specs.Plain.{Bytes}
use Rattle.au_types.specs.declared.headings.Head.{Head}
use Rattle.au_types.specs.declared.parameters.Parameter.{Parameter}
use Rattle.au_types.specs.declared.types.DeclAt.{DeclAt}
use Rattle.au_types.specs.Rows.{same_place}
use Rattle.au_types.specs.Same.{same}
use Rattle.au_types.specs.Types.{Meaning, Argument, Arguments, named, no_arguments, arguments}
use Rattle.au_types.specs.Universes.{universe_in}
use Rattle.au_matching.specs.Bindings.{Bindings}
use Rattle.au_matching.specs.Matched.{Makes}
use Rattle.au_matching.specs.Fitting.{BindingsFit}
use Rattle.au_matching.specs.Forming.{fits}
use Rattle.au_judged_types.specs.Bounds.{Bounded, parameters}
use Rattle.au_instances.specs.Forms.{name_of}
use Rattle.au_instances.specs.Rows.{Row}

module _ (heads : List (DeclAt × Head)) (scope : List Parameter) where
  -- the head of a row becomes a type under a substitution, whose values fit the universes of the row's
  -- parameters: a Free type fits one that is Free, a Linear one fits one that is Linear, any type fits one of
  -- `Type`, and a region fits a region
  pub record Becomes (row : Row) (t : Meaning) (s : Bindings) : Type 0 where
    pub makes : Makes [] row.head t s
    pub fit : BindingsFit heads (parameters row.generics) scope s

  -- a row of this class whose head becomes the type under some such substitution
  pub record IsRowFor (rows : List Row) (class : DeclAt) (t : Meaning) (row : Row) : Type 0 where
    pub listed : Contains rows row
    pub of_class : row.class ≡ class
    pub by : Bindings
    pub becomes : Becomes row t by

  -- ---- the same as tests

  -- whether an argument fits a parameter of a universe, if there is one
  abbrev pub taken_by : Option Universe → Argument → Bool
  taken_by None one = false
  taken_by (Some universe) one = fits heads scope universe one

  -- whether an argument may stand for a name of these parameters
  abbrev pub stands_for : List Parameter → Option Bytes → Argument → Bool
  stands_for params None one = false
  stands_for params (Some name) one = taken_by (universe_in params name) one

  -- whether arguments may stand for others, which are names of these parameters, each for that in its place
  abbrev pub all_stand_for : List Parameter → Arguments → Arguments → Bool
  all_stand_for params no_arguments no_arguments = true
  all_stand_for params (arguments name names) (arguments one rest) =
      stands_for params (name_of name) one && all_stand_for params names rest
  all_stand_for params names args = false

  -- whether a head over these parameters becomes a type
  abbrev pub applies : List Parameter → Meaning → Meaning → Bool
  applies params (named at names) (named other args) = same_place at other && all_stand_for params names args
  applies params head t = false

  -- whether the head of a row becomes a type: without type parameters itself alone, and else what has its
  -- constructor and arguments that fit the parameters in their places
  abbrev pub becomes : List Bounded → Meaning → Meaning → Bool
  becomes [] head t = same head t
  becomes (first ∷ others) head t = applies (parameters (first ∷ others)) head t
