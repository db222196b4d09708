-- Calls of functions, as the meaning of a body sees them.
use Rattle.std.specs.Prelude.{◌≡◌, ℕ, Bool, true, List, [], ◌∷◌, None, Option, Some}
use Rattle.au_syntax.specs.declared.modules.Part.TheVariants.{Body}
use Rattle.au_syntax.specs.Plain.{Bytes}
use Rattle.au_syntax.specs.Types.{Labelled}
use Rattle.au_types.specs.declared.parameters.Parameter.{Parameter}
use Rattle.au_types.specs.declared.spaces.Space.TheVariants.{Callables}
use Rattle.au_types.specs.Tables.{find}
use Rattle.au_shipped.specs.Calls.{prim_of}
use Rattle.au_matching.specs.Bindings.{Bindings, value_of}
use Rattle.au_matching.specs.Substituted.{region_for, substituted}
use Rattle.au_judged_types.specs.Bounds.{parameters}
use Rattle.au_judged_types.specs.Meanings.{written_params}
use Rattle.au_type_texts.specs.Given.{Given}
use Rattle.au_type_texts.specs.Types.{ClosedType}
use Rattle.au_running_types.specs.Running.{called as called_at}
use Rattle.au_written_types.specs.Written.{IsRegionName}
use Rattle.au_memory.specs.Loans.{Types}
use Rattle.au_modules.specs.Programs.{ModuleParts}
use Rattle.au_names.specs.declared.targets.Target.{Target}
use Rattle.au_names.specs.HeadsOf.{heads_of}
use Rattle.au_names.specs.Standing.{Standing, standing_at}
use Rattle.au_closed_trees.specs.TypeNames.{type_names}
use Rattle.au_closing.specs.Bodies.{BodyOf, body_of}
use Rattle.au_closing.specs.Leading.{a_function, called_of, module_name}
use Rattle.au_typing.specs.Notes.{Note}
use Rattle.au_typing.specs.Scopes.{Callable, Typed}
use Rattle.au_typing.specs.Trees.{NotedParts}
use Rattle.au_typing.specs.Written.{seen_at}
use Rattle.au_closed_meanings.specs.Generic.{view_under}
use Rattle.au_known_types.specs.Known.{EachIsDeclared, IsDeclared}
use Rattle.au_safe_steps.specs.Orders.{AreApart}
use Rattle.au_running_lives.specs.Known.{InScope}
use Rattle.au_judged_bodies.specs.StandingTypesStanding.{StandsFor}
use Rattle.au_judged_bodies.specs.Frames.{TypesAreUsable}
use Rattle.au_judged_bodies.specs.Rounds.{names_of}
use Rattle.au_judged_bodies.specs.Callees.{IsPut}
use Rattle.au_judged_bodies.specs.Sights.{CallIsSeen}
use Rattle.au_judged_bodies.specs.Keys.{ConstraintsHold, bounds_in_body, meant_in_body, ways}

module _ (program : List ModuleParts) where
  -- written parameters of a body have these names and mean these types
  abbrev pub EachMeans : BodyOf → List (Labelled Bytes) → List Typed → Type 0
  EachMeans body [] [] = Unit {0}
  EachMeans body (w ∷ ws) (one ∷ rest) =
      (w.name.name ≡ one.name) × (meant_in_body program body w.of ≡ Some one.of) × EachMeans body ws rest
  EachMeans body [] (one ∷ rest) = ⊥
  EachMeans body (w ∷ ws) [] = ⊥

  -- A body is that of what is called by the rules: it has the type parameters with their classes, the
  -- parameters and the result of this.
  pub record IsBodyOf (body : BodyOf) (called : Callable) : Type 0 where
    pub over : written_params body.generics ≡ parameters called.generics
    pub bounds : bounds_in_body program body ≡ called.generics
    pub takes : EachMeans body body.header.parameters called.parameters
    pub gives : meant_in_body program body body.header.result ≡ Some called.result

-- What is called is declared as it may be: its parameters are apart, and their types and that of its result
-- are such as it could write itself.
pub record IsDeclaredWell (program : List ModuleParts) (called : Callable) : Type 0 where
  pub apart : AreApart (names_of called.parameters)
  pub takes : EachIsDeclared (heads_of program) (parameters called.generics) called.parameters
  pub gives : IsDeclared (heads_of program) (parameters called.generics) called.result

-- What stands for a body's type parameters, where it runs, and which regions may be used.
pub record BodyRuns (program : List ModuleParts) (params : List Parameter) (regions : List Bytes)
    (given : Given)
    (s : Bindings) (z : ℕ) (active : ℕ → Bool) : Type 0 where
  pub stands : StandsFor (heads_of program) params given s
  pub here : active z ≡ true
  pub opened : (name : List ℕ) → IsRegionName regions params name
      → InScope active (region_for (value_of name s) name)
  pub within : TypesAreUsable active params s

module _ (types : Types) (owner : ClosedType → Option (List ℕ)) (program : List ModuleParts)
    (trees : List NotedParts)
    (place : ℕ) (params : List Parameter) (regions : List Bytes) (given : Given) (s : Bindings) (z : ℕ)
    (active : ℕ → Bool) where
  -- A call of a name that means a function which isn't shipped, and whose body is that of what is called, is
  -- seen to call it in one of its ways, where the constraints of this hold.
  abbrev pub FunctionsAreSeen : Type 0
  FunctionsAreSeen =
      (note : Note) (name : Bytes) (target : Target) (d : Standing) (declared : Bytes) (called : Callable)
      (put : Bindings)
      (body : BodyOf) → find name (seen_at Callables program place Body) ≡ Some target
      → standing_at program target.at ≡ Some d
      → called_of target.name d.says ≡ Some (a_function declared (type_names (parameters called.generics)))
      → prim_of (module_name program target.at.«module») declared None ≡ None
      → body_of program trees target ≡ Some body → IsBodyOf program body called
      → IsDeclaredWell program called
      → note.call ≡ Some put → note.of ≡ substituted put called.result
      → IsPut (heads_of program) params regions (parameters called.generics) put
      → ConstraintsHold program called.generics (called_at s z put)
      → CallIsSeen types owner (view_under program trees place params given)
      (ways program trees) active s z note name
      called put
