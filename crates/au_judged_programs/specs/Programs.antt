-- Calls in the bodies of a program, where they run.
use Rattle.std.specs.Prelude.{◌≡◌, ℕ, ◌||◌, Bool, true, false, List, None, Some}
use Rattle.au_shipped.specs.declared.prims.ShippedCall.{ShippedCall}
use Rattle.au_shipped.specs.Calls.{prim_of}
use Rattle.au_syntax.specs.declared.modules.Part.TheVariants.{Body}
use Rattle.au_syntax.specs.Modules.{class}
use Rattle.au_syntax.specs.Plain.{Bytes, PlainDeclaration}
use Rattle.au_types.specs.declared.parameters.Parameter.{Parameter}
use Rattle.au_types.specs.declared.spaces.Space.TheVariants.{Callables}
use Rattle.au_types.specs.Tables.{find}
use Rattle.au_types.specs.Types.{Meaning}
use Rattle.au_matching.specs.Bindings.{Bindings}
use Rattle.au_matching.specs.Substituted.{substituted}
use Rattle.au_judged_types.specs.Bounds.{Bounded, parameters}
use Rattle.au_type_texts.specs.Given.{Given}
use Rattle.au_modules.specs.Programs.{ModuleParts}
use Rattle.au_names.specs.declared.targets.Target.{Target}
use Rattle.au_names.specs.HeadsOf.{heads_of}
use Rattle.au_names.specs.Standing.{Standing, standing_at}
use Rattle.au_promises.specs.Fulfilled.{AllFulfil}
use Rattle.au_instances.specs.Tables.{IsTable}
use Rattle.au_classes.specs.Rows.{rows_of}
use Rattle.au_judged_bodies.specs.TypeNames.{type_names}
use Rattle.au_judged_bodies.specs.Leading.{a_function, called_of, module_name}
use Rattle.au_closing_laws.specs.Premises.{AreOfParts, FunctionsAreShipped}
use Rattle.au_judged_bodies.specs.Called.{declared_callable}
use Rattle.au_judged_bodies.specs.Calls.{first_lacking, wanted_of}
use Rattle.au_judged_bodies.specs.Notes.{Note}
use Rattle.au_judged_bodies.specs.Outsides.{outside_of}
use Rattle.au_judged_bodies.specs.Scopes.{Callable, Scope}
use Rattle.au_judged_bodies.specs.Trees.{NotedParts, erase_program}
use Rattle.au_judged_bodies.specs.Written.{seen_at}
use Rattle.au_meaning.specs.Names as meaning
use Rattle.au_judged_bodies.specs.Tables.{DefinitionsFit, types_of}
use Rattle.au_judged_bodies.specs.Generic.{view_under}
use Rattle.au_owners.specs.Owners.{owner_of}
use Rattle.au_safe_steps.specs.Orders.{AreApart}
use Rattle.au_judged_bodies.specs.StandingTypesStanding.{StandsFor}
use Rattle.au_judged_bodies.specs.Frames.{FrameFits}
use Rattle.au_judged_bodies.specs.TypedRunsLaws.{CallsRun}
use Rattle.au_judged_bodies.specs.Rounds.{names_of}
use Rattle.au_judged_bodies.specs.Callees.{IsPut}
use Rattle.au_judged_bodies.specs.Sights.{CallIsSeen}
use Rattle.au_judged_bodies.specs.Makers.{DefinitionsAreApart, OwnTypesAreDefined}
use Rattle.au_judged_bodies.specs.Functions.{BodyRuns, IsDeclaredWell}
use Rattle.au_judged_bodies.specs.Keys.{ConstraintsHold, Key, ways}
use Rattle.au_judged_bodies.specs.Known.{Calls, callees}
use Rattle.au_judged_programs.specs.RoundProgramsBodies.{AllowsHere}
use Rattle.au_judged_programs.specs.CalledBodiesBodies.{ConstraintsAreMeant, is_function}

-- a declaration is a class
abbrev pub is_class : PlainDeclaration → Bool
is_class (class at name p methods) = true
is_class other = false

-- a declaration is a function, or a class with its methods
abbrev pub has_headers : PlainDeclaration → Bool
has_headers says = is_function says || is_class says

-- What is asked of a program with notes: its definitions fit their rows, the names in each are apart, and
-- each is that of the type of its name; its bodies fulfil its interfaces; each declaration is one that its
-- part may have, what has no body is shipped, and no two parameters of a function or a method have one name;
-- the constraints of each body mean classes, and the rows of its instances are a table.
pub record ProgramFits (program : List ModuleParts) (trees : List NotedParts) : Type 0 where
  pub fit : DefinitionsFit program
  pub apart : DefinitionsAreApart program
  pub own : OwnTypesAreDefined program
  pub erased : erase_program trees ≡ program
  pub kept : AllFulfil program
  pub parts : AreOfParts program
  pub shipped : FunctionsAreShipped program
  pub headers : (target : Target) (d : Standing) (called : Callable) → standing_at program target.at ≡ Some d
      → has_headers d.says ≡ true → declared_callable program d target.at target.name d.says ≡ Some called
      → AreApart (names_of called.parameters)
  pub meant : ConstraintsAreMeant program trees
  pub table : IsTable (rows_of program)

module _ (program : List ModuleParts) (trees : List NotedParts) (place : ℕ) (params : List Parameter)
    (regions : List Bytes) (given : Given) (s : Bindings) (z : ℕ) (active : ℕ → Bool) where
  -- A call of a name is seen that means what is called, where what it notes is put for the type parameters of
  -- this.
  abbrev pub TargetIsSeen : Note → Bytes → Target → Standing → Callable → Bindings → Type 0
  TargetIsSeen note name target d called put =
      find name (seen_at Callables program place Body) ≡ Some target → standing_at program target.at ≡ Some d
      → declared_callable program d target.at target.name d.says ≡ Some called → IsDeclaredWell program called
      → note.call ≡ Some put → note.of ≡ substituted put called.result
      → IsPut (heads_of program) params regions (parameters called.generics) put
      → CallIsSeen (types_of program) (owner_of program) (view_under program trees place params given)
      (ways program trees) active s z note name called put

  -- Calls of shipped functions are seen.
  abbrev pub ShippedAreSeen : Type 0
  ShippedAreSeen =
      (note : Note) (name : Bytes) (target : Target) (d : Standing) (called : Callable) (put : Bindings)
      (declared : Bytes)
      (prim : ShippedCall)
      → called_of target.name d.says ≡ Some (a_function declared (type_names (parameters called.generics)))
      → prim_of (module_name program target.at.«module») declared None ≡ Some prim
      → TargetIsSeen note name target d called put

module _ (program : List ModuleParts) (trees : List NotedParts) (place : ℕ) (generics : List Bounded)
    (given : Given) where
  -- what is wanted of what a call puts holds in the body: the constraints, and the class of a method
  abbrev pub HoldsHere : Callable → Bindings → Type 0
  HoldsHere called put =
      (sc : Scope) × (sc.outside ≡ outside_of program place Body) × (sc.generics ≡ generics)
      × (first_lacking sc put (wanted_of called) ≡ None)

  -- Calls of methods of classes are seen.
  abbrev pub MethodsAreSeen : List Bytes → Bindings → ℕ → (ℕ → Bool) → Type 0
  MethodsAreSeen regions s z active =
      (note : Note) (name : Bytes) (target : Target) (d : Standing) (called : Callable) (put : Bindings)
      → is_class d.says ≡ true → HoldsHere called put
      → TargetIsSeen program trees place
      (parameters generics) regions given s z active note name target d called put

  -- Calls of shipped functions and of methods are seen, wherever the body runs.
  abbrev pub OthersAreSeen : Type 0
  OthersAreSeen =
      (regions : List Bytes) (s : Bindings) (z : ℕ) (active : ℕ → Bool)
      → BodyRuns program (parameters generics) regions given s z active → ConstraintsHold program generics s
      → ShippedAreSeen program trees place (parameters generics) regions given s z active
      × MethodsAreSeen regions s z active

  -- Then all good calls in a body run, in each frame that fits, where the constraints of the body hold,
  -- if their arguments are of types that may be handed on, and from this way calls may lead there.
  abbrev pub CallsOfBodiesRun : {E : Type 0} → Calls (Key program trees) E → Key program trees
      → (Meaning → Type 0) → Type 0
  CallsOfBodiesRun calls key may_hand =
      ProgramFits program trees → OthersAreSeen
      → AllowsHere program trees place generics given (ways program trees) calls key may_hand
      → (names : ℕ → Meaning) (active : ℕ → Bool) (sc : Scope)
      (scope : meaning.Scope) (s : Bindings) (z : ℕ) → sc.outside ≡ outside_of program place Body
      → sc.generics ≡ generics
      → StandsFor (heads_of program) (parameters generics) given s → ConstraintsHold program generics s
      → FrameFits (types_of program)
      (view_under program trees place (parameters generics) given) names active sc scope s
      given z
      → CallsRun (types_of program) (owner_of program)
      (view_under program trees place (parameters generics) given)
      (callees (ways program trees) calls key) may_hand names active sc scope s given z
