-- What is known round a body of a program where it runs.
use Rattle.std.specs.Prelude.{◌≡◌, ℕ, Bool, List, Option, None, Some, false, is_some}
use Rattle.au_syntax.specs.declared.modules.Part.TheVariants.{Body}
use Rattle.au_syntax.specs.Plain.{Bytes}
use Rattle.au_types.specs.Types.{Meaning}
use Rattle.au_matching.specs.Bindings.{Bindings}
use Rattle.au_judged_types.specs.Bounds.{Bounded, parameters}
use Rattle.au_type_texts.specs.Given.{Given}
use Rattle.au_type_texts.specs.Types.{ClosedType}
use Rattle.au_running_types.specs.Running.{running}
use Rattle.au_modules.specs.Programs.{ModuleParts}
use Rattle.au_names.specs.HeadsOf.{heads_of}
use Rattle.au_memory.specs.Shown.{IsPlain}
use Rattle.au_judged_bodies.specs.Insides.{fields_of}
use Rattle.au_judged_bodies.specs.Lookups.{target_behind}
use Rattle.au_judged_bodies.specs.Notes.{Note}
use Rattle.au_judged_bodies.specs.Outsides.{outside_of}
use Rattle.au_judged_bodies.specs.Scopes.{Scope}
use Rattle.au_judged_bodies.specs.Trees.{NotedParts}
use Rattle.au_meaning.specs.Names as meaning
use Rattle.au_meaning.specs.Worlds.{Value}
use Rattle.au_judged_bodies.specs.Instances.{Instance}
use Rattle.au_judged_bodies.specs.Generic.{view_under}
use Rattle.au_judged_bodies.specs.Tables.{types_of}
use Rattle.au_judged_bodies.specs.Known.{Callables, Calls}
use Rattle.au_judged_bodies.specs.StandingTypesStanding.{StandsFor}
use Rattle.au_judged_bodies.specs.Frames.{FrameFits}
use Rattle.au_judged_bodies.specs.Keys.{ConstraintsHold}
use Rattle.au_judged_bodies.specs.TypedRunsLaws.{CallsRun}
use Rattle.au_judged_bodies.specs.Rounds.{RoundFits}
use Rattle.au_judged_bodies.specs.Sights.{Allows}
use Rattle.au_judged_programs.specs.CheckedChecked.{IsChecked}

module _ (program : List ModuleParts) (noted : List NotedParts) (place : ℕ) (generics : List Bounded)
    (given : Given) where
  -- The constants that are seen in a body have values of their types, none of which is a record or a
  -- reference.
  pub record ConstantsStand : Type 0 where
    pub values : (s : Bindings) (z : ℕ) (name : Bytes) (t : Meaning) (n : Note)
        → (outside_of program place Body).constant name ≡ Some t
        → (value : Value) × ((view_under program noted place (parameters generics) given).constant n name
        ≡ Some value)
        × IsPlain value (running s z t)
    pub wholes : (name : Bytes) (t : Meaning) → (outside_of program place Body).constant name ≡ Some t
        → (is_some (fields_of program place t) ≡ false) × (target_behind t ≡ None)

  -- bindings stand for the type parameters of a body, and the constraints of these hold
  abbrev pub AreGoodHere : Bindings → Type 0
  AreGoodHere s = StandsFor (heads_of program) (parameters generics) given s
      × ConstraintsHold program generics s

  -- From this way calls in a body lead to each way whose parameters are of running types of what may be
  -- handed on.
  abbrev pub AllowsHere : {K E : Type 0} → Callables Instance K → Calls K E → K → (Meaning → Type 0) → Type 0
  AllowsHere known calls key may_hand =
      Allows (heads_of program) (parameters generics) may_hand AreGoodHere known calls key

  -- Calls in a body run in each frame that fits, if their arguments are of types that may be handed on.
  abbrev pub CallsRunHere : (ClosedType → Option (List ℕ)) → {K : Type 0} → Callables Instance K
      → (Meaning → Type 0) → Type 0
  CallsRunHere owner known may_hand =
      (names : ℕ → Meaning) (active : ℕ → Bool) (sc : Scope) (scope : meaning.Scope) (s : Bindings) (z : ℕ)
      → sc.outside ≡ outside_of program place Body → sc.generics ≡ generics
      → StandsFor (heads_of program) (parameters generics) given s → ConstraintsHold program generics s
      → FrameFits (types_of program)
      (view_under program noted place (parameters generics) given) names active sc scope s
      given z
      → CallsRun (types_of program) owner
      (view_under program noted place (parameters generics) given) known may_hand names
      active sc scope s given z

  -- Where constants stand and calls run, what is known round a body of a checked program agrees with what
  -- is known where it runs.
  abbrev pub RoundsFit : (ClosedType → Option (List ℕ)) → {K : Type 0} → Callables Instance K
      → (Meaning → Type 0) → Type 0
  RoundsFit owner known may_hand =
      IsChecked program noted → ConstantsStand → CallsRunHere owner known may_hand
      → RoundFits (types_of program) owner (view_under program noted place (parameters generics) given) known
      may_hand (outside_of program place Body) generics given AreGoodHere
