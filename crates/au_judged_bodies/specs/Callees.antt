-- What stands for the type parameters of a function that is called: what the call puts for them, where the
-- caller runs.
use Rattle.std.specs.Prelude.{◌≡◌, ℕ, Bool, true, List, [], Some}
use Rattle.au_syntax.specs.declared.declarations.Universe.TheVariants.{Region}
use Rattle.au_syntax.specs.Plain.{Bytes}
use Rattle.au_types.specs.declared.headings.Head.{Head}
use Rattle.au_types.specs.declared.parameters.Parameter.{Parameter}
use Rattle.au_types.specs.declared.types.DeclAt.{DeclAt}
use Rattle.au_types.specs.Types.{Meaning}
use Rattle.au_types.specs.Universes.{universe_in}
use Rattle.au_matching.specs.Bindings.{Bindings, value_of}
use Rattle.au_matching.specs.Fitting.{BindingsAreWellFormed}
use Rattle.au_matching.specs.Substituted.{Fixes, region_for}
use Rattle.au_type_texts.specs.Given.{Given, given_by}
use Rattle.au_running_types.specs.Running.{called}
use Rattle.au_written_types.specs.Written.{IsRegionName, IsWritten}
use Rattle.au_closed_trees.specs.TypeNames.{type_names}
use Rattle.au_known_types.specs.Known.{ValuesAreKnown}
use Rattle.au_running_lives.specs.Known.{InScope}
use Rattle.au_judged_bodies.specs.StandingTypesStanding.{StandsFor}
use Rattle.au_judged_bodies.specs.Frames.{TypesAreUsable}

-- What stands for the regions among type parameters may be used.
abbrev pub RegionsStand : (ℕ → Bool) → List Parameter → Bindings → Type 0
RegionsStand active params s =
    (name : List ℕ) → universe_in params name ≡ Some Region
    → InScope active (region_for (value_of name s) name)

-- What a call puts is known and well formed in the caller's scope, and is something for each type parameter
-- of the callee.
pub record IsPut (heads : List (DeclAt × Head)) (params : List Parameter) (regions : List Bytes)
    (inner : List Parameter)
    (put : Bindings) : Type 0 where
  pub values : ValuesAreKnown heads params regions put
  pub fit : BindingsAreWellFormed heads inner params put
  pub fixes : (t : Meaning) → IsWritten [] inner t → Fixes put t

-- What a call puts, where the caller runs, stands for the type parameters of what is called; and the regions
-- that it puts, and those in the types that it puts, may be used where those in scope, those in what stands
-- for the caller's type parameters and that of the whole expression may.
abbrev pub CalleesStand : Type 0
CalleesStand =
    (heads : List (DeclAt × Head)) (params : List Parameter) (regions : List Bytes) (given : Given)
    (s : Bindings) (z : ℕ)
    (inner : List Parameter) (put : Bindings) → StandsFor heads params given s
    → IsPut heads params regions inner put
    → StandsFor heads inner (given_by given put (type_names inner)) (called s z put)
    × ((active : ℕ → Bool) → active z ≡ true
    → ((name : List ℕ) → IsRegionName regions params name → InScope active
    (region_for (value_of name s) name))
    → RegionsStand active inner (called s z put)
    × (TypesAreUsable active params s → TypesAreUsable active inner (called s z put)))
