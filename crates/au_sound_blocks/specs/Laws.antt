-- Statements are safe where actions are.
use Rattle.std.specs.Prelude.{ℕ, ◌+◌, ◌≤◌, Bool, List, ◌∷◌, ◌++◌, Option}
use Rattle.au_type_texts.specs.Types.{ClosedType}
use Rattle.au_types.specs.Types.{Meaning}
use Rattle.au_syntax.specs.Plain.{Bytes}
use Rattle.au_syntax.specs.Statements.{Statements}
use Rattle.au_memory.specs.Forests.{Made}
use Rattle.au_memory.specs.Loans.{Types}
use Rattle.au_sound_expressions.specs.Orders.{Act, Lying, is_active}
use Rattle.au_sound_expressions.specs.Frames.{Frame}
use Rattle.au_meaning.specs.Names.{Scope, names_in_block}
use Rattle.au_meaning.specs.Statements.{run_all}
use Rattle.au_meaning.specs.Ticks.{Action}
use Rattle.au_meaning.specs.Views.{View}
use Rattle.au_meaning.specs.Worlds.{Value, World}
use Rattle.au_sound_expressions.specs.Good.{IsRunning}
use Rattle.au_sound_expressions.specs.Held.{GoodHeld, Permits}
use Rattle.au_sound_expressions.specs.Blocks.{Names, RunsAll}
use Rattle.au_sound_expressions.specs.Known.{Callables}
use Rattle.au_sound_expressions.specs.Lives.{AheadAll, Standing}
use Rattle.au_sound_expressions.specs.Safe.{AllWait, CallsSafe}
use Rattle.au_sound_blocks.specs.Flows.{Flows, Going, tokens}
use Rattle.au_sound_blocks.specs.Steps.{StepsAreSafe}

-- Statements one after another that return on each way leave a frame that may end; and names hold what they
-- may wherever their run is cut off.
abbrev pub BodiesAreSafe : (types : Types) → (ClosedType → Option (List ℕ)) → {V W : Type 0}
    → Permits V W → {I T C K : Type 0} → View I T C → Callables I K → (I → List Value → Action Value) → Type 0
BodiesAreSafe types owner {V} permits {T = T} {C = C} see known invoke =
    StepsAreSafe types owner → (key : V) (ways : List V)
    → CallsSafe types owner permits (key ∷ ways) known invoke
    → (loose : ℕ → Bool) (result : Meaning) (below : List Act) (base : Lying) (fs : List Frame)
    (sizes : List ℕ) (size : ℕ)
    → IsRunning sizes fs size → AllWait permits ways (is_active below) fs
    → (depth number : ℕ) (scope : Scope) (block : Statements Bytes T C) (own : List Act) (h : Standing)
    (names : Names)
    (under : Made) (w : World) (ticks : ℕ) → AheadAll see loose number scope (tokens own) block (λ g. ⊥) h
    → RunsAll types owner see known result loose permits key (is_active (own ++ below)) number scope block
    names
    → number + names_in_block block ≤ size
    → Going types owner permits key loose result below base fs sizes size own number h names under w
    → GoodHeld types owner permits (key ∷ ways)
    (Flows types owner permits key loose result below base fs sizes size own number
    (number + names_in_block block) names (λ g. ⊥)
    (λ ns. Unit {0}) under) (run_all see invoke depth number scope block w ticks)
