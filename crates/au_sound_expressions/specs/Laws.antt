-- Whole expressions are safe where actions are.
use Rattle.std.specs.Prelude.{◌≡◌, ℕ, false, List, ◌∷◌, Option}
use Rattle.au_type_texts.specs.Types.{ClosedType}
use Rattle.au_types.specs.Types.{Meaning}
use Rattle.au_syntax.specs.Expressions.{Expression}
use Rattle.au_syntax.specs.Plain.{Bytes}
use Rattle.au_memory.specs.Forests.{Made}
use Rattle.au_memory.specs.Loans.{Types}
use Rattle.au_borrows.specs.Orders.{Act, is_active}
use Rattle.au_running_judgements.specs.Frames.{Frame}
use Rattle.au_meaning.specs.Expressions.{whole}
use Rattle.au_meaning.specs.Names.{Scope}
use Rattle.au_meaning.specs.Ticks.{Action}
use Rattle.au_meaning.specs.Views.{View}
use Rattle.au_meaning.specs.Worlds.{Value, World}
use Rattle.au_running_judgements.specs.Good.{IsIn, IsRunning, lying_in}
use Rattle.au_running_judgements.specs.Held.{GoodHeld, Permits}
use Rattle.au_running_judgements.specs.Expressions.{IsOf}
use Rattle.au_running_judgements.specs.Known.{Callables, with_token}
use Rattle.au_running_judgements.specs.Lives.{AreReady, Standing, spent}
use Rattle.au_running_judgements.specs.Uses.{uses}
use Rattle.au_sound_expressions.specs.Actions.{ActionsAreSafe}
use Rattle.au_sound_expressions.specs.Safe.{AllWait, CallsSafe, Stands, frame}

-- A whole expression of a type, whichever new token it has, gives a value of the type: each name that it
-- consumes is empty then, the others stand as before, and borrows lie as before.
abbrev pub ExpressionsAreSafe : (types : Types) → (ClosedType → Option (List ℕ))
    → {V W : Type 0} → Permits V W → {I T C K : Type 0} → View I T C → Callables I K
    → (I → List Value → Action Value) → Type 0
ExpressionsAreSafe types owner {V} permits {T = T} {C = C} see known invoke =
    ActionsAreSafe types owner → (way : V) (ways : List V)
    → CallsSafe types owner permits (way ∷ ways) known invoke
    → (acts : List Act) (names : ℕ → Meaning) (fs : List Frame) (sizes : List ℕ) (size : ℕ)
    → IsRunning sizes fs size
    → AllWait permits ways (is_active acts) fs
    → (scope : Scope) (e : Expression Bytes T C) (t : Meaning) (h : Standing) (under : Made) (w : World)
    (ticks : ℕ)
    → ((z : ℕ) → is_active acts z ≡ false
    → IsOf types owner see known names z (with_token z (is_active acts)) scope e t)
    → AreReady h (λ k. uses see k scope e) → Stands permits way (is_active acts) h names
    → IsIn types owner acts (frame h names ∷ fs) sizes under w
    → GoodHeld types owner permits (way ∷ ways)
    (λ (v : Value) n.
    IsIn types owner acts (frame (λ k. spent (uses see k scope e).consumed (h k)) names ∷ fs) sizes ((v, t)
    ∷ under) n
    × (lying_in n ≡ lying_in w)) (whole see invoke scope e w ticks)
