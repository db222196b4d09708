-- What is written, aborts, and how long a text is.
use Rattle.std.specs.Prelude.{ℕ, List, [], ◌∷◌, Option, None}
use Rattle.au_base.specs.declared.kinds.IntKind.{IntKind}
use Rattle.au_base.specs.declared.kinds.IntKind.TheVariants.{Index}
use Rattle.au_shipped.specs.declared.prims.ShippedCall.{ShippedCall}
use Rattle.au_shipped.specs.declared.prims.ShippedCall.TheVariants as prim
use Rattle.au_effects.specs.Calls.{shipped}
use Rattle.au_effects.specs.Worlds.{World}
use Rattle.au_types.specs.Types.{Meaning, integer, text, truth, unit}
use Rattle.au_memory.specs.Forests.{Holds, Made}
use Rattle.au_memory.specs.Loans.{Types}
use Rattle.au_memory.specs.Trees.{Value}
use Rattle.au_borrows.specs.Orders.{Act}
use Rattle.au_borrows.specs.Told.{Open}
use Rattle.au_sound_calls.specs.Sound.{AreTyped, GoesWell, IsSound}

module _ (B : Type 0) (types : Types) (owner : B → Option (List ℕ)) (acts : List Act) (hold : Holds)
    (names : ℕ → ℕ → Meaning) (under : Made) (lying : List Open) (sizes : List ℕ) (w : World (List ℕ) B) where
  -- a call with these arguments, which are under way so, goes well
  abbrev pub IsGood : ShippedCall → Option B → Made → List Value → Meaning → Type 0
  IsGood call kind made args t =
      IsSound types owner acts hold names made lying sizes w
      → GoesWell types owner acts hold names t under lying sizes (shipped (λ t. t) call kind w args)

  abbrev pub PrintsTexts : Type 0
  PrintsTexts =
      AreTyped types → (v : Value) → IsGood prim.PrintText None ((v, text) ∷ under) (v ∷ []) unit
      × IsGood prim.PrintLnText None ((v, text) ∷ under) (v ∷ []) unit

  abbrev pub PrintsTruths : Type 0
  PrintsTruths =
      AreTyped types → (v : Value) → IsGood prim.PrintBool None ((v, truth) ∷ under) (v ∷ []) unit
      × IsGood prim.PrintLnBool None ((v, truth) ∷ under) (v ∷ []) unit

  abbrev pub PrintsNumbers : Type 0
  PrintsNumbers =
      AreTyped types → (v : Value) (kind : IntKind)
      → IsGood prim.PrintInt None ((v, integer kind) ∷ under) (v ∷ []) unit
      × IsGood prim.PrintLnInt None ((v, integer kind) ∷ under) (v ∷ []) unit

  -- `abort`, for whatever type it is to give
  abbrev pub Aborts : Type 0
  Aborts = AreTyped types → (v : Value) (t : Meaning) → IsGood prim.Abort None ((v, text) ∷ under) (v ∷ []) t

  abbrev pub SpansHaveLengths : Type 0
  SpansHaveLengths =
      AreTyped types → (v : Value) → IsGood prim.SpanLength None ((v, text) ∷ under) (v ∷ []) (integer Index)
