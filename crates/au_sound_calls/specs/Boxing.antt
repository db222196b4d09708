-- What stands behind references is exchanged, and what is done with boxes.
use Rattle.std.specs.Prelude.{◌≡◌, ℕ, true, List, [], ◌∷◌, Option, Some, None, codes}
use Rattle.au_shipped.specs.declared.prims.ShippedCall.{ShippedCall}
use Rattle.au_shipped.specs.declared.prims.ShippedCall.TheVariants as prim
use Rattle.au_effects.specs.Calls.{shipped}
use Rattle.au_effects.specs.Worlds.{World}
use Rattle.au_running_types.specs.Running.{token}
use Rattle.au_types.specs.Types.{Meaning, reads, writes}
use Rattle.au_memory.specs.Forests.{Holds, Made}
use Rattle.au_memory.specs.Loans.{Types}
use Rattle.au_memory.specs.Trees.{Value}
use Rattle.au_borrows.specs.Orders.{Act, is_active}
use Rattle.au_borrows.specs.Told.{Open}
use Rattle.au_sound_calls.specs.Sound.{AreTyped, GoesWell, IsHomeOf, IsSound}

module _ (B : Type 0) (types : Types) (owner : B → Option (List ℕ)) (acts : List Act) (hold : Holds)
    (names : ℕ → ℕ → Meaning) (under : Made) (lying : List Open) (sizes : List ℕ) (w : World (List ℕ) B) where
  -- a call with these arguments, which are under way so, goes well
  abbrev pub IsGood : ShippedCall → Option B → Made → List Value → Meaning → Type 0
  IsGood call kind made args t =
      IsSound types owner acts hold names made lying sizes w
      → GoesWell types owner acts hold names t under lying sizes (shipped (λ t. t) call kind w args)

  abbrev pub Swaps : Type 0
  Swaps =
      AreTyped types → (new r : Value) (t : Meaning) (z : ℕ) → is_active acts z ≡ true
      → IsGood prim.Swap None ((new, t) ∷ (r, writes t (token z)) ∷ under) (r ∷ new ∷ []) t

  abbrev pub MakesBoxes : Type 0
  MakesBoxes =
      AreTyped types → (v : Value) (t of : Meaning) (kind : B) → types.boxed t ≡ Some of
      → IsHomeOf owner kind (codes "Standard.Box")
      → IsGood prim.MakeBox (Some kind) ((v, of) ∷ under) (v ∷ []) t

  abbrev pub Unboxes : Type 0
  Unboxes =
      AreTyped types → (v : Value) (t of : Meaning) → types.boxed t ≡ Some of
      → IsGood prim.Unbox None ((v, t) ∷ under) (v ∷ []) of

  abbrev pub GetsContents : Type 0
  GetsContents =
      AreTyped types → (r : Value) (t of : Meaning) (z : ℕ) → types.boxed t ≡ Some of
      → is_active acts z ≡ true
      → IsGood prim.BoxGet None ((r, reads t (token z)) ∷ under) (r ∷ []) (reads of (token z))

  abbrev pub LendsContents : Type 0
  LendsContents =
      AreTyped types → (r : Value) (t of : Meaning) (z : ℕ) → types.boxed t ≡ Some of
      → is_active acts z ≡ true
      → IsGood prim.BoxGetMut None ((r, writes t (token z)) ∷ under) (r ∷ []) (writes of (token z))
