-- What is done with buffers.
use Rattle.std.specs.Prelude.{◌≡◌, ℕ, true, List, [], ◌∷◌, Option, Some, None, codes}
use Rattle.au_base.specs.declared.kinds.IntKind.TheVariants.{Index}
use Rattle.au_shipped.specs.declared.prims.ShippedCall.{ShippedCall}
use Rattle.au_shipped.specs.declared.prims.ShippedCall.TheVariants as prim
use Rattle.au_effects.specs.Calls.{shipped}
use Rattle.au_effects.specs.Worlds.{World}
use Rattle.au_running_types.specs.Running.{token}
use Rattle.au_types.specs.Types.{Meaning, integer, reads, unit, writes}
use Rattle.au_memory.specs.Forests.{Holds, Made}
use Rattle.au_memory.specs.Loans.{Types}
use Rattle.au_memory.specs.Trees.{Value}
use Rattle.au_borrows.specs.Orders.{Act, is_active}
use Rattle.au_borrows.specs.Told.{Open}
use Rattle.au_sound_calls.specs.Sound.{AreTyped, GoesWell, IsHomeOf, IsSound}

module _ (B : Type 0) (types : Types) (owner : B → Option (List ℕ)) (acts : List Act) (hold : Holds)
    (names : ℕ → ℕ → Meaning) (under : Made) (lying : List Open) (sizes : List ℕ) (w : World (List ℕ) B) where
  -- a call with these arguments, which are under way so, goes well
  abbrev pub IsGood : ShippedCall → Option B → Made → List Value → Meaning → Type 0
  IsGood call kind made args t =
      IsSound types owner acts hold names made lying sizes w
      → GoesWell types owner acts hold names t under lying sizes (shipped (λ t. t) call kind w args)

  abbrev pub MakesBuffers : Type 0
  MakesBuffers =
      AreTyped types → (t of : Meaning) (kind : B) → types.buffered t ≡ Some of
      → IsHomeOf owner kind (codes "Standard.Buffer") → IsGood prim.MakeEmpty (Some kind) under [] t

  abbrev pub EndsBuffers : Type 0
  EndsBuffers =
      AreTyped types → (v : Value) (t of : Meaning) → types.buffered t ≡ Some of
      → IsGood prim.DestroyEmpty None ((v, t) ∷ under) (v ∷ []) unit

  abbrev pub HaveLengths : Type 0
  HaveLengths =
      AreTyped types → (r : Value) (t of : Meaning) (z : ℕ) → types.buffered t ≡ Some of
      → is_active acts z ≡ true
      → IsGood prim.Length None ((r, reads t (token z)) ∷ under) (r ∷ []) (integer Index)

  abbrev pub Inserts : Type 0
  Inserts =
      AreTyped types → (new r : Value) (t of : Meaning) (z : ℕ) → types.buffered t ≡ Some of
      → is_active acts z ≡ true
      → IsGood prim.InsertBack None ((new, of) ∷ (r, writes t (token z)) ∷ under) (r ∷ new ∷ []) unit

  abbrev pub Removes : Type 0
  Removes =
      AreTyped types → (r : Value) (t of : Meaning) (z : ℕ) → types.buffered t ≡ Some of
      → is_active acts z ≡ true
      → IsGood prim.RemoveBack None ((r, writes t (token z)) ∷ under) (r ∷ []) of

  abbrev pub CopiesElements : Type 0
  CopiesElements =
      AreTyped types → (i r : Value) (t of : Meaning) (z : ℕ) → types.buffered t ≡ Some of
      → types.is_free of ≡ true → is_active acts z ≡ true
      → IsGood prim.Nth None ((i, integer Index) ∷ (r, reads t (token z)) ∷ under) (r ∷ i ∷ []) of

  abbrev pub Replaces : Type 0
  Replaces =
      AreTyped types → (new i r : Value) (t of : Meaning) (z : ℕ) → types.buffered t ≡ Some of
      → is_active acts z ≡ true
      → IsGood prim.ReplaceNth None ((new, of) ∷ (i, integer Index) ∷ (r, writes t (token z)) ∷ under)
      (r ∷ i ∷ new ∷ []) of
