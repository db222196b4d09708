-- What is done with the root and with terminals.
use Rattle.std.specs.Prelude.{◌≡◌, ℕ, true, List, [], ◌∷◌, Option, Some, None, codes}
use Rattle.au_base.specs.declared.kinds.IntKind.TheVariants.{Nat8}
use Rattle.au_shipped.specs.declared.prims.ShippedCall.{ShippedCall}
use Rattle.au_shipped.specs.declared.prims.ShippedCall.TheVariants as prim
use Rattle.au_effects.specs.Answers.{waits}
use Rattle.au_effects.specs.Calls.{byte_read, of_one, shipped}
use Rattle.au_effects.specs.Worlds.{World}
use Rattle.au_running_types.specs.Running.{token}
use Rattle.au_types.specs.Types.{Meaning, integer, unit, writes}
use Rattle.au_memory.specs.Forests.{Holds, Made}
use Rattle.au_memory.specs.Loans.{Types}
use Rattle.au_memory.specs.Trees.{Value}
use Rattle.au_borrows.specs.Orders.{Act, is_active}
use Rattle.au_borrows.specs.Told.{Open}
use Rattle.au_sound_calls.specs.Sound.{AreTyped, GoesWell, IsHomeOf, IsSound}

-- A type of an Option of bytes: none is its case 0, and some is its case 1.
pub record IsOptionOf (types : Types) (t of : Meaning) : Type 0 where
  pub free : types.is_free t ≡ true
  pub none_is : types.fields t 0 ≡ Some []
  pub some_is : types.fields t 1 ≡ Some (of ∷ [])

module _ (B : Type 0) (types : Types) (owner : B → Option (List ℕ)) (acts : List Act) (hold : Holds)
    (names : ℕ → ℕ → Meaning) (under : Made) (lying : List Open) (sizes : List ℕ) (w : World (List ℕ) B) where
  -- a call with these arguments, which are under way so, goes well
  abbrev pub IsGood : ShippedCall → Option B → Made → List Value → Meaning → Type 0
  IsGood call kind made args t =
      IsSound types owner acts hold names made lying sizes w
      → GoesWell types owner acts hold names t under lying sizes (shipped (λ t. t) call kind w args)

  abbrev pub SurrendersRoots : Type 0
  SurrendersRoots =
      AreTyped types → (v : Value) (t : Meaning) → types.is_root t ≡ true
      → IsGood prim.SurrenderRoot None ((v, t) ∷ under) (v ∷ []) unit

  abbrev pub AcquiresTerminals : Type 0
  AcquiresTerminals =
      AreTyped types → (r : Value) (t terminal : Meaning) (z : ℕ) (kind : B) → types.is_root t ≡ true
      → types.is_terminal terminal ≡ true → is_active acts z ≡ true
      → IsHomeOf owner kind (codes "Standard.IO.Terminal")
      → IsGood prim.AcquireTerminal (Some kind) ((r, writes t (token z)) ∷ under) (r ∷ []) terminal

  abbrev pub ReleasesTerminals : Type 0
  ReleasesTerminals =
      AreTyped types → (v : Value) (t : Meaning) → types.is_terminal t ≡ true
      → IsGood prim.ReleaseTerminal None ((v, t) ∷ under) (v ∷ []) unit

  abbrev pub WritesBytes : Type 0
  WritesBytes =
      AreTyped types → (b r : Value) (t : Meaning) (z : ℕ) → types.is_terminal t ≡ true
      → is_active acts z ≡ true
      → IsGood prim.WriteByte None ((b, integer Nat8) ∷ (r, writes t (token z)) ∷ under) (r ∷ b ∷ []) unit

  -- `readByte` waits, and whichever byte comes, or none, it goes well.
  abbrev pub ReadsBytes : Type 0
  ReadsBytes =
      AreTyped types → (r : Value) (t option : Meaning) (z : ℕ) → types.is_terminal t ≡ true
      → IsOptionOf types option (integer Nat8) → is_active acts z ≡ true
      → IsSound types owner acts hold names ((r, writes t (token z)) ∷ under) lying sizes w
      → (shipped (λ t. t) prim.ReadByte None w (r ∷ []) ≡ waits)
      × ((byte : Option ℕ)
      → GoesWell types owner acts hold names option under lying sizes (of_one (byte_read byte w) (r ∷ [])))
