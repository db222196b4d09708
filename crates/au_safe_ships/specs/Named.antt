-- There are no references of the region `Static`, names that are empty have whichever type, and a name with
-- a write reference is looked at for `!`.
use Rattle.std.specs.Prelude.{◌≡◌, ◌⊎◌, ℕ, true, List, [], ◌∷◌, Option}
use Rattle.au_effects.specs.References.{reference_in}
use Rattle.au_running_types.specs.Running.{token}
use Rattle.au_types.specs.declared.types.Region.TheVariants.{Static}
use Rattle.au_types.specs.Types.{Meaning, reads, writes}
use Rattle.au_type_texts.specs.Types.{ClosedType}
use Rattle.au_memory.specs.Forests.{Hold, Made, empty}
use Rattle.au_memory.specs.Loans.{Types}
use Rattle.au_lending.specs.Laws.{IsReadable}
use Rattle.au_borrows.specs.Orders.{Act, is_active}
use Rattle.au_running_judgements.specs.Frames.{Frame}
use Rattle.au_meaning.specs.Acts as meaning
use Rattle.au_meaning.specs.Acts.{looks}
use Rattle.au_meaning.specs.Ticks.{needing}
use Rattle.au_meaning.specs.Worlds.{Value, World}
use Rattle.au_running_judgements.specs.Sound.{AreTyped}
use Rattle.au_running_judgements.specs.Good.{Good, IsIn, IsRunning}

module _ (types : Types) (owner : ClosedType → Option (List ℕ)) (acts : List Act) (fs : List Frame)
    (sizes : List ℕ) (under : Made) (w : World) where
  abbrev pub NoStatics : Type 0
  NoStatics =
      AreTyped types → (v : Value) (of : Meaning)
      → IsIn types owner acts fs sizes ((v, writes of Static) ∷ under) w
      ⊎ IsIn types owner acts fs sizes ((v, reads of Static) ∷ under) w → ⊥

  -- The types of names that are empty don't matter.
  abbrev pub EmptyNamesAreFree : Type 0
  EmptyNamesAreFree =
      (hold : ℕ → Hold) (names others : ℕ → Meaning) → ((k : ℕ) → (hold k ≡ empty) ⊎ (names k ≡ others k))
      → IsIn types owner acts (record { hold = hold; type = names } ∷ fs) sizes under w
      → IsIn types owner acts (record { hold = hold; type = others } ∷ fs) sizes under w

module _ (types : Types) (owner : ClosedType → Option (List ℕ)) (acts : List Act) (f : Frame)
    (fs : List Frame)
    (sizes : List ℕ) (size : ℕ) (under : Made) (w : World) where
  abbrev pub NoNamedStatics : Type 0
  NoNamedStatics =
      AreTyped types → (x : ℕ) (of : Meaning) → IsReadable (f.hold x)
      → (f.type x ≡ writes of Static) ⊎ (f.type x ≡ reads of Static)
      → IsIn types owner acts (f ∷ fs) sizes under w
      → ⊥

  -- `!x`, where the name holds a write reference: it is looked at, and then what stands behind it is copied.
  abbrev pub WritersLookWell : ℕ → Type 0
  WritersLookWell ticks =
      AreTyped types → IsRunning sizes fs size → (x : ℕ) (t : Meaning) (z : ℕ) → IsReadable (f.hold x)
      → f.type x ≡ writes t (token z) → is_active acts z ≡ true → types.is_free t ≡ true
      → IsIn types owner acts (f ∷ fs) sizes under w
      → Good owner
      (λ (r : Value) n. IsIn types owner acts (f ∷ fs) sizes under n
      × ((left : ℕ) → Good owner (λ (v : Value) m. IsIn types owner acts (f ∷ fs) sizes ((v, t) ∷ under) m)
      (needing (reference_in r) meaning.reads n left))) (looks x [] w ticks)
