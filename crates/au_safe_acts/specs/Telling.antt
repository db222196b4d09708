-- A `case` tells apart a value, or one behind a reference: all safe.
use Rattle.std.specs.Prelude.{◌≡◌, ℕ, true, List, ◌∷◌, map, Option, Some}
use Rattle.au_running_types.specs.Running.{token}
use Rattle.au_types.specs.Types.{Meaning, reads, writes}
use Rattle.au_type_texts.specs.Types.{ClosedType}
use Rattle.au_memory.specs.Forests.{Made}
use Rattle.au_memory.specs.Loans.{Types}
use Rattle.au_lending.specs.Records.{onto, types_made}
use Rattle.au_borrows.specs.Orders.{Act, is_active}
use Rattle.au_frames.specs.Frames.{Frame}
use Rattle.au_meaning.specs.Acts.{tells_apart}
use Rattle.au_meaning.specs.Worlds.{Value, World}
use Rattle.au_sound_calls.specs.Sound.{AreTyped}
use Rattle.au_safe_acts.specs.Good.{Good, IsIn}
use Rattle.au_safe_acts.specs.Making.{values_of}

module _ (types : Types) (owner : ClosedType → Option (List ℕ)) (acts : List Act) (fs : List Frame)
    (sizes : List ℕ) (under : Made) where
  -- What is told apart has the case of a number, with fields of these types, of which such parts are under
  -- way.
  abbrev pub HasTold : Types → Meaning → (Meaning → Meaning) → ℕ × List Value → World → Type 0
  HasTold known t through p n =
      (kinds : List Meaning) × (parts : Made) × (known.fields t p.0 ≡ Some kinds) × (p.1 ≡ values_of parts)
      × (types_made parts ≡ map through kinds) × IsIn types owner acts fs sizes (onto parts under) n

  module _ (w : World) (ticks : ℕ) where
    abbrev pub TellsValuesWell : Type 0
    TellsValuesWell =
        AreTyped types → (v : Value) (t : Meaning) (tag : ℕ) (of : List Meaning)
        → types.fields t tag ≡ Some of
        → IsIn types owner acts fs sizes ((v, t) ∷ under) w
        → Good owner (HasTold types t (λ u. u)) (tells_apart v w ticks)

    abbrev pub TellsWritersWell : Type 0
    TellsWritersWell =
        AreTyped types → (r : Value) (t : Meaning) (z tag : ℕ) (of : List Meaning)
        → types.fields t tag ≡ Some of
        → is_active acts z ≡ true → IsIn types owner acts fs sizes ((r, writes t (token z)) ∷ under) w
        → Good owner (HasTold types t (λ u. writes u (token z))) (tells_apart r w ticks)

    abbrev pub TellsReadersWell : Type 0
    TellsReadersWell =
        AreTyped types → (r : Value) (t : Meaning) (z tag : ℕ) (of : List Meaning)
        → types.fields t tag ≡ Some of
        → is_active acts z ≡ true → IsIn types owner acts fs sizes ((r, reads t (token z)) ∷ under) w
        → Good owner (HasTold types t (λ u. reads u (token z))) (tells_apart r w ticks)
