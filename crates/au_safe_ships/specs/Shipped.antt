-- Shipped calls at the types at which the judgement lets them be called: safe.
use Rattle.std.specs.Prelude.{ℕ, List, ◌∷◌, Option}
use Rattle.au_shipped.specs.declared.prims.ShippedCall.{ShippedCall}
use Rattle.au_types.specs.Types.{Meaning}
use Rattle.au_type_texts.specs.Types.{ClosedType}
use Rattle.au_memory.specs.Forests.{Made}
use Rattle.au_memory.specs.Loans.{Types}
use Rattle.au_lending.specs.Records.{onto, types_made}
use Rattle.au_borrows.specs.Orders.{Act, is_active}
use Rattle.au_running_judgements.specs.Frames.{Frame}
use Rattle.au_meaning.specs.Acts.{ships_call}
use Rattle.au_meaning.specs.Worlds.{Value, World}
use Rattle.au_running_judgements.specs.Sound.{AreTyped}
use Rattle.au_running_judgements.specs.Good.{Good, IsIn}
use Rattle.au_running_judgements.specs.Making.{values_of}
use Rattle.au_running_judgements.specs.Shipping.{Ships}

module _ (types : Types) (owner : ClosedType → Option (List ℕ)) (acts : List Act) (fs : List Frame)
    (sizes : List ℕ) (under : Made) (w : World) (ticks : ℕ) where
  -- A shipped call of values under way, which are of types at which it may be called.
  abbrev pub ShipsWell : Type 0
  ShipsWell =
      AreTyped types → (call : ShippedCall) (born : Option ClosedType) (made : Made) (t : Meaning)
      → Ships types owner (is_active acts) call born (types_made made) t
      → IsIn types owner acts fs sizes (onto made under) w
      → Good owner (λ (v : Value) n. IsIn types owner acts fs sizes ((v, t) ∷ under) n)
      (ships_call call born (values_of made) w ticks)
