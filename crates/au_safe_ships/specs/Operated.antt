-- Operations on numbers and truth values under way: safe.
use Rattle.std.specs.Prelude.{ℕ, List, ◌∷◌, Option, Some, None}
use Rattle.au_base.specs.declared.kinds.IntKind.{IntKind}
use Rattle.au_ints.specs.declared.operations.IntOp.{IntOp}
use Rattle.au_ints.specs.declared.operations.Order.{Order}
use Rattle.au_effects.specs.Numbers.{compared, computed, negated}
use Rattle.au_types.specs.Types.{Meaning, integer, truth}
use Rattle.au_type_texts.specs.Types.{ClosedType}
use Rattle.au_memory.specs.Forests.{Made}
use Rattle.au_memory.specs.Loans.{Types}
use Rattle.au_borrows.specs.Orders.{Act}
use Rattle.au_running_judgements.specs.Frames.{Frame}
use Rattle.au_meaning.specs.Ticks.{comes}
use Rattle.au_meaning.specs.Worlds.{Value, World}
use Rattle.au_running_judgements.specs.Sound.{AreTyped}
use Rattle.au_running_judgements.specs.Good.{Good, IsIn}
use Rattle.au_running_judgements.specs.Expressions.{IsEquality}

module _ (types : Types) (owner : ClosedType → Option (List ℕ)) (acts : List Act) (fs : List Frame)
    (sizes : List ℕ) (under : Made) (w : World) (ticks : ℕ) where
  -- two values of a type are under way
  abbrev pub HasTwo : Value → Value → Meaning → Type 0
  HasTwo a b t = IsIn types owner acts fs sizes ((b, t) ∷ (a, t) ∷ under) w

  abbrev pub ComputesWell : Type 0
  ComputesWell =
      AreTyped types → (op : IntOp) (kind : IntKind) (a b : Value) → HasTwo a b (integer kind)
      → Good owner (λ (v : Value) n. IsIn types owner acts fs sizes ((v, integer kind) ∷ under) n)
      (comes (computed op kind a b) w ticks)

  abbrev pub ComparesWell : Type 0
  ComparesWell =
      AreTyped types → (op : Order) (kind : IntKind) (a b : Value) → HasTwo a b (integer kind)
      → Good owner (λ (v : Value) n. IsIn types owner acts fs sizes ((v, truth) ∷ under) n)
      (comes (compared op (Some kind) a b) w ticks)

  abbrev pub EquatesWell : Type 0
  EquatesWell =
      AreTyped types → (op : Order) (a b : Value) → IsEquality op → HasTwo a b truth
      → Good owner (λ (v : Value) n. IsIn types owner acts fs sizes ((v, truth) ∷ under) n)
      (comes (compared op None a b) w ticks)

  abbrev pub NegatesWell : Type 0
  NegatesWell =
      AreTyped types → (a : Value) → IsIn types owner acts fs sizes ((a, truth) ∷ under) w
      → Good owner (λ (v : Value) n. IsIn types owner acts fs sizes ((v, truth) ∷ under) n)
      (comes (negated a) w ticks)
