-- Operations on numbers and on truth values.
use Rattle.std.specs.Prelude.{ℕ, List, ◌∷◌, Option, Some, None}
use Rattle.au_base.specs.declared.kinds.IntKind.{IntKind}
use Rattle.au_ints.specs.declared.operations.IntOp.{IntOp}
use Rattle.au_ints.specs.declared.operations.Order.{Order}
use Rattle.au_ints.specs.declared.operations.Order.TheVariants as order
use Rattle.au_ints.specs.declared.operations.WrapOp.{WrapOp}
use Rattle.au_effects.specs.Answers.{Result, fault, no_rule, value}
use Rattle.au_effects.specs.Numbers.{compared, computed, converted_value, negated, wrapped_around}
use Rattle.au_effects.specs.Worlds.{World}
use Rattle.au_types.specs.Types.{Meaning, integer, truth}
use Rattle.au_memory.specs.Forests.{Holds, Made}
use Rattle.au_memory.specs.Loans.{Types}
use Rattle.au_memory.specs.Trees.{Value}
use Rattle.au_borrows.specs.Orders.{Act}
use Rattle.au_borrows.specs.Told.{Open}
use Rattle.au_sound_calls.specs.Granting.{IsOptionOf}
use Rattle.au_sound_calls.specs.Sound.{AreTyped, IsSound, IsToldWell}

module _ (B : Type 0) (types : Types) (owner : B → Option (List ℕ)) (acts : List Act) (hold : Holds)
    (names : ℕ → ℕ → Meaning) (under : Made) (lying : List Open) (sizes : List ℕ) (w : World (List ℕ) B) where
  -- An operation comes to a value of this type, over these; or it aborts. There is a rule for it.
  abbrev pub ComesWell : Meaning → Result (List ℕ) → Type 0
  ComesWell t (value v) = IsSound types owner acts hold names ((v, t) ∷ under) lying sizes w
  ComesWell t (fault f) = IsToldWell types owner acts hold names w
  ComesWell t no_rule = ⊥

  -- two values of a type are under way
  abbrev pub HasTwo : Value → Value → Meaning → Type 0
  HasTwo a b t = IsSound types owner acts hold names ((b, t) ∷ (a, t) ∷ under) lying sizes w

  abbrev pub Computes : Type 0
  Computes =
      AreTyped types → (op : IntOp) (kind : IntKind) (a b : Value) → HasTwo a b (integer kind)
      → ComesWell (integer kind) (computed op kind a b)

  abbrev pub Wraps : Type 0
  Wraps =
      AreTyped types → (op : WrapOp) (kind : IntKind) (a b : Value) → HasTwo a b (integer kind)
      → ComesWell (integer kind) (wrapped_around op kind a b)

  abbrev pub Compares : Type 0
  Compares =
      AreTyped types → (how : Order) (kind : IntKind) (a b : Value) → HasTwo a b (integer kind)
      → ComesWell truth (compared how (Some kind) a b)

  -- truth values are equal, or they aren't
  abbrev pub ComparesTruths : Type 0
  ComparesTruths =
      AreTyped types → (a b : Value) → HasTwo a b truth
      → ComesWell truth (compared order.Equal None a b) × ComesWell truth (compared order.NotEqual None a b)

  abbrev pub Negates : Type 0
  Negates =
      AreTyped types → (a : Value) → IsSound types owner acts hold names ((a, truth) ∷ under) lying sizes w
      → ComesWell truth (negated a)

  abbrev pub Converts : Type 0
  Converts =
      AreTyped types → (kind to : IntKind) (option : Meaning) (a : Value)
      → IsOptionOf types option (integer to)
      → IsSound types owner acts hold names ((a, integer kind) ∷ under) lying sizes w
      → ComesWell option (converted_value to a)
