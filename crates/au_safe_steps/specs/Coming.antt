-- Values under way come, change places, are told, and are dropped: all safe.
use Rattle.std.specs.Prelude.{◌≡◌, ℕ, Bool, true, List, ◌∷◌, Option, ℤ, pos, ◌+ℤ◌, int_le}
use Rattle.au_base.specs.declared.kinds.IntKind.{IntKind}
use Rattle.au_ints.specs.Ranges.{is_of_kind, least_of}
use Rattle.au_effects.specs.Values as values
use Rattle.au_types.specs.Types.{Meaning, integer, truth}
use Rattle.au_type_texts.specs.Types.{ClosedType}
use Rattle.au_memory.specs.Forests.{Made}
use Rattle.au_memory.specs.Loans.{Types}
use Rattle.au_memory.specs.Shown.{IsPlain}
use Rattle.au_lending.specs.Records.{onto}
use Rattle.au_acting.specs.Turning.{IsBasic}
use Rattle.au_safe_acts.specs.Orders.{Act}
use Rattle.au_safe_acts.specs.Frames.{Frame, IsDroppable}
use Rattle.au_meaning.specs.Worlds.{Value, World}
use Rattle.au_safe_acts.specs.Sound.{AreTyped}
use Rattle.au_safe_acts.specs.Good.{IsCutWell, IsIn}
use Rattle.au_safe_steps.specs.Orders.{IsReordered}

-- ---- numbers

-- a number of a kind's range isn't below its least one, and neither is one that comes after such a number
abbrev pub NumbersGoOn : Type 0
NumbersGoOn =
    (kind : IntKind) (z : ℤ)
    → (is_of_kind kind z ≡ true → IsPlain (values.number kind z) (integer kind))
    × (IsPlain (values.number kind z) (integer kind)
    → IsPlain (values.number kind (z +ℤ pos 1)) (integer kind))

module _ (types : Types) (owner : ClosedType → Option (List ℕ)) (acts : List Act) (fs : List Frame)
    (sizes : List ℕ) (under : Made) (w : World) where
  -- What was told of a world that is as it should be is.
  abbrev pub TellsWell : Type 0
  TellsWell = IsIn types owner acts fs sizes under w → IsCutWell owner w

  -- A value that holds nothing comes under way.
  abbrev pub PlainsComeWell : Type 0
  PlainsComeWell =
      (v : Value) (t : Meaning) → IsPlain v t → IsIn types owner acts fs sizes under w
      → IsIn types owner acts fs sizes ((v, t) ∷ under) w

  -- Values under way are taken in another order.
  abbrev pub ReordersWell : Type 0
  ReordersWell =
      (vs ws : Made) → IsReordered ws vs → IsIn types owner acts fs sizes (onto vs under) w
      → IsIn types owner acts fs sizes (onto ws under) w

  -- The newest value is of a type whose values hold nothing, and it is dropped.
  abbrev pub PlainsDropWell : Type 0
  PlainsDropWell =
      AreTyped types → (v : Value) (t : Meaning) → IsBasic t
      → IsIn types owner acts fs sizes ((v, t) ∷ under) w
      → IsPlain v t × IsIn types owner acts fs sizes under w

  -- A truth value, and two numbers of one kind, are such.
  abbrev pub TruthsAreTold : Type 0
  TruthsAreTold =
      AreTyped types → (v : Value) → IsIn types owner acts fs sizes ((v, truth) ∷ under) w
      → (b : Bool) × (v ≡ values.truth b) × IsIn types owner acts fs sizes under w

  abbrev pub NumbersAreTold : Type 0
  NumbersAreTold =
      AreTyped types → (a b : Value) (kind : IntKind)
      → IsIn types owner acts fs sizes ((b, integer kind) ∷ (a, integer kind) ∷ under) w
      → (first : ℤ) × (last : ℤ) × (a ≡ values.number kind first) × (b ≡ values.number kind last)
      × (int_le (least_of kind) first ≡ true) × IsIn types owner acts fs sizes under w

  -- A value of a Free type is dropped, and so is a write reference.
  abbrev pub DropsWell : Type 0
  DropsWell =
      AreTyped types → (v : Value) (t : Meaning) → IsDroppable types t
      → IsIn types owner acts fs sizes ((v, t) ∷ under) w → IsIn types owner acts fs sizes under w
