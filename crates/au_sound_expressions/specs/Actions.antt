-- The laws of actions on which the evaluator rests, as one record.
use Rattle.std.specs.Prelude.{◌≡◌, ◌⊎◌, ℕ, true, List, [], ◌∷◌, Option, Some, None}
use Rattle.au_base.specs.declared.kinds.IntKind.{IntKind}
use Rattle.au_ints.specs.declared.operations.IntOp.{IntOp}
use Rattle.au_ints.specs.declared.operations.Order.{Order}
use Rattle.au_shipped.specs.declared.prims.ShippedCall.{ShippedCall}
use Rattle.au_effects.specs.Numbers.{compared, computed, negated}
use Rattle.au_effects.specs.References.{reference_in, referring}
use Rattle.au_running_types.specs.Running.{token}
use Rattle.au_type_texts.specs.Types.{ClosedType}
use Rattle.au_types.specs.declared.types.Region.TheVariants.{Static}
use Rattle.au_types.specs.Types as type
use Rattle.au_types.specs.Types.{Meaning, integer, reads, writes}
use Rattle.au_memory.specs.Forests.{Made}
use Rattle.au_memory.specs.Loans.{Types}
use Rattle.au_memory.specs.Shown.{IsPlain}
use Rattle.au_lending.specs.Laws.{IsReadable}
use Rattle.au_lending.specs.Records.{onto, types_made}
use Rattle.au_lending.specs.Seeing.{LeadsOn}
use Rattle.au_borrows.specs.Orders.{Act, is_active}
use Rattle.au_running_judgements.specs.Frames.{Frame}
use Rattle.au_meaning.specs.Acts as meaning
use Rattle.au_meaning.specs.Acts.{looks, refers, ships_call}
use Rattle.au_meaning.specs.Ticks.{comes, follows, needing, pure}
use Rattle.au_meaning.specs.Worlds.{Value, World}
use Rattle.au_running_judgements.specs.Sound.{AreTyped}
use Rattle.au_running_judgements.specs.Behind.{ReadersReadWell, WritersReadWell}
use Rattle.au_running_judgements.specs.Good.{Good, IsCutWell, IsIn, IsRunning}
use Rattle.au_running_judgements.specs.Lending.{LendsWell, ReadsWell, RelendsWell}
use Rattle.au_running_judgements.specs.Making.{CopiesWell, MakesFreeWell, MakesLinearWell, values_of}
use Rattle.au_running_judgements.specs.Naming.{LooksWell, MovesWell}
use Rattle.au_running_judgements.specs.Closing.{TokensBegin, TokensEnd}
use Rattle.au_running_judgements.specs.Beginning.{CountsLying}
use Rattle.au_running_judgements.specs.Binding.{LabelsAreOrdered}
use Rattle.au_running_judgements.specs.Coming.{ReordersWell}
use Rattle.au_running_judgements.specs.Expressions.{IsEquality}
use Rattle.au_running_judgements.specs.Shipping.{Ships}

module _ (types : Types) (owner : ClosedType → Option (List ℕ)) (acts : List Act) where
  -- ---- what the values of some types are

  module _ (fs : List Frame) (sizes : List ℕ) (under : Made) (w : World) where
    -- What was told of a world is as it should be.
    abbrev pub ToldWell : Type 0
    ToldWell = IsIn types owner acts fs sizes under w → IsCutWell owner w

    -- A value that holds nothing comes under way.
    abbrev pub PlainsWell : Type 0
    PlainsWell =
        (v : Value) (t : Meaning) → IsPlain v t → IsIn types owner acts fs sizes under w
        → IsIn types owner acts fs sizes ((v, t) ∷ under) w

    -- A value of the type of truth values is one, and is dropped.
    abbrev pub TruthsWell : Type 0
    TruthsWell =
        (v : Value) → IsIn types owner acts fs sizes ((v, type.truth) ∷ under) w
        → IsPlain v type.truth × IsIn types owner acts fs sizes under w

    -- There is no reference of the region `Static` under way.
    abbrev pub NoStatics : Type 0
    NoStatics =
        (v : Value) (of : Meaning) → IsIn types owner acts fs sizes ((v, writes of Static) ∷ under) w
        ⊎ IsIn types owner acts fs sizes ((v, reads of Static) ∷ under) w → ⊥

    module _ (ticks : ℕ) where
      -- `!` of a write reference whose token is active
      abbrev pub WritersCopyWell : Type 0
      WritersCopyWell =
          (r : Value) (t : Meaning) (z : ℕ) → types.is_free t ≡ true → is_active acts z ≡ true
          → IsIn types owner acts fs sizes ((r, writes t (token z)) ∷ under) w
          → Good owner (λ (v : Value) n. IsIn types owner acts fs sizes ((v, t) ∷ under) n)
          (needing (reference_in r) meaning.reads w ticks)

      -- operations on numbers and truth values
      abbrev pub ComputesWell : Type 0
      ComputesWell =
          (op : IntOp) (kind : IntKind) (a b : Value)
          → IsIn types owner acts fs sizes ((b, integer kind) ∷ (a, integer kind) ∷ under) w
          → Good owner (λ (v : Value) n. IsIn types owner acts fs sizes ((v, integer kind) ∷ under) n)
          (comes (computed op kind a b) w ticks)

      abbrev pub ComparesWell : Type 0
      ComparesWell =
          (op : Order) (kind : IntKind) (a b : Value)
          → IsIn types owner acts fs sizes ((b, integer kind) ∷ (a, integer kind) ∷ under) w
          → Good owner (λ (v : Value) n. IsIn types owner acts fs sizes ((v, type.truth) ∷ under) n)
          (comes (compared op (Some kind) a b) w ticks)

      abbrev pub EquatesWell : Type 0
      EquatesWell =
          (op : Order) (a b : Value) → IsEquality op
          → IsIn types owner acts fs sizes ((b, type.truth) ∷ (a, type.truth) ∷ under) w
          → Good owner (λ (v : Value) n. IsIn types owner acts fs sizes ((v, type.truth) ∷ under) n)
          (comes (compared op None a b) w ticks)

      abbrev pub NegatesWell : Type 0
      NegatesWell =
          (a : Value) → IsIn types owner acts fs sizes ((a, type.truth) ∷ under) w
          → Good owner (λ (v : Value) n. IsIn types owner acts fs sizes ((v, type.truth) ∷ under) n)
          (comes (negated a) w ticks)

      -- shipped calls at the types at which they may be called
      abbrev pub ShipsWell : Type 0
      ShipsWell =
          (prim : ShippedCall) (born : Option ClosedType) (made : Made) (t : Meaning)
          → Ships types owner (is_active acts) prim born (types_made made) t
          → IsIn types owner acts fs sizes (onto made under) w
          → Good owner (λ (v : Value) n. IsIn types owner acts fs sizes ((v, t) ∷ under) n)
          (ships_call prim born (values_of made) w ticks)

  -- ---- names of the running frame

  module _ (f : Frame) (fs : List Frame) (sizes : List ℕ) (size : ℕ) (under : Made) (w : World) where
    -- No name holds a reference of the region `Static`.
    abbrev pub NoNamedStatics : Type 0
    NoNamedStatics =
        (x : ℕ) (of : Meaning) → IsReadable (f.hold x)
        → (f.type x ≡ writes of Static) ⊎ (f.type x ≡ reads of Static)
        → IsIn types owner acts (f ∷ fs) sizes under w → ⊥

    module _ (ticks : ℕ) where
      -- `!x`, where the name holds a write reference: it is looked at, then what stands behind it is copied.
      abbrev pub WritersLookWell : Type 0
      WritersLookWell =
          IsRunning sizes fs size → (x : ℕ) (t : Meaning) (z : ℕ) → IsReadable (f.hold x)
          → f.type x ≡ writes t (token z) → is_active acts z ≡ true → types.is_free t ≡ true
          → IsIn types owner acts (f ∷ fs) sizes under w
          → Good owner
          (λ (r : Value) n. IsIn types owner acts (f ∷ fs) sizes under n
          × ((left : ℕ)
          → Good owner (λ (v : Value) m. IsIn types owner acts (f ∷ fs) sizes ((v, t) ∷ under) m)
          (needing (reference_in r) meaning.reads n left))) (looks x [] w ticks)

      -- `&(r->f)`, where the name holds a read reference
      abbrev pub PartsWell : Type 0
      PartsWell =
          IsRunning sizes fs size → (x : ℕ) (path : List ℕ) (t u : Meaning) (z : ℕ) → IsReadable (f.hold x)
          → f.type x ≡ reads t (token z) → types.is_free (reads t (token z)) ≡ true → is_active acts z ≡ true
          → LeadsOn types t path u → IsIn types owner acts (f ∷ fs) sizes under w
          → Good owner
          (λ (v : Value) n. IsIn types owner acts (f ∷ fs) sizes ((v, reads u (token z)) ∷ under) n)
          (follows (refers x path w ticks) (λ one. pure (referring one)))

-- Each action is safe.
pub record ActionsAreSafe (types : Types) (owner : ClosedType → Option (List ℕ)) : Type 0 where
  pub typed : AreTyped types
  pub told : (acts : List Act) (fs : List Frame) (sizes : List ℕ) (under : Made) (w : World)
      → ToldWell types owner acts fs sizes under w
  pub plain : (acts : List Act) (fs : List Frame) (sizes : List ℕ) (under : Made) (w : World)
      → PlainsWell types owner acts fs sizes under w
  pub truths : (acts : List Act) (fs : List Frame) (sizes : List ℕ) (under : Made) (w : World)
      → TruthsWell types owner acts fs sizes under w
  pub statics : (acts : List Act) (fs : List Frame) (sizes : List ℕ) (under : Made) (w : World)
      → NoStatics types owner acts fs sizes under w
  pub begun : (acts : List Act) (fs : List Frame) (sizes : List ℕ) (under : Made) (w : World)
      → TokensBegin types owner acts fs sizes under w
  pub ended : (acts : List Act) (fs : List Frame) (sizes : List ℕ) (under : Made) (w : World)
      → TokensEnd types owner acts fs sizes under w
  pub counted : (acts : List Act) (fs : List Frame) (sizes : List ℕ) (under : Made) (w : World)
      → CountsLying types owner acts fs sizes under w
  pub labels : LabelsAreOrdered
  pub reordered : (acts : List Act) (fs : List Frame) (sizes : List ℕ) (under : Made) (w : World)
      → ReordersWell types owner acts fs sizes under w
  pub copied : (acts : List Act) (fs : List Frame) (sizes : List ℕ) (under : Made) (w : World) (ticks : ℕ)
      → CopiesWell types owner acts fs sizes under w ticks
  pub writers_copied : (acts : List Act) (fs : List Frame) (sizes : List ℕ) (under : Made)
      (w : World) (ticks : ℕ) → WritersCopyWell types owner acts fs sizes under w ticks
  pub computed : (acts : List Act) (fs : List Frame) (sizes : List ℕ) (under : Made) (w : World) (ticks : ℕ)
      → ComputesWell types owner acts fs sizes under w ticks
  pub compared : (acts : List Act) (fs : List Frame) (sizes : List ℕ) (under : Made) (w : World) (ticks : ℕ)
      → ComparesWell types owner acts fs sizes under w ticks
  pub equated : (acts : List Act) (fs : List Frame) (sizes : List ℕ) (under : Made) (w : World) (ticks : ℕ)
      → EquatesWell types owner acts fs sizes under w ticks
  pub negated : (acts : List Act) (fs : List Frame) (sizes : List ℕ) (under : Made) (w : World) (ticks : ℕ)
      → NegatesWell types owner acts fs sizes under w ticks
  pub shipped : (acts : List Act) (fs : List Frame) (sizes : List ℕ) (under : Made) (w : World) (ticks : ℕ)
      → ShipsWell types owner acts fs sizes under w ticks
  pub made_free : (acts : List Act) (fs : List Frame) (sizes : List ℕ) (under : Made) (w : World) (ticks : ℕ)
      → MakesFreeWell types owner acts fs sizes under w ticks
  pub made_linear : (acts : List Act) (fs : List Frame) (sizes : List ℕ) (under : Made)
      (w : World) (ticks : ℕ) → MakesLinearWell types owner acts fs sizes under w ticks
  pub looked : (acts : List Act) (f : Frame) (fs : List Frame) (sizes : List ℕ) (size : ℕ)
      (under : Made) (w : World) (ticks : ℕ) → LooksWell types owner acts f fs sizes size under w ticks
  pub moved : (acts : List Act) (f : Frame) (fs : List Frame) (sizes : List ℕ) (size : ℕ)
      (under : Made) (w : World) (ticks : ℕ) → MovesWell types owner acts f fs sizes size under w ticks
  pub lent : (acts : List Act) (f : Frame) (fs : List Frame) (sizes : List ℕ) (size : ℕ)
      (under : Made) (w : World) (ticks : ℕ) → LendsWell types owner acts f fs sizes size under w ticks
  pub read : (acts : List Act) (f : Frame) (fs : List Frame) (sizes : List ℕ) (size : ℕ)
      (under : Made) (w : World) (ticks : ℕ) → ReadsWell types owner acts f fs sizes size under w ticks
  pub relent : (acts : List Act) (f : Frame) (fs : List Frame) (sizes : List ℕ) (size : ℕ)
      (under : Made) (w : World) (ticks : ℕ) → RelendsWell types owner acts f fs sizes size under w ticks
  pub writers_read : (acts : List Act) (f : Frame) (fs : List Frame) (sizes : List ℕ) (size : ℕ)
      (under : Made) (w : World) (ticks : ℕ) → WritersReadWell types owner acts f fs sizes size under w ticks
  pub readers_read : (acts : List Act) (f : Frame) (fs : List Frame) (sizes : List ℕ) (size : ℕ)
      (under : Made) (w : World) (ticks : ℕ) → ReadersReadWell types owner acts f fs sizes size under w ticks
  pub named_statics : (acts : List Act) (f : Frame) (fs : List Frame) (sizes : List ℕ) (size : ℕ)
      (under : Made) (w : World) → NoNamedStatics types owner acts f fs sizes size under w
  pub writers_looked : (acts : List Act) (f : Frame) (fs : List Frame) (sizes : List ℕ) (size : ℕ)
      (under : Made) (w : World) (ticks : ℕ) → WritersLookWell types owner acts f fs sizes size under w ticks
  pub parts : (acts : List Act) (f : Frame) (fs : List Frame) (sizes : List ℕ) (size : ℕ)
      (under : Made) (w : World) (ticks : ℕ) → PartsWell types owner acts f fs sizes size under w ticks
