-- At which running types a shipped call may be called, and what it gives.
use Rattle.std.specs.Prelude.{◌≡◌, ℕ, Bool, true, List, [], ◌∷◌, Option, Some, None, codes}
use Rattle.au_base.specs.declared.kinds.IntKind.{IntKind}
use Rattle.au_base.specs.declared.kinds.IntKind.TheVariants.{Index, Nat8}
use Rattle.au_shipped.specs.declared.prims.ShippedCall.{ShippedCall}
use Rattle.au_shipped.specs.declared.prims.ShippedCall.TheVariants as prim
use Rattle.au_type_texts.specs.Types.{ClosedType}
use Rattle.au_types.specs.declared.types.Region.{Region}
use Rattle.au_types.specs.Types as type
use Rattle.au_types.specs.Types.{Meaning, integer, reads, writes}
use Rattle.au_memory.specs.Loans.{Types}
use Rattle.au_safe_steps.specs.Granting.{IsOptionOf}
use Rattle.au_safe_steps.specs.Sound.{IsHomeOf}
use Rattle.au_running_judgements.specs.Known.{InScope}

module _ (types : Types) (owner : ClosedType → Option (List ℕ)) (active : ℕ → Bool) where
  -- a call of one argument of a type that gives nothing
  abbrev pub Prints : Meaning → List Meaning → Meaning → Type 0
  Prints of kinds t = (kinds ≡ of ∷ []) × (t ≡ type.unit)

  -- something is born of a type, which has its home in a shipped module
  abbrev pub IsBorn : Option ClosedType → List ℕ → Type 0
  IsBorn born home = (kind : ClosedType) × (born ≡ Some kind) × IsHomeOf owner kind home

  -- the first argument is a reference to a type that writes, or that reads, in a region that may be used
  abbrev pub TakesWriter : Meaning → List Meaning → List Meaning → Type 0
  TakesWriter of rest kinds = (region : Region) × InScope active region × (kinds ≡ writes of region ∷ rest)

  abbrev pub TakesReader : Meaning → List Meaning → List Meaning → Type 0
  TakesReader of rest kinds = (region : Region) × InScope active region × (kinds ≡ reads of region ∷ rest)

  -- By the call and the type of what is born, if it is a birth: these may be the types of its arguments,
  -- where this is that of its value.
  abbrev pub Ships : ShippedCall → Option ClosedType → List Meaning → Meaning → Type 0
  Ships prim.PrintText born kinds t = (born ≡ None) × Prints type.text kinds t
  Ships prim.PrintInt born kinds t = (born ≡ None) × ((kind : IntKind) × Prints (integer kind) kinds t)
  Ships prim.PrintBool born kinds t = (born ≡ None) × Prints type.truth kinds t
  Ships prim.PrintLnText born kinds t = (born ≡ None) × Prints type.text kinds t
  Ships prim.PrintLnInt born kinds t = (born ≡ None) × ((kind : IntKind) × Prints (integer kind) kinds t)
  Ships prim.PrintLnBool born kinds t = (born ≡ None) × Prints type.truth kinds t
  Ships (prim.Wrap op kind) born kinds t = (kinds ≡ integer kind ∷ integer kind ∷ []) × (t ≡ integer kind)
  Ships (prim.Convert to) born kinds t =
      (kind : IntKind) × (kinds ≡ integer kind ∷ []) × IsOptionOf types t (integer to)
  Ships prim.SurrenderRoot born kinds t =
      (of : Meaning) × (born ≡ None) × (types.is_root of ≡ true) × (kinds ≡ of ∷ []) × (t ≡ type.unit)
  Ships prim.Abort born kinds t = (born ≡ None) × (kinds ≡ type.text ∷ [])
  Ships prim.SpanLength born kinds t = (born ≡ None) × (kinds ≡ type.text ∷ []) × (t ≡ integer Index)
  Ships prim.Swap born kinds t = (born ≡ None) × TakesWriter t (t ∷ []) kinds
  Ships prim.MakeBox born kinds t =
      (of : Meaning) × (types.boxed t ≡ Some of) × (kinds ≡ of ∷ []) × IsBorn born (codes "Standard.Box")
  Ships prim.Unbox born kinds t =
      (of : Meaning) × (born ≡ None) × (types.boxed of ≡ Some t) × (kinds ≡ of ∷ [])
  Ships prim.BoxGet born kinds t =
      (of content : Meaning) × (region : Region) × (born ≡ None) × (types.boxed of ≡ Some content)
      × InScope active region × (kinds ≡ reads of region ∷ []) × (t ≡ reads content region)
  Ships prim.BoxGetMut born kinds t =
      (of content : Meaning) × (region : Region) × (born ≡ None) × (types.boxed of ≡ Some content)
      × InScope active region × (kinds ≡ writes of region ∷ []) × (t ≡ writes content region)
  Ships prim.MakeEmpty born kinds t =
      (of : Meaning) × (types.buffered t ≡ Some of) × (kinds ≡ []) × IsBorn born (codes "Standard.Buffer")
  Ships prim.DestroyEmpty born kinds t =
      (of item : Meaning) × (born ≡ None) × (types.buffered of ≡ Some item) × (kinds ≡ of ∷ [])
      × (t ≡ type.unit)
  Ships prim.Length born kinds t =
      (of item : Meaning) × (born ≡ None) × (types.buffered of ≡ Some item) × TakesReader of [] kinds
      × (t ≡ integer Index)
  Ships prim.InsertBack born kinds t =
      (of item : Meaning) × (born ≡ None) × (types.buffered of ≡ Some item) × TakesWriter of (item ∷ []) kinds
      × (t ≡ type.unit)
  Ships prim.RemoveBack born kinds t =
      (of : Meaning) × (born ≡ None) × (types.buffered of ≡ Some t) × TakesWriter of [] kinds
  Ships prim.Nth born kinds t =
      (of : Meaning) × (born ≡ None) × (types.buffered of ≡ Some t) × (types.is_free t ≡ true)
      × TakesReader of (integer Index ∷ []) kinds
  Ships prim.ReplaceNth born kinds t =
      (of : Meaning) × (born ≡ None) × (types.buffered of ≡ Some t)
      × TakesWriter of (integer Index ∷ t ∷ []) kinds
  Ships prim.AcquireTerminal born kinds t =
      (of : Meaning) × (types.is_root of ≡ true) × (types.is_terminal t ≡ true) × TakesWriter of [] kinds
      × IsBorn born (codes "Standard.IO.Terminal")
  Ships prim.ReadByte born kinds t =
      (of : Meaning) × (born ≡ None) × (types.is_terminal of ≡ true) × TakesWriter of [] kinds
      × IsOptionOf types t (integer Nat8)
  Ships prim.WriteByte born kinds t =
      (of : Meaning) × (born ≡ None) × (types.is_terminal of ≡ true)
      × TakesWriter of (integer Nat8 ∷ []) kinds
      × (t ≡ type.unit)
  Ships prim.ReleaseTerminal born kinds t =
      (of : Meaning) × (born ≡ None) × (types.is_terminal of ≡ true) × (kinds ≡ of ∷ []) × (t ≡ type.unit)
