-- The names of the parameters of shipped calls, in declared order, and which of them are births.
use Rattle.std.specs.Prelude.{List, [], ◌∷◌, Option, Some, None, codes}
use Rattle.au_type_texts.specs.Types.{ClosedType}
use Rattle.au_shipped.specs.declared.prims.ShippedCall.{ShippedCall}
use Rattle.au_shipped.specs.declared.prims.ShippedCall.TheVariants as prim
use Rattle.au_syntax.specs.Plain.{Bytes}

-- as the shipped interfaces have them
abbrev pub shipped_parameters : ShippedCall → List Bytes
shipped_parameters prim.PrintText = codes "value" ∷ []
shipped_parameters prim.PrintInt = codes "value" ∷ []
shipped_parameters prim.PrintBool = codes "value" ∷ []
shipped_parameters prim.PrintLnText = codes "value" ∷ []
shipped_parameters prim.PrintLnInt = codes "value" ∷ []
shipped_parameters prim.PrintLnBool = codes "value" ∷ []
shipped_parameters (prim.Wrap op kind) = codes "lhs" ∷ codes "rhs" ∷ []
shipped_parameters (prim.Convert kind) = codes "value" ∷ []
shipped_parameters prim.SurrenderRoot = codes "root" ∷ []
shipped_parameters prim.Abort = codes "message" ∷ []
shipped_parameters prim.SpanLength = codes "span" ∷ []
shipped_parameters prim.Swap = codes "ref" ∷ codes "value" ∷ []
shipped_parameters prim.MakeBox = codes "value" ∷ []
shipped_parameters prim.Unbox = codes "box" ∷ []
shipped_parameters prim.BoxGet = codes "ref" ∷ []
shipped_parameters prim.BoxGetMut = codes "ref" ∷ []
shipped_parameters prim.MakeEmpty = []
shipped_parameters prim.DestroyEmpty = codes "buffer" ∷ []
shipped_parameters prim.Length = codes "ref" ∷ []
shipped_parameters prim.InsertBack = codes "ref" ∷ codes "value" ∷ []
shipped_parameters prim.RemoveBack = codes "ref" ∷ []
shipped_parameters prim.Nth = codes "ref" ∷ codes "index" ∷ []
shipped_parameters prim.ReplaceNth = codes "ref" ∷ codes "index" ∷ codes "value" ∷ []
shipped_parameters prim.AcquireTerminal = codes "root" ∷ []
shipped_parameters prim.ReadByte = codes "ref" ∷ []
shipped_parameters prim.WriteByte = codes "ref" ∷ codes "byte" ∷ []
shipped_parameters prim.ReleaseTerminal = codes "terminal" ∷ []

-- the type of what is born, where a call gives a value of a type: a box, a buffer or a terminal is born
abbrev pub born : ShippedCall → ClosedType → Option ClosedType
born prim.MakeBox of = Some of
born prim.MakeEmpty of = Some of
born prim.AcquireTerminal of = Some of
born other of = None

-- the call that has three parameters
abbrev pub replaces : ShippedCall
replaces = prim.ReplaceNth
