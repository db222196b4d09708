-- The shipped calls by name: for each module a table of its functions and methods, in the order of its
-- interface.
use Rattle.std.specs.Prelude.{List, [], ◌∷◌, ◌++◌, map, Option, Some, None, if◌then◌else◌, codes}
use Rattle.std.specs.Str.{bytes_eq}
use Rattle.au_base.specs.declared.kinds.IntKind.{IntKind}
use Rattle.au_base.specs.declared.kinds.IntKind.TheVariants as kind
use Rattle.au_ints.specs.declared.operations.WrapOp.TheVariants as operation
use Rattle.au_syntax.specs.Plain.{Bytes}
use Rattle.au_shipped.specs.declared.prims.ShippedCall.{ShippedCall}
use Rattle.au_shipped.specs.declared.prims.ShippedCall.TheVariants as prim

-- what stands in a table under a name
abbrev pub found : {A : Type 0} → List (Bytes × A) → Bytes → Option A
found [] name = None
found (row ∷ table) name = if bytes_eq row.0 name then Some row.1 else found table name

-- `print` is of an integer where a kind is given, and else of a text
abbrev pub print_of : Option IntKind → ShippedCall
print_of (Some one) = prim.PrintInt
print_of None = prim.PrintText

abbrev pub print_ln_of : Option IntKind → ShippedCall
print_ln_of (Some one) = prim.PrintLnInt
print_ln_of None = prim.PrintLnText

-- the kind of modular calls: the one given, or that of a literal of which nothing else is known
abbrev pub kind_of : Option IntKind → IntKind
kind_of (Some one) = one
kind_of None = kind.Int32

-- the functions of Austral.Pervasive, and the methods of Printable
abbrev pub own_calls : Option IntKind → List (Bytes × ShippedCall)
own_calls of =
    (codes "surrenderRoot", prim.SurrenderRoot)
    ∷ (codes "abort", prim.Abort)
    ∷ (codes "spanLength", prim.SpanLength)
    ∷ (codes "swap", prim.Swap)
    ∷ (codes "print", print_of of)
    ∷ (codes "printLn", print_ln_of of)
    ∷ []

-- the methods of ModularArithmetic
abbrev pub modular_calls : Option IntKind → List (Bytes × ShippedCall)
modular_calls of =
    (codes "modularAdd", prim.Wrap operation.Add (kind_of of))
    ∷ (codes "modularSubtract", prim.Wrap operation.Subtract (kind_of of))
    ∷ (codes "modularMultiply", prim.Wrap operation.Multiply (kind_of of))
    ∷ []

-- the methods of Conversion
abbrev pub conversion_calls : List (Bytes × ShippedCall)
conversion_calls =
    (codes "toNat8", prim.Convert kind.Nat8)
    ∷ (codes "toNat16", prim.Convert kind.Nat16)
    ∷ (codes "toNat32", prim.Convert kind.Nat32)
    ∷ (codes "toNat64", prim.Convert kind.Nat64)
    ∷ (codes "toInt8", prim.Convert kind.Int8)
    ∷ (codes "toInt16", prim.Convert kind.Int16)
    ∷ (codes "toInt32", prim.Convert kind.Int32)
    ∷ (codes "toInt64", prim.Convert kind.Int64)
    ∷ (codes "toIndex", prim.Convert kind.Index)
    ∷ []

abbrev pub pervasive_calls : Option IntKind → List (Bytes × ShippedCall)
pervasive_calls of = own_calls of ++ (modular_calls of ++ conversion_calls)

abbrev pub box_calls : List (Bytes × ShippedCall)
box_calls =
    (codes "makeBox", prim.MakeBox)
    ∷ (codes "unbox", prim.Unbox)
    ∷ (codes "boxGet", prim.BoxGet)
    ∷ (codes "boxGetMut", prim.BoxGetMut)
    ∷ []

abbrev pub buffer_calls : List (Bytes × ShippedCall)
buffer_calls =
    (codes "makeEmpty", prim.MakeEmpty)
    ∷ (codes "destroyEmpty", prim.DestroyEmpty)
    ∷ (codes "length", prim.Length)
    ∷ (codes "insertBack", prim.InsertBack)
    ∷ (codes "removeBack", prim.RemoveBack)
    ∷ (codes "nth", prim.Nth)
    ∷ (codes "replaceNth", prim.ReplaceNth)
    ∷ []

abbrev pub terminal_calls : List (Bytes × ShippedCall)
terminal_calls =
    (codes "acquireTerminal", prim.AcquireTerminal)
    ∷ (codes "readByte", prim.ReadByte)
    ∷ (codes "writeByte", prim.WriteByte)
    ∷ (codes "releaseTerminal", prim.ReleaseTerminal)
    ∷ []

-- the calls of each shipped module
abbrev pub calls : Option IntKind → List (Bytes × List (Bytes × ShippedCall))
calls of =
    (codes "Austral.Pervasive", pervasive_calls of)
    ∷ (codes "Standard.Box", box_calls)
    ∷ (codes "Standard.Buffer", buffer_calls)
    ∷ (codes "Standard.IO.Terminal", terminal_calls)
    ∷ []

-- the call of a name in the table of a module, if there is such a module
abbrev pub call_in : Option (List (Bytes × ShippedCall)) → Bytes → Option ShippedCall
call_in None call = None
call_in (Some table) call = found table call

-- the shipped call of a name in a module
abbrev pub prim_of : Bytes → Bytes → Option IntKind → Option ShippedCall
prim_of home call of = call_in (found (calls of) home) call

-- the name of a module and the names in its table
abbrev pub names_in : Bytes × List (Bytes × ShippedCall) → Bytes × List Bytes
names_in row = (row.0, map (λ (one : Bytes × ShippedCall). one.0) row.1)
