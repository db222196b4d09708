-- The words of C text: what stands for kinds, operations and shipped calls, and a word with its operands.
use Rattle.std.specs.Prelude.{ℕ, ℤ, Bool, true, false, List, [], ◌∷◌, ◌++◌, Option, None, Some, codes}
use Rattle.std.specs.Prelude.{decimal}
use Rattle.std.specs.Fmt.{signed_decimal}
use Rattle.std.specs.List.{flat_map}
use Rattle.au_base.specs.declared.kinds.IntKind.{IntKind}
use Rattle.au_base.specs.declared.kinds.IntKind.TheVariants as kinds
use Rattle.au_ints.specs.declared.operations.IntOp.{IntOp}
use Rattle.au_ints.specs.declared.operations.IntOp.TheVariants as exact
use Rattle.au_ints.specs.declared.operations.WrapOp.{WrapOp}
use Rattle.au_ints.specs.declared.operations.WrapOp.TheVariants as wrapped
use Rattle.au_ints.specs.declared.operations.Order.{Order}
use Rattle.au_ints.specs.declared.operations.Order.TheVariants as orders
use Rattle.au_shipped.specs.declared.prims.ShippedCall.{ShippedCall}
use Rattle.au_shipped.specs.declared.prims.ShippedCall.TheVariants as calls
use Rattle.au_low.specs.declared.instructions.Mode.{Mode}
use Rattle.au_low.specs.declared.instructions.Mode.TheVariants as modes

-- ---- operands

-- an operand: a word, a number, one that may be below 0, a label, or what stands between quotation marks
pub data Operand : Type 0 where
  plain : List ℕ → Operand
  number : ℕ → Operand
  signed : ℤ → Operand
  label : ℕ → Operand
  name : List ℕ → Operand

-- a label
abbrev pub label_text : ℕ → List ℕ
label_text n = 76 ∷ decimal n

-- what stands between quotation marks
abbrev pub quoted : List ℕ → List ℕ
quoted text = 34 ∷ (text ++ 34 ∷ [])

-- an operand as it is written
abbrev pub operand_text : Operand → List ℕ
operand_text (plain text) = text
operand_text (number n) = decimal n
operand_text (signed z) = signed_decimal z
operand_text (label n) = label_text n
operand_text (name text) = quoted text

-- an operand behind another: a comma, a blank and itself
abbrev pub further : Operand → List ℕ
further operand = 44 ∷ 32 ∷ operand_text operand

-- operands, one behind the other
abbrev pub joined : List Operand → List ℕ
joined [] = []
joined (operand ∷ operands) = operand_text operand ++ flat_map further operands

-- a word and its operands in parentheses
abbrev pub applied : List ℕ → List Operand → List ℕ
applied word operands = word ++ 40 ∷ (joined operands ++ 41 ∷ [])

-- a truth value
abbrev pub flag : Bool → List ℕ
flag true = codes "1"
flag false = codes "0"

-- ---- words that are operands

-- a kind of integers
abbrev pub kind_word : IntKind → List ℕ
kind_word kinds.Nat8 = codes "NAT8"
kind_word kinds.Nat16 = codes "NAT16"
kind_word kinds.Nat32 = codes "NAT32"
kind_word kinds.Nat64 = codes "NAT64"
kind_word kinds.Int8 = codes "INT8"
kind_word kinds.Int16 = codes "INT16"
kind_word kinds.Int32 = codes "INT32"
kind_word kinds.Int64 = codes "INT64"
kind_word kinds.Index = codes "INDEX"

-- a kind of integers, or truth values where there is none
abbrev pub compared_word : Option IntKind → List ℕ
compared_word None = codes "BOOL"
compared_word (Some kind) = kind_word kind

-- an operation that traps
abbrev pub exact_word : IntOp → List ℕ
exact_word exact.Add = codes "ADD"
exact_word exact.Subtract = codes "SUBTRACT"
exact_word exact.Multiply = codes "MULTIPLY"
exact_word exact.Divide = codes "DIVIDE"

-- an operation that wraps
abbrev pub wrapped_word : WrapOp → List ℕ
wrapped_word wrapped.Add = codes "ADD"
wrapped_word wrapped.Subtract = codes "SUBTRACT"
wrapped_word wrapped.Multiply = codes "MULTIPLY"

-- an order
abbrev pub order_word : Order → List ℕ
order_word orders.Equal = codes "EQUAL"
order_word orders.NotEqual = codes "NOTEQUAL"
order_word orders.Less = codes "LESS"
order_word orders.LessEqual = codes "LESSEQUAL"
order_word orders.Greater = codes "GREATER"
order_word orders.GreaterEqual = codes "GREATEREQUAL"

-- how a slot is borrowed
abbrev pub mode_word : Mode → List ℕ
mode_word modes.Read = codes "READ"
mode_word modes.Write = codes "WRITE"
mode_word modes.Again = codes "AGAIN"

-- a shipped call; lowered code has no wrapping and no conversion in this place
abbrev pub call_word : ShippedCall → List ℕ
call_word calls.PrintText = codes "PRINT_TEXT"
call_word calls.PrintInt = codes "PRINT_INT"
call_word calls.PrintBool = codes "PRINT_BOOL"
call_word calls.PrintLnText = codes "PRINTLN_TEXT"
call_word calls.PrintLnInt = codes "PRINTLN_INT"
call_word calls.PrintLnBool = codes "PRINTLN_BOOL"
call_word (calls.Wrap op kind) = wrapped_word op ++ 95 ∷ kind_word kind
call_word (calls.Convert kind) = codes "TO_" ++ kind_word kind
call_word calls.SurrenderRoot = codes "SURRENDER"
call_word calls.Abort = codes "ABORT"
call_word calls.SpanLength = codes "SPAN_LENGTH"
call_word calls.Swap = codes "SWAP"
call_word calls.MakeBox = codes "MAKE_BOX"
call_word calls.Unbox = codes "UNBOX"
call_word calls.BoxGet = codes "BOX_GET"
call_word calls.BoxGetMut = codes "BOX_GET_MUT"
call_word calls.MakeEmpty = codes "MAKE_BUFFER"
call_word calls.DestroyEmpty = codes "DESTROY_EMPTY"
call_word calls.Length = codes "LENGTH"
call_word calls.InsertBack = codes "INSERT_BACK"
call_word calls.RemoveBack = codes "REMOVE_BACK"
call_word calls.Nth = codes "NTH"
call_word calls.ReplaceNth = codes "REPLACE_NTH"
call_word calls.AcquireTerminal = codes "ACQUIRE"
call_word calls.ReadByte = codes "READ_BYTE"
call_word calls.WriteByte = codes "WRITE_BYTE"
call_word calls.ReleaseTerminal = codes "RELEASE"

-- the shipped module that declares a call
abbrev pub call_home : ShippedCall → List ℕ
call_home calls.MakeBox = codes "Standard.Box"
call_home calls.Unbox = codes "Standard.Box"
call_home calls.BoxGet = codes "Standard.Box"
call_home calls.BoxGetMut = codes "Standard.Box"
call_home calls.MakeEmpty = codes "Standard.Buffer"
call_home calls.DestroyEmpty = codes "Standard.Buffer"
call_home calls.Length = codes "Standard.Buffer"
call_home calls.InsertBack = codes "Standard.Buffer"
call_home calls.RemoveBack = codes "Standard.Buffer"
call_home calls.Nth = codes "Standard.Buffer"
call_home calls.ReplaceNth = codes "Standard.Buffer"
call_home calls.AcquireTerminal = codes "Standard.IO.Terminal"
call_home calls.ReadByte = codes "Standard.IO.Terminal"
call_home calls.WriteByte = codes "Standard.IO.Terminal"
call_home calls.ReleaseTerminal = codes "Standard.IO.Terminal"
call_home other = codes "Austral.Pervasive"
