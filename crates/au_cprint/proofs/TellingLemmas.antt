-- What an instruction's word and the texts of its operands tell: the instruction.
use Rattle.std.proofs.Common.{◌≡◌, ℕ, zero, suc, ◌+◌, ◌-◌, ◌<◌, ◌≤◌, ◌^◌, ◌==◌, Bool, true, false, cond, List, []}
use Rattle.std.proofs.Common.{◌∷◌, ◌++◌, length, map, drop, get_or, refl, sym, ap, subst, ◌∙◌, arith, decimal}
use Rattle.std.proofs.Common.{Option, Some, None, ne_eqb}
use Rattle.std.specs.Prelude.{ℤ, pos, negsuc, codes, if◌then◌else◌}
use Rattle.std.specs.Fmt.{signed_decimal}
use Rattle.std.specs.List.{AllByRecursion}
use Rattle.std.specs.Str.{bytes_eq}
use Rattle.std.specs.Str.Parse.{AllDigits, digits_value}
use Rattle.std.proofs.lemmas.Fmt.{decimal_is_IsNumeral, decimal_is_IsNumeral_wide}
use Rattle.std.proofs.lemmas.List.{append-nil}
use Rattle.std.proofs.lemmas.Str.Parse.{digit_from_value}
use Rattle.au_base.specs.declared.kinds.IntKind.{IntKind}
use Rattle.au_base.specs.declared.kinds.IntKind.TheVariants as kinds
use Rattle.au_ints.specs.declared.operations.IntOp.{IntOp}
use Rattle.au_ints.specs.declared.operations.IntOp.TheVariants as exact
use Rattle.au_ints.specs.declared.operations.WrapOp.{WrapOp}
use Rattle.au_ints.specs.declared.operations.WrapOp.TheVariants as wrapped
use Rattle.au_ints.specs.declared.operations.Order.{Order}
use Rattle.au_ints.specs.declared.operations.Order.TheVariants as orders
use Rattle.au_shipped.specs.declared.prims.ShippedCall.{ShippedCall}
use Rattle.au_shipped.specs.declared.prims.ShippedCall.TheVariants as calls
use Rattle.au_low.specs.declared.instructions.Mode.{Mode}
use Rattle.au_low.specs.declared.instructions.Mode.TheVariants as modes
use Rattle.au_low.specs.declared.instructions.Instr.{Instr}
use Rattle.au_low.specs.declared.instructions.Instr.TheVariants as instr
use Rattle.au_cprint.specs.Instructions.{numbers, labels, application, call_operands}
use Rattle.au_cprint.specs.Told.{IsTold, IsShort, IsWide, IsToldInstruction}
use Rattle.au_cprint.specs.Words.{Operand, plain, number, signed, label, name, operand_text, quoted, flag}
use Rattle.au_cprint.specs.Words.{kind_word, compared_word, exact_word, wrapped_word, order_word, mode_word}
use Rattle.au_cprint.specs.Words.{call_word, call_home}
use Rattle.au_cprint.proofs.RunLemmas.{texts_of}

-- ---- numbers and names

-- the number that a text tells, and the one behind a letter
pub value_in : List ℕ → ℕ
value_in text = digits_value 10 text

pub value_is : (n : ℕ) → IsShort n → value_in (decimal n) ≡ n
unfolding value_in
value_is n h = (decimal_is_IsNumeral n (omega (arith, h))).1

-- whether a text begins with this byte
begins : ℕ → List ℕ → Bool
begins byte text = get_or text 0 0 == byte

digits_begin : (byte : ℕ) → byte < 48 → (ds : List ℕ) → 0 < length ds → AllDigits 10 ds → begins byte ds ≡ false
unfolding begins
digits_begin byte low [] some d = absurd (omega (arith, some))
digits_begin byte low (c ∷ cs) some d = ne_eqb c byte (omega (arith, low, digit_from_value c d.0))

number_begins : (byte : ℕ) → byte < 48 → (n : ℕ) → n < 2 ^ 127 → begins byte (decimal n) ≡ false
number_begins byte low n h =
    let is = (decimal_is_IsNumeral_wide n (omega (arith, h))).0 in
    digits_begin byte low (decimal n) is.0 is.1

-- a number that may be below 0
below : ℕ → ℤ
below zero = pos 0
below (suc n) = negsuc n

signed_in : List ℕ → ℤ
signed_in text = cond (begins 45 text) (below (value_in (drop 1 text))) (pos (value_in text))

above_0 : (n : ℕ) → n < 2 ^ 127 → begins 45 (decimal n) ≡ false
above_0 n h = number_begins 45 (omega arith) n h

signed_is : (z : ℤ) → IsWide z → signed_in (signed_decimal z) ≡ z
unfolding signed_in value_in begins below
signed_is (pos n) h =
    ap (λ b. cond b (below (value_in (drop 1 (decimal n)))) (pos (value_in (decimal n)))) (above_0 n h)
    ∙ ap pos ((decimal_is_IsNumeral_wide n (omega (arith, h))).1)
signed_is (negsuc n) h = ap below ((decimal_is_IsNumeral_wide (suc n) (omega (arith, h))).1)

label_in : List ℕ → ℕ
label_in text = value_in (drop 1 text)

label_is : (n : ℕ) → IsShort n → label_in (76 ∷ decimal n) ≡ n
unfolding label_in
label_is n h = value_is n h

-- a text without its last byte
front : List ℕ → List ℕ
front [] = []
front (x ∷ []) = []
front (x ∷ y ∷ rest) = x ∷ front (y ∷ rest)

front_is : (text : List ℕ) (last : ℕ) → front (text ++ last ∷ []) ≡ text
unfolding front
front_is [] last = refl
front_is (x ∷ []) last = refl
front_is (x ∷ y ∷ rest) last = ap (λ l. x ∷ l) (front_is (y ∷ rest) last)

pub name_in : List ℕ → List ℕ
name_in text = front (drop 1 text)

pub name_is : (text : List ℕ) → name_in (quoted text) ≡ text
unfolding name_in
name_is text = front_is text 34

-- lists of numbers and of labels
values_in : List (List ℕ) → List ℕ
values_in ts = map value_in ts

same_list : {x y : ℕ} {xs ys : List ℕ} → x ≡ y → xs ≡ ys → x ∷ xs ≡ y ∷ ys
same_list {x} {y} {xs} {ys} e f = ap (λ z. z ∷ xs) e ∙ ap (λ zs. y ∷ zs) f

values_are : (ns : List ℕ) → AllByRecursion IsTold (numbers ns) → values_in (texts_of (numbers ns)) ≡ ns
unfolding values_in
values_are [] h = refl
values_are (n ∷ ns) h = same_list (value_is n h.0) (values_are ns h.1)

labels_in : List (List ℕ) → List ℕ
labels_in ts = map label_in ts

labels_are : (ns : List ℕ) → AllByRecursion IsTold (labels ns) → labels_in (texts_of (labels ns)) ≡ ns
unfolding labels_in
labels_are [] h = refl
labels_are (n ∷ ns) h = same_list (label_is n h.0) (labels_are ns h.1)

-- numbers with a name behind them, or without one
order_in : List (List ℕ) → List ℕ
order_in [] = []
order_in (t ∷ ts) = cond (begins 34 t) [] (value_in t ∷ order_in ts)

home_in : List (List ℕ) → Option (List ℕ)
home_in [] = None
home_in (t ∷ ts) = cond (begins 34 t) (Some (name_in t)) (home_in ts)

short_begins : (n : ℕ) → IsShort n → begins 34 (decimal n) ≡ false
short_begins n h = number_begins 34 (omega arith) n (omega (arith, h))

order_is : (ns : List ℕ) (more : List Operand) → AllByRecursion IsTold (numbers ns ++ more)
    → order_in (texts_of more) ≡ [] → order_in (texts_of (numbers ns ++ more)) ≡ ns
unfolding order_in
order_is [] more h e = e
order_is (n ∷ ns) more h e =
    ap (λ b. cond b [] (value_in (decimal n) ∷ order_in (texts_of (numbers ns ++ more)))) (short_begins n h.0)
    ∙ same_list (value_is n h.0) (order_is ns more h.1 e)

home_is : (ns : List ℕ) (more : List Operand) → AllByRecursion IsTold (numbers ns ++ more)
    → home_in (texts_of (numbers ns ++ more)) ≡ home_in (texts_of more)
unfolding home_in
home_is [] more h = refl
home_is (n ∷ ns) more h =
    ap (λ b. cond b (Some (name_in (decimal n))) (home_in (texts_of (numbers ns ++ more)))) (short_begins n h.0)
    ∙ home_is ns more h.1

no_order : (home : List ℕ) → order_in (texts_of (name home ∷ [])) ≡ []
unfolding order_in begins
no_order home = refl

home_there : (home : List ℕ) → home_in (texts_of (name home ∷ [])) ≡ Some home
unfolding home_in begins
home_there home = ap Some (name_is home)

-- ---- words

kind_in : List ℕ → IntKind
kind_in text =
    if bytes_eq text (codes "NAT8") then kinds.Nat8 else
    if bytes_eq text (codes "NAT16") then kinds.Nat16 else
    if bytes_eq text (codes "NAT32") then kinds.Nat32 else
    if bytes_eq text (codes "NAT64") then kinds.Nat64 else
    if bytes_eq text (codes "INT8") then kinds.Int8 else
    if bytes_eq text (codes "INT16") then kinds.Int16 else
    if bytes_eq text (codes "INT32") then kinds.Int32 else
    if bytes_eq text (codes "INT64") then kinds.Int64 else
    kinds.Index

kind_is : (one : IntKind) → kind_in (kind_word one) ≡ one
unfolding kind_in
kind_is kinds.Nat8 = refl
kind_is kinds.Nat16 = refl
kind_is kinds.Nat32 = refl
kind_is kinds.Nat64 = refl
kind_is kinds.Int8 = refl
kind_is kinds.Int16 = refl
kind_is kinds.Int32 = refl
kind_is kinds.Int64 = refl
kind_is kinds.Index = refl

compared_in : List ℕ → Option IntKind
compared_in text = if bytes_eq text (codes "BOOL") then None else Some (kind_in text)

compared_is : (of : Option IntKind) → compared_in (compared_word of) ≡ of
unfolding compared_in kind_in
compared_is None = refl
compared_is (Some kinds.Nat8) = refl
compared_is (Some kinds.Nat16) = refl
compared_is (Some kinds.Nat32) = refl
compared_is (Some kinds.Nat64) = refl
compared_is (Some kinds.Int8) = refl
compared_is (Some kinds.Int16) = refl
compared_is (Some kinds.Int32) = refl
compared_is (Some kinds.Int64) = refl
compared_is (Some kinds.Index) = refl

exact_in : List ℕ → IntOp
exact_in text =
    if bytes_eq text (codes "ADD") then exact.Add else
    if bytes_eq text (codes "SUBTRACT") then exact.Subtract else
    if bytes_eq text (codes "MULTIPLY") then exact.Multiply else
    exact.Divide

exact_is : (one : IntOp) → exact_in (exact_word one) ≡ one
unfolding exact_in
exact_is exact.Add = refl
exact_is exact.Subtract = refl
exact_is exact.Multiply = refl
exact_is exact.Divide = refl

wrapped_in : List ℕ → WrapOp
wrapped_in text =
    if bytes_eq text (codes "ADD") then wrapped.Add else
    if bytes_eq text (codes "SUBTRACT") then wrapped.Subtract else
    wrapped.Multiply

wrapped_is : (one : WrapOp) → wrapped_in (wrapped_word one) ≡ one
unfolding wrapped_in
wrapped_is wrapped.Add = refl
wrapped_is wrapped.Subtract = refl
wrapped_is wrapped.Multiply = refl

order_word_in : List ℕ → Order
order_word_in text =
    if bytes_eq text (codes "EQUAL") then orders.Equal else
    if bytes_eq text (codes "NOTEQUAL") then orders.NotEqual else
    if bytes_eq text (codes "LESS") then orders.Less else
    if bytes_eq text (codes "LESSEQUAL") then orders.LessEqual else
    if bytes_eq text (codes "GREATER") then orders.Greater else
    orders.GreaterEqual

order_word_is : (one : Order) → order_word_in (order_word one) ≡ one
unfolding order_word_in
order_word_is orders.Equal = refl
order_word_is orders.NotEqual = refl
order_word_is orders.Less = refl
order_word_is orders.LessEqual = refl
order_word_is orders.Greater = refl
order_word_is orders.GreaterEqual = refl

mode_in : List ℕ → Mode
mode_in text =
    if bytes_eq text (codes "READ") then modes.Read else
    if bytes_eq text (codes "WRITE") then modes.Write else
    modes.Again

mode_is : (one : Mode) → mode_in (mode_word one) ≡ one
unfolding mode_in
mode_is modes.Read = refl
mode_is modes.Write = refl
mode_is modes.Again = refl

pub flag_in : List ℕ → Bool
flag_in text = bytes_eq text (codes "1")

pub flag_is : (b : Bool) → flag_in (flag b) ≡ b
unfolding flag_in
flag_is true = refl
flag_is false = refl

call_in : List ℕ → ShippedCall
call_in text =
    if bytes_eq text (codes "PRINT_TEXT") then calls.PrintText else
    if bytes_eq text (codes "PRINT_INT") then calls.PrintInt else
    if bytes_eq text (codes "PRINT_BOOL") then calls.PrintBool else
    if bytes_eq text (codes "PRINTLN_TEXT") then calls.PrintLnText else
    if bytes_eq text (codes "PRINTLN_INT") then calls.PrintLnInt else
    if bytes_eq text (codes "PRINTLN_BOOL") then calls.PrintLnBool else
    if bytes_eq text (codes "SURRENDER") then calls.SurrenderRoot else
    if bytes_eq text (codes "ABORT") then calls.Abort else
    if bytes_eq text (codes "SPAN_LENGTH") then calls.SpanLength else
    if bytes_eq text (codes "SWAP") then calls.Swap else
    if bytes_eq text (codes "MAKE_BOX") then calls.MakeBox else
    if bytes_eq text (codes "UNBOX") then calls.Unbox else
    if bytes_eq text (codes "BOX_GET") then calls.BoxGet else
    if bytes_eq text (codes "BOX_GET_MUT") then calls.BoxGetMut else
    if bytes_eq text (codes "MAKE_BUFFER") then calls.MakeEmpty else
    if bytes_eq text (codes "DESTROY_EMPTY") then calls.DestroyEmpty else
    if bytes_eq text (codes "LENGTH") then calls.Length else
    if bytes_eq text (codes "INSERT_BACK") then calls.InsertBack else
    if bytes_eq text (codes "REMOVE_BACK") then calls.RemoveBack else
    if bytes_eq text (codes "NTH") then calls.Nth else
    if bytes_eq text (codes "REPLACE_NTH") then calls.ReplaceNth else
    if bytes_eq text (codes "ACQUIRE") then calls.AcquireTerminal else
    if bytes_eq text (codes "READ_BYTE") then calls.ReadByte else
    if bytes_eq text (codes "WRITE_BYTE") then calls.WriteByte else
    if bytes_eq text (codes "ADD_NAT8") then calls.Wrap wrapped.Add kinds.Nat8 else
    if bytes_eq text (codes "ADD_NAT16") then calls.Wrap wrapped.Add kinds.Nat16 else
    if bytes_eq text (codes "ADD_NAT32") then calls.Wrap wrapped.Add kinds.Nat32 else
    if bytes_eq text (codes "ADD_NAT64") then calls.Wrap wrapped.Add kinds.Nat64 else
    if bytes_eq text (codes "ADD_INT8") then calls.Wrap wrapped.Add kinds.Int8 else
    if bytes_eq text (codes "ADD_INT16") then calls.Wrap wrapped.Add kinds.Int16 else
    if bytes_eq text (codes "ADD_INT32") then calls.Wrap wrapped.Add kinds.Int32 else
    if bytes_eq text (codes "ADD_INT64") then calls.Wrap wrapped.Add kinds.Int64 else
    if bytes_eq text (codes "ADD_INDEX") then calls.Wrap wrapped.Add kinds.Index else
    if bytes_eq text (codes "SUBTRACT_NAT8") then calls.Wrap wrapped.Subtract kinds.Nat8 else
    if bytes_eq text (codes "SUBTRACT_NAT16") then calls.Wrap wrapped.Subtract kinds.Nat16 else
    if bytes_eq text (codes "SUBTRACT_NAT32") then calls.Wrap wrapped.Subtract kinds.Nat32 else
    if bytes_eq text (codes "SUBTRACT_NAT64") then calls.Wrap wrapped.Subtract kinds.Nat64 else
    if bytes_eq text (codes "SUBTRACT_INT8") then calls.Wrap wrapped.Subtract kinds.Int8 else
    if bytes_eq text (codes "SUBTRACT_INT16") then calls.Wrap wrapped.Subtract kinds.Int16 else
    if bytes_eq text (codes "SUBTRACT_INT32") then calls.Wrap wrapped.Subtract kinds.Int32 else
    if bytes_eq text (codes "SUBTRACT_INT64") then calls.Wrap wrapped.Subtract kinds.Int64 else
    if bytes_eq text (codes "SUBTRACT_INDEX") then calls.Wrap wrapped.Subtract kinds.Index else
    if bytes_eq text (codes "MULTIPLY_NAT8") then calls.Wrap wrapped.Multiply kinds.Nat8 else
    if bytes_eq text (codes "MULTIPLY_NAT16") then calls.Wrap wrapped.Multiply kinds.Nat16 else
    if bytes_eq text (codes "MULTIPLY_NAT32") then calls.Wrap wrapped.Multiply kinds.Nat32 else
    if bytes_eq text (codes "MULTIPLY_NAT64") then calls.Wrap wrapped.Multiply kinds.Nat64 else
    if bytes_eq text (codes "MULTIPLY_INT8") then calls.Wrap wrapped.Multiply kinds.Int8 else
    if bytes_eq text (codes "MULTIPLY_INT16") then calls.Wrap wrapped.Multiply kinds.Int16 else
    if bytes_eq text (codes "MULTIPLY_INT32") then calls.Wrap wrapped.Multiply kinds.Int32 else
    if bytes_eq text (codes "MULTIPLY_INT64") then calls.Wrap wrapped.Multiply kinds.Int64 else
    if bytes_eq text (codes "MULTIPLY_INDEX") then calls.Wrap wrapped.Multiply kinds.Index else
    if bytes_eq text (codes "TO_NAT8") then calls.Convert kinds.Nat8 else
    if bytes_eq text (codes "TO_NAT16") then calls.Convert kinds.Nat16 else
    if bytes_eq text (codes "TO_NAT32") then calls.Convert kinds.Nat32 else
    if bytes_eq text (codes "TO_NAT64") then calls.Convert kinds.Nat64 else
    if bytes_eq text (codes "TO_INT8") then calls.Convert kinds.Int8 else
    if bytes_eq text (codes "TO_INT16") then calls.Convert kinds.Int16 else
    if bytes_eq text (codes "TO_INT32") then calls.Convert kinds.Int32 else
    if bytes_eq text (codes "TO_INT64") then calls.Convert kinds.Int64 else
    if bytes_eq text (codes "TO_INDEX") then calls.Convert kinds.Index else
    calls.ReleaseTerminal

call_is : (one : ShippedCall) → call_in (call_word one) ≡ one
unfolding call_in
call_is calls.PrintText = refl
call_is calls.PrintInt = refl
call_is calls.PrintBool = refl
call_is calls.PrintLnText = refl
call_is calls.PrintLnInt = refl
call_is calls.PrintLnBool = refl
call_is calls.SurrenderRoot = refl
call_is calls.Abort = refl
call_is calls.SpanLength = refl
call_is calls.Swap = refl
call_is calls.MakeBox = refl
call_is calls.Unbox = refl
call_is calls.BoxGet = refl
call_is calls.BoxGetMut = refl
call_is calls.MakeEmpty = refl
call_is calls.DestroyEmpty = refl
call_is calls.Length = refl
call_is calls.InsertBack = refl
call_is calls.RemoveBack = refl
call_is calls.Nth = refl
call_is calls.ReplaceNth = refl
call_is calls.AcquireTerminal = refl
call_is calls.ReadByte = refl
call_is calls.WriteByte = refl
call_is calls.ReleaseTerminal = refl
call_is (calls.Wrap wrapped.Add kinds.Nat8) = refl
call_is (calls.Wrap wrapped.Add kinds.Nat16) = refl
call_is (calls.Wrap wrapped.Add kinds.Nat32) = refl
call_is (calls.Wrap wrapped.Add kinds.Nat64) = refl
call_is (calls.Wrap wrapped.Add kinds.Int8) = refl
call_is (calls.Wrap wrapped.Add kinds.Int16) = refl
call_is (calls.Wrap wrapped.Add kinds.Int32) = refl
call_is (calls.Wrap wrapped.Add kinds.Int64) = refl
call_is (calls.Wrap wrapped.Add kinds.Index) = refl
call_is (calls.Wrap wrapped.Subtract kinds.Nat8) = refl
call_is (calls.Wrap wrapped.Subtract kinds.Nat16) = refl
call_is (calls.Wrap wrapped.Subtract kinds.Nat32) = refl
call_is (calls.Wrap wrapped.Subtract kinds.Nat64) = refl
call_is (calls.Wrap wrapped.Subtract kinds.Int8) = refl
call_is (calls.Wrap wrapped.Subtract kinds.Int16) = refl
call_is (calls.Wrap wrapped.Subtract kinds.Int32) = refl
call_is (calls.Wrap wrapped.Subtract kinds.Int64) = refl
call_is (calls.Wrap wrapped.Subtract kinds.Index) = refl
call_is (calls.Wrap wrapped.Multiply kinds.Nat8) = refl
call_is (calls.Wrap wrapped.Multiply kinds.Nat16) = refl
call_is (calls.Wrap wrapped.Multiply kinds.Nat32) = refl
call_is (calls.Wrap wrapped.Multiply kinds.Nat64) = refl
call_is (calls.Wrap wrapped.Multiply kinds.Int8) = refl
call_is (calls.Wrap wrapped.Multiply kinds.Int16) = refl
call_is (calls.Wrap wrapped.Multiply kinds.Int32) = refl
call_is (calls.Wrap wrapped.Multiply kinds.Int64) = refl
call_is (calls.Wrap wrapped.Multiply kinds.Index) = refl
call_is (calls.Convert kinds.Nat8) = refl
call_is (calls.Convert kinds.Nat16) = refl
call_is (calls.Convert kinds.Nat32) = refl
call_is (calls.Convert kinds.Nat64) = refl
call_is (calls.Convert kinds.Int8) = refl
call_is (calls.Convert kinds.Int16) = refl
call_is (calls.Convert kinds.Int32) = refl
call_is (calls.Convert kinds.Int64) = refl
call_is (calls.Convert kinds.Index) = refl

-- ---- instructions

-- the text of an operand
nth : ℕ → List (List ℕ) → List ℕ
nth k ts = get_or ts k []

-- a shipped call, by the texts behind its word
shipped_in : ShippedCall → List (List ℕ) → Option (List ℕ) → Instr
shipped_in call ts None = instr.Shipped call None (order_in ts)
shipped_in call ts (Some home) = instr.Shipped call (Some (value_in (nth 0 ts))) (order_in (drop 1 ts))

-- the making of a value
made_in : ℕ → ℕ → List ℕ → Option (List ℕ) → Instr
made_in of tag order None = instr.Discard
made_in of tag order (Some home) = instr.Make of tag order home

-- the instruction of a word and of texts
instruction_in : List ℕ → List (List ℕ) → Instr
instruction_in word ts =
    if bytes_eq word (codes "PUSH") then instr.Push (kind_in (nth 0 ts)) (signed_in (nth 1 ts)) else
    if bytes_eq word (codes "PUSHBOOL") then instr.PushBool (flag_in (nth 0 ts)) else
    if bytes_eq word (codes "PUSHUNIT") then instr.PushUnit else
    if bytes_eq word (codes "PUSHTEXT") then instr.PushText (value_in (nth 0 ts)) else
    if bytes_eq word (codes "LOOK") then instr.Look (value_in (nth 0 ts)) (values_in (drop 1 ts)) else
    if bytes_eq word (codes "MOVE") then instr.Move (value_in (nth 0 ts)) else
    if bytes_eq word (codes "STORE") then instr.Store (value_in (nth 0 ts)) else
    if bytes_eq word (codes "SET") then instr.Set (value_in (nth 0 ts)) (values_in (drop 1 ts)) else
    if bytes_eq word (codes "DROP") then instr.Discard else
    if bytes_eq word (codes "ARITH") then instr.Arith (exact_in (nth 0 ts)) (kind_in (nth 1 ts)) else
    if bytes_eq word (codes "WRAP") then instr.Wrap (wrapped_in (nth 0 ts)) (kind_in (nth 1 ts)) (values_in (drop 2 ts)) else
    if bytes_eq word (codes "COMPARE") then instr.Compare (order_word_in (nth 0 ts)) (compared_in (nth 1 ts)) else
    if bytes_eq word (codes "NOT") then instr.Not else
    if bytes_eq word (codes "CONVERT") then instr.Convert (kind_in (nth 0 ts)) else
    if bytes_eq word (codes "JUMP") then instr.Jump (label_in (nth 0 ts)) else
    if bytes_eq word (codes "JUMPNOT") then instr.JumpNot (label_in (nth 0 ts)) else
    if bytes_eq word (codes "FORTEST")
    then instr.ForTest (value_in (nth 0 ts)) (value_in (nth 1 ts)) (label_in (nth 2 ts)) else
    if bytes_eq word (codes "FORSTEP")
    then instr.ForStep (value_in (nth 0 ts)) (value_in (nth 1 ts)) (label_in (nth 2 ts)) else
    if bytes_eq word (codes "MAKE")
    then made_in (value_in (nth 0 ts)) (value_in (nth 1 ts)) (order_in (drop 2 ts)) (home_in (drop 2 ts)) else
    if bytes_eq word (codes "TAKE") then instr.Take (value_in (nth 0 ts)) else
    if bytes_eq word (codes "CASE") then instr.Case (value_in (nth 0 ts)) (labels_in (drop 1 ts)) else
    if bytes_eq word (codes "CALL") then instr.Call (value_in (nth 0 ts)) (values_in (drop 1 ts)) else
    if bytes_eq word (codes "PRIM") then shipped_in (call_in (nth 0 ts)) (drop 1 ts) (home_in (drop 1 ts)) else
    if bytes_eq word (codes "RETURN") then instr.Return else
    if bytes_eq word (codes "READ") then instr.Read (value_in (nth 0 ts)) (values_in (drop 1 ts)) else
    if bytes_eq word (codes "PUT") then instr.Put (value_in (nth 0 ts)) (values_in (drop 1 ts)) else
    if bytes_eq word (codes "DEREF") then instr.Deref else
    if bytes_eq word (codes "OPEN") then instr.Open (value_in (nth 0 ts)) (mode_in (nth 1 ts)) else
    if bytes_eq word (codes "AGAIN") then instr.Again (value_in (nth 0 ts)) else
    if bytes_eq word (codes "PART") then instr.Part (value_in (nth 0 ts)) (values_in (drop 1 ts)) else
    if bytes_eq word (codes "BIND") then instr.Bind (value_in (nth 0 ts)) (value_in (nth 1 ts)) (mode_in (nth 2 ts)) else
    instr.Close (value_in (nth 0 ts))

pub two : {A B C : Type 0} (f : A → B → C) {a a2 : A} {b b2 : B} → a ≡ a2 → b ≡ b2 → f a b ≡ f a2 b2
two f {a} {a2} {b} {b2} e g = ap (λ x. f x b) e ∙ ap (λ y. f a2 y) g

pub three : {A B C D : Type 0} (f : A → B → C → D) {a a2 : A} {b b2 : B} {c c2 : C} → a ≡ a2 → b ≡ b2 → c ≡ c2
    → f a b c ≡ f a2 b2 c2
three f {a} {a2} {b} {b2} {c} {c2} e g h = two (λ x y. f x y c) e g ∙ ap (λ z. f a2 b2 z) h

made_is : (of tag : ℕ) (order home : List ℕ) → IsToldInstruction (instr.Make of tag order home)
    → (a b : ℕ) → a ≡ of → b ≡ tag
    → made_in a b (order_in (texts_of (numbers order ++ name home ∷ [])))
    (home_in (texts_of (numbers order ++ name home ∷ []))) ≡ instr.Make of tag order home
unfolding made_in
made_is of tag order home h a b e f =
    ap (made_in a b (order_in (texts_of (numbers order ++ name home ∷ []))))
    (home_is order (name home ∷ []) h.1.1 ∙ home_there home)
    ∙ three (λ x y z. instr.Make x y z home) e f (order_is order (name home ∷ []) h.1.1 (no_order home))

numbers_end : (ns : List ℕ) → numbers ns ++ [] ≡ numbers ns
numbers_end ns = append-nil (numbers ns)

no_home : (order : List ℕ) → AllByRecursion IsTold (numbers order)
    → home_in (texts_of (numbers order)) ≡ None
unfolding home_in
no_home order h =
    ap (λ os. home_in (texts_of os)) (sym (numbers_end order))
    ∙ home_is order [] (subst (AllByRecursion IsTold) (sym (numbers_end order)) h)

order_alone : (order : List ℕ) → AllByRecursion IsTold (numbers order)
    → order_in (texts_of (numbers order)) ≡ order
unfolding order_in
order_alone order h =
    ap (λ os. order_in (texts_of os)) (sym (numbers_end order))
    ∙ order_is order [] (subst (AllByRecursion IsTold) (sym (numbers_end order)) h) refl

shipped_is : (call : ShippedCall) (of : Option ℕ) (order : List ℕ)
    → AllByRecursion IsTold (call_operands call of order) → (c : ShippedCall) → c ≡ call
    → shipped_in c (texts_of (call_operands call of order)) (home_in (texts_of (call_operands call of order)))
    ≡ instr.Shipped call of order
unfolding shipped_in nth
shipped_is call None order h c e =
    ap (shipped_in c (texts_of (numbers order))) (no_home order h)
    ∙ two (λ x y. instr.Shipped x None y) e (order_alone order h)
shipped_is call (Some of) order h c e =
    let os = numbers order ++ name (call_home call) ∷ [] in
    ap (shipped_in c (decimal of ∷ texts_of os))
    (home_is (of ∷ order) (name (call_home call) ∷ []) h ∙ home_there (call_home call))
    ∙ three (λ x y z. instr.Shipped x (Some y) z) e (value_is of h.0)
    (order_is order (name (call_home call) ∷ []) h.1 (no_order (call_home call)))

-- an instruction is the one that its word and the texts of its operands tell
instruction_is : (i : Instr) → IsToldInstruction i
    → instruction_in (application i).0 (texts_of (application i).1) ≡ i
unfolding instruction_in nth
instruction_is (instr.Push kind value) h = two instr.Push (kind_is kind) (signed_is value h.1.0)
instruction_is (instr.PushBool value) h = ap instr.PushBool (flag_is value)
instruction_is instr.PushUnit h = refl
instruction_is (instr.PushText n) h = ap instr.PushText (value_is n h.0)
instruction_is (instr.Look slot path) h = two instr.Look (value_is slot h.0) (values_are path h.1)
instruction_is (instr.Move slot) h = ap instr.Move (value_is slot h.0)
instruction_is (instr.Store slot) h = ap instr.Store (value_is slot h.0)
instruction_is (instr.Set slot path) h = two instr.Set (value_is slot h.0) (values_are path h.1)
instruction_is instr.Discard h = refl
instruction_is (instr.Arith op kind) h = two instr.Arith (exact_is op) (kind_is kind)
instruction_is (instr.Wrap op kind order) h = three instr.Wrap (wrapped_is op) (kind_is kind) (values_are order h.1.1)
instruction_is (instr.Compare order kind) h = two instr.Compare (order_word_is order) (compared_is kind)
instruction_is instr.Not h = refl
instruction_is (instr.Convert kind) h = ap instr.Convert (kind_is kind)
instruction_is (instr.Jump to) h = ap instr.Jump (label_is to h.0)
instruction_is (instr.JumpNot to) h = ap instr.JumpNot (label_is to h.0)
instruction_is (instr.ForTest counter last to) h =
    three instr.ForTest (value_is counter h.0) (value_is last h.1.0) (label_is to h.1.1.0)
instruction_is (instr.ForStep counter last to) h =
    three instr.ForStep (value_is counter h.0) (value_is last h.1.0) (label_is to h.1.1.0)
instruction_is (instr.Make of tag order home) h =
    made_is of tag order home h (value_in (decimal of)) (value_in (decimal tag)) (value_is of h.0) (value_is tag h.1.0)
instruction_is (instr.Take slot) h = ap instr.Take (value_is slot h.0)
instruction_is (instr.Case slot targets) h = two instr.Case (value_is slot h.0) (labels_are targets h.1)
instruction_is (instr.Call function order) h = two instr.Call (value_is function h.0) (values_are order h.1)
instruction_is (instr.Shipped call of order) h = shipped_is call of order h.1 (call_in (call_word call)) (call_is call)
instruction_is instr.Return h = refl
instruction_is (instr.Read slot path) h = two instr.Read (value_is slot h.0) (values_are path h.1)
instruction_is (instr.Put slot path) h = two instr.Put (value_is slot h.0) (values_are path h.1)
instruction_is instr.Deref h = refl
instruction_is (instr.Open slot mode) h = two instr.Open (value_is slot h.0) (mode_is mode)
instruction_is (instr.Again slot) h = ap instr.Again (value_is slot h.0)
instruction_is (instr.Part slot path) h = two instr.Part (value_is slot h.0) (values_are path h.1)
instruction_is (instr.Bind from into mode) h = three instr.Bind (value_is from h.0) (value_is into h.1.0) (mode_is mode)
instruction_is (instr.Close count) h = ap instr.Close (value_is count h.0)

-- two instructions of one word and of one list of texts are one
pub same_instruction : (i j : Instr) → IsToldInstruction i → IsToldInstruction j
    → (application i).0 ≡ (application j).0 → texts_of (application i).1 ≡ texts_of (application j).1 → i ≡ j
same_instruction i j a b e f = sym (instruction_is i a) ∙ two instruction_in e f ∙ instruction_is j b
