-- The words of instructions and among their operands hold letters, digits and low lines alone.
use Rattle.std.proofs.Common.{◌≡◌, ℕ, ◌<◌, ◌≤◌, Bool, true, false, cond, List, [], ◌∷◌, ◌++◌, refl, sym, arith}
use Rattle.std.proofs.Common.{nat_lt, ltb-false, true≢false, Option, Some, None}
use Rattle.au_base.specs.declared.kinds.IntKind.{IntKind}
use Rattle.au_base.specs.declared.kinds.IntKind.TheVariants as kinds
use Rattle.au_ints.specs.declared.operations.IntOp.{IntOp}
use Rattle.au_ints.specs.declared.operations.IntOp.TheVariants as exact
use Rattle.au_ints.specs.declared.operations.WrapOp.{WrapOp}
use Rattle.au_ints.specs.declared.operations.WrapOp.TheVariants as wrapped
use Rattle.au_ints.specs.declared.operations.Order.{Order}
use Rattle.au_ints.specs.declared.operations.Order.TheVariants as orders
use Rattle.au_shipped.specs.declared.prims.ShippedCall.{ShippedCall}
use Rattle.au_shipped.specs.declared.prims.ShippedCall.TheVariants as calls
use Rattle.au_low.specs.declared.instructions.Mode.{Mode}
use Rattle.au_low.specs.declared.instructions.Mode.TheVariants as modes
use Rattle.au_low.specs.declared.instructions.Instr.{Instr}
use Rattle.au_low.specs.declared.instructions.Instr.TheVariants as instr
use Rattle.au_cprint.specs.Instructions.{numbers, labels, application, call_operands}
use Rattle.au_cprint.specs.Told.{IsTold, IsShort, IsWide, IsToldInstruction}
use Rattle.au_cprint.specs.Words.{Operand, plain, number, signed, label, name, operand_text, quoted, flag}
use Rattle.au_cprint.specs.Words.{kind_word, compared_word, exact_word, wrapped_word, order_word, mode_word}
use Rattle.au_cprint.specs.Words.{call_word, call_home}
use Rattle.au_cprint.proofs.RunLemmas.{texts_of}
use Rattle.std.specs.List.{AllByRecursion}
use Rattle.std.specs.Prelude.{codes}
use Rattle.au_cprint.proofs.RunLemmas.{IsInner, IsOperand, run, IsWordOperand}

-- whether each byte may be in a word
all_inner : List ℕ → Bool
all_inner [] = true
all_inner (b ∷ rest) = cond (nat_lt b 45) false (all_inner rest)

inner_step : (b : ℕ) (rest : List ℕ) → (all_inner rest ≡ true → AllByRecursion IsInner rest) → (low : Bool)
    → nat_lt b 45 ≡ low → cond low false (all_inner rest) ≡ true → AllByRecursion IsInner (b ∷ rest)
inner_step b rest go true e k = absurd (true≢false (sym k))
inner_step b rest go false e k = (omega (arith, ltb-false b 45 e), go k)

inner_by : (text : List ℕ) → all_inner text ≡ true → AllByRecursion IsInner text
unfolding all_inner
inner_by [] h = tt
inner_by (b ∷ rest) h = inner_step b rest (inner_by rest) (nat_lt b 45) refl h

-- a word that isn't empty
word : (b : ℕ) (rest : List ℕ) → all_inner (b ∷ rest) ≡ true → IsOperand (b ∷ rest)
word b rest h = let all = inner_by (b ∷ rest) h in run b rest refl all.0 all.1

kind_operand : (one : IntKind) → IsOperand (kind_word one)
unfolding all_inner
kind_operand kinds.Nat8 = word _ _ refl
kind_operand kinds.Nat16 = word _ _ refl
kind_operand kinds.Nat32 = word _ _ refl
kind_operand kinds.Nat64 = word _ _ refl
kind_operand kinds.Int8 = word _ _ refl
kind_operand kinds.Int16 = word _ _ refl
kind_operand kinds.Int32 = word _ _ refl
kind_operand kinds.Int64 = word _ _ refl
kind_operand kinds.Index = word _ _ refl

compared_operand : (of : Option IntKind) → IsOperand (compared_word of)
unfolding all_inner
compared_operand None = word _ _ refl
compared_operand (Some kind) = kind_operand kind

exact_operand : (one : IntOp) → IsOperand (exact_word one)
unfolding all_inner
exact_operand exact.Add = word _ _ refl
exact_operand exact.Subtract = word _ _ refl
exact_operand exact.Multiply = word _ _ refl
exact_operand exact.Divide = word _ _ refl

wrapped_operand : (one : WrapOp) → IsOperand (wrapped_word one)
unfolding all_inner
wrapped_operand wrapped.Add = word _ _ refl
wrapped_operand wrapped.Subtract = word _ _ refl
wrapped_operand wrapped.Multiply = word _ _ refl

order_operand : (one : Order) → IsOperand (order_word one)
unfolding all_inner
order_operand orders.Equal = word _ _ refl
order_operand orders.NotEqual = word _ _ refl
order_operand orders.Less = word _ _ refl
order_operand orders.LessEqual = word _ _ refl
order_operand orders.Greater = word _ _ refl
order_operand orders.GreaterEqual = word _ _ refl

mode_operand : (one : Mode) → IsOperand (mode_word one)
unfolding all_inner
mode_operand modes.Read = word _ _ refl
mode_operand modes.Write = word _ _ refl
mode_operand modes.Again = word _ _ refl

flag_word : (one : Bool) → IsOperand (flag one)
unfolding all_inner
flag_word true = word _ _ refl
flag_word false = word _ _ refl

call_operand : (one : ShippedCall) → IsOperand (call_word one)
unfolding all_inner
call_operand calls.PrintText = word _ _ refl
call_operand calls.PrintInt = word _ _ refl
call_operand calls.PrintBool = word _ _ refl
call_operand calls.PrintLnText = word _ _ refl
call_operand calls.PrintLnInt = word _ _ refl
call_operand calls.PrintLnBool = word _ _ refl
call_operand calls.SurrenderRoot = word _ _ refl
call_operand calls.Abort = word _ _ refl
call_operand calls.SpanLength = word _ _ refl
call_operand calls.Swap = word _ _ refl
call_operand calls.MakeBox = word _ _ refl
call_operand calls.Unbox = word _ _ refl
call_operand calls.BoxGet = word _ _ refl
call_operand calls.BoxGetMut = word _ _ refl
call_operand calls.MakeEmpty = word _ _ refl
call_operand calls.DestroyEmpty = word _ _ refl
call_operand calls.Length = word _ _ refl
call_operand calls.InsertBack = word _ _ refl
call_operand calls.RemoveBack = word _ _ refl
call_operand calls.Nth = word _ _ refl
call_operand calls.ReplaceNth = word _ _ refl
call_operand calls.AcquireTerminal = word _ _ refl
call_operand calls.ReadByte = word _ _ refl
call_operand calls.WriteByte = word _ _ refl
call_operand calls.ReleaseTerminal = word _ _ refl
call_operand (calls.Wrap wrapped.Add kinds.Nat8) = word _ _ refl
call_operand (calls.Wrap wrapped.Add kinds.Nat16) = word _ _ refl
call_operand (calls.Wrap wrapped.Add kinds.Nat32) = word _ _ refl
call_operand (calls.Wrap wrapped.Add kinds.Nat64) = word _ _ refl
call_operand (calls.Wrap wrapped.Add kinds.Int8) = word _ _ refl
call_operand (calls.Wrap wrapped.Add kinds.Int16) = word _ _ refl
call_operand (calls.Wrap wrapped.Add kinds.Int32) = word _ _ refl
call_operand (calls.Wrap wrapped.Add kinds.Int64) = word _ _ refl
call_operand (calls.Wrap wrapped.Add kinds.Index) = word _ _ refl
call_operand (calls.Wrap wrapped.Subtract kinds.Nat8) = word _ _ refl
call_operand (calls.Wrap wrapped.Subtract kinds.Nat16) = word _ _ refl
call_operand (calls.Wrap wrapped.Subtract kinds.Nat32) = word _ _ refl
call_operand (calls.Wrap wrapped.Subtract kinds.Nat64) = word _ _ refl
call_operand (calls.Wrap wrapped.Subtract kinds.Int8) = word _ _ refl
call_operand (calls.Wrap wrapped.Subtract kinds.Int16) = word _ _ refl
call_operand (calls.Wrap wrapped.Subtract kinds.Int32) = word _ _ refl
call_operand (calls.Wrap wrapped.Subtract kinds.Int64) = word _ _ refl
call_operand (calls.Wrap wrapped.Subtract kinds.Index) = word _ _ refl
call_operand (calls.Wrap wrapped.Multiply kinds.Nat8) = word _ _ refl
call_operand (calls.Wrap wrapped.Multiply kinds.Nat16) = word _ _ refl
call_operand (calls.Wrap wrapped.Multiply kinds.Nat32) = word _ _ refl
call_operand (calls.Wrap wrapped.Multiply kinds.Nat64) = word _ _ refl
call_operand (calls.Wrap wrapped.Multiply kinds.Int8) = word _ _ refl
call_operand (calls.Wrap wrapped.Multiply kinds.Int16) = word _ _ refl
call_operand (calls.Wrap wrapped.Multiply kinds.Int32) = word _ _ refl
call_operand (calls.Wrap wrapped.Multiply kinds.Int64) = word _ _ refl
call_operand (calls.Wrap wrapped.Multiply kinds.Index) = word _ _ refl
call_operand (calls.Convert kinds.Nat8) = word _ _ refl
call_operand (calls.Convert kinds.Nat16) = word _ _ refl
call_operand (calls.Convert kinds.Nat32) = word _ _ refl
call_operand (calls.Convert kinds.Nat64) = word _ _ refl
call_operand (calls.Convert kinds.Int8) = word _ _ refl
call_operand (calls.Convert kinds.Int16) = word _ _ refl
call_operand (calls.Convert kinds.Int32) = word _ _ refl
call_operand (calls.Convert kinds.Int64) = word _ _ refl
call_operand (calls.Convert kinds.Index) = word _ _ refl

pub word_inner : (i : Instr) → AllByRecursion IsInner (application i).0
unfolding all_inner
word_inner (instr.Push kind value) = inner_by (codes "PUSH") refl
word_inner (instr.PushBool value) = inner_by (codes "PUSHBOOL") refl
word_inner instr.PushUnit = inner_by (codes "PUSHUNIT") refl
word_inner (instr.PushText n) = inner_by (codes "PUSHTEXT") refl
word_inner (instr.Look slot path) = inner_by (codes "LOOK") refl
word_inner (instr.Move slot) = inner_by (codes "MOVE") refl
word_inner (instr.Store slot) = inner_by (codes "STORE") refl
word_inner (instr.Set slot path) = inner_by (codes "SET") refl
word_inner instr.Discard = inner_by (codes "DROP") refl
word_inner (instr.Arith op kind) = inner_by (codes "ARITH") refl
word_inner (instr.Wrap op kind order) = inner_by (codes "WRAP") refl
word_inner (instr.Compare order kind) = inner_by (codes "COMPARE") refl
word_inner instr.Not = inner_by (codes "NOT") refl
word_inner (instr.Convert kind) = inner_by (codes "CONVERT") refl
word_inner (instr.Jump to) = inner_by (codes "JUMP") refl
word_inner (instr.JumpNot to) = inner_by (codes "JUMPNOT") refl
word_inner (instr.ForTest counter last to) = inner_by (codes "FORTEST") refl
word_inner (instr.ForStep counter last to) = inner_by (codes "FORSTEP") refl
word_inner (instr.Make of tag order home) = inner_by (codes "MAKE") refl
word_inner (instr.Take slot) = inner_by (codes "TAKE") refl
word_inner (instr.Case slot targets) = inner_by (codes "CASE") refl
word_inner (instr.Call function order) = inner_by (codes "CALL") refl
word_inner (instr.Shipped call of order) = inner_by (codes "PRIM") refl
word_inner instr.Return = inner_by (codes "RETURN") refl
word_inner (instr.Read slot path) = inner_by (codes "READ") refl
word_inner (instr.Put slot path) = inner_by (codes "PUT") refl
word_inner instr.Deref = inner_by (codes "DEREF") refl
word_inner (instr.Open slot mode) = inner_by (codes "OPEN") refl
word_inner (instr.Again slot) = inner_by (codes "AGAIN") refl
word_inner (instr.Part slot path) = inner_by (codes "PART") refl
word_inner (instr.Bind from into mode) = inner_by (codes "BIND") refl
word_inner (instr.Close count) = inner_by (codes "CLOSE") refl

numbers_words : (ns : List ℕ) (more : List Operand) → AllByRecursion IsWordOperand more
    → AllByRecursion IsWordOperand (numbers ns ++ more)
numbers_words [] more h = h
numbers_words (n ∷ ns) more h = (tt, numbers_words ns more h)

only_numbers : (ns : List ℕ) → AllByRecursion IsWordOperand (numbers ns)
only_numbers [] = tt
only_numbers (n ∷ ns) = (tt, only_numbers ns)

only_labels : (ns : List ℕ) → AllByRecursion IsWordOperand (labels ns)
only_labels [] = tt
only_labels (n ∷ ns) = (tt, only_labels ns)

call_words : (call : ShippedCall) (of : Option ℕ) (order : List ℕ)
    → AllByRecursion IsWordOperand (call_operands call of order)
call_words call None order = only_numbers order
call_words call (Some of) order = (tt, numbers_words order (name (call_home call) ∷ []) (tt, tt))

pub are_words : (i : Instr) → AllByRecursion IsWordOperand (application i).1
are_words (instr.Push kind value) = (kind_operand kind, (tt, tt))
are_words (instr.PushBool value) = (flag_word value, tt)
are_words instr.PushUnit = tt
are_words (instr.PushText n) = (tt, tt)
are_words (instr.Look slot path) = (tt, only_numbers path)
are_words (instr.Move slot) = (tt, tt)
are_words (instr.Store slot) = (tt, tt)
are_words (instr.Set slot path) = (tt, only_numbers path)
are_words instr.Discard = tt
are_words (instr.Arith op kind) = (exact_operand op, (kind_operand kind, tt))
are_words (instr.Wrap op kind order) = (wrapped_operand op, (kind_operand kind, only_numbers order))
are_words (instr.Compare order kind) = (order_operand order, (compared_operand kind, tt))
are_words instr.Not = tt
are_words (instr.Convert kind) = (kind_operand kind, tt)
are_words (instr.Jump to) = (tt, tt)
are_words (instr.JumpNot to) = (tt, tt)
are_words (instr.ForTest counter last to) = (tt, (tt, (tt, tt)))
are_words (instr.ForStep counter last to) = (tt, (tt, (tt, tt)))
are_words (instr.Make of tag order home) = (tt, (tt, numbers_words order (name home ∷ []) (tt, tt)))
are_words (instr.Take slot) = (tt, tt)
are_words (instr.Case slot targets) = (tt, only_labels targets)
are_words (instr.Call function order) = (tt, only_numbers order)
are_words (instr.Shipped call of order) = (call_operand call, call_words call of order)
are_words instr.Return = tt
are_words (instr.Read slot path) = (tt, only_numbers path)
are_words (instr.Put slot path) = (tt, only_numbers path)
are_words instr.Deref = tt
are_words (instr.Open slot mode) = (tt, (mode_operand mode, tt))
are_words (instr.Again slot) = (tt, tt)
are_words (instr.Part slot path) = (tt, only_numbers path)
are_words (instr.Bind from into mode) = (tt, (tt, (mode_operand mode, tt)))
are_words (instr.Close count) = (tt, tt)
