-- The line of each instruction.
use Rattle.std.specs.Prelude.{ℕ, List, [], ◌∷◌, ◌++◌, Option, None, Some, codes, map}
use Rattle.au_shipped.specs.declared.prims.ShippedCall.{ShippedCall}
use Rattle.au_low.specs.declared.instructions.Instr.{Instr}
use Rattle.au_low.specs.declared.instructions.Instr.TheVariants.{Push, PushBool, PushUnit, PushText, Look}
use Rattle.au_low.specs.declared.instructions.Instr.TheVariants.{Move, Store, Set, Discard, Arith, Wrap}
use Rattle.au_low.specs.declared.instructions.Instr.TheVariants.{Compare, Not, Convert, Jump, JumpNot}
use Rattle.au_low.specs.declared.instructions.Instr.TheVariants.{ForTest, ForStep, Make, Take, Case, Call}
use Rattle.au_low.specs.declared.instructions.Instr.TheVariants.{Shipped, Return, Read, Put, Deref, Open}
use Rattle.au_low.specs.declared.instructions.Instr.TheVariants.{Again, Part, Bind, Close}
use Rattle.au_cprint.specs.Words.{Operand, plain, number, signed, label, name, label_text, flag, applied}
use Rattle.au_cprint.specs.Words.{kind_word, compared_word, exact_word}
use Rattle.au_cprint.specs.Words.{wrapped_word, order_word, mode_word, call_word, call_home}

-- numbers, and labels, as operands
abbrev pub numbers : List ℕ → List Operand
numbers ns = map number ns

abbrev pub labels : List ℕ → List Operand
labels ns = map label ns

-- The operands of a shipped call behind its word. Where it has a type, that comes first, and last the module
-- that declares the call.
abbrev pub call_operands : ShippedCall → Option ℕ → List ℕ → List Operand
call_operands call None order = numbers order
call_operands call (Some of) order = number of ∷ (numbers order ++ name (call_home call) ∷ [])

-- the word and the operands of an instruction
abbrev pub application : Instr → List ℕ × List Operand
application (Push kind value) = (codes "PUSH", plain (kind_word kind) ∷ signed value ∷ [])
application (PushBool value) = (codes "PUSHBOOL", plain (flag value) ∷ [])
application PushUnit = (codes "PUSHUNIT", [])
application (PushText n) = (codes "PUSHTEXT", number n ∷ [])
application (Look slot path) = (codes "LOOK", number slot ∷ numbers path)
application (Move slot) = (codes "MOVE", number slot ∷ [])
application (Store slot) = (codes "STORE", number slot ∷ [])
application (Set slot path) = (codes "SET", number slot ∷ numbers path)
application Discard = (codes "DROP", [])
application (Arith op kind) =
    (codes "ARITH", plain (exact_word op) ∷ plain (kind_word kind) ∷ [])
application (Wrap op kind order) =
    (codes "WRAP", plain (wrapped_word op) ∷ plain (kind_word kind) ∷ numbers order)
application (Compare order kind) =
    (codes "COMPARE", plain (order_word order) ∷ plain (compared_word kind) ∷ [])
application Not = (codes "NOT", [])
application (Convert kind) = (codes "CONVERT", plain (kind_word kind) ∷ [])
application (Jump to) = (codes "JUMP", label to ∷ [])
application (JumpNot to) = (codes "JUMPNOT", label to ∷ [])
application (ForTest counter last to) =
    (codes "FORTEST", number counter ∷ number last ∷ label to ∷ [])
application (ForStep counter last to) =
    (codes "FORSTEP", number counter ∷ number last ∷ label to ∷ [])
application (Make of tag order home) =
    (codes "MAKE", number of ∷ number tag ∷ (numbers order ++ name home ∷ []))
application (Take slot) = (codes "TAKE", number slot ∷ [])
application (Case slot targets) = (codes "CASE", number slot ∷ labels targets)
application (Call function order) = (codes "CALL", number function ∷ numbers order)
application (Shipped call of order) =
    (codes "PRIM", plain (call_word call) ∷ call_operands call of order)
application Return = (codes "RETURN", [])
application (Read slot path) = (codes "READ", number slot ∷ numbers path)
application (Put slot path) = (codes "PUT", number slot ∷ numbers path)
application Deref = (codes "DEREF", [])
application (Open slot mode) = (codes "OPEN", number slot ∷ plain (mode_word mode) ∷ [])
application (Again slot) = (codes "AGAIN", number slot ∷ [])
application (Part slot path) = (codes "PART", number slot ∷ numbers path)
application (Bind from into mode) =
    (codes "BIND", number from ∷ number into ∷ plain (mode_word mode) ∷ [])
application (Close count) = (codes "CLOSE", number count ∷ [])

-- an instruction
abbrev pub instruction_text : Instr → List ℕ
instruction_text instr = applied (application instr).0 (application instr).1

-- the line of an instruction: its label, a colon, a blank, itself, a semicolon and a newline
abbrev pub instruction_line : ℕ → Instr → List ℕ
instruction_line n instr = label_text n ++ 58 ∷ 32 ∷ (instruction_text instr ++ 59 ∷ 10 ∷ [])
