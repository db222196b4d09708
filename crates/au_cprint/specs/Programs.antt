-- The C text of lowered code.
use Rattle.std.specs.Prelude.{ℕ, ◌+◌, Bool, ◌/◌, ◌%◌, List, [], ◌∷◌, ◌++◌, length, codes}
use Rattle.std.specs.List.{flat_map}
use Rattle.au_low.specs.declared.code.Code.{Code}
use Rattle.au_low.specs.declared.code.Function.{Function}
use Rattle.au_low.specs.declared.code.LowType.{LowType}
use Rattle.au_cprint.specs.declared.counting.TheConstants.{COUNTING}
use Rattle.au_cprint.specs.declared.macros.TheConstants.{MACROS}
use Rattle.au_cprint.specs.declared.runtime.TheConstants.{RUNTIME}
use Rattle.au_cprint.specs.Words.{Operand, plain, number, name, flag, applied}
use Rattle.au_cprint.specs.Instructions.{instruction_line}

-- what is written for each of a list's items and its number, which counts from n
abbrev pub numbered : {A : Type 0} → (ℕ → A → List ℕ) → ℕ → List A → List ℕ
numbered text n [] = []
numbered text n (one ∷ rest) = text n one ++ numbered text (n + 1) rest

-- a line: a word with its operands, and a newline
abbrev pub line : List ℕ → List Operand → List ℕ
line word operands = applied word operands ++ 10 ∷ []

-- a byte of a text: a backslash and three octal digits
abbrev pub octal : ℕ → List ℕ
octal byte = 92 ∷ (48 + byte / 64) ∷ (48 + byte / 8 % 8) ∷ (48 + byte % 8) ∷ []

-- a text: its number, its length and its bytes
abbrev pub text_line : ℕ → List ℕ → List ℕ
text_line n bytes =
    line (codes "TEXT") (number n ∷ number (length bytes) ∷ name (flat_map octal bytes) ∷ [])

-- a type: its number, its text, the module that declares it, and whether it is linear
abbrev pub type_line : ℕ → LowType → List ℕ
type_line n type =
    line (codes "TYPE") (number n ∷ name type.text ∷ name type.«module» ∷ plain (flag type.linear) ∷ [])

-- a function that will come
abbrev pub declare_line : ℕ → Function → List ℕ
declare_line n function = line (codes "DECLARE") (number n ∷ [])

-- a function: its number, how many parameters and slots it has, its instructions, and its end
abbrev pub function_text : ℕ → Function → List ℕ
function_text n function =
    line (codes "FUNCTION") (number n ∷ number function.params ∷ number function.slots ∷ [])
    ++ (numbered instruction_line 0 function.code ++ line (codes "END") (number n ∷ []))

-- the entry, which is function 0, and whether it takes the root
abbrev pub entry_line : Bool → List ℕ
entry_line root = line (codes "ENTRY") (number 0 ∷ plain (flag root) ∷ [])

-- the lines behind the prelude: texts, types, what will come, functions, and the entry
abbrev pub lines_of : Code → List ℕ
lines_of code =
    numbered text_line 0 code.texts
    ++ (numbered type_line 0 code.types
    ++ (numbered declare_line 0 code.functions
    ++ (numbered function_text 0 code.functions
    ++ entry_line code.root)))

-- what stands before the code: the runtime, the counting of operands, and the words of code as macros
unfoldable pub prelude : List ℕ
prelude = RUNTIME.now ++ (COUNTING.now ++ MACROS.now)

-- the C text of lowered code
unfoldable pub c_text : Code → List ℕ
c_text code = prelude ++ lines_of code
