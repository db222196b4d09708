-- Code that its text tells: its numbers are as wide as the code's types make them, and no type's text and no
-- module's name has a quotation mark in it.
use Rattle.std.specs.Prelude.{◌≢◌, ℕ, ℤ, pos, negsuc, ◌<◌, ◌^◌, List, length}
use Rattle.std.specs.List.{AllByRecursion}
use Rattle.au_low.specs.declared.code.Code.{Code}
use Rattle.au_low.specs.declared.code.Function.{Function}
use Rattle.au_low.specs.declared.code.LowType.{LowType}
use Rattle.au_low.specs.declared.instructions.Instr.{Instr}
use Rattle.au_cprint.specs.Words.{Operand, plain, number, signed, label, name}
use Rattle.au_cprint.specs.Instructions.{application}

-- a text without a quotation mark
abbrev pub IsUnquoted : List ℕ → Type 0
IsUnquoted text = AllByRecursion (λ byte. byte ≢ 34) text

-- a number of 32 bits
abbrev pub IsShort : ℕ → Type 0
IsShort n = n < 2 ^ 32

-- a number of 128 bits with a sign
abbrev pub IsWide : ℤ → Type 0
IsWide (pos n) = n < 2 ^ 127
IsWide (negsuc n) = n < 2 ^ 127

-- an operand
abbrev pub IsTold : Operand → Type 0
IsTold (plain text) = Unit {0}
IsTold (number n) = IsShort n
IsTold (signed z) = IsWide z
IsTold (label n) = IsShort n
IsTold (name text) = IsUnquoted text

-- an instruction
abbrev pub IsToldInstruction : Instr → Type 0
IsToldInstruction instr = AllByRecursion IsTold (application instr).1

-- a text's length is a number of 64 bits
abbrev pub IsToldText : List ℕ → Type 0
IsToldText text = length text < 2 ^ 64

-- a type
abbrev pub IsToldType : LowType → Type 0
IsToldType type = IsUnquoted type.text × IsUnquoted type.«module»

-- a function
pub record IsToldFunction (function : Function) : Type 0 where
  pub params : IsShort function.params
  pub slots : IsShort function.slots
  pub code : AllByRecursion IsToldInstruction function.code

-- code
pub record IsToldCode (code : Code) : Type 0 where
  pub texts : AllByRecursion IsToldText code.texts
  pub types : AllByRecursion IsToldType code.types
  pub functions : AllByRecursion IsToldFunction code.functions
