-- Code whose names are plain: they are put together of names as files have them.
use Rattle.std.specs.Prelude.{◌≡◌, ℕ, ◌==◌, ◌||◌, Bool, true, List, codes}
use Rattle.std.specs.List.{AllByRecursion, list_all, list_any}
use Rattle.au_lexer.specs.Bytes.{is_name_byte}
use Rattle.au_low.specs.declared.code.Code.{Code}
use Rattle.au_low.specs.declared.code.Function.{Function}
use Rattle.au_low.specs.declared.code.LowType.{LowType}
use Rattle.au_low.specs.declared.instructions.Instr.{Instr}
use Rattle.au_low.specs.declared.instructions.Instr.TheVariants.{Make}

-- a letter, a digit or `_`, or a byte that names of modules and texts of types have between such
abbrev pub is_plain : ℕ → Bool
is_plain byte = is_name_byte byte || list_any (λ one. one == byte) (codes ".:[], &!")

-- all bytes of a text are so
abbrev pub IsPlain : List ℕ → Type 0
IsPlain text = list_all is_plain text ≡ true

-- a type of code: its text, and the name of its module
abbrev pub IsPlainType : LowType → Type 0
IsPlainType type = IsPlain type.text × IsPlain type.«module»

-- an instruction: it names a module only where it makes a value
abbrev pub IsPlainInstruction : Instr → Type 0
IsPlainInstruction (Make of tag order home) = IsPlain home
IsPlainInstruction other = Unit {0}

-- a function
abbrev pub IsPlainFunction : Function → Type 0
IsPlainFunction function = AllByRecursion IsPlainInstruction function.code

-- code
pub record HasPlainNames (code : Code) : Type 0 where
  pub types : AllByRecursion IsPlainType code.types
  pub functions : AllByRecursion IsPlainFunction code.functions
