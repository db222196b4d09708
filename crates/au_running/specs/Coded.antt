-- What is answered where a program's code is made.
use Rattle.std.specs.Prelude.{◌≡◌, false, List, Result, Ok, Err}
use Rattle.au_lowering.specs.ClosedPrograms.Answers.{ClosesWithin}
use Rattle.au_lowering.specs.Programs.{ClosedProgram}
use Rattle.au_typing.specs.Trees.{NotedParts}
use Rattle.au_low.specs.declared.code.Code.{Code}
use Rattle.au_lowering.specs.Closed.{code_of, is_too_long}
use Rattle.au_modules.specs.Programs.{ModuleParts}
use Rattle.au_running.specs.Ran.{HasNoEntry, IsLowered, IsOverLimit}
use Rattle.au_running.specs.declared.coding.Uncoded.{Uncoded}
use Rattle.au_running.specs.declared.coding.Uncoded.TheVariants as uncoded
use Rattle.au_syntax.specs.Plain.{Bytes}

-- The code that a program is lowered to from its entry, where it passes no limit, or why there is none;
-- nothing is said where memory ran out.
abbrev pub HasCode : (program : List ModuleParts) (noted : List NotedParts) (owner name : Bytes)
    → Result Code Uncoded → Type 0
HasCode program noted owner name (Ok code) =
    (c : ClosedProgram) × ClosesWithin program noted owner name c × (is_too_long c ≡ false)
    × (code ≡ code_of c)
HasCode program noted owner name (Err uncoded.NoEntry) = HasNoEntry program noted owner name
HasCode program noted owner name (Err (uncoded.Limit limit)) = IsOverLimit program noted owner name limit
HasCode program noted owner name (Err uncoded.Memory) = Unit {0}

-- The same of the code that a program is lowered to as its runs are: every run of it shows what the program
-- means from its entry, where its runs are spoken of.
abbrev pub IsProgramCode : (program : List ModuleParts) (noted : List NotedParts) (owner name : Bytes)
    → Result Code Uncoded → Type 0
IsProgramCode program noted owner name (Ok code) =
    (it : IsLowered program noted owner name) × (code ≡ code_of it.c)
IsProgramCode program noted owner name (Err uncoded.NoEntry) = HasNoEntry program noted owner name
IsProgramCode program noted owner name (Err (uncoded.Limit limit)) =
    IsOverLimit program noted owner name limit
IsProgramCode program noted owner name (Err uncoded.Memory) = Unit {0}

-- no limit is told
abbrev pub TellsNoLimit : Result Code Uncoded → Type 0
TellsNoLimit (Err (uncoded.Limit limit)) = ⊥
TellsNoLimit answer = Unit {0}
