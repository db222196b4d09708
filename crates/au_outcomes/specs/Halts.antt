-- Why it is known what a program comes to before it is whole.
use Rattle.std.specs.Prelude.{◌≡◌, ℕ, ◌≤◌, Bool, true, false, List, ◌∷◌, ◌++◌, length, Option, Some, None}
use Rattle.std.specs.Prelude.{IfSome, Result, Ok, Err, Vec}
use Rattle.std.specs.Global.{Global}
use Rattle.au_base.specs.Outside.{Files}
use Rattle.au_lexer.specs.declared.lexing.LexFault.{LexFault}
use Rattle.au_lexer.specs.declared.lexing.LexFault.TheVariants as lexing
use Rattle.au_accepted.specs.Files.{AreFiles, most_files}
use Rattle.au_outcomes.specs.Outcomes.{Comes, IsFirst, IsTooLarge, file_limit}
use Rattle.au_outcomes.specs.declared.halts.CheckFault.{CheckFault}
use Rattle.au_outcomes.specs.declared.halts.CheckFault.TheVariants as fault
use Rattle.au_outcomes.specs.declared.halts.Halt.{Halt}
use Rattle.au_outcomes.specs.declared.halts.Halt.TheVariants as halt
use Rattle.au_outcomes.specs.declared.outcomes.Aim.{Aim}
use Rattle.au_outcomes.specs.declared.outcomes.Outcome.{Outcome}
use Rattle.au_outcomes.specs.declared.outcomes.Outcome.TheVariants as outcome
use Rattle.au_outcomes.specs.declared.refusals.Refusal.TheVariants.{Byte}

-- The files are those that a shelf tells, if it tells them.
abbrev pub AreTold : Option Files → Files → Type 0
AreTold told files = IfSome told (λ known. files ≡ known)

abbrev pub is_read : CheckFault → Bool
is_read fault.Read = true
is_read fault.Memory = false

-- whether a check failed because the shelf did
abbrev pub is_read_fault : {T : Type 0} → Result T CheckFault → Bool
is_read_fault (Ok arisen) = false
is_read_fault (Err e) = is_read e

-- whether a file is missing
abbrev pub is_missing : Outcome → Bool
is_missing outcome.NoJob = false
is_missing (outcome.Missing name) = true
is_missing (outcome.Passes limit) = false
is_missing (outcome.Refused refusal) = false
is_missing outcome.Accepted = false
is_missing (outcome.Explained lives) = false
is_missing (outcome.Laid text) = false
is_missing (outcome.Reported report) = false
is_missing (outcome.Runs program) = false
is_missing (outcome.Compiles program) = false

-- The program of files of these names, of those that are told, comes to this where this is asked of it.
abbrev pub ComesTo : Aim → Option Files → List (List ℕ) → Outcome → Type 0
ComesTo aim told names arisen = (files : Files) × AreTold told files × Comes aim files names arisen

-- The files of these names, of those that are told, have these bytes.
abbrev pub AreFilesOf : Option Files → List (List ℕ) → List (List ℕ) → Type 0
AreFilesOf told names all = (files : Files) × AreTold told files × AreFiles files names all

-- The files are as few as they may be, and those before one of them can be had, of those that are told.
abbrev pub StopsIn : Option Files → List (List ℕ) → Type 0
StopsIn told names =
    (length names ≤ most_files)
    × (before : List (List ℕ)) × (name : List ℕ) × (after : List (List ℕ)) × (names ≡ before ++ name ∷ after)
    × (all : List (List ℕ)) × AreFilesOf told before all

-- What a step says: of the value that it gave, or of what the program comes to where that is known.
abbrev pub Says : {T : Type 0} → Result T Halt → (T → Type 0) → (Outcome → Type 0) → Type 0
Says (Ok x) Gave Known = Gave x
Says (Err (halt.Known arisen)) Gave Known = Known arisen
Says (Err (halt.Unknown e)) Gave Known = Unit {0}

-- whether a step failed because the shelf did
abbrev pub is_read_halt : {T : Type 0} → Result T Halt → Bool
is_read_halt (Ok x) = false
is_read_halt (Err (halt.Known arisen)) = false
is_read_halt (Err (halt.Unknown e)) = is_read e

-- what a program comes to whose file isn't cut
abbrev pub lex_halt : LexFault → Halt
lex_halt (lexing.Byte at) = halt.Known (outcome.Refused (Byte at))
lex_halt (lexing.Limit limit) = halt.Known (outcome.Passes limit)
lex_halt lexing.Memory = halt.Unknown fault.Memory

-- a cause that is known, or want of memory
abbrev pub known_or_memory : Option Outcome → Halt
known_or_memory (Some arisen) = halt.Known arisen
known_or_memory None = halt.Unknown fault.Memory

-- A file can't be had, for this.
abbrev pub IsUnhad : Files → List ℕ → Outcome → Type 0
IsUnhad files name (outcome.Missing other) = (name ≡ other) × (files name ≡ None)
IsUnhad files name (outcome.Passes limit) = (limit ≡ file_limit) × IsTooLarge files name
IsUnhad files name outcome.NoJob = ⊥
IsUnhad files name (outcome.Refused refusal) = ⊥
IsUnhad files name outcome.Accepted = ⊥
IsUnhad files name (outcome.Explained lives) = ⊥
IsUnhad files name (outcome.Laid text) = ⊥
IsUnhad files name (outcome.Reported report) = ⊥
IsUnhad files name (outcome.Runs program) = ⊥
IsUnhad files name (outcome.Compiles program) = ⊥

-- The first of the files of these names that can't be had, of those that are told, can't be had for this.
abbrev pub FirstUnhad : Option Files → List (List ℕ) → Outcome → Type 0
FirstUnhad told names arisen =
    (files : Files) × AreTold told files × IsFirst (λ one. IsUnhad files one arisen) files names

-- The files of which one has what was found under its name, as the files that are told do: Q holds of them.
abbrev pub Tells : Option Files → List ℕ → (Files → Type 0) → Type 0
Tells told name Q =
    (found : Option (List ℕ))
    × IfSome told (λ known. known name ≡ found)
    × ((files : Files) → files name ≡ found → Q files)

-- Whichever files have these bytes under these names: some files have too, and Q holds of them.
abbrev pub Extends : Option Files → List (List ℕ) → List (List ℕ) → (Files → Type 0) → Type 0
Extends told names all Q =
    (files : Files) → AreTold told files → AreFiles files names all
    → (more : Files) × AreTold told more × AreFiles more names all × Q more

-- the bytes in vectors
abbrev pub bytes_in : Vec ℕ Global → List ℕ
bytes_in bytes = bytes.items
