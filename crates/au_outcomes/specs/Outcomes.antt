-- What files come to, by their names and bytes.
use Rattle.std.specs.Prelude.{◌≡◌, ℕ, ◌<◌, ◌≤◌, ◌⊎◌, Bool, true, false, List, [], ◌∷◌, length, Some, None}
use Rattle.au_base.specs.declared.limits.Limit.{Limit}
use Rattle.au_base.specs.declared.limits.LimitKind.TheVariants as kind
use Rattle.au_base.specs.Limits.{most_file_bytes}
use Rattle.au_base.specs.Outside.{Files}
use Rattle.au_accepted.specs.Files.{AreFiles, IsFile, most_files}
use Rattle.au_accepted.specs.Trees.{AreRead, ReadFile}
use Rattle.au_outcomes.specs.Refusals.{is_refusal}
use Rattle.au_outcomes.specs.Layouts.{AreLaid, LaidCome}
use Rattle.au_outcomes.specs.Programs.{ReadsCome}
use Rattle.au_outcomes.specs.Trees.{FirstHalts}
use Rattle.au_outcomes.specs.declared.outcomes.Aim.{Aim}
use Rattle.au_outcomes.specs.declared.outcomes.Aim.TheVariants as aims
use Rattle.au_outcomes.specs.declared.outcomes.Outcome.{Outcome}
use Rattle.au_outcomes.specs.declared.outcomes.Outcome.TheVariants as outcome

-- whether an outcome is one that words and files come to: what it refuses, it refuses for a refusal
abbrev pub is_outcome : Outcome → Bool
is_outcome outcome.NoJob = true
is_outcome (outcome.Missing name) = true
is_outcome (outcome.Passes limit) = true
is_outcome (outcome.Refused refusal) = is_refusal refusal
is_outcome outcome.Accepted = true
is_outcome (outcome.Explained lives) = true
is_outcome (outcome.Laid text) = true
is_outcome (outcome.Reported report) = true
is_outcome (outcome.Runs program) = true
is_outcome (outcome.Compiles program) = true

-- whether files of which this is asked are judged as those of a program: they aren't where they are laid out
abbrev pub judges : Aim → Bool
judges aims.Run = true
judges aims.Compile = true
judges aims.Check = true
judges aims.Explain = true
judges aims.Format = false
judges aims.Caps = true

-- whether files come to this behind the steps that judge whether they are accepted: that is told, or the
-- lives of its variables are, or what it can do with capabilities, or the program is to run or to be compiled
abbrev pub is_behind : Outcome → Bool
is_behind outcome.NoJob = false
is_behind (outcome.Missing name) = false
is_behind (outcome.Passes limit) = false
is_behind (outcome.Refused refusal) = false
is_behind outcome.Accepted = true
is_behind (outcome.Explained lives) = true
is_behind (outcome.Laid text) = false
is_behind (outcome.Reported report) = true
is_behind (outcome.Runs program) = true
is_behind (outcome.Compiles program) = true

-- the limit of a file's bytes, with the one count that passes it
abbrev pub file_limit : Limit
file_limit = record { kind = kind.FileBytes; count = 1048577; most = 1048576 }

-- The file of this name is too large.
abbrev pub IsTooLarge : Files → List ℕ → Type 0
IsTooLarge files name = (bytes : List ℕ) × (files name ≡ Some bytes) × (most_file_bytes < length bytes)

-- The first of the files that can't be had has this property: those before it can be had.
abbrev pub IsFirst : (List ℕ → Type 0) → Files → List (List ℕ) → Type 0
IsFirst P files [] = ⊥
IsFirst P files (name ∷ names) =
    P name ⊎ (((bytes : List ℕ) × IsFile files name bytes) × IsFirst P files names)

-- the limit of the number of files, with the whole count that passes it
abbrev pub files_limit : ℕ → Limit
files_limit count = record { kind = kind.Files; count = count; most = most_files }

-- What a program comes to that is judged, by the bytes of its files: the first file that can't be read
-- counts, and where each is read, what the modules come to.
abbrev pub JudgedCome : Aim → List (List ℕ) → Outcome → Type 0
JudgedCome aim all arisen =
    FirstHalts 0 all arisen ⊎ ((reads : List ReadFile) × AreRead 0 all reads × ReadsCome aim reads arisen)

-- What files with these bytes, that were read so, come to by what is asked: they are laid out, or they are
-- judged as the files of a program.
abbrev pub AskedCome : Aim → List (List ℕ) → List ReadFile → Outcome → Type 0
AskedCome aims.Run all reads arisen = ReadsCome aims.Run reads arisen
AskedCome aims.Compile all reads arisen = ReadsCome aims.Compile reads arisen
AskedCome aims.Check all reads arisen = ReadsCome aims.Check reads arisen
AskedCome aims.Explain all reads arisen = ReadsCome aims.Explain reads arisen
AskedCome aims.Format all reads arisen = LaidCome all arisen
AskedCome aims.Caps all reads arisen = ReadsCome aims.Caps reads arisen

-- What a program comes to of which this is asked, by the bytes of its files: the first file that can't be
-- read counts, and where each is read, what is read.
abbrev pub BytesCome : Aim → List (List ℕ) → Outcome → Type 0
BytesCome aim all arisen =
    FirstHalts 0 all arisen ⊎ ((reads : List ReadFile) × AreRead 0 all reads × AskedCome aim all reads arisen)

-- The files of these names can be had, and come to this.
abbrev pub FilesCome : Aim → Files → List (List ℕ) → Outcome → Type 0
FilesCome aim files names arisen = (all : List (List ℕ)) × AreFiles files names all × BytesCome aim all arisen

-- What a program of so few files as it may have comes to, by their names: they are fetched in order, and then
-- they are read.
abbrev pub FewCome : Aim → Files → List (List ℕ) → Outcome → Type 0
FewCome aim files names outcome.NoJob = ⊥
FewCome aim files names (outcome.Missing name) =
    IsFirst (λ one. (one ≡ name) × (files one ≡ None)) files names
FewCome aim files names (outcome.Passes limit) =
    ((limit ≡ file_limit) × IsFirst (IsTooLarge files) files names)
    ⊎ FilesCome aim files names (outcome.Passes limit)
FewCome aim files names (outcome.Refused refusal) = FilesCome aim files names (outcome.Refused refusal)
FewCome aim files names outcome.Accepted = FilesCome aim files names outcome.Accepted
FewCome aim files names (outcome.Explained lives) = FilesCome aim files names (outcome.Explained lives)
FewCome aim files names (outcome.Laid text) = FilesCome aim files names (outcome.Laid text)
FewCome aim files names (outcome.Reported report) = FilesCome aim files names (outcome.Reported report)
FewCome aim files names (outcome.Runs program) = FilesCome aim files names (outcome.Runs program)
FewCome aim files names (outcome.Compiles program) = FilesCome aim files names (outcome.Compiles program)

-- What a program comes to of which this is asked, by the names of its files.
abbrev pub Comes : Aim → Files → List (List ℕ) → Outcome → Type 0
Comes aim files names arisen =
    ((most_files < length names) × (arisen ≡ outcome.Passes (files_limit (length names))))
    ⊎ ((length names ≤ most_files) × FewCome aim files names arisen)

-- Files of these names can be had and are as few as they may be, each is cut into tokens that are the words
-- of its tree, within the limits, and their layouts are this text.
abbrev pub HasLayout : Files → List (List ℕ) → List ℕ → Type 0
HasLayout files names text =
    (length names ≤ most_files) × (all : List (List ℕ)) × AreFiles files names all
    × ((reads : List ReadFile) × AreRead 0 all reads) × AreLaid all text
