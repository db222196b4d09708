-- Which files can be had, by their names.
use Rattle.std.specs.Prelude.{◌≡◌, ℕ, ◌≤◌, List, [], ◌∷◌, length, Some}
use Rattle.au_base.specs.Limits.{most_file_bytes}
use Rattle.au_base.specs.Outside.{Files}

-- The file of this name has these bytes, and isn't too large.
abbrev pub IsFile : Files → List ℕ → List ℕ → Type 0
IsFile files name bytes = (files name ≡ Some bytes) × (length bytes ≤ most_file_bytes)

-- The files of these names have these bytes, and none is too large.
abbrev pub AreFiles : Files → List (List ℕ) → List (List ℕ) → Type 0
AreFiles files [] [] = Unit {0}
AreFiles files (name ∷ names) (bytes ∷ others) = IsFile files name bytes × AreFiles files names others
AreFiles files [] (bytes ∷ others) = ⊥
AreFiles files (name ∷ names) [] = ⊥

-- how many files a program may have
abbrev pub most_files : ℕ
most_files = 128
