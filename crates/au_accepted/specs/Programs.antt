-- The files of a program, and its modules: the shipped ones, and behind them those of files that were read.
use Rattle.std.specs.Prelude.{ℕ, ◌+◌, List, [], ◌∷◌, ◌++◌, map}
use Rattle.au_modules.specs.Programs.{Entry, ModuleParts, modules_of}
use Rattle.au_shipped.specs.Shipped.{shipped_files}
use Rattle.au_syntax.specs.Plain.{PlainModule}
use Rattle.au_accepted.specs.Trees.{ReadFile}

-- files that were read, the first of this number, as those that modules are gathered of
unfoldable pub entries : ℕ → List ReadFile → List Entry
entries file [] = []
entries file (one ∷ rest) = record { file = file; tree = one.tree } ∷ entries (file + 1) rest

-- the files that are shipped
unfoldable pub shipped_entries : List Entry
shipped_entries = map (λ (f : ℕ × PlainModule). record { file = f.0; tree = f.1 }) shipped_files

-- the files of a program: the shipped ones, and then those that were read
abbrev pub program_files : List ReadFile → List Entry
program_files reads = shipped_entries ++ entries 0 reads

-- its modules
abbrev pub program_modules : List ReadFile → List ModuleParts
program_modules reads = modules_of (program_files reads)
