-- What is known of the files of a program before its names are judged.
use Rattle.std.specs.Prelude.{◌≡◌, ℕ, List, ◌++◌, map, Contains, IsTrue}
use Rattle.au_syntax.specs.Forms.{formed_module}
use Rattle.au_syntax.specs.Plain.{PlainModule}
use Rattle.au_shipped.specs.Shipped.{shipped_files}
use Rattle.au_modules.specs.Accepted.{IsOwn}
use Rattle.au_modules.specs.Programs.{Entry, ModuleParts, modules_of}

-- a file with its number, as one that modules are gathered of
abbrev pub entry_of : ℕ × PlainModule → Entry
entry_of file = record { file = file.0; tree = file.1 }

-- a file of the user's that was parsed
pub record IsParsed (e : Entry) : Type 0 where
  pub own : IsOwn e
  pub formed : IsTrue (formed_module e.tree)

-- A program is gathered of files: of those that are shipped, in order, and then of files of the user's that
-- were parsed.
pub record IsGathered (program : List ModuleParts) : Type 0 where
  pub own : List Entry
  pub parsed : (e : Entry) → Contains own e → IsParsed e
  pub gathered : program ≡ modules_of (map entry_of shipped_files ++ own)
