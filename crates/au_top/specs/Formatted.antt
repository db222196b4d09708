-- Jobs `format`, and the layout of their file.
use Rattle.std.specs.Prelude.{◌≡◌, ℕ, List, [], ◌∷◌}
use Rattle.au_base.specs.Outside.{Files}
use Rattle.au_format.specs.Layout.{IsLayout}
use Rattle.au_words.specs.Jobs.{Task, IsJob}
use Rattle.au_words.specs.declared.jobs.Command.TheVariants as command
use Rattle.au_accepted.specs.Files.{IsFile}
use Rattle.au_accepted.specs.Trees.{IsRead, ReadFile}

-- The words are a job `format` of the file of this name.
abbrev pub IsFormat : List (List ℕ) → List ℕ → Type 0
IsFormat words name =
    (task : Task) × IsJob words task × (task.command ≡ command.Format) × (task.files ≡ name ∷ [])

-- The file of this name has bytes, and isn't too large. They are cut into tokens that are the words of a
-- tree, within the limits, and their layout is this text.
pub record HasLayoutOf (files : Files) (name text : List ℕ) : Type 0 where
  pub bytes : List ℕ
  pub had : IsFile files name bytes
  pub one : ReadFile
  pub read : IsRead 0 bytes one
  pub laid : IsLayout bytes text
