-- The commands of the command line as the library builds them, and how it fails on the words behind one.
use Rattle.std.proofs.Common.{ℕ, true, false, List, []}
use Rattle.clap.specs.Faults.{level_fault}
use Rattle.clap.specs.Kinds.{Kinds}
use Rattle.clap.specs.Simple.{Shape, filled_from}
use Rattle.clap.specs.Walk.{Row, Rule, nothing_held, rows_after}
use Rattle.au_words.specs.Given.{arguments, subcommand}
use Rattle.au_words.specs.declared.jobs.Command.{Command}

-- the arguments of a command, with what the library fills in
abbrev pub rules : Command → List Rule
rules command = filled_from 1 (arguments command)

-- a command, as the library builds it
abbrev pub leaf : Command → Shape
leaf command = record (subcommand command) {
  rules = rules command;
  no_binary_name = true;
  disable_help_flag = true;
  disable_help_subcommand = true;
  is_built = true;
}

-- the kinds of error on the words behind a command, none where it takes them
abbrev pub leaf_fault : Command → List (List ℕ) → Kinds
leaf_fault command words = level_fault (leaf command) [] nothing_held words false []

-- what the library finds in the words behind a command
abbrev pub leaf_rows : Command → List (List ℕ) → List Row
leaf_rows command words = rows_after (rules command) [] words
