-- What calls show of the modules.
use Rattle.std.specs.Prelude.{ℕ, List, Option, Some, None}
use Rattle.std.specs.Borrow.{Bor}
use Rattle.std.specs.Option.{option_map}
use Rattle.au_syntax.specs.contracts.parsed.ParsedPhase.TheImpl.{ghosts as parsed}
use Rattle.au_syntax.specs.declared.modules.Part.{Part}
use Rattle.au_syntax.specs.declared.modules.Part.TheVariants.{Interface, Body}
use Rattle.au_syntax.specs.declared.parsed.Parsed.{Parsed}
use Rattle.au_syntax.specs.declared.wholes.Whole.{Whole}
use Rattle.au_syntax.specs.Files.{says}
use Rattle.au_syntax.specs.Plain.{Bytes, PlainModule}
use Rattle.au_modules.specs.Programs.{Entry, ModuleParts}
use Rattle.au_modules.specs.Slots.{file_at}

-- a whole file that is lent
abbrev pub FileLent : Type 0
FileLent = Bor (Whole Parsed (List ℕ) (Unit {0}) (Unit {0}) parsed)

-- what the tree of a file that is lent says, if there is one
abbrev pub tree_seen : Option FileLent → Option PlainModule
tree_seen found = option_map (λ (b : FileLent). says parsed b.now.tree) found

-- what is written in the file of this index
abbrev pub tree_at : List Entry → Option ℕ → Option PlainModule
tree_at files index = option_map (λ (e : Entry). e.tree) (file_at files index)

-- the name of a module
abbrev pub name_of : Option ModuleParts → Option Bytes
name_of found = option_map (λ (m : ModuleParts). m.name) found

-- what is written in the interface of a module
abbrev pub interface_tree : Option ModuleParts → Option PlainModule
interface_tree None = None
interface_tree (Some m) = option_map (λ (e : Entry). e.tree) m.interface

-- what is written in the body of a module
abbrev pub body_tree : Option ModuleParts → Option PlainModule
body_tree None = None
body_tree (Some m) = option_map (λ (e : Entry). e.tree) m.body

-- what is written in one of its parts
abbrev pub part_tree : Part → Option ModuleParts → Option PlainModule
part_tree Interface found = interface_tree found
part_tree Body found = body_tree found
