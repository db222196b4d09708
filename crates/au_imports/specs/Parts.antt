-- What is written in a part of a module.
use Rattle.std.specs.Prelude.{ℕ, List, Option}
use Rattle.std.specs.Option.{option_map, option_or}
use Rattle.au_syntax.specs.declared.modules.Part.{Part}
use Rattle.au_syntax.specs.Plain.{PlainModule}
use Rattle.au_modules.specs.Programs.{Entry, ModuleParts}
use Rattle.au_imports.specs.declared.name_faults.NameFault.{NameFault}
use Rattle.au_imports.specs.Choices.{first_of}
use Rattle.au_imports.specs.NameFaults.{declaration_fault, import_fault}

-- what is written in a part, if the module has it
abbrev pub tree_of : Option Entry → Option PlainModule
tree_of found = option_map (λ (e : Entry). e.tree) found

-- what is refused of what is written in a part
abbrev pub tree_fault : List ModuleParts → ℕ → ModuleParts → Part → PlainModule → Option NameFault
tree_fault program place m part tree =
    option_or (first_of (import_fault program place m part) tree.imports)
    (first_of (declaration_fault program place m part) tree.declarations)
