-- What the imports of a part bring.
use Rattle.std.proofs.Common.{◌≡◌, ℕ, List, Option, None, Some, refl}
use Rattle.au_syntax.specs.declared.modules.Part.{Part}
use Rattle.au_syntax.specs.declared.modules.Part.TheVariants.{Interface, Body}
use Rattle.au_types.specs.declared.spaces.Space.{Space}
use Rattle.au_types.specs.declared.spaces.Space.TheVariants.{Values, Callables, Types}
use Rattle.au_types.specs.Tables.{firsts}
use Rattle.au_modules.specs.Programs.{Entry, ModuleParts}
use Rattle.au_modules.specs.Seen.{part_tree}
use Rattle.au_names.specs.Exporting.{imports_seen}
use Rattle.au_names.specs.Meanings.{imports_in, part_of}
use Rattle.au_imports.specs.declared.brought.Brought.{Brought}
use Rattle.au_imports.specs.Clashing.{brought_to}
use Rattle.au_imports.specs.Gathered.{AreBrought, brought_in}
use Rattle.au_imports.specs.Parts.{tree_of}

-- the imports of a part are those that are seen of it
pub imports_of : (o : Option Entry) → imports_seen (tree_of o) ≡ imports_in o
imports_of None = refl
imports_of (Some e) = refl

-- the table of a space holds what they bring into it
pub table_of : (program : List ModuleParts) (place : ℕ) (m : ModuleParts) (part : Part) (brought : Brought)
    → AreBrought program place m part brought → (space : Space)
    → brought_in space brought ≡ firsts (brought_to program place m part space)
table_of program place m part brought made Values = made.values
table_of program place m part brought made Callables = made.callables
table_of program place m part brought made Types = made.types

-- the tree of a part
pub tree_is : (part : Part) (m : ModuleParts) → part_tree part (Some m) ≡ tree_of (part_of part m)
tree_is Interface m = refl
tree_is Body m = refl
