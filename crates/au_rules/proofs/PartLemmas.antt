-- The declarations of a part of a module, and what names mean there.
use Rattle.std.proofs.Common.{◌≡◌, [], Option, None, Some, refl}
use Rattle.au_syntax.specs.declared.modules.Part.{Part}
use Rattle.au_modules.specs.Programs.{Entry, ModuleParts}
use Rattle.au_imports.specs.Parts.{tree_of}
use Rattle.au_names.specs.Meanings.{part_of}
use Rattle.au_names.specs.Owned.{declarations_in}

-- a module without a part declares nothing in it
none_in : (e : Option Entry) → None ≡ tree_of e → declarations_in e ≡ []
none_in None h = refl
none_in (Some e) h = absurd cc

pub nothing_declared : (part : Part) (m : ModuleParts) → None ≡ tree_of (part_of part m)
    → declarations_in (part_of part m) ≡ []
nothing_declared part m h = none_in (part_of part m) h
