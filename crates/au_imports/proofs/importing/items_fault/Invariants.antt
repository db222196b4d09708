use Rattle.std.proofs.Common.{◌≡◌, drop}
use Rattle.au_modules.specs.Programs.{ModuleParts}
use Rattle.au_imports.specs.Choices.{first_of}
use Rattle.au_imports.specs.Importers.{AllPass, IsFrom, IsOf, item_fault_in}
use Rattle.au_imports.specs.Written.{items_of}
use Rattle.au_imports.proofs.importing.items_fault.Given as goal

-- what is left decides, and the cases or methods that came along were refused for nothing
abbrev pub invariant-loop-item : goal.invariant-loop-item
invariant-loop-item l = record {
  left : (m other : ModuleParts) → IsOf l.importer m → IsFrom l.importer l.from other
      → first_of (item_fault_in l.importer m l.from other) (items_of (drop l.item-index l.item-items))
      ≡ first_of (item_fault_in l.importer m l.from other) (items_of l.item-items);
  passed : AllPass l.importer l.passed;
}
