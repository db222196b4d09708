use Rattle.std.proofs.Common.{◌≡◌, drop}
use Rattle.au_modules.specs.Programs.{ModuleParts}
use Rattle.au_imports.specs.Choices.{first_of}
use Rattle.au_imports.specs.Importers.{AllPass, IsOf, import_fault_in}
use Rattle.au_imports.specs.Written.{imports_of}
use Rattle.au_imports.proofs.importing.all_imports_fault.Given as goal

-- what is left decides, and the cases or methods that came along were refused for nothing
abbrev pub invariant-loop-import : goal.invariant-loop-import
invariant-loop-import l = record {
  left : (m : ModuleParts) → IsOf l.importer m
      → first_of (import_fault_in l.importer m) (imports_of (drop l.import-index l.import-items))
      ≡ first_of (import_fault_in l.importer m) (imports_of l.import-items);
  passed : AllPass l.importer l.passed;
}
