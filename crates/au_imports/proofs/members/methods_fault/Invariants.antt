use Rattle.std.proofs.Common.{◌≡◌, drop}
use Rattle.au_types.specs.DeclaredNames.{given}
use Rattle.au_modules.specs.Programs.{ModuleParts}
use Rattle.au_names.specs.Owned.{targets}
use Rattle.au_imports.specs.Choices.{first_of}
use Rattle.au_imports.specs.Importers.{IsOf, fault_in}
use Rattle.au_imports.specs.Written.{methods_of}
use Rattle.au_imports.proofs.members.methods_fault.Given as goal

-- what is left decides
abbrev pub invariant-loop-one : goal.invariant-loop-one
invariant-loop-one l = (m other : ModuleParts) → IsOf l.importer m
    → first_of (fault_in l.importer m l.at.«module» other l.stands)
    (targets l.at.«module» (given l.at.decl (methods_of (drop l.one-index l.one-items))))
    ≡ first_of (fault_in l.importer m l.at.«module» other l.stands)
    (targets l.at.«module» (given l.at.decl (methods_of l.one-items)))
