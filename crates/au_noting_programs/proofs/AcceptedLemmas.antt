-- The law of typed programs, for those above; and what a program is refused for is never want of memory.
use Rattle.std.proofs.Common.{◌≡◌, List, Some, None, Ok, Err, refl, ap}
use Rattle.au_modules.specs.Programs.{ModuleParts}
use Rattle.au_sights.specs.declared.faults.TypeFault.TheVariants as fault
use Rattle.au_typing.specs.Outsides.{outside_of}
use Rattle.au_typing.specs.DerivationFaults.{Judged, StatementFault, refused, too_large}
use Rattle.au_typing.specs.Trees.{NotedParts}
use Rattle.au_typing.proofs.ProgramLemmas.{program_found, program_sound}
use Rattle.au_noting_programs.specs.Faults.{IsDerived, fault_in, fault_told, noting_of, type_fault}

-- what is refused for nothing is found
found_from : (program : List ModuleParts) (r : Judged (List NotedParts)) → noting_of program ≡ r →
    fault_in program r ≡ None → (noted : List NotedParts) × IsDerived program noted
found_from program (Ok noted) is h = (noted, program_sound (outside_of program) program noted is)
found_from program (Err found) is h = absurd cc

pub good_from : (program : List ModuleParts) → type_fault program ≡ None → (noted : List NotedParts)
    × IsDerived program noted
unfolding type_fault
good_from program h = found_from program (noting_of program) refl h

pub good_accepted : (program : List ModuleParts) → ((noted : List NotedParts) × IsDerived program noted) →
    type_fault program ≡ None
unfolding type_fault
good_accepted program good = ap (fault_in program) (program_found (outside_of program) program good.0 good.1)

-- what the search finds is refused for nothing
pub found_accepted : (program : List ModuleParts) (noted : List NotedParts) → noting_of program ≡ Ok noted →
    type_fault program ≡ None
unfolding type_fault
found_accepted program noted h = ap (fault_in program) h

-- a fault of the search is that of the program
pub refused_for : (program : List ModuleParts) (found : StatementFault) → noting_of program ≡ Err found →
    type_fault program ≡ Some (fault_told program found)
unfolding type_fault
refused_for program found h = ap (fault_in program) h

-- ---- never want of memory

in_unwanted : (program : List ModuleParts) (r : Judged (List NotedParts)) → fault_in program r ≡ Some fault.Memory → ⊥
in_unwanted program (Ok noted) h = cc
in_unwanted program (Err (refused at cause)) h = cc
in_unwanted program (Err (too_large passed)) h = cc

pub unwanted : (program : List ModuleParts) → type_fault program ≡ Some fault.Memory → ⊥
unfolding type_fault
unwanted program h = in_unwanted program (noting_of program) h
