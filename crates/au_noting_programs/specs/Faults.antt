-- What a program is refused for whose statements have no good notes, as it is told.
use Rattle.std.specs.Prelude.{ℕ, List, Option, None, Some, Ok, Err}
use Rattle.au_modules.specs.Programs.{ModuleParts}
use Rattle.au_names.specs.HeadsOf.{heads_of}
use Rattle.au_sights.specs.declared.faults.TypeFault.{TypeFault}
use Rattle.au_sights.specs.declared.faults.TypeFault.TheVariants as fault
use Rattle.au_sights.specs.declared.faults.Why as told
use Rattle.au_sights.specs.Views.{why_told}
use Rattle.au_typing.specs.ClassTexts.{class_text}
use Rattle.au_typing.specs.Outsides.{outside_of}
use Rattle.au_typing.specs.Faults.{Why}
use Rattle.au_typing.specs.Derivations.{Derives}
use Rattle.au_typing.specs.DerivationFaults.{Judged, StatementFault, refused, too_large}
use Rattle.au_typing.specs.ProgramSearch.{note_program}
use Rattle.au_typing.specs.Trees.{NotedParts}

-- what the search for the notes of a program comes to, by what each part of each module sees
abbrev pub noting_of : List ModuleParts → Judged (List NotedParts)
noting_of program = note_program (outside_of program) program

-- A program is derived with these notes, by what each part of each module sees.
abbrev pub IsDerived : List ModuleParts → List NotedParts → Type 0
IsDerived program noted = Derives (outside_of program) program noted

-- why a statement has no good notes: types and classes by their texts
abbrev pub cause_told : List ModuleParts → Why → told.Why (List ℕ) (List ℕ)
cause_told program cause = why_told (heads_of program) (class_text program) cause

-- a fault of the search
abbrev pub fault_told : List ModuleParts → StatementFault → TypeFault
fault_told program (refused at cause) = fault.Statement at (cause_told program cause)
fault_told program (too_large passed) = fault.Limit passed

-- the fault that the search comes to, if it comes to one
abbrev pub fault_in : List ModuleParts → Judged (List NotedParts) → Option TypeFault
fault_in program (Ok noted) = None
fault_in program (Err found) = Some (fault_told program found)

-- what a program is refused for: the first fault of a statement, if there is one
unfoldable pub type_fault : List ModuleParts → Option TypeFault
type_fault program = fault_in program (noting_of program)
