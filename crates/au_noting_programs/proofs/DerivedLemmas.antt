-- What is found of a program is its one derivation, and what is told of it is what it is refused for.
use Rattle.std.proofs.Common.{◌≡◌, ◌⊎◌, inl, inr, List, Some, Ok, Err, sym, ap, ◌∙◌}
use Rattle.std.proofs.lemmas.Option.{none-some}
use Rattle.au_modules.specs.Programs.{ModuleParts}
use Rattle.au_sights.specs.declared.faults.TypeFault.{TypeFault}
use Rattle.au_sights.specs.declared.faults.TypeFault.TheVariants as fault
use Rattle.au_noting.specs.Giving.{cause_said}
use Rattle.au_typing.specs.Outsides.{outside_of}
use Rattle.au_typing.specs.DerivationFaults.{StatementFault, refused, too_large}
use Rattle.au_typing.specs.Trees.{NotedParts}
use Rattle.au_typing.proofs.ProgramLemmas.{program_sound}
use Rattle.au_judgements.specs.declared.refusals.Refused.{Refused}
use Rattle.au_judgements.specs.declared.refusals.Refused.TheVariants as code
use Rattle.au_judgements.specs.Refusing.{Refuses}
use Rattle.au_noting_programs.specs.Faults.{IsDerived, fault_told, noting_of, type_fault}
use Rattle.au_noting_programs.specs.Told.{IsTold}
use Rattle.au_noting_programs.proofs.AcceptedLemmas.{good_accepted, refused_for}

-- ---- what is found

pub found_derived : (program : List ModuleParts) (noted : List NotedParts) → noting_of program ≡ Ok noted →
    IsDerived program noted
found_derived program noted h = program_sound (outside_of program) program noted h

-- ---- what is told

told_of : (program : List ModuleParts) (found : StatementFault) (e : TypeFault) →
    noting_of program ≡ Err found → (e ≡ fault.Memory) ⊎ (e ≡ fault_told program found) → (e ≡ fault.Memory)
    ⊎ (type_fault program ≡ Some e)
told_of program found e h (inl none) = inl none
told_of program found e h (inr is) = inr (refused_for program found h ∙ ap Some (sym is))

pub told_refused : (program : List ModuleParts) (one : Refused) (e : TypeFault) →
    Refuses one (noting_of program) → IsTold program one e → (e ≡ fault.Memory) ⊎ (type_fault program ≡ Some e)
told_refused program (code.Statement at cause) e h is = told_of program (refused at (cause_said cause)) e h is
told_refused program (code.Limit passed) e h is = told_of program (too_large passed) e h is
told_refused program code.Memory e h is = inl is

-- what has a derivation isn't refused
pub told_only : (program : List ModuleParts) (noted : List NotedParts) (e : TypeFault) →
    IsDerived program noted → (e ≡ fault.Memory) ⊎ (type_fault program ≡ Some e) → e ≡ fault.Memory
told_only program noted e g (inl none) = none
told_only program noted e g (inr is) = absurd (none-some e (sym (good_accepted program (noted, g)) ∙ is))
