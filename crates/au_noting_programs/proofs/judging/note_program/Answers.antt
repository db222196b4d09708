use Rattle.std.proofs.Common.{◌≡◌, ◌⊎◌, Some, subst}
use Rattle.au_typing.proofs.ProgramLemmas.{program_found}
use Rattle.au_modules.specs.Slots as slots
use Rattle.au_sights.specs.declared.faults.TypeFault.TheVariants as fault
use Rattle.au_typing.specs.Outsides.{outside_of}
use Rattle.au_noting_programs.specs.Faults.{type_fault}
use Rattle.au_noting_programs.specs.Said.{made_said}
use Rattle.au_noting_programs.proofs.AcceptedLemmas.{found_accepted}
use Rattle.au_noting_programs.proofs.DerivedLemmas.{told_only, told_refused}
use Rattle.au_noting_programs.proofs.judging.note_program.Goals as goal

pub returns-in-Ok-clause-accepted : goal.returns-in-Ok-clause-accepted
returns-in-Ok-clause-accepted c = found_accepted (slots.modules c.args.program) (made_said c.in-Ok.modules)
    c.in-Ok.ensures

pub returns-in-Ok-clause-only : goal.returns-in-Ok-clause-only
returns-in-Ok-clause-only c = λ noted g. program_found (outside_of (slots.modules c.args.program))
    (slots.modules c.args.program) noted g

pub returns-in-Err-clause-only : goal.returns-in-Err-clause-only
returns-in-Err-clause-only c =
    λ noted g. told_only (slots.modules c.args.program) noted c.told.result g
    (told_refused (slots.modules c.args.program) c.in-Err.refused c.told.result c.in-Err.ensures c.told.ensures)

pub returns-in-Err-clause-refused : goal.returns-in-Err-clause-refused
returns-in-Err-clause-refused c =
    λ e is.
    let same : c.told.result ≡ e = cc in
    subst (λ one. (one ≡ fault.Memory) ⊎ (type_fault (slots.modules c.args.program) ≡ Some one)) same
    (told_refused (slots.modules c.args.program) c.in-Err.refused c.told.result c.in-Err.ensures c.told.ensures)
