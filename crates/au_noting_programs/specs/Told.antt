-- What the code tells of a fault of a statement.
use Rattle.std.specs.Prelude.{◌≡◌, ◌⊎◌, List}
use Rattle.au_modules.specs.Programs.{ModuleParts}
use Rattle.au_typing.specs.DerivationFaults.{refused, too_large}
use Rattle.au_judgements.specs.declared.refusals.Refused.{Refused}
use Rattle.au_judgements.specs.declared.refusals.Refused.TheVariants as code
use Rattle.au_sights.specs.declared.faults.TypeFault.{TypeFault}
use Rattle.au_sights.specs.declared.faults.TypeFault.TheVariants as fault
use Rattle.au_noting.specs.Giving.{cause_said}
use Rattle.au_noting_programs.specs.Faults.{fault_told}

-- A fault of a program's statement is told as this, unless memory ran out.
abbrev pub IsTold : List ModuleParts → Refused → TypeFault → Type 0
IsTold program (code.Statement at cause) e =
    (e ≡ fault.Memory) ⊎ (e ≡ fault_told program (refused at (cause_said cause)))
IsTold program (code.Limit passed) e = (e ≡ fault.Memory) ⊎ (e ≡ fault_told program (too_large passed))
IsTold program code.Memory e = e ≡ fault.Memory
