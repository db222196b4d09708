-- The numbers of the statuses.
use Rattle.std.specs.Prelude.{ℕ}
use Rattle.au_base.specs.declared.statuses.Status.{Status}
use Rattle.au_base.specs.declared.statuses.Status.TheVariants.{Success, Failure, Refused, Abort, Steps}
use Rattle.au_base.specs.declared.statuses.Status.TheVariants.{ReadFault, WriteFault, Memory, Limit, Missing}
use Rattle.au_base.specs.declared.statuses.Status.TheVariants.{Words}

-- the number with which the program ends
abbrev pub status_number : Status → ℕ
status_number Success = 0
status_number Failure = 1
status_number Refused = 2
status_number Abort = 3
status_number Steps = 4
status_number ReadFault = 5
status_number WriteFault = 6
status_number Memory = 7
status_number Limit = 8
status_number Missing = 9
status_number Words = 64
