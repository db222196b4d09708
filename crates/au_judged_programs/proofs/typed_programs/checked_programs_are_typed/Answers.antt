use Rattle.au_judged_programs.proofs.BirthLemmas.{births_shipped, checked_typed}
use Rattle.au_judged_programs.proofs.typed_programs.checked_programs_are_typed.Goals as goal

pub returns-clause-births : goal.returns-clause-births
returns-clause-births c = λ program noted checked. births_shipped program noted checked

pub returns-clause-types : goal.returns-clause-types
returns-clause-types c = λ program noted checked. checked_typed program noted checked
