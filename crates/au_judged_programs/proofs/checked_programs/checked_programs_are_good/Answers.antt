use Rattle.au_judged_programs.proofs.FitLemmas.{accepted_checked, declarations_fit, definitions_apart}
use Rattle.au_judged_programs.proofs.checked_programs.checked_programs_are_good.Goals as goal

pub returns-clause-accepted : goal.returns-clause-accepted
returns-clause-accepted c = λ files names all reads a. accepted_checked files names all reads a

pub returns-clause-declarations : goal.returns-clause-declarations
returns-clause-declarations c = λ program noted checked. declarations_fit program noted checked

pub returns-clause-apart : goal.returns-clause-apart
returns-clause-apart c = λ program noted checked at d defined. definitions_apart program noted checked at d defined
