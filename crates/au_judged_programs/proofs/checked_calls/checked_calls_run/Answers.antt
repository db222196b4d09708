use Rattle.au_judged_programs.proofs.CheckedLemmas.{program_fits}
use Rattle.au_judged_programs.proofs.checked_calls.checked_calls_run.Goals as goal

pub returns : goal.returns
returns c = λ program trees checked. program_fits program trees checked
