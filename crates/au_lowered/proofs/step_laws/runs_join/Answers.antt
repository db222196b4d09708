use Rattle.au_lowered.proofs.LeadLemmas.{leads_on}
use Rattle.au_lowered.proofs.step_laws.runs_join.Goals as goal

pub returns : goal.returns
returns c = λ code s t r n m l spare more first second. leads_on code first second
