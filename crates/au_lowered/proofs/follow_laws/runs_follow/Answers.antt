use Rattle.au_lowered.proofs.RunLemmas.{runs_follow}
use Rattle.au_lowered.proofs.follow_laws.runs_follow.Goals as goal

pub returns : goal.returns
returns g c = λ told functions good input ticks claim. runs_follow told functions good input ticks claim
