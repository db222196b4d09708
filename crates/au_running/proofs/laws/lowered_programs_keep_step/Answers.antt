use Rattle.au_running.proofs.FollowLemmas.{runs_keep_step}
use Rattle.au_running.proofs.laws.lowered_programs_keep_step.Goals as goal

pub returns : goal.returns
returns c = runs_keep_step
