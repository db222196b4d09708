use Rattle.au_running.proofs.FollowLemmas.{runs_follow}
use Rattle.au_running.proofs.laws.lowered_programs_follow.Goals as goal

pub returns : goal.returns
returns c = runs_follow
