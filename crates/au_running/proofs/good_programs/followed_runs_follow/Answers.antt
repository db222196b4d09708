use Rattle.au_running.proofs.GoodLemmas.{followed_follow}
use Rattle.au_running.proofs.good_programs.followed_runs_follow.Goals as goal

pub returns : goal.returns
returns g c = followed_follow _ _
