use Rattle.au_running.proofs.BrokenLemmas.{waiting_runs_show}
use Rattle.au_running.proofs.laws.waiting_runs_show.Goals as goal

pub returns : goal.returns
returns c = waiting_runs_show
