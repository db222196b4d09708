use Rattle.au_running.proofs.BrokenLemmas.{stuck_runs_are_meant}
use Rattle.au_running.proofs.laws.stuck_runs_are_meant.Goals as goal

pub returns : goal.returns
returns c = stuck_runs_are_meant
