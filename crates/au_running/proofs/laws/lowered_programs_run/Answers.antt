use Rattle.au_running.proofs.RunLemmas.{runs_shown}
use Rattle.au_running.proofs.laws.lowered_programs_run.Goals as goal

pub returns : goal.returns
returns c = runs_shown
