use Rattle.au_running.proofs.TellLemmas.{runs_tell}
use Rattle.au_running.proofs.laws.lowered_programs_tell.Goals as goal

pub returns : goal.returns
returns c = runs_tell
