use Rattle.au_running.proofs.BrokenLemmas.{cut_runs_write_fronts, runs_write_fronts}
use Rattle.au_running.proofs.laws.runs_write_fronts.Goals as goal

pub returns : goal.returns
returns c = record { came = runs_write_fronts; cut = cut_runs_write_fronts }
