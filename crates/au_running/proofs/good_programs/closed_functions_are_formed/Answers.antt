use Rattle.au_running.proofs.ClosedLemmas.{closed_formed}
use Rattle.au_running.proofs.good_programs.closed_functions_are_formed.Goals as goal

pub returns : goal.returns
returns c = closed_formed
