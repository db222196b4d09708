use Rattle.au_running.proofs.OnceLemmas.{closed_parameters_are_once}
use Rattle.au_running.proofs.laws.closed_parameters_are_once.Goals as goal

pub returns : goal.returns
returns c = closed_parameters_are_once
