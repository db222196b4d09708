use Rattle.au_closed_programs.proofs.ClosedLemmas.{one_program}
use Rattle.au_closed_programs.proofs.laws.there_is_one_closed_program.Goals as goal

pub returns : goal.returns
returns c = one_program
