use Rattle.au_lowered.proofs.WitnessLemmas.{some_program_is_good}
use Rattle.au_lowered.proofs.follow_laws.some_program_is_good.Goals as goal

pub returns : goal.returns
returns c = some_program_is_good
