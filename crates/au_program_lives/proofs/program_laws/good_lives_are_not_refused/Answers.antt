use Rattle.au_program_lives.proofs.GoodLemmas.{good_accepted, good_from}
use Rattle.au_program_lives.proofs.program_laws.good_lives_are_not_refused.Goals as goal

pub returns : goal.returns
returns c = λ program. (good_from program, good_accepted program)
