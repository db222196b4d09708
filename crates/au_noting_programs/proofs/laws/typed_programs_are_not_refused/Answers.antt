use Rattle.au_noting_programs.proofs.AcceptedLemmas.{good_accepted, good_from}
use Rattle.au_noting_programs.proofs.laws.typed_programs_are_not_refused.Goals as goal

pub returns : goal.returns
returns c = λ program. (good_from program, good_accepted program)
