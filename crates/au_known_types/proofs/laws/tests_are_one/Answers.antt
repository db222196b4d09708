use Rattle.au_known_types.proofs.ScopeLemmas.{lasts}
use Rattle.au_known_types.proofs.laws.tests_are_one.Goals as goal

pub returns : goal.returns
returns c = λ t e. lasts t e
