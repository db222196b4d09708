use Rattle.au_stores.proofs.FillLemmas.{filled_machine}
use Rattle.au_stores.proofs.laws.filling_is_of_the_world.Goals as goal

pub returns : goal.returns
returns c = λ slot values m. filled_machine slot values m
