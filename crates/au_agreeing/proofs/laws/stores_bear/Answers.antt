use Rattle.au_agreeing.proofs.StoreLemmas.{births_begin, births_end}
use Rattle.au_agreeing.proofs.laws.stores_bear.Goals as goal

pub returns-clause-begun : goal.returns-clause-begun
returns-clause-begun g c = λ w of home. births_begin w of home

pub returns-clause-ended : goal.returns-clause-ended
returns-clause-ended g c = λ w id. births_end w id
