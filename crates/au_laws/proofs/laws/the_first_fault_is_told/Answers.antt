use Rattle.au_laws.proofs.TellLemmas.{fault_fails, tells}
use Rattle.au_laws.proofs.laws.the_first_fault_is_told.Goals as goal

pub returns : goal.returns
returns c = λ scope e mode fault. (tells scope e mode fault, fault_fails scope e mode fault)
