use Rattle.au_acting.proofs.StartLemmas.{agrees}
use Rattle.au_acting.proofs.laws.states_agree.Goals as goal

pub returns : goal.returns
returns g c = λ types owner acts hold type under m w. agrees _ types owner acts hold type under m w
