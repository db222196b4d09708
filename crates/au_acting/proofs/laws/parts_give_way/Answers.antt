use Rattle.au_acting.proofs.NameLemmas.{puts, puts_behind}
use Rattle.au_acting.proofs.laws.parts_give_way.Goals as goal

pub returns-clause-put : goal.returns-clause-put
returns-clause-put g c = λ types owner acts hold type under m w. puts _ types owner acts hold type under m w

pub returns-clause-behind : goal.returns-clause-behind
returns-clause-behind g c = λ types owner acts hold type under m w. puts_behind _ types owner acts hold type under m w
