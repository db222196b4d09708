use Rattle.au_acting.proofs.NameLemmas.{looks, looks_behind}
use Rattle.au_acting.proofs.laws.parts_are_looked_at.Goals as goal

pub returns-clause-looked : goal.returns-clause-looked
returns-clause-looked g c = λ types owner acts hold type under m w. looks _ types owner acts hold type under m w

pub returns-clause-behind : goal.returns-clause-behind
returns-clause-behind g c = λ types owner acts hold type under m w. looks_behind _ types owner acts hold type under m w
