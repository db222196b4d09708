use Rattle.au_acting.proofs.EndLemmas.{begins, ends}
use Rattle.au_acting.proofs.laws.tokens_come_and_go.Goals as goal

pub returns-clause-begun : goal.returns-clause-begun
returns-clause-begun g c = λ types owner acts hold type under m w. begins _ types owner acts hold type under m w

pub returns-clause-ended : goal.returns-clause-ended
returns-clause-ended g c = λ types owner acts hold type under m w. ends _ types owner acts hold type under m w
