use Rattle.au_acting.proofs.NameLemmas.{lends, reads, relends}
use Rattle.au_acting.proofs.laws.names_are_lent.Goals as goal

pub returns-clause-lent : goal.returns-clause-lent
returns-clause-lent g c = λ types owner acts hold type under m w. lends _ types owner acts hold type under m w

pub returns-clause-read : goal.returns-clause-read
returns-clause-read g c = λ types owner acts hold type under m w. reads _ types owner acts hold type under m w

pub returns-clause-again : goal.returns-clause-again
returns-clause-again g c = λ types owner acts hold type under m w. relends _ types owner acts hold type under m w
