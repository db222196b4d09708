use Rattle.au_borrows.proofs.InvariantLemmas.{begins_on, ends_on}
use Rattle.au_borrows.proofs.laws.tokens_go_on.Goals as goal

pub returns-clause-begun : goal.returns-clause-begun
returns-clause-begun g c = λ types owner acts hold type under s m w inv.
    begins_on _ types owner acts hold type under s m w inv

pub returns-clause-ended : goal.returns-clause-ended
returns-clause-ended g c = λ types owner acts hold type under s m w inv.
    ends_on _ types owner acts hold type under s m w inv
