use Rattle.au_borrows.proofs.InvariantLemmas.{opens_on, uses_on}
use Rattle.au_borrows.proofs.laws.borrows_go_on.Goals as goal

pub returns-clause-opened : goal.returns-clause-opened
returns-clause-opened g c = λ types owner acts hold type under s m w inv.
    opens_on _ types owner acts hold type under s m w inv

pub returns-clause-used : goal.returns-clause-used
returns-clause-used g c = λ types owner acts hold type under s m w inv.
    uses_on _ types owner acts hold type under s m w inv
