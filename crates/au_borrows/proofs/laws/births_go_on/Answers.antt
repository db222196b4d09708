use Rattle.au_borrows.proofs.InvariantLemmas.{bears_on, keeps_on, spends_on}
use Rattle.au_borrows.proofs.laws.births_go_on.Goals as goal

pub returns-clause-kept : goal.returns-clause-kept
returns-clause-kept g c = λ types owner acts hold type under s m w inv clock others kinds now q n after.
    keeps_on _ types owner acts hold type under s m w inv clock others kinds now q n after

pub returns-clause-born : goal.returns-clause-born
returns-clause-born g c = λ types owner acts hold type under s m w inv clock others kinds now q n after.
    bears_on _ types owner acts hold type under s m w inv clock others kinds now q n after

pub returns-clause-spent : goal.returns-clause-spent
returns-clause-spent g c = λ types owner acts hold type under s m w inv clock others kinds now q n after.
    spends_on _ types owner acts hold type under s m w inv clock others kinds now q n after
