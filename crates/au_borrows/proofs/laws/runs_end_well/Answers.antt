use Rattle.au_borrows.proofs.InvariantLemmas.{ends_well}
use Rattle.au_borrows.proofs.laws.runs_end_well.Goals as goal

pub returns : goal.returns
returns g c = λ types owner acts hold type under s m w inv.
    ends_well _ types owner acts hold type under s m w inv
