use Rattle.au_events.proofs.BorrowLemmas.{uses_pushed}
use Rattle.au_events.proofs.laws.uses_go_on.Goals as goal

pub returns : goal.returns
returns g c = λ events event all fits. uses_pushed events event all fits
