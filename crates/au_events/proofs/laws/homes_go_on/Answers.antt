use Rattle.au_events.proofs.HomeLemmas.{homes_pushed}
use Rattle.au_events.proofs.laws.homes_go_on.Goals as goal

pub returns : goal.returns
returns g c = λ owner events event all fits. homes_pushed owner events event all fits
