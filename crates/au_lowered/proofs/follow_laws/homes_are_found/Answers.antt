use Rattle.au_lowered.proofs.HomeLemmas.{homes_are_found}
use Rattle.au_lowered.proofs.follow_laws.homes_are_found.Goals as goal

pub returns : goal.returns
returns g c = λ functions shared i f e. homes_are_found functions shared i f e
