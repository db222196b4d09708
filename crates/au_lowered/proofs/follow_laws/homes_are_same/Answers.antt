use Rattle.au_lowered.proofs.HomeLemmas.{homes_are_same}
use Rattle.au_lowered.proofs.follow_laws.homes_are_same.Goals as goal

pub returns : goal.returns
returns g c = λ fields others cases other_cases slot block a. homes_are_same fields others cases other_cases slot block
    a
