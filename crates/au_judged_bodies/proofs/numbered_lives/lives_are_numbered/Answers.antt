use Rattle.au_judged_bodies.proofs.NumberLemmas.{lives_numbered}
use Rattle.au_judged_bodies.proofs.numbered_lives.lives_are_numbered.Goals as goal

pub returns : goal.returns
returns g c = λ f parameters sc. lives_numbered f parameters sc
