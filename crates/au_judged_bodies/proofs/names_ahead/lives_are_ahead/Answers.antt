use Rattle.au_judged_bodies.proofs.LivedLemmas.{lives_ahead}
use Rattle.au_judged_bodies.proofs.names_ahead.lives_are_ahead.Goals as goal

pub returns : goal.returns
returns g c = λ sorts f. lives_ahead sorts f
