use Rattle.au_judged_bodies.proofs.LivedBodiesBodyLemmas.{bodies_ahead}
use Rattle.au_judged_bodies.proofs.lived_bodies.bodies_are_ahead.Goals as goal

pub returns : goal.returns
returns g c = λ f. bodies_ahead f
