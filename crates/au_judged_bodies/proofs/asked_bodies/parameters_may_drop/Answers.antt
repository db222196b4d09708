use Rattle.au_judged_bodies.proofs.AskedLemmas.{parameters_drop}
use Rattle.au_judged_bodies.proofs.asked_bodies.parameters_may_drop.Goals as goal

pub returns : goal.returns
returns g c = λ f. parameters_drop f
