use Rattle.au_judged_bodies.proofs.SaidLemmas.{sorts_said}
use Rattle.au_judged_bodies.proofs.typed_lives.sorts_are_said.Goals as goal

pub returns : goal.returns
returns g c = λ f. sorts_said f
