use Rattle.au_lowered.proofs.ReturnLemmas.{bodies_keep_labels}
use Rattle.au_lowered.proofs.laws.bodies_keep_labels.Goals as goal

pub returns : goal.returns
returns g c = λ f e h. bodies_keep_labels f e h
