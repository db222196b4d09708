use Rattle.au_judged_bodies.proofs.NewLemmas.{names_new}
use Rattle.au_judged_bodies.proofs.new_names.names_are_new.Goals as goal

pub returns : goal.returns
returns g c = λ f. names_new f
