use Rattle.au_graphs.proofs.RefusedLemmas.{listed_refused}
use Rattle.au_graphs.proofs.laws.a_walk_refuses.Goals as goal

pub returns : goal.returns
returns g c same over full most next starts w tells is = listed_refused same over full most tells next starts w is
