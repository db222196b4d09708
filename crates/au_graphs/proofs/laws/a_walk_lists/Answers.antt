use Rattle.au_graphs.proofs.WalkLemmas.{listed_is}
use Rattle.au_graphs.proofs.laws.a_walk_lists.Goals as goal

pub returns : goal.returns
returns g c same over full most next starts ks tells is = listed_is same over full most tells next starts ks is
