use Rattle.au_graphs.proofs.FoundLemmas.{listed_found}
use Rattle.au_graphs.proofs.laws.a_walk_finds.Goals as goal

pub returns : goal.returns
returns g c same over full most next starts ks tells lists within = listed_found same over full most tells
    next starts ks lists within
