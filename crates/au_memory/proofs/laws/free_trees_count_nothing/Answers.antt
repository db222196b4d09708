use Rattle.au_memory.proofs.FreeLemmas.{free_in}
use Rattle.au_memory.proofs.laws.free_trees_count_nothing.Goals as goal

pub returns : goal.returns
returns c = λ types lawful s id t u free h. free_in types lawful s id t u free h
