use Rattle.au_format.proofs.LawLemmas.{layout_says}
use Rattle.au_format.proofs.laws.the_tree_is_the_same.Goals as goal

pub returns : goal.returns
returns c = layout_says
