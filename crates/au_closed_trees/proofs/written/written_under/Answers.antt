use Rattle.std.proofs.Common.{arith}
use Rattle.au_type_texts.proofs.ClosedLemmas as says
use Rattle.au_closed_trees.proofs.written.written_under.Goals as goal

pub returns-in-None : goal.returns-in-None
returns-in-None c = grind (arith, says.unit_means)
