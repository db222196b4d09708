use Rattle.std.proofs.Common.{arith}
use Rattle.au_types.proofs.TypeLemmas.{truth_means}
use Rattle.au_noting.proofs.nodes.comparable_note.Goals as goal

pub returns-then-is_compared : goal.returns-then-is_compared
returns-then-is_compared c = grind (arith, truth_means)
