use Rattle.std.proofs.Common.{arith}
use Rattle.au_types.proofs.TypeLemmas.{truth_means}
use Rattle.au_noting.proofs.nodes.comparison_note.Goals as goal

pub returns-in-Some : goal.returns-in-Some
returns-in-Some c = grind (arith, truth_means)
