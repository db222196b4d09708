use Rattle.std.proofs.Common.{arith}
use Rattle.au_types.proofs.TypeLemmas.{integer_means}
use Rattle.au_noting.proofs.nodes.kind_note.Goals as goal

pub returns : goal.returns
returns c = grind (arith, integer_means)
