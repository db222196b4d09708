use Rattle.std.proofs.Common.{arith}
use Rattle.au_noting.proofs.RangeLemmas.{is_converted}
use Rattle.au_noting.proofs.nodes.is_in_range.Goals as goal

pub returns : goal.returns
returns c = grind (arith, is_converted)
