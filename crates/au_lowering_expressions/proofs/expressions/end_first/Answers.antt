use Rattle.std.proofs.Common.{arith}
use Rattle.au_lowering_expressions.proofs.WroteLemmas.{wrote_one}
use Rattle.au_lowering_expressions.proofs.expressions.end_first.Goals as goal

pub returns : goal.returns
returns c = grind (arith, wrote_one)
