use Rattle.std.proofs.Common.{arith}
use Rattle.au_syntax.proofs.TypeLemmas.{named_written, reference_written}
use Rattle.au_judgements.proofs.borrowing.judge_reference.Goals as goal

pub returns-in-Reference : goal.returns-in-Reference
returns-in-Reference c = grind (arith, reference_written)

pub returns-in-Named : goal.returns-in-Named
returns-in-Named c = grind (arith, named_written)
