use Rattle.std.proofs.Common.{arith}
use Rattle.std.proofs.lemmas.Grind.{common_steps}
use Rattle.au_syntax.proofs.StatementLemmas.{skip_says}
use Rattle.au_read_statements.proofs.simple.skip.Goals as goal

pub returns : goal.returns
returns c = grind (arith, common_steps, skip_says)
