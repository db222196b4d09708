use Rattle.std.proofs.Common.{arith}
use Rattle.std.proofs.lemmas.Grind.{common_steps}
use Rattle.au_syntax.proofs.StatementLemmas.{return_says}
use Rattle.au_read_statements.specs.StatementReading.{return_with}
use Rattle.au_read_statements.proofs.simple.return_statement.Goals as goal

pub returns : goal.returns
unfolding return_with
returns c = grind (arith, common_steps, return_says)
