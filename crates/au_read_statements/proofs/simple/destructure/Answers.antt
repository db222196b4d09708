use Rattle.std.proofs.Common.{arith}
use Rattle.std.proofs.lemmas.Grind.{common_steps}
use Rattle.au_syntax.proofs.StatementLemmas.{destructure_says}
use Rattle.au_read_statements.specs.StatementReading.{destructure_with}
use Rattle.au_read_statements.proofs.simple.destructure.Goals as goal

pub returns-in-Ok : goal.returns-in-Ok
unfolding destructure_with
returns-in-Ok c = grind (arith, common_steps, destructure_says)
