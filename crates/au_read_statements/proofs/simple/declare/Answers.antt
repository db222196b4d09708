use Rattle.std.proofs.Common.{arith}
use Rattle.std.proofs.lemmas.Grind.{common_steps}
use Rattle.au_syntax.proofs.StatementLemmas.{let_says}
use Rattle.au_read_statements.specs.StatementReading.{declare_with}
use Rattle.au_read_statements.proofs.simple.declare.Goals as goal

pub returns-in-Ok : goal.returns-in-Ok
unfolding declare_with
returns-in-Ok c = grind (arith, common_steps, let_says)
