use Rattle.std.proofs.Common.{arith}
use Rattle.std.proofs.lemmas.Grind.{common_steps}
use Rattle.au_syntax.proofs.StatementLemmas.{assign_through_says}
use Rattle.au_read_statements.specs.StatementReading.{assign_through_with}
use Rattle.au_read_statements.proofs.simple.assign_through.Goals as goal

pub returns-in-Ok : goal.returns-in-Ok
unfolding assign_through_with
returns-in-Ok c = grind (arith, common_steps, assign_through_says)
