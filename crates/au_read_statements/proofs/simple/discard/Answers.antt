use Rattle.std.proofs.Common.{arith}
use Rattle.std.proofs.lemmas.Grind.{common_steps}
use Rattle.au_syntax.proofs.StatementLemmas.{call_says}
use Rattle.au_read_statements.specs.StatementReading.{discard_with}
use Rattle.au_read_statements.proofs.simple.discard.Goals as goal

pub returns-in-Ok : goal.returns-in-Ok
unfolding discard_with
returns-in-Ok c = grind (arith, common_steps, call_says)
