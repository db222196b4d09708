use Rattle.std.proofs.Common.{arith}
use Rattle.au_syntax.proofs.StatementLemmas.{call_says}
use Rattle.au_noting_statements.proofs.single.note_call.Goals as goal

pub returns-in-Ok : goal.returns-in-Ok
returns-in-Ok c = grind (arith, call_says)
