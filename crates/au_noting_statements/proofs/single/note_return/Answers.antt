use Rattle.std.proofs.Common.{arith}
use Rattle.au_syntax.proofs.StatementLemmas.{return_says}
use Rattle.au_noting_statements.proofs.single.note_return.Goals as goal

pub returns-in-Ok : goal.returns-in-Ok
returns-in-Ok c = grind (arith, return_says)
