use Rattle.std.proofs.Common.{arith}
use Rattle.au_syntax.proofs.StatementLemmas.{let_says}
use Rattle.au_noting_statements.proofs.single.note_let.Goals as goal

pub returns-in_ok-of-in-Ok : goal.returns-in_ok-of-in-Ok
returns-in_ok-of-in-Ok c = grind (arith, let_says)
