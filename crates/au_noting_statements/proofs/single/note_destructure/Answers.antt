use Rattle.std.proofs.Common.{arith}
use Rattle.au_syntax.proofs.StatementLemmas.{destructure_says}
use Rattle.au_noting_statements.proofs.single.note_destructure.Goals as goal

pub returns-in_ok-copy_binds-in-Ok : goal.returns-in_ok-copy_binds-in-Ok
returns-in_ok-copy_binds-in-Ok c = grind (arith, destructure_says)
