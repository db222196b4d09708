use Rattle.std.proofs.Common.{arith}
use Rattle.au_syntax.proofs.StatementLemmas.{assign_through_says}
use Rattle.au_noting_statements.proofs.single.note_assign_through.Goals as goal

pub returns-in_ok-path-in-Ok : goal.returns-in_ok-path-in-Ok
returns-in_ok-path-in-Ok c = grind (arith, assign_through_says)
