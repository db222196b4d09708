use Rattle.std.proofs.Common.{ap}
use Rattle.au_typing.specs.DerivationFaults.{placed}
use Rattle.au_noting_statements.proofs.entering.typed_at.Goals as goal

pub returns-in_ok-copy_typed-in-Ok-clause-judged : goal.returns-in_ok-copy_typed-in-Ok-clause-judged
returns-in_ok-copy_typed-in-Ok-clause-judged c = ap (placed c.args.at) c.in-Ok.ensures
