use Rattle.std.proofs.Common.{arith}
use Rattle.std.proofs.lemmas.Grind.{common_steps}
use Rattle.au_syntax.proofs.DeclarationLemmas.{record_says}
use Rattle.au_parser.specs.DeclarationReading.{record_at}
use Rattle.au_parser.proofs.types.record.Goals as goal

pub returns-in-Ok : goal.returns-in-Ok
unfolding record_at
returns-in-Ok c = grind (arith, common_steps, record_says)
