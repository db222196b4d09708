use Rattle.std.proofs.Common.{arith}
use Rattle.std.proofs.lemmas.Grind.{common_steps}
use Rattle.au_syntax.proofs.DeclarationLemmas.{union_says}
use Rattle.au_parser.specs.DeclarationReading.{union_at}
use Rattle.au_parser.proofs.types.union.Goals as goal

pub returns-in-Ok : goal.returns-in-Ok
unfolding union_at
returns-in-Ok c = grind (arith, common_steps, union_says)
