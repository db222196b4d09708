use Rattle.std.proofs.Common.{arith}
use Rattle.std.proofs.lemmas.Grind.{common_steps}
use Rattle.au_syntax.proofs.DeclarationLemmas.{constant_says}
use Rattle.au_parser.specs.DeclarationReading.{constant_at}
use Rattle.au_parser.proofs.declarations.constant.Goals as goal

pub returns-in-Ok : goal.returns-in-Ok
unfolding constant_at
returns-in-Ok c = grind (arith, common_steps, constant_says)
