use Rattle.std.proofs.Common.{arith}
use Rattle.std.proofs.lemmas.Grind.{common_steps}
use Rattle.au_syntax.proofs.DeclarationLemmas.{class_says}
use Rattle.au_parser.specs.DeclarationReading.{class_at}
use Rattle.au_parser.proofs.functions.class.Goals as goal

pub returns-in-Ok : goal.returns-in-Ok
unfolding class_at
returns-in-Ok c = grind (arith, common_steps, class_says)
